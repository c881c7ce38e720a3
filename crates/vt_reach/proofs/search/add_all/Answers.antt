use Rattle.std.proofs.Common.{◌+◌, get_or, sym, subst}
use Rattle.vt_reach.proofs.SearchLemmas.{adds_all, adds_more, adds_nothing, more_within}
use Rattle.vt_reach.proofs.search.add_all.Goals as goal

pub loop-place-init : goal.loop-place-init
loop-place-init c =
    adds_nothing c.args.marks.now.items c.args.found.now.items c.requires.marked

pub add-requires-clause-within : goal.add-requires-clause-within
add-requires-clause-within c =
    more_within c.args.more.now c.args.marks.now.items c.loop-place.marks.items c.loop-place.place-index c.requires.within c.loop-place.invariant.same c.loop-place-test.true

pub add-requires-clause-marked : goal.add-requires-clause-marked
add-requires-clause-marked c =
    c.loop-place.invariant.marked

pub loop-place-preserved : goal.loop-place-preserved
loop-place-preserved c =
    adds_more c.args.more.now c.loop-place.place-index c.args.marks.now.items c.loop-place.marks.items c.add.new.marks.items c.args.found.now.items c.loop-place.found.items c.add.new.found.items c.loop-place.invariant c.loop-place-test.true c.in_ok-add.ensures

pub returns : goal.returns
returns c =
    adds_all c.args.more.now c.loop-place.place-index c.args.marks.now.items c.loop-place.marks.items c.args.found.now.items c.loop-place.found.items c.loop-place.invariant c.loop-place-test.false
