use Rattle.std.proofs.Common.{◌+◌, sym, subst}
use Rattle.vt_reach.specs.private.Bodies.{WritesAt}
use Rattle.vt_reach.proofs.Places.{Picks, at_item, picks_next, picks_none}
use Rattle.vt_reach.proofs.ReachLemmas.{are_writings, writes_at}
use Rattle.vt_reach.proofs.bodies.writings_in.Goals as goal

pub loop-at-init : goal.loop-at-init
loop-at-init c =
    subst (Picks (WritesAt c.args.mentions.now) 0) (sym c.new-writings.ensures) (picks_none (WritesAt c.args.mentions.now))

pub loop-at-preserved : goal.loop-at-preserved
loop-at-preserved c =
    subst (Picks (WritesAt c.args.mentions.now) (c.loop-at.at + 1)) (sym c.in_ok-push_if.ensures)
    (picks_next (WritesAt c.args.mentions.now) c.loop-at.at c.loop-at.writings c.is_writing.result c.loop-at.invariant
    (writes_at c.args.mentions.now c.loop-at.at c.index-mentions-at.result c.is_writing.result (at_item c.args.mentions.now c.loop-at.at c.index-mentions-at.result c.loop-at-test.true c.index-mentions-at.is) c.is_writing.ensures))

pub returns : goal.returns
returns c =
    are_writings c.args.mentions.now c.loop-at.at c.loop-at.writings c.loop-at.invariant c.loop-at-test.false
