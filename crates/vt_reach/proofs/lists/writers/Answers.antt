use Rattle.std.proofs.Common.{◌+◌, get_or, sym, subst}
use Rattle.std.proofs.lemmas.Option.{slice_get-get_or}
use Rattle.vt_reach.proofs.ReachLemmas.{Writers, writers_last, writers_next, writers_none}
use Rattle.vt_reach.proofs.lists.writers.Goals as goal

pub loop-place-init : goal.loop-place-init
loop-place-init c =
    subst (Writers c.args.writings.now c.args.places.now 0) (sym c.new-found.ensures) (writers_none c.args.writings.now c.args.places.now)

pub loop-place-preserved : goal.loop-place-preserved
loop-place-preserved c =
    subst (Writers c.args.writings.now c.args.places.now (c.loop-place.place-index + 1)) (sym c.in_ok-push_if.ensures)
    (writers_next c.args.writings.now c.args.places.now c.loop-place.place-index (get_or c.args.places.now c.loop-place.place-index 0) c.loop-place.found c.has_some.result c.loop-place.invariant
    (slice_get-get_or c.args.places.now c.loop-place.place-index 0 c.loop-place-test.true) c.has_some.ensures)

pub returns : goal.returns
returns c =
    writers_last c.args.writings.now c.args.places.now c.loop-place.place-index c.loop-place.found c.loop-place.invariant c.loop-place-test.false
