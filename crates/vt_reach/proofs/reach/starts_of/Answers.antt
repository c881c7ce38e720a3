use Rattle.std.proofs.Common.{◌+◌, nat_eq, sym, subst}
use Rattle.vt_reach.specs.private.Order.{IsFirst}
use Rattle.vt_reach.proofs.Places.{Picks, at_item, picks_next, picks_none}
use Rattle.vt_reach.proofs.ReachLemmas.{are_starts, first_at}
use Rattle.vt_reach.proofs.reach.starts_of.Goals as goal

pub loop-place-init : goal.loop-place-init
loop-place-init c =
    subst (Picks (IsFirst c.args.rows.now) 0) (sym c.new-starts.ensures) (picks_none (IsFirst c.args.rows.now))

pub loop-place-preserved : goal.loop-place-preserved
loop-place-preserved c =
    subst (Picks (IsFirst c.args.rows.now) (c.loop-place.place + 1)) (sym c.in_ok-push_if.ensures)
    (picks_next (IsFirst c.args.rows.now) c.loop-place.place c.loop-place.starts (nat_eq c.index-rows-place.result.block 0) c.loop-place.invariant
    (first_at c.args.rows.now c.loop-place.place c.index-rows-place.result (at_item c.args.rows.now c.loop-place.place c.index-rows-place.result c.loop-place-test.true c.index-rows-place.is)))

pub returns : goal.returns
returns c =
    are_starts c.args.rows.now c.loop-place.place c.loop-place.starts c.loop-place.invariant c.loop-place-test.false
