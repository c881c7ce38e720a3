use Rattle.std.proofs.Common.{get_or, sym, ◌∙◌, arith, true≢false}
use Rattle.std.proofs.lemmas.Option.{slice_get-get_or}
use Rattle.vt_reach.specs.private.Lists.{MeetsAt, MeetsList}
use Rattle.vt_reach.proofs.Places.{at_contains, none_last, none_next}
use Rattle.vt_reach.proofs.ReachLemmas.{meets_nothing, meets_something}
use Rattle.vt_reach.proofs.lists.meets_list.Goals as goal

pub loop-place-init : goal.loop-place-init
loop-place-init c =
    λ k x lt. absurd (omega (arith, lt))

pub returns-then-meets_at : goal.returns-then-meets_at
returns-then-meets_at c =
    meets_something (MeetsList c.args.rows.now c.args.list.now c.args.pattern.now) (record { at = (get_or c.args.list.now c.loop-place.place-index 0); among = at_contains c.args.list.now c.loop-place.place-index (get_or c.args.list.now c.loop-place.place-index 0) (slice_get-get_or c.args.list.now c.loop-place.place-index 0 c.loop-place-test.true); meets = (c.meets_at.ensures.0 c.if-meets_at.true) })

pub loop-place-preserved : goal.loop-place-preserved
loop-place-preserved c =
    none_next (λ place. MeetsAt c.args.rows.now place c.args.pattern.now) c.args.list.now c.loop-place.place-index (get_or c.args.list.now c.loop-place.place-index 0) c.loop-place.invariant (slice_get-get_or c.args.list.now c.loop-place.place-index 0 c.loop-place-test.true) (λ e. absurd (true≢false (sym (c.meets_at.ensures.1 e) ∙ c.if-meets_at.false)))

pub returns : goal.returns
returns c =
    meets_nothing (MeetsList c.args.rows.now c.args.list.now c.args.pattern.now) (λ m. (none_last (λ place. MeetsAt c.args.rows.now place c.args.pattern.now) c.args.list.now c.loop-place.place-index c.loop-place.invariant c.loop-place-test.false) m.at m.among m.meets)
