use Rattle.std.proofs.Common.{get_or, sym, ◌∙◌, arith, true≢false}
use Rattle.std.proofs.lemmas.Option.{slice_get-get_or}
use Rattle.vt_reach.specs.private.Lists.{MeetsMention, MeetsRow}
use Rattle.vt_reach.proofs.Places.{none_last, none_next}
use Rattle.vt_reach.proofs.ReachLemmas.{meets_nothing, meets_something, row_met, row_unmet}
use Rattle.vt_reach.proofs.lists.meets_row.Goals as goal

pub loop-place-init : goal.loop-place-init
loop-place-init c =
    λ k x lt. absurd (omega (arith, lt))

pub returns-then-meets_mention : goal.returns-then-meets_mention
returns-then-meets_mention c =
    meets_something (MeetsRow c.args.mentions.now c.args.pattern.now) (row_met c.args.mentions.now c.args.writings.now (get_or c.args.writings.now c.loop-place.place-index 0) c.args.pattern.now (c.meets_mention.ensures.0 c.if-meets_mention.true))

pub loop-place-preserved : goal.loop-place-preserved
loop-place-preserved c =
    none_next (λ place. MeetsMention c.args.mentions.now place c.args.pattern.now) c.args.writings.now c.loop-place.place-index (get_or c.args.writings.now c.loop-place.place-index 0) c.loop-place.invariant (slice_get-get_or c.args.writings.now c.loop-place.place-index 0 c.loop-place-test.true) (λ e. absurd (true≢false (sym (c.meets_mention.ensures.1 e) ∙ c.if-meets_mention.false)))

pub returns : goal.returns
returns c =
    meets_nothing (MeetsRow c.args.mentions.now c.args.pattern.now) (λ m. row_unmet c.args.mentions.now c.args.writings.now c.args.pattern.now c.requires (none_last (λ place. MeetsMention c.args.mentions.now place c.args.pattern.now) c.args.writings.now c.loop-place.place-index c.loop-place.invariant c.loop-place-test.false) m)
