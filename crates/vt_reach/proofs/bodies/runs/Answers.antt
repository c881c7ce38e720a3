use Rattle.std.proofs.Common.{◌≡◌, refl, sym, ◌∙◌, arith, true≢false}
use Rattle.std.specs.List.{Contains}
use Rattle.vt_reach.specs.declared.mention.Mention.TheVariants.{Runs}
use Rattle.vt_reach.proofs.Places.{at_item, none_last, none_next}
use Rattle.vt_reach.proofs.ReachLemmas.{meets_nothing}
use Rattle.vt_reach.proofs.bodies.runs.Goals as goal

pub loop-mention-init : goal.loop-mention-init
loop-mention-init c k x lt = absurd (omega (arith, lt))

pub loop-mention-preserved : goal.loop-mention-preserved
loop-mention-preserved c =
    none_next (λ mention. mention ≡ Runs c.args.key.now) c.args.mentions.now c.loop-mention.mention-index c.mention-item.result c.loop-mention.invariant
    (at_item c.args.mentions.now c.loop-mention.mention-index c.mention-item.result c.loop-mention-test.true c.mention-item.is)
    (λ e. absurd (true≢false (sym (c.is_run.ensures.1 e) ∙ c.if-is_run.false)))

pub returns : goal.returns
returns c =
    meets_nothing (Contains c.args.mentions.now (Runs c.args.key.now)) (λ h.
    none_last (λ mention. mention ≡ Runs c.args.key.now) c.args.mentions.now c.loop-mention.mention-index c.loop-mention.invariant c.loop-mention-test.false (Runs c.args.key.now) h refl)
