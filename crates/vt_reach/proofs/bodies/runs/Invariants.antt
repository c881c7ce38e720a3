use Rattle.std.proofs.Common.{◌≡◌}
use Rattle.vt_reach.specs.declared.mention.Mention.TheVariants.{Runs}
use Rattle.vt_reach.proofs.Places.{NoneOf}
use Rattle.vt_reach.proofs.bodies.runs.Given as goal

abbrev pub invariant-loop-mention : goal.invariant-loop-mention
invariant-loop-mention l = NoneOf (λ mention. mention ≡ Runs l.key) l.mentions l.mention-index
