use Rattle.std.proofs.Common.{sym}
use Rattle.vt_ring.proofs.limits.NoteCalls.{scale_has_steps}
use Rattle.vt_prim.proofs.notes.steps_of.Goals as goal

pub returns-in-Some-clause-some : goal.returns-in-Some-clause-some
returns-in-Some-clause-some c = scale_has_steps c.args.name.now c.in-Some.steps.now (sym c.in-Some.ensures.value)
