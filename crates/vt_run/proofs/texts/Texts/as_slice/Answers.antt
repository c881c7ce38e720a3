use Rattle.std.proofs.Common.{subst}
use Rattle.vt_run.specs.Limits.{AreChecked}
use Rattle.vt_run.proofs.texts.Texts.as_slice.Goals as goal

pub returns-clause-checked : goal.returns-clause-checked
returns-clause-checked c = subst AreChecked c.self.view_is c.self.invariant
