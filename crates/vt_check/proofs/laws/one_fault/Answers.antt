use Rattle.vt_check.proofs.LawLemmas.{one_fault}
use Rattle.vt_check.proofs.laws.one_fault.Goals as goal

pub returns : goal.returns
returns c = one_fault
