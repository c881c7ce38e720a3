use Rattle.vt_check.proofs.LawLemmas.{never_both}
use Rattle.vt_check.proofs.laws.never_both.Goals as goal

pub returns : goal.returns
returns c = never_both
