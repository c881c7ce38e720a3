use Rattle.vt_path.proofs.OneText.{one_pattern}
use Rattle.vt_path.proofs.laws.one_pattern_law.Goals as goal

pub returns : goal.returns
returns c = one_pattern
