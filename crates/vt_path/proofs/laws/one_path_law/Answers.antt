use Rattle.vt_path.proofs.OneText.{one_path}
use Rattle.vt_path.proofs.laws.one_path_law.Goals as goal

pub returns : goal.returns
returns c = one_path
