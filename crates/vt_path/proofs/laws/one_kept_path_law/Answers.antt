use Rattle.vt_path.proofs.OneKept.{one_kept_path}
use Rattle.vt_path.proofs.laws.one_kept_path_law.Goals as goal

pub returns : goal.returns
returns c = one_kept_path
