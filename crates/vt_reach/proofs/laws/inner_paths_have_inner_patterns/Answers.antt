use Rattle.vt_reach.proofs.InnerLemmas.{inner_alike}
use Rattle.vt_reach.proofs.laws.inner_paths_have_inner_patterns.Goals as goal

pub returns : goal.returns
returns c = inner_alike
