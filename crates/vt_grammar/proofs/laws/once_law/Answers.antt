use Rattle.vt_grammar.proofs.Once.{is_refused_once}
use Rattle.vt_grammar.proofs.laws.once_law.Goals as goal

pub returns : goal.returns
returns c = is_refused_once
