use Rattle.vt_grammar.proofs.Judging.{always}
use Rattle.vt_grammar.proofs.laws.always_law.Goals as goal

pub returns : goal.returns
returns c = always
