use Rattle.vt_grammar.proofs.TextLaws.{read_begins}
use Rattle.vt_grammar.proofs.laws.whole_law.Goals as goal

pub returns : goal.returns
returns c = read_begins
