use Rattle.vt_grammar.proofs.TextLaws.{read_or_refused}
use Rattle.vt_grammar.proofs.laws.apart_law.Goals as goal

pub returns : goal.returns
returns c = read_or_refused
