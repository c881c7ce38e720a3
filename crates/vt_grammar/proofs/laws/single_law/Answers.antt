use Rattle.vt_grammar.proofs.TextLaws.{is_read_once}
use Rattle.vt_grammar.proofs.laws.single_law.Goals as goal

pub returns : goal.returns
returns c = is_read_once
