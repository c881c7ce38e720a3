use Rattle.vt_lex.proofs.Shapes.{tokens_have_forms as the_law}
use Rattle.vt_lex.proofs.laws.forms_law.Goals as goal

pub returns : goal.returns
returns c = the_law
