use Rattle.vt_lex.proofs.Taken.{refused_by_reason}
use Rattle.vt_lex.proofs.laws.refused_law.Goals as goal

pub returns : goal.returns
returns c = refused_by_reason
