use Rattle.vt_lex.proofs.Skipping.{all_else_skipped}
use Rattle.vt_lex.proofs.laws.skipped_law.Goals as goal

pub returns-clause-skipped : goal.returns-clause-skipped
returns-clause-skipped c = λ text first_line tokens lexes. (all_else_skipped text first_line tokens lexes).skipped

pub returns-clause-newlines : goal.returns-clause-newlines
returns-clause-newlines c = λ text first_line tokens lexes. (all_else_skipped text first_line tokens lexes).dropped
