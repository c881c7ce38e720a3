use Rattle.vt_grammar.proofs.VerdictLaws.{tree_by, line_by}
use Rattle.vt_grammar.proofs.laws.verdict_law.Goals as goal

pub returns : goal.returns
returns c = record { tree = tree_by; line = line_by }
