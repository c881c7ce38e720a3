use Rattle.vt_check.proofs.JudgedLemmas.{allowed_where, refused_where}
use Rattle.vt_check.proofs.laws.verdict_law.Goals as goal

pub returns-clause-allowed : goal.returns-clause-allowed
returns-clause-allowed c = allowed_where

pub returns-clause-refused : goal.returns-clause-refused
returns-clause-refused c = refused_where
