use Rattle.vt_session.proofs.JudgedLemmas.{line_where, session_where}
use Rattle.vt_session.proofs.laws.verdict_law.Goals as goal

pub returns-clause-session : goal.returns-clause-session
returns-clause-session c = session_where

pub returns-clause-bad : goal.returns-clause-bad
returns-clause-bad c = line_where
