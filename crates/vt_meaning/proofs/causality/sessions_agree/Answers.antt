use Rattle.vt_meaning.proofs.CausalSessions.{sessions_agree, sessions_agree_by_reach}
use Rattle.vt_meaning.proofs.causality.sessions_agree.Goals as goal

pub returns : goal.returns
returns c = record { all = sessions_agree; reach = sessions_agree_by_reach }
