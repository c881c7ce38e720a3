use Rattle.vt_session.proofs.Judging.{always_one}
use Rattle.vt_session.proofs.laws.always_one.Goals as goal

pub returns : goal.returns
returns c = always_one
