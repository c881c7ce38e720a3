use Rattle.vt_meaning.proofs.CausalSessions.{stores_agree}
use Rattle.vt_meaning.proofs.stores.stores_agree.Goals as goal

pub returns : goal.returns
returns c = stores_agree
