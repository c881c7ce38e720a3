use Rattle.vt_meaning.proofs.LogSteps.{logs_of_parts, stores_stay_stores}
use Rattle.vt_meaning.proofs.logs.stores_stay_stores.Goals as goal

pub returns : goal.returns
returns c = record { parts = logs_of_parts; stores = stores_stay_stores }
