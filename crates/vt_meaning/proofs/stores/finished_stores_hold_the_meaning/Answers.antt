use Rattle.vt_meaning.proofs.StepLaws.{acts_lawful, acts_live}
use Rattle.vt_meaning.proofs.FinishedStores.{finished_store}
use Rattle.vt_meaning.proofs.stores.finished_stores_hold_the_meaning.Goals as goal

pub returns : goal.returns
returns c = λ m opening s those consistent finished le. finished_store m (acts_lawful m s.acts) (acts_live m s.acts.acts) opening s.known s.orderly s.given s.texts those consistent finished le
