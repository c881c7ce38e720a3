use Rattle.vt_meaning.proofs.StepLaws.{acts_lawful, acts_live}
use Rattle.vt_meaning.proofs.FinishedStores.{not_spent}
use Rattle.vt_meaning.proofs.stores.stores_stay_within_the_budget.Goals as goal

pub returns : goal.returns
returns c = λ m opening s those consistent. not_spent m (acts_lawful m s.acts) (acts_live m s.acts.acts) opening s.known s.orderly s.given s.texts those consistent
