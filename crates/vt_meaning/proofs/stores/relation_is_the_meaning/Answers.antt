use Rattle.vt_meaning.proofs.StepLaws.{acts_lawful, acts_live}
use Rattle.vt_meaning.proofs.FinishedStores.{relation_is}
use Rattle.vt_meaning.proofs.stores.relation_is_the_meaning.Goals as goal

pub returns : goal.returns
returns c = λ m opening s. relation_is m (acts_lawful m s.acts) (acts_live m s.acts.acts) opening s.known s.orderly s.given s.texts
