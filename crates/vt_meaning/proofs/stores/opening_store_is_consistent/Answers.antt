use Rattle.vt_meaning.proofs.StepLaws.{acts_live}
use Rattle.vt_meaning.proofs.KeptByTransitions.{opening_consistent}
use Rattle.vt_meaning.proofs.stores.opening_store_is_consistent.Goals as goal

pub returns : goal.returns
returns c = λ m opening s. opening_consistent m (acts_live m s.acts.acts) opening s.texts
