use Rattle.vt_meaning.proofs.StepLaws.{acts_lawful, acts_live}
use Rattle.vt_meaning.proofs.FrontAndBounds.{progress}
use Rattle.vt_meaning.proofs.EventPlaces.{apart}
use Rattle.vt_meaning.proofs.stores.something_is_due.Goals as goal

pub returns : goal.returns
returns c = λ m opening s these consistent k t b has on. progress m opening these (apart m (acts_lawful m s.acts) (acts_live m s.acts.acts) opening s.known s.orderly s.given these consistent) k t b has on
