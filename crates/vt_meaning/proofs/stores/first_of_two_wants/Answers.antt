use Rattle.vt_meaning.proofs.StepLaws.{acts_lawful, acts_live}
use Rattle.vt_meaning.proofs.RestingThreads.{first_of_two}
use Rattle.vt_meaning.proofs.EventPlaces.{apart}
use Rattle.vt_meaning.proofs.stores.first_of_two_wants.Goals as goal

pub returns : goal.returns
returns c = λ m opening s these consistent p q c a b h k. first_of_two m opening these (apart m (acts_lawful m s.acts) (acts_live m s.acts.acts) opening s.known s.orderly s.given these consistent) p q c a b h k
