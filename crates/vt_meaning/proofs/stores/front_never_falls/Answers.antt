use Rattle.vt_meaning.proofs.StepLaws.{acts_lawful, acts_live}
use Rattle.vt_meaning.proofs.AnswersEnable.{front_stays}
use Rattle.vt_meaning.proofs.stores.front_never_falls.Goals as goal

pub returns : goal.returns
returns c = λ m opening s these those consistent f. front_stays m (acts_lawful m s.acts) (acts_live m s.acts.acts) opening s.known s.orderly these those consistent f
