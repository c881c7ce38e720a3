use Rattle.vt_meaning.proofs.StepLaws.{acts_lawful}
use Rattle.vt_meaning.proofs.RestingThreads.{rests}
use Rattle.vt_meaning.proofs.ScoresInOrder.{lives_from, lives_has}
use Rattle.vt_meaning.proofs.stores.finished_threads_rest.Goals as goal

pub returns : goal.returns
returns c = λ m opening s these consistent. (λ finished k t has. rests m (acts_lawful m s.acts) opening these finished k t has, λ x. (lives_from m these x, lives_has m these x))
