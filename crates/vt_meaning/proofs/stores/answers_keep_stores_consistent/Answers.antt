use Rattle.vt_meaning.proofs.StepLaws.{acts_lawful, acts_live}
use Rattle.vt_meaning.proofs.AnsweredAsks.{read_kept, wait_kept}
use Rattle.vt_meaning.proofs.stores.answers_keep_stores_consistent.Goals as goal

pub returns : goal.returns
returns c =
    record {
      read = λ m opening s these consistent i t p q a has e final last. read_kept m (acts_lawful m s.acts) (acts_live m s.acts.acts) opening s.known these consistent i t has p q a e final last;
      wait = λ m opening s these consistent i t p w e has st first clear. wait_kept m (acts_lawful m s.acts) (acts_live m s.acts.acts) opening s.known these consistent i t has p w e st first clear;
    }
