use Rattle.std.specs.Prelude.{None}
use Rattle.vt_run.specs.declared.action.Answer.TheVariants.{Found}
use Rattle.vt_meaning.specs.Traces.{wake}
use Rattle.vt_meaning.specs.World.{moved_on, told}
use Rattle.vt_meaning.proofs.StepLaws.{acts_lawful, acts_live}
use Rattle.vt_meaning.proofs.AnsweredAsks.{read_adds_none, read_next, wait_adds_none, wait_next}
use Rattle.vt_meaning.proofs.AnswersEnable.{read_enables_read, read_enables_wait, wait_enables}
use Rattle.vt_meaning.proofs.StoreSteps.{happened_on}
use Rattle.vt_meaning.proofs.stores.answers_enable_little.Goals as goal

pub returns : goal.returns
returns c =
    record {
      read =
          λ m opening s these consistent i t p q a has e.
          let law = acts_lawful m s.acts in
          let live = acts_live m s.acts.acts in (
            λ f. (
              read_adds_none m law live opening s.known these consistent i t has p q a e f,
              happened_on m law opening s.known these (moved_on these i (told a t) None) p (read_next m law live opening s.known these consistent i t has p q a e) f,
            ),
            read_enables_wait m law live opening s.known s.orderly s.given these consistent i t has p q a e,
            read_enables_read m law live opening s.known s.orderly s.given these consistent i t has p q a e,
          );
      wait =
          λ m opening s these consistent i t p w e has st first.
          let law = acts_lawful m s.acts in
          let live = acts_live m s.acts.acts in (
            λ f. (
              wait_adds_none m law live opening s.known these consistent i t has p w e st first f,
              happened_on m law opening s.known these (moved_on these i (told (Found e) t) None) (wake e p) (wait_next m law live opening s.known these consistent i t has p w e st first) f,
            ),
            wait_enables m law live opening s.known these consistent i t has p w e st first,
          );
    }
