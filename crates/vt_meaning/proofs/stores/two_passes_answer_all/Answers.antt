use Rattle.vt_meaning.proofs.StepLaws.{acts_lawful, acts_live}
use Rattle.vt_meaning.proofs.TwoPasses.{reads_pass, reads_pass_waits, waits_pass}
use Rattle.vt_meaning.proofs.stores.two_passes_answer_all.Goals as goal

pub returns : goal.returns
returns c =
    record {
      waits = λ m opening s these consistent n none t p w e has st first. waits_pass m (acts_lawful m s.acts) (acts_live m s.acts.acts) opening s.known these consistent n none t p w e has st first;
      reads =
          λ m opening s these consistent l n nw nr t p q a has st.
          let law = acts_lawful m s.acts in
          let live = acts_live m s.acts.acts in (
            reads_pass_waits m law live opening s.known s.orderly s.given these consistent n t p q a has st l nw,
            reads_pass m law live opening s.known s.orderly s.given these consistent n t p q a has st nr,
          );
    }
