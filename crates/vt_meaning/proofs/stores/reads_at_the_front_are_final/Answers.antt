use Rattle.vt_meaning.proofs.StepLaws.{acts_lawful}
use Rattle.vt_meaning.proofs.Writers.{final_quiet, quiet_final, unwritten_quiet}
use Rattle.vt_meaning.proofs.PassedReads.{read_passed}
use Rattle.vt_meaning.proofs.stores.reads_at_the_front_are_final.Goals as goal

pub returns : goal.returns
returns c =
    record {
      front = λ m opening these p q. (final_quiet m opening these p q, unwritten_quiet m opening these p q, quiet_final m opening these p q);
      passed = λ m opening s these consistent all t i x p q a acted ans. read_passed m (acts_lawful m s.acts) opening these consistent all t i x p q a acted ans;
    }
