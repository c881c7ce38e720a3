use Rattle.std.specs.Prelude.{◌≡◌, true}
use Rattle.vt_meaning.proofs.Writers.{bound_or_waits, disturbs_least, marks_quiet}
use Rattle.vt_meaning.proofs.stores.marks_find_disturbers.Goals as goal

pub returns : goal.returns
returns c =
    record {
      enough = λ m these p q marked one two t d. disturbs_least m these p q (λ v. marked v ≡ true) one two t d;
      tell = λ m opening these p q. (λ marked one two none. marks_quiet m opening these p q (λ v. marked v ≡ true) one two none, bound_or_waits m opening these p);
    }
