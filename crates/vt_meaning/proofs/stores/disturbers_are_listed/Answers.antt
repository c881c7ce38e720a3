use Rattle.vt_meaning.proofs.ListedDisturbers.{disturbs_listed, listed_disturbs, quiet_true, true_quiet}
use Rattle.vt_meaning.proofs.stores.disturbers_are_listed.Goals as goal

pub returns : goal.returns
returns c = λ m opening these p q. (λ t. (listed_disturbs m these p q t, disturbs_listed m these p q t), (quiet_true m opening these p q, true_quiet m opening these p q))
