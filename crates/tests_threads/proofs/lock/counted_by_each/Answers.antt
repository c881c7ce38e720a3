use Rattle.std.proofs.Common.{List, ℕ, ap, subst, sym, ◌∙◌}
use Rattle.vt_lock.specs.Numbers.{HasAllNumbers}
use Rattle.vt_lock.proofs.NumberLemmas.{all_stand}
use Rattle.tests_threads.proofs.lock.counted_by_each.Goals as goal

pub close-requires-clause-all : goal.close-requires-clause-all
close-requires-clause-all g c κs = subst (λ (ns : List ℕ). HasAllNumbers ns) (sym (ap (λ k. k.numbers) c.count_by_each-seat.ensures ∙ ap (λ k. k.numbers) c.in_ok-turns.ensures.seat)) all_stand
