use Rattle.std.proofs.Common.{List, ℕ, ◌++◌, ap, subst, sym, take-append-drop, ◌∙◌}
use Rattle.vt_lock.specs.Numbers.{HasAllNumbers, half_of}
use Rattle.vt_lock.proofs.NumberLemmas.{all_stand}
use Rattle.tests_threads.proofs.shelf.put_both.Goals as goal

pub close-requires-clause-all : goal.close-requires-clause-all
close-requires-clause-all g c κs within =
    let numbers = c.in_ok-turns.seat.numbers in
    let first = ap (λ k. k.numbers) c.join-a.ensures.first ∙ ap (λ k. k.numbers) c.in-Ok.ensures.first in
    let second = ap (λ k. k.numbers) c.join-a.ensures.second ∙ ap (λ k. k.numbers) c.in-Ok.ensures.second in
    let whole = ap (λ k. k.numbers) c.join-seat.ensures.seat ∙ (λ i. first i ++ second i) ∙ take-append-drop (half_of numbers) numbers ∙ ap (λ k. k.numbers) c.in_ok-turns.ensures.seat in
    subst (λ (ns : List ℕ). HasAllNumbers ns) (sym whole) all_stand
