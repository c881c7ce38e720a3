-- The turn rule when a lock is made and when it is closed.
use Rattle.std.proofs.Common.{◌≡◌, ℕ, zero, suc, subst, ◌+◌, ◌<◌, ◌≤◌, ◌≢◌, List, [], ◌∷◌, ◌++◌, length, Option, Some, None, sym, refl, ap, ◌∙◌, inr, ⊎_elim, arith, append-nil}
use mathlib.Core.Option.{some, some-injective, some-ne-none}
use lib.ListN.{get_elem?}
use Rattle.atomic_table.specs.Table.{State, opening, Final, Seen}
use Rattle.vt_lock.specs.declared.view.View.{View}
use Rattle.vt_lock.specs.declared.view.Stage.{Stage}
use Rattle.vt_lock.specs.declared.view.Stage.TheVariants.{Resting, Opening, Waiting, Holding, Joining}
use Rattle.vt_lock.specs.Numbers.{HasAllNumbers, all_numbers, numbers_from, occurrences, one_if_below, one_if_equal}
use Rattle.vt_lock.specs.Logs.{AreOfWorkers, HasNoneOf}
use Rattle.vt_lock.specs.Views.{tickets_of, turns_of}
use Rattle.vt_lock.specs.TurnRule.{IsAtHome, IsAway, IsSoundView, KeepsTurns}
use Rattle.vt_lock.proofs.Sums.{total_two}

below_next : (n a : ℕ) → one_if_equal n a + one_if_below n a ≡ one_if_below n (a + 1)
below_next n a = omega arith

chained : (s t b b' c : ℕ) → s + b ≡ b' → t + b' ≡ c → (s + t) + b ≡ c
chained s t b b' c p q = omega arith

zero_left : (x : ℕ) → 0 + x ≡ x
zero_left x = omega arith

-- how often a number stands among the numbers from a on
occurrences_from : (n a k : ℕ) → occurrences n (numbers_from a k) + one_if_below n a ≡ one_if_below n (a + k)
occurrences_from n a zero = (let same_sum : a ≡ a + 0 = omega arith in zero_left (one_if_below n a) ∙ ap (one_if_below n) same_sum)
occurrences_from n a (suc k) = chained (one_if_equal n a) (occurrences n (numbers_from (a + 1) k)) (one_if_below n a) (one_if_below n (a + 1)) (one_if_below n (a + suc k)) (below_next n a)
    (occurrences_from n (a + 1) k ∙ ap (one_if_below n) (omega arith))

from_zero : (t b c : ℕ) → t + b ≡ c → b ≡ 0 → t + 0 ≡ c
from_zero t b c p q = omega arith

below_zero : (n : ℕ) → one_if_below n 0 ≡ 0
below_zero n = omega arith

no_rest : {E : Type 0} (worker : E → ℕ) (ns : List ℕ) (rest : List E) → HasAllNumbers ns → AreOfWorkers worker rest → HasNoneOf worker ns rest → rest ≡ []
no_rest worker ns [] all low none' = refl
no_rest worker ns (e ∷ es) all low none' = let h = all (worker e) low.0 in let z = none'.0 in absurd (omega (arith, h, z))

below_behind : {E : Type 0} (worker : E → ℕ) (xs ys : List E) → AreOfWorkers worker (xs ++ ys) → AreOfWorkers worker ys
below_behind worker [] ys p = p
below_behind worker (x ∷ xs) ys p = below_behind worker xs ys p.1

first_number : (ns : List ℕ) → 0 < length ns → (n : ℕ) × (0 < occurrences n ns)
first_number [] h = absurd (omega arith)
first_number (n ∷ ns) h = (n, omega arith)

some_worker : (ns : List ℕ) → 0 < occurrences 0 ns → 0 < length ns
some_worker [] h = absurd (omega arith)
some_worker (n ∷ ns) h = omega arith

turn_has_ticket : {E : Type 0} (st : Stage E) → turns_of st ≡ 1 → tickets_of st ≡ 1
turn_has_ticket Resting e = absurd (omega arith)
turn_has_ticket Opening e = refl
turn_has_ticket (Waiting t) e = refl
turn_has_ticket (Holding t) e = refl
turn_has_ticket (Joining p q) e = absurd (omega arith)

module _ {T X E : Type 0} (key : T → X) (log : T → List E) (worker : E → ℕ) (first : T) where
  abbrev V : Type 0
  V = View X E

  abbrev start : V
  start = record { key = Some (key first); seen = log first; numbers = all_numbers; stage = Opening }

  pub opening_holds : AreOfWorkers worker (log first) → KeepsTurns key log worker first (opening (1 ∷ 0 ∷ []) (None ∷ []) start)
  opening_holds low = record {
    drawn = 1;
    served = 0;
    current = log first;
    home = some None;
    words = refl;
    homes = refl;
    known_workers = low;
    tickets_out = λ t. omega arith;
    ticket_count = refl;
    each_once = λ n. from_zero (occurrences n (all_numbers)) (one_if_below n 0) (one_if_below n 64) (occurrences_from n 0 64) (below_zero n);
    all_spoken_for = refl;
    each_view = each_view;
    whereabouts = inr (refl, (0, start, refl, refl, refl, refl));
  }
    where
      each_view : (i : ℕ) (v : V) → get_elem? (start ∷ []) i ≡ some v → IsSoundView key log worker (key first) (log first) 0 v
      each_view zero v e = subst (IsSoundView key log worker (key first) (log first) 0) (some-injective start v e) (record {
        keyed = λ _. refl;
        seen = ([], sym (append-nil (log first)), tt);
        speaks = omega arith;
        served = refl;
        parts = tt;
      })
      each_view (suc i) v e = absurd (some-ne-none v (sym e))

  -- where a view speaks for all numbers, no other has a ticket, so the value is at home
  home_at_last : (s : State (Option T) V) (r : KeepsTurns key log worker first s) (id : ℕ) (v : V) → get_elem? s.views id ≡ some v → v.stage ≡ Resting
      → HasAllNumbers v.numbers → IsAtHome key log worker (key first) r.current r.home s.views
  home_at_last s r id v at idle all = ⊎_elim {B = IsAway key log worker r.current r.home s.views}
      (λ f. f)
      (λ h. let z : turns_of v.stage ≡ 0 = ap turns_of idle in
      let ne : h.1.0 ≢ id = λ e. let same_view : h.1.1 ≡ v = some-injective h.1.1 v (sym h.1.2 ∙ ap (λ k. get_elem? s.views k) e ∙ at) in let p : turns_of h.1.1.stage ≡ turns_of v.stage = ap (λ (u : V). turns_of u.stage) same_view in omega (arith, h.1.3) in
      let fits = r.each_view h.1.0 h.1.1 h.1.2 in
      let has = first_number h.1.1.numbers (has_worker h.1.1 h.1.3 fits.speaks) in
      let sum = total_two (λ (u : V). occurrences has.0 u.numbers) s.views h.1.0 id h.1.1 v ne h.1.2 at in
      let most = r.each_once has.0 in
      let low : has.0 < 64 = let more = has.1 in omega (arith, sum, most, more) in
      let ours = all has.0 low in
      let theirs = has.1 in absurd (omega (arith, sum, most, ours, theirs)))
      r.whereabouts
    where
      has_worker : (u : V) → turns_of u.stage ≡ 1 → tickets_of u.stage ≤ length u.numbers → 0 < length u.numbers
      has_worker u turn le = let h = turn_has_ticket u.stage turn in omega (arith, h, le)

  pub last_value : (ws : List ℕ) (xs : List (Option T)) (id : ℕ) (v : V) (y : Option T) → Final (Seen (KeepsTurns key log worker first) id v) ws xs → get_elem? xs 0 ≡ some y → v.stage ≡ Resting
      → HasAllNumbers v.numbers → (x : T) × (y ≡ Some x) × (v.key ≡ Some (key x)) × (log x ≡ v.seen)
  last_value ws xs id v y final there idle all =
      let s = final.0 in
      let r = final.1.0 in
      let free = home_at_last s r id v final.1.1 idle all in
      let fits = r.each_view id v final.1.1 in
      let rest_low : AreOfWorkers worker fits.seen.0 = below_behind worker v.seen fits.seen.0 (subst (AreOfWorkers worker) fits.seen.1 r.known_workers) in
      let rest_none : fits.seen.0 ≡ [] = no_rest worker v.numbers fits.seen.0 all rest_low fits.seen.2 in
      let x : T = free.1.0 in
      let home : get_elem? s.homes 0 ≡ some (some (Some x)) = ap (λ hs. get_elem? hs 0) r.homes ∙ ap some free.1.1 in
      let same_value : Some x ≡ y = some-injective (Some x) y (sym (final.4 0 (Some x) home) ∙ there) in
      (x, sym same_value, fits.keyed (some_worker v.numbers (all 0 (omega arith))) ∙ ap Some (sym free.1.2), free.1.3 ∙ fits.seen.1 ∙ ap (λ l. v.seen ++ l) rest_none ∙ append-nil v.seen)
