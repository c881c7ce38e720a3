-- What the calls that draw random words give is within the limits of the language.
use Rattle.std.specs.Prelude.{◌+ℤ◌, ◌-ℤ◌, ◌==◌, ◌&&◌, fold, nat_lt, not, zip}
use Rattle.std.specs.Result.{IfOk}
use Rattle.std.proofs.Common.{◌≡◌, ℕ, ◌+◌, ◌-◌, ◌*◌, ◌<◌, ◌≤◌, ◌^◌, ℤ, pos, negsuc, List, [], ◌∷◌, length, map, Result, Ok, Err, ap, subst, arith, lit<}
use Rattle.std.proofs.lemmas.Int.{ints}
use Rattle.std.proofs.Math.Nat.{div-lt_iff_lt-mul, mul-lt-mul_of_pos_left, mul_comm}
use Rattle.vt_frac.specs.Fraction.{Fraction, IsFraction}
use Rattle.vt_rand.specs.Draw.{RandomStream, below_of, unit_of}
use Rattle.vt_rand.proofs.WordLemmas.{word_fits}
use Rattle.vt_value.specs.declared.fault.FaultKind.{FaultKind}
use Rattle.vt_value.specs.declared.fault.FaultKind.TheVariants.{BadValue, EmptyRing}
use Rattle.vt_value.specs.declared.value.Value.{Value}
use Rattle.vt_value.specs.declared.value.Value.TheVariants.{Nil}
use Rattle.vt_value.specs.Limits.{IsWithin, AreWithin}
use Rattle.vt_ring.specs.Answers.{and_then}
use Rattle.vt_ring.specs.Arguments.{between}
use Rattle.vt_ring.specs.Called.{Called, and_draw, demand}
use Rattle.vt_ring.specs.Exact.{exact_difference, exact_product}
use Rattle.vt_ring.specs.Items.{indices}
use Rattle.vt_ring.specs.Limits.{within_limits}
use Rattle.vt_ring.specs.RandomCalls.{as_part, bound_in, choices, choose_call, chosen, dice_call, is_above_zero, numbers_between, one_in_call, part_of_the_way, pick_call, rand_call, rand_i_call, rrand_call, rrand_i_call, shuffle_call}
use Rattle.vt_ring.specs.Shuffling.{exchanged, last_to_one, shuffle_of, shuffled_by}
use Rattle.vt_ring.specs.Signatures.{a_ring, a_ring_and_perhaps_a_whole, a_whole, perhaps_a_number, perhaps_a_whole, two_numbers, two_wholes}
use Rattle.vt_ring.specs.Streams.{words_from}
use Rattle.vt_ring.proofs.limits.Arguments.{a_ring_and_perhaps_a_whole_give, a_ring_gives, between_gives, two_wholes_give}
use Rattle.vt_ring.proofs.Elements.{each_found_or, each_made, each_swap}
use Rattle.vt_ring.proofs.limits.Answers.{and_then_any, cond_gives}
use Rattle.vt_ring.proofs.limits.Fractions.{product_gives, sum_gives}
use Rattle.vt_ring.proofs.limits.Values.{IsWholeWithin, as_ring_gives, within_bool, within_limits_gives, within_nil, within_part, within_whole}

-- each word that is drawn is a number of 32 bits
abbrev pub AreWords : (ℕ → ℕ) → Type 0
AreWords words = (k : ℕ) → words k < 2 ^ 32

pub stream_words : (stream : RandomStream) → AreWords (words_from stream)
stream_words stream k = word_fits stream.seed (stream.drawn + k)

and_draw_gives : {A : Type 0} (answer : Result A FaultKind) (next : A → Called) (P : A → Type 0) → IfOk answer P → ((a : A) → P a → IfOk (next a).answer IsWithin) → IfOk (and_draw answer next).answer IsWithin
and_draw_gives (Ok a) next P h k = k a h
and_draw_gives (Err kind) next P h k = tt

and_draw_any : {A : Type 0} (answer : Result A FaultKind) (next : A → Called) → ((a : A) → IfOk (next a).answer IsWithin) → IfOk (and_draw answer next).answer IsWithin
and_draw_any (Ok a) next k = k a
and_draw_any (Err kind) next k = tt

part_gives : (answer : Result Fraction FaultKind) → IfOk answer IsFraction → IfOk (as_part answer) IsWithin
part_gives (Ok f) h = within_part f h
part_gives (Err kind) h = tt

-- Numbers

below_small : (word n : ℕ) → word < 2 ^ 32 → 0 < n → below_of word n < n
unfolding below_of
below_small word n h p = (div-lt_iff_lt-mul {k = 2 ^ 32} {x = word * n} {y = n} (lit< tt)).1 (below word n h p)
  where
    below : (word n : ℕ) → word < 2 ^ 32 → 0 < n → word * n < n * 2 ^ 32
    below word n h p = subst (λ m. m < n * 2 ^ 32) (mul_comm n word) (mul-lt-mul_of_pos_left h p)

-- a number of 32 bits, above 0
abbrev IsBound : ℕ → Type 0
IsBound n = (1 ≤ n) × (n ≤ 4294967295)

bound_gives : (answer : Result ℤ FaultKind) → IfOk (and_then answer bound_in) IsBound
bound_gives answer = and_then_any answer bound_in IsBound (λ n. between_gives 1 4294967295 n)

pub rand_gives : (args : List Value) (words : ℕ → ℕ) → IfOk (rand_call args words).answer IsWithin
unfolding rand_call
rand_gives args words = and_draw_any (perhaps_a_number args) _ (λ f. part_gives (exact_product (unit_of (words 0)) f) (product_gives (unit_of (words 0)) f))

pub rand_i_gives : (args : List Value) (words : ℕ → ℕ) → AreWords words → IfOk (rand_i_call args words).answer IsWithin
unfolding rand_i_call
rand_i_gives args words h =
    and_draw_gives (and_then (a_whole args) bound_in) _ IsBound (bound_gives (a_whole args)) (λ n w.
    within_whole (pos (below_of (words 0) n)) (omega (arith, below_small (words 0) n (h 0) w.0, w.1)))

part_of_the_way_gives : (a b unit : Fraction) → IfOk (part_of_the_way a b unit) IsFraction
part_of_the_way_gives a b unit =
    and_then_any (exact_difference b a) _ IsFraction (λ way.
    and_then_any (exact_product way unit) _ IsFraction (λ part.
    sum_gives a part))

pub rrand_gives : (args : List Value) (words : ℕ → ℕ) → IfOk (rrand_call args words).answer IsWithin
unfolding rrand_call
rrand_gives args words = and_draw_any (two_numbers args) _ (λ both. part_gives (part_of_the_way both.0 both.1 (unit_of (words 0))) (part_of_the_way_gives both.0 both.1 (unit_of (words 0))))

-- one of the numbers from a to b
between_fits : (a b : ℤ) (d w : ℕ) → IsWholeWithin a → IsWholeWithin b → b -ℤ a ≡ pos d → w ≤ d → IsWholeWithin (a +ℤ pos w)
between_fits (pos a) (pos b) d w h k e p = omega (arith, ints)
between_fits (pos a) (negsuc b) d w h k e p = omega (arith, ints)
between_fits (negsuc a) (pos b) d w h k e p = omega (arith, ints)
between_fits (negsuc a) (negsuc b) d w h k e p = omega (arith, ints)

numbers_give : (z : ℤ) → IfOk (numbers_between z) (λ n. (1 ≤ n) × (z ≡ pos (n - 1)))
numbers_give (pos d) = cond_gives (nat_lt d 4294967295) (Ok (d + 1)) BadValue (λ n. (1 ≤ n) × (pos d ≡ pos (n - 1))) (λ e. (omega arith, (let same : d ≡ d + 1 - 1 = omega arith in ap pos same)))
numbers_give (negsuc d) = tt

pub rrand_i_gives : (args : List Value) (words : ℕ → ℕ) → AreWords words → AreWithin args → IfOk (rrand_i_call args words).answer IsWithin
unfolding rrand_i_call
rrand_i_gives args words h k =
    and_draw_gives (two_wholes args) _ _ (two_wholes_give args k) (λ both w.
    and_draw_gives (numbers_between (both.1 -ℤ both.0)) _ _ (numbers_give (both.1 -ℤ both.0)) (λ n m.
    let small : below_of (words 0) n < n = below_small (words 0) n (h 0) m.0 in
    within_whole (both.0 +ℤ pos (below_of (words 0) n)) (between_fits both.0 both.1 (n - 1) (below_of (words 0) n) w.0 w.1 m.1 (omega (arith, small, m.0)))))

pub dice_gives : (args : List Value) (words : ℕ → ℕ) → AreWords words → IfOk (dice_call args words).answer IsWithin
unfolding dice_call
dice_gives args words h =
    and_draw_gives (and_then (perhaps_a_whole (pos 6) args) bound_in) _ IsBound (bound_gives (perhaps_a_whole (pos 6) args)) (λ n w.
    within_whole (pos (1 + below_of (words 0) n)) (omega (arith, below_small (words 0) n (h 0) w.0, w.1)))

pub one_in_gives : (args : List Value) (words : ℕ → ℕ) → IfOk (one_in_call args words).answer IsWithin
unfolding one_in_call
one_in_gives args words = and_draw_any (and_then (a_whole args) bound_in) _ (λ n. within_bool (below_of (words 0) n == 0))

-- Items

chosen_within : (items : List Value) (word : ℕ) → AreWithin items → IsWithin (chosen items word)
chosen_within items word h = each_found_or IsWithin items (below_of word (length items)) Nil within_nil h

pub choose_gives : (args : List Value) (words : ℕ → ℕ) → AreWithin args → IfOk (choose_call args words).answer IsWithin
unfolding choose_call
choose_gives args words h =
    and_draw_gives (a_ring args) _ _ (a_ring_gives args h) (λ items w.
    and_draw_gives (demand (nat_lt 0 (length items)) EmptyRing (Ok items)) _ AreWithin (cond_gives (nat_lt 0 (length items)) (Ok items) EmptyRing AreWithin (λ e. w.each)) (λ same k.
    chosen_within same (words 0) k))

pub pick_gives : (args : List Value) (words : ℕ → ℕ) → AreWithin args → IfOk (pick_call args words).answer IsWithin
unfolding pick_call
pick_gives args words h =
    and_draw_gives (a_ring_and_perhaps_a_whole args) _ _ (a_ring_and_perhaps_a_whole_give args h) (λ both w.
    and_draw_any (demand (not (length both.0 == 0 && is_above_zero both.1)) EmptyRing (between 0 4096 both.1)) _ (λ n.
    as_ring_gives (within_limits (choices both.0 words n))
    (within_limits_gives (choices both.0 words n) (each_made IsWithin (λ k. chosen both.0 (words k)) (λ k. chosen_within both.0 (words k) w.0.each) (indices n)))))

exchanges_within : (pairs : List (ℕ × ℕ)) (items : List Value) → AreWithin items → AreWithin (fold exchanged items pairs)
exchanges_within [] items h = h
exchanges_within (pair ∷ pairs) items h = exchanges_within pairs (exchanged items pair) (each_swap IsWithin items pair.0 (below_of pair.1 (pair.0 + 1)) h)

pub shuffle_gives : (args : List Value) (words : ℕ → ℕ) → AreWithin args → IfOk (shuffle_call args words).answer IsWithin
unfolding shuffle_call
shuffle_gives args words h =
    and_draw_gives (a_ring args) _ _ (a_ring_gives args h) (λ items w.
    as_ring_gives (shuffle_of items (map words (indices (length items - 1))))
    (within_limits_gives (shuffled_by items (map words (indices (length items - 1)))) (exchanges_within (zip (last_to_one (length items)) (map words (indices (length items - 1)))) items w.each)))
