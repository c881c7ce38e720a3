-- Calls whose answers are known, computed by their definitions.
use Rattle.std.proofs.Common.{◌≡◌, ℕ, pos, negsuc, List, [], ◌∷◌, length, filter, Result, Ok, Err, codes, refl}
use Rattle.std.specs.Prelude.{Bool, true, false, not}
use Rattle.std.specs.List.{list_all}
use Rattle.vt_frac.specs.Fraction.{fits, fitted, over}
use Rattle.vt_frac.specs.Divisor.{gcd}
use Rattle.vt_frac.specs.Arithmetic.{sum_of, difference_of, product_of, floor_of}
use Rattle.vt_rand.specs.Draw.{unit_of, below_of}
use Rattle.vt_table.specs.Calls.{calls}
use Rattle.vt_table.specs.Lists.{chords, scales}
use Rattle.vt_value.specs.declared.fault.FaultKind.{FaultKind}
use Rattle.vt_value.specs.declared.fault.FaultKind.TheVariants.{WrongKind, WrongCount, BadValue, Overflow, BadNote, UnknownName}
use Rattle.vt_value.specs.declared.value.Value.{Value}
use Rattle.vt_value.specs.declared.value.Value as V
use Rattle.vt_value.specs.declared.value.Value.TheVariants.{Nil, Whole, Part, Bool as Truth, Sym}
use Rattle.vt_ring.specs.Called.{drawing, undrawn}
use Rattle.vt_ring.specs.CallTable.{value_of_call}
use Rattle.vt_ring.specs.CountCalls.{length_call, sum_call, sort_call, in_order, added_up, are_numbers, size_call, count_call}
use Rattle.vt_ring.specs.MakeCalls.{ring_call, knit_call, bools_call, range_call, line_call, spread_call}
use Rattle.vt_ring.specs.NoteCalls.{note_call, chord_call, chord_invert_call, degree_call, scale_call, octs_call, steps_up, intervals_above, climbed, first_steps, inverted, times}
use Rattle.vt_ring.specs.NumberCalls.{min_call, max_call, abs_call, inc_call, dec_call, round_call, floor_call, ceil_call, even_call, odd_call, ceiling_of}
use Rattle.vt_ring.specs.PartCalls.{first_call, last_call, butlast_call, drop_call, drop_last_call, mirror_call, reflect_call, repeat_call, reverse_call, rotate_call, stretch_call, take_call, take_last_call}
use Rattle.vt_ring.specs.RandomCalls.{rand_call, rand_i_call, rrand_call, rrand_i_call, dice_call, one_in_call, choose_call, pick_call, shuffle_call, chosen}

abbrev w : ℕ → Value
w n = Whole (pos n)

abbrev part : ℕ → ℕ → Value
part n d = Part (record { numer = pos n; denom = d })

abbrev below_zero : ℕ → ℕ → Value
below_zero n d = Part (record { numer = negsuc n; denom = d })

-- the table has 49 calls without effects
pub count_of_calls : length (filter (λ row. not row.effect) calls) ≡ 49
unfolding calls
count_of_calls = refl

abbrev is_unknown : Result Value FaultKind → Bool
is_unknown (Err UnknownName) = true
is_unknown _ = false

abbrev same_truth : Bool → Bool → Bool
same_truth true b = b
same_truth false b = not b

-- and exactly these have a definition
pub each_call_is_defined : list_all (λ row. same_truth row.effect (is_unknown (value_of_call row.call [] [] (λ k. 0)).answer)) calls ≡ true
unfolding calls value_of_call length_call size_call count_call sum_call sort_call ring_call knit_call bools_call range_call line_call spread_call note_call chord_call chord_invert_call degree_call scale_call octs_call min_call max_call abs_call inc_call dec_call round_call floor_call ceil_call even_call odd_call first_call last_call butlast_call drop_call drop_last_call mirror_call reflect_call repeat_call reverse_call rotate_call stretch_call take_call take_last_call rand_call rand_i_call rrand_call rrand_i_call dice_call one_in_call choose_call pick_call shuffle_call fits product_of over unit_of gcd
each_call_is_defined = refl

-- `min 3, 2`; `min 1, 1/1`; `max 1, 1/1`; a kind and a count that are wrong
pub least_and_greatest : min_call (w 3 ∷ w 2 ∷ []) ∷ min_call (w 1 ∷ part 1 1 ∷ []) ∷ max_call (part 1 1 ∷ w 1 ∷ []) ∷ max_call (w 1 ∷ Nil ∷ []) ∷ min_call (w 1 ∷ []) ∷ []
    ≡ Ok (w 2) ∷ Ok (w 1) ∷ Ok (part 1 1) ∷ Err WrongKind ∷ Err WrongCount ∷ []
unfolding min_call max_call V.out-Value denote.Hole.Carrier.out
least_and_greatest = refl

-- `abs -7/2`, `abs 7`, `inc 1/2`, `dec 0`, `inc` of the greatest whole number
pub beside : abs_call (below_zero 6 2 ∷ []) ∷ abs_call (w 7 ∷ []) ∷ inc_call (part 1 2 ∷ []) ∷ dec_call (w 0 ∷ []) ∷ inc_call (w 9223372036854775807 ∷ []) ∷ inc_call (Nil ∷ []) ∷ []
    ≡ Ok (part 7 2) ∷ Ok (w 7) ∷ Ok (part 3 2) ∷ Ok (Whole (negsuc 0)) ∷ Err Overflow ∷ Err WrongKind ∷ []
unfolding abs_call inc_call dec_call sum_of difference_of over gcd fits fitted V.out-Value denote.Hole.Carrier.out
beside = refl

-- the halves -5/2, -1/2 and 5/2
pub rounded : floor_call (below_zero 4 2 ∷ []) ∷ ceil_call (below_zero 4 2 ∷ []) ∷ round_call (below_zero 4 2 ∷ []) ∷ round_call (below_zero 0 2 ∷ []) ∷ floor_call (part 5 2 ∷ []) ∷ ceil_call (part 5 2 ∷ []) ∷ round_call (part 5 2 ∷ []) ∷ []
    ≡ Ok (Whole (negsuc 2)) ∷ Ok (Whole (negsuc 1)) ∷ Ok (Whole (negsuc 1)) ∷ Ok (w 0) ∷ Ok (w 2) ∷ Ok (w 3) ∷ Ok (w 3) ∷ []
unfolding floor_call ceil_call round_call ceiling_of sum_of over gcd fits floor_of V.out-Value denote.Hole.Carrier.out
rounded = refl

-- 2^62 and 1/2 make a fraction that does not fit
pub rounded_to_overflow : round_call (w 4611686018427387904 ∷ []) ≡ Err Overflow
unfolding round_call sum_of over gcd fits V.out-Value denote.Hole.Carrier.out
rounded_to_overflow = refl

pub odd_and_even : even_call (Whole (negsuc 2) ∷ []) ∷ odd_call (Whole (negsuc 2) ∷ []) ∷ even_call (w 0 ∷ []) ∷ odd_call (part 1 1 ∷ []) ∷ []
    ≡ Ok (Truth false) ∷ Ok (Truth true) ∷ Ok (Truth true) ∷ Err WrongKind ∷ []
unfolding even_call odd_call V.out-Value denote.Hole.Carrier.out
odd_and_even = refl

-- equal numbers keep their order: [2, 1/1, 1] and [1, 1/1, 0]
pub sorted : in_order (w 2 ∷ part 1 1 ∷ w 1 ∷ []) ∷ in_order (w 1 ∷ part 1 1 ∷ w 0 ∷ []) ∷ []
    ≡ (part 1 1 ∷ w 1 ∷ w 2 ∷ []) ∷ (w 0 ∷ w 1 ∷ part 1 1 ∷ []) ∷ []
unfolding V.out-Value denote.Hole.Carrier.out
sorted = refl

-- the whole number 0 with none added, with wholes and with a part; the greatest whole number and 1
pub summed : added_up (w 0) [] ∷ added_up (w 0) (w 1 ∷ w 2 ∷ []) ∷ added_up (w 0) (w 1 ∷ part 1 2 ∷ part 1 2 ∷ []) ∷ added_up (w 0) (w 9223372036854775807 ∷ w 1 ∷ []) ∷ []
    ≡ Ok (w 0) ∷ Ok (w 3) ∷ Ok (part 2 1) ∷ Err Overflow ∷ []
unfolding sum_of over gcd fits fitted V.out-Value denote.Hole.Carrier.out
summed = refl

pub number_lists : are_numbers [] ∷ are_numbers (w 1 ∷ part 1 2 ∷ []) ∷ are_numbers (w 1 ∷ Nil ∷ w 2 ∷ []) ∷ [] ≡ true ∷ true ∷ false ∷ []
unfolding V.out-Value denote.Hole.Carrier.out
number_lists = refl

pub notes : note_call (Sym (codes "c4") ∷ []) ∷ note_call (part 1 2 ∷ []) ∷ note_call (Sym (codes "h") ∷ []) ∷ note_call (Nil ∷ []) ∷ []
    ≡ Ok (w 60) ∷ Ok (part 1 2) ∷ Err BadNote ∷ Err WrongKind ∷ []
unfolding note_call V.out-Value denote.Hole.Carrier.out
notes = refl

pub steps : steps_up (w 60) (times 2 (2 ∷ 2 ∷ 3 ∷ 2 ∷ 3 ∷ []))
    ≡ Ok (w 60 ∷ w 62 ∷ w 64 ∷ w 67 ∷ w 69 ∷ w 72 ∷ w 74 ∷ w 76 ∷ w 79 ∷ w 81 ∷ w 84 ∷ [])
unfolding V.out-Value denote.Hole.Carrier.out
steps = refl

abbrev major : List ℕ
major = 2 ∷ 2 ∷ 1 ∷ 2 ∷ 2 ∷ 2 ∷ 1 ∷ []

abbrev pentatonic : List ℕ
pentatonic = 3 ∷ 2 ∷ 2 ∷ 3 ∷ 2 ∷ []

pub intervals : intervals_above (part 121 2) (0 ∷ 3 ∷ 7 ∷ []) ≡ Ok (part 121 2 ∷ part 127 2 ∷ part 135 2 ∷ [])
unfolding sum_of over gcd fits fitted V.out-Value denote.Hole.Carrier.out
intervals = refl

-- the degrees 1, 3, 8 and 10 of a scale of seven steps, and the degrees 6 and 7 of one of five
pub degrees : climbed (w 60) (first_steps 0 major) ∷ climbed (w 60) (first_steps 2 major) ∷ climbed (w 60) (first_steps 7 major) ∷ climbed (w 60) (first_steps 9 major) ∷ climbed (w 60) (first_steps 5 pentatonic) ∷ climbed (w 60) (first_steps 6 pentatonic) ∷ []
    ≡ Ok (w 60) ∷ Ok (w 64) ∷ Ok (w 72) ∷ Ok (w 76) ∷ Ok (w 72) ∷ Ok (w 75) ∷ []
unfolding V.out-Value denote.Hole.Carrier.out
degrees = refl

-- a chord, its inversions, and one more turn of it; no notes; one note
pub inversions : inverted 0 (w 60 ∷ w 64 ∷ w 67 ∷ []) ∷ inverted 1 (w 60 ∷ w 64 ∷ w 67 ∷ []) ∷ inverted 2 (w 60 ∷ w 64 ∷ w 67 ∷ []) ∷ inverted 3 (w 60 ∷ w 64 ∷ w 67 ∷ []) ∷ inverted 4 (w 60 ∷ w 64 ∷ w 67 ∷ []) ∷ inverted 2 [] ∷ inverted 2 (w 1 ∷ []) ∷ []
    ≡ Ok (w 60 ∷ w 64 ∷ w 67 ∷ []) ∷ Ok (w 64 ∷ w 67 ∷ w 72 ∷ []) ∷ Ok (w 67 ∷ w 72 ∷ w 76 ∷ []) ∷ Ok (w 72 ∷ w 76 ∷ w 79 ∷ []) ∷ Ok (w 76 ∷ w 79 ∷ w 84 ∷ []) ∷ Ok [] ∷ Ok (w 25 ∷ []) ∷ []
unfolding V.out-Value denote.Hole.Carrier.out
inversions = refl

-- the first fault: two kinds, then what stands first
pub first_faults : chord_call (Nil ∷ Sym (codes "none") ∷ []) ∷ chord_call (Sym (codes "h") ∷ w 1 ∷ []) ∷ chord_call (Sym (codes "h") ∷ Sym (codes "none") ∷ []) ∷ chord_call (Sym (codes "c") ∷ Sym (codes "none") ∷ [])
    ∷ octs_call (Sym (codes "h") ∷ w 0 ∷ []) ∷ octs_call (w 60 ∷ w 0 ∷ []) ∷ octs_call (Sym (codes "h") ∷ part 1 1 ∷ []) ∷ []
    ≡ Err WrongKind ∷ Err WrongKind ∷ Err BadNote ∷ Err BadValue ∷ Err BadNote ∷ Err BadValue ∷ Err WrongKind ∷ []
unfolding chord_call octs_call chords V.out-Value denote.Hole.Carrier.out
first_faults = refl

-- the same with a degree: a wrong kind behind a number that is out of range, then the number, the note and the scale
pub first_faults_of_degrees : degree_call (w 0 ∷ Nil ∷ Sym (codes "none") ∷ []) ∷ degree_call (w 0 ∷ Sym (codes "h") ∷ Sym (codes "none") ∷ []) ∷ degree_call (w 1 ∷ Sym (codes "h") ∷ Sym (codes "none") ∷ []) ∷ degree_call (w 1 ∷ Sym (codes "c") ∷ Sym (codes "none") ∷ []) ∷ degree_call (w 65 ∷ w 60 ∷ Sym (codes "major") ∷ []) ∷ degree_call (w 1 ∷ w 60 ∷ []) ∷ []
    ≡ Err WrongKind ∷ Err BadValue ∷ Err BadNote ∷ Err BadValue ∷ Err BadValue ∷ Err WrongCount ∷ []
unfolding degree_call scales V.out-Value denote.Hole.Carrier.out
first_faults_of_degrees = refl

-- a word that is half of 2^32
abbrev halves : ℕ → ℕ
halves k = 2147483648

pub draws : rand_call [] halves ∷ rand_call (w 3 ∷ []) halves ∷ rand_i_call (w 5 ∷ []) halves ∷ rand_i_call (w 0 ∷ []) halves ∷ rrand_call (w 1 ∷ w 2 ∷ []) halves ∷ rrand_i_call (w 1 ∷ w 4 ∷ []) halves ∷ rrand_i_call (w 2 ∷ w 1 ∷ []) halves
    ∷ dice_call [] halves ∷ one_in_call (w 1 ∷ []) halves ∷ []
    ≡ drawing 1 (Ok (part 1 2)) ∷ drawing 1 (Ok (part 3 2)) ∷ drawing 1 (Ok (w 2)) ∷ undrawn (Err BadValue) ∷ drawing 1 (Ok (part 3 2)) ∷ drawing 1 (Ok (w 3)) ∷ undrawn (Err BadValue)
    ∷ drawing 1 (Ok (w 4)) ∷ drawing 1 (Ok (Truth true)) ∷ []
unfolding rand_call rand_i_call rrand_call rrand_i_call dice_call one_in_call unit_of below_of sum_of difference_of product_of over gcd fits V.out-Value denote.Hole.Carrier.out
draws = refl

pub choices : chosen (w 7 ∷ w 8 ∷ []) 2147483647 ∷ chosen (w 7 ∷ w 8 ∷ []) 2147483648 ∷ chosen (w 7 ∷ w 8 ∷ w 9 ∷ []) 4294967295 ∷ [] ≡ w 7 ∷ w 8 ∷ w 9 ∷ []
unfolding below_of
choices = refl
