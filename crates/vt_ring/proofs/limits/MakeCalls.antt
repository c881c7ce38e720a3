-- What the calls that make rings give is within the limits of the language.
use Rattle.std.specs.Prelude.{◌==◌, codes, flat_map, nat_le}
use Rattle.std.specs.List.{AllByRecursion}
use Rattle.std.specs.Result.{IfOk}
use Rattle.std.proofs.Common.{◌≡◌, ℕ, ◌≤◌, ◌%◌, ℤ, pos, Bool, true, false, ◌&&◌, List, [], ◌∷◌, length, map, Option, Some, None, Result, subst, sym, ◌∙◌}
use Rattle.std.proofs.lemmas.Bool.{leb-true}
use Rattle.std.proofs.lemmas.List.{length-map}
use Rattle.std.proofs.lemmas.Result.{IfOk-weaker}
use Rattle.std.proofs.lemmas.List.FromFn.{length-range_with_len, length-map-range_with_len}
use Rattle.vt_frac.specs.Fraction.{Fraction, IsFraction, whole}
use Rattle.vt_value.specs.declared.fault.FaultKind.{FaultKind}
use Rattle.vt_value.specs.declared.fault.FaultKind.TheVariants.{BadValue, TooLarge, WrongCount}
use Rattle.vt_value.specs.declared.value.Value.{Value}
use Rattle.vt_value.specs.Kinds.{ring_of}
use Rattle.vt_value.specs.Limits.{IsWithin, AreWithin}
use Rattle.vt_ring.specs.Answers.{all_of}
use Rattle.vt_ring.specs.Arguments.{between, count_from, whole_argument}
use Rattle.vt_ring.specs.Building.{bool_of_number, bools_of, bools_without_limit, copies_of, counted, in_pairs, knit_of, line_counted, line_number, line_of, number_value, range_counted, range_number, range_numbers, range_of, run_of, runs_of, spread_of, spread_value, steps_of}
use Rattle.vt_ring.specs.Exact.{exact_difference, exact_product, exact_quotient, exact_sum, is_negative, is_positive}
use Rattle.vt_ring.specs.Items.{indices}
use Rattle.vt_ring.specs.Limits.{within_limits}
use Rattle.vt_ring.specs.MakeCalls.{bools_call, knit_call, line_call, may_be_whole, one_step, range_call, ring_call, ring_of_one, spread_call}
use Rattle.vt_ring.specs.Signatures.{Options, number_argument, number_or, option_named, two_numbers, two_or_three_of, two_wholes, whole_or}
use Rattle.vt_ring.proofs.limits.Arguments.{between_gives}
use Rattle.vt_ring.proofs.Elements.{each_flat_map, each_made, each_map, each_replicate}
use Rattle.vt_ring.proofs.limits.Answers.{all_of_gives, and_then_any, and_then_gives, cond_gives}
use Rattle.vt_ring.proofs.limits.Fractions.{difference_gives, sum_gives}
use Rattle.vt_ring.proofs.limits.Values.{IsRingWithin, IsSingle, as_ring_gives, ring_of_singles, single_bool, single_part, single_whole, within_bool, within_limits_gives}

-- no fact of each element
nothing : {X : Type 0} (xs : List X) → AllByRecursion (λ (x : X). Unit {0}) xs
nothing [] = tt
nothing (x ∷ xs) = (tt, nothing xs)

-- `ring`

ring_of_one_gives : (value : Value) (found : Option (List Value)) → IsWithin value → IfOk (ring_of_one value found) IsWithin
ring_of_one_gives value (Some items) h = h
ring_of_one_gives value None h = as_ring_gives (within_limits (value ∷ [])) (within_limits_gives (value ∷ []) (h, tt))

pub ring_call_gives : (args : List Value) → AreWithin args → IfOk (ring_call args) IsWithin
unfolding ring_call
ring_call_gives [] h = as_ring_gives (within_limits []) (within_limits_gives [] tt)
ring_call_gives (value ∷ []) h = ring_of_one_gives value (ring_of value) h.0
ring_call_gives (value ∷ next ∷ values) h = as_ring_gives (within_limits (value ∷ next ∷ values)) (within_limits_gives (value ∷ next ∷ values) h)

-- `knit`

pairs_within : (args : List Value) → AreWithin args → AllByRecursion (λ (pair : Value × Value). IsWithin pair.0) (in_pairs args)
pairs_within [] h = tt
pairs_within (value ∷ []) h = tt
pairs_within (value ∷ count ∷ rest) h = (h.0, pairs_within rest h.1.1)

counted_gives : (pair : Value × Value) → IsWithin pair.0 → IfOk (counted pair) (λ made. IsWithin made.0)
counted_gives pair h = and_then_any (whole_argument pair.1) _ (λ made. IsWithin made.0) (λ n. h)

run_gives : (pair : Value × ℤ) → IsWithin pair.0 → IfOk (run_of pair) (λ made. IsWithin made.0)
run_gives pair h = and_then_any (count_from pair.1) _ (λ made. IsWithin made.0) (λ n. h)

runs_give : (args : List Value) → AreWithin args → IfOk (runs_of (in_pairs args)) (λ runs. AllByRecursion (λ (run : Value × ℕ). IsWithin run.0) runs)
runs_give args h =
    and_then_gives (all_of (map counted (in_pairs args))) _ _ _
    (all_of_gives counted (λ pair. IsWithin pair.0) (λ made. IsWithin made.0) counted_gives (in_pairs args) (pairs_within args h)) (λ numbered w.
    IfOk-weaker (all_of (map run_of numbered)) _ (λ runs. AllByRecursion (λ (run : Value × ℕ). IsWithin run.0) runs) (λ runs k. k.0)
    (all_of_gives run_of (λ pair. IsWithin pair.0) (λ made. IsWithin made.0) run_gives numbered w.0))

pub knit_gives : (args : List Value) → AreWithin args → IfOk (knit_call args) IsWithin
unfolding knit_call
knit_gives args h =
    as_ring_gives (knit_of args)
    (cond_gives (length args % 2 == 0) _ WrongCount IsRingWithin (λ e.
    and_then_gives (runs_of (in_pairs args)) _ _ IsRingWithin (runs_give args h) (λ runs w.
    within_limits_gives (flat_map copies_of runs) (each_flat_map (λ run. IsWithin run.0) IsWithin copies_of (λ run k. each_replicate IsWithin run.1 run.0 k) runs w))))

-- `bools`

pub bools_give : (args : List Value) → IfOk (bools_call args) IsWithin
unfolding bools_call
bools_give args =
    as_ring_gives (bools_of args)
    (and_then_gives (bools_without_limit args) within_limits AreWithin IsRingWithin
    (and_then_any (all_of (map whole_argument args)) _ AreWithin (λ numbers. each_made IsWithin bool_of_number (λ n. within_bool _) numbers))
    within_limits_gives)

-- `range`

range_number_gives : (a step : Fraction) (downwards : Bool) (i : ℕ) → IfOk (range_number a step downwards i) IsFraction
range_number_gives a step true i = and_then_any (exact_product (whole (pos i)) step) (exact_difference a) IsFraction (λ f. difference_gives a f)
range_number_gives a step false i = and_then_any (exact_product (whole (pos i)) step) (exact_sum a) IsFraction (λ f. sum_gives a f)

-- so many fractions, in order
series_gives : (f : ℕ → Result Fraction FaultKind) → ((i : ℕ) → IfOk (f i) IsFraction) → (count : ℕ) → IfOk (all_of (map f (indices count))) (λ numbers. AllByRecursion IsFraction numbers × (length numbers ≡ count))
series_gives f h count = subst (λ n. IfOk (all_of (map f (indices count))) (λ numbers. AllByRecursion IsFraction numbers × (length numbers ≡ n))) (length-range_with_len 0 count) (all_of_gives f (λ i. Unit {0}) IsFraction (λ i k. h i) (indices count) (nothing (indices count)))

single_number : (wholes : Bool) (f : Fraction) → IsFraction f → IsSingle (number_value wholes f)
single_number true f h = single_whole f.numer h.numer_fits
single_number false f h = single_part f h

numbers_within : (wholes : Bool) (numbers : List Fraction) (count : ℕ) → AllByRecursion IsFraction numbers → length numbers ≡ count → count ≤ 4096 → IsRingWithin (map (number_value wholes) numbers)
numbers_within wholes numbers count h e few =
    ring_of_singles (map (number_value wholes) numbers) (subst (λ n. n ≤ 4096) (sym (length-map numbers (number_value wholes) ∙ e)) few)
    (each_map IsFraction IsSingle (number_value wholes) (single_number wholes) numbers h)

range_counted_gives : (a way step : Fraction) (wholes : Bool) (count : ℕ) → IfOk (range_counted a way step wholes count) IsRingWithin
range_counted_gives a way step wholes count =
    and_then_gives (range_numbers a step (is_negative way) count) _ (λ numbers. IsRingWithin (map (number_value wholes) numbers)) IsRingWithin
    (cond_gives (nat_le count 4096) (all_of (map (range_number a step (is_negative way)) (indices count))) TooLarge _ (λ e.
    IfOk-weaker (all_of (map (range_number a step (is_negative way)) (indices count))) _ (λ numbers. IsRingWithin (map (number_value wholes) numbers))
    (λ numbers k. numbers_within wholes numbers count k.0 k.1 (leb-true count 4096 e)) (series_gives (range_number a step (is_negative way)) (range_number_gives a step (is_negative way)) count)))
    (λ numbers w. w)

range_of_gives : (a b step : Fraction) (wholes : Bool) → IfOk (range_of a b step wholes) IsRingWithin
range_of_gives a b step wholes =
    cond_gives (is_positive step) _ BadValue IsRingWithin (λ e.
    and_then_any (exact_difference b a) _ IsRingWithin (λ way.
    and_then_any (steps_of way step) (range_counted a way step wholes) IsRingWithin (range_counted_gives a way step wholes)))

pub range_gives : (args : List Value) (options : Options) → IfOk (range_call args options) IsWithin
unfolding range_call
range_gives args options =
    and_then_any (two_or_three_of args) _ IsWithin (λ all.
    and_then_any (one_step all.2 (option_named (codes "step") options)) _ IsWithin (λ given.
    and_then_any (number_argument all.0) _ IsWithin (λ a.
    and_then_any (number_argument all.1) _ IsWithin (λ b.
    and_then_any (number_or (whole (pos 1)) given) _ IsWithin (λ step.
    as_ring_gives (range_of a b step (may_be_whole (Some all.0) && may_be_whole (Some all.1) && may_be_whole given))
    (range_of_gives a b step (may_be_whole (Some all.0) && may_be_whole (Some all.1) && may_be_whole given)))))))

-- `line`

line_number_gives : (a way : Fraction) (steps i : ℕ) → IfOk (line_number a way steps i) IsFraction
line_number_gives a way steps i =
    and_then_any (exact_product (whole (pos i)) way) _ IsFraction (λ product.
    and_then_any (exact_quotient product (whole (pos steps))) (exact_sum a) IsFraction (λ f. sum_gives a f))

line_counted_gives : (a b : Fraction) (steps : ℕ) → steps ≤ 4096 → IfOk (line_counted a b steps) IsRingWithin
line_counted_gives a b steps few =
    and_then_any (exact_difference b a) _ IsRingWithin (λ way.
    and_then_gives (all_of (map (line_number a way steps) (indices steps))) _ _ IsRingWithin (series_gives (line_number a way steps) (line_number_gives a way steps) steps) (λ numbers w.
    numbers_within false numbers steps w.0 w.1 few))

pub line_gives : (args : List Value) (options : Options) → IfOk (line_call args options) IsWithin
unfolding line_call
line_gives args options =
    and_then_any (two_numbers args) _ IsWithin (λ both.
    and_then_any (whole_or (pos 4) (option_named (codes "steps") options)) _ IsWithin (λ steps.
    as_ring_gives (line_of both.0 both.1 steps)
    (and_then_gives (between 1 4096 steps) (line_counted both.0 both.1) _ IsRingWithin (between_gives 1 4096 steps) (λ count w.
    line_counted_gives both.0 both.1 count w.1))))

-- `spread`

spread_within : (k n : ℕ) → n ≤ 4096 → IsRingWithin (map (spread_value k n) (indices n))
spread_within k n few =
    ring_of_singles (map (spread_value k n) (indices n)) (subst (λ m. m ≤ 4096) (sym (length-map-range_with_len (spread_value k n) 0 n)) few)
    (each_made IsSingle (spread_value k n) (λ i. single_bool _) (indices n))

pub spread_gives : (args : List Value) → IfOk (spread_call args) IsWithin
unfolding spread_call
spread_gives args =
    and_then_any (two_wholes args) _ IsWithin (λ both.
    as_ring_gives (spread_of both.0 both.1)
    (and_then_gives (between 1 4096 both.1) _ _ IsRingWithin (between_gives 1 4096 both.1) (λ places w.
    and_then_any (between 0 places both.0) _ IsRingWithin (λ beats.
    spread_within beats places w.1))))
