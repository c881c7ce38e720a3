-- The calls `knit`, `bools`, `range`, `line` and `spread`. After the Sonic Pi tutorial, chapters 8.4 and 8.5, and for `spread` after Bjorklund's rhythms; exact fractions, faults and limits are the project's own.
use Rattle.std.specs.Prelude.{ℕ, ◌*◌, ◌%◌, ℤ, pos, List, [], ◌∷◌, length, map, replicate, flat_map, Bool, true, false, not, cond, ◌==◌, nat_lt, nat_le, Result, Ok, Err}
use Rattle.std.specs.Ordering.{int_eq}
use Rattle.vt_frac.specs.Fraction.{Fraction, whole}
use Rattle.vt_value.specs.declared.fault.FaultKind.{FaultKind}
use Rattle.vt_value.specs.declared.fault.FaultKind.TheVariants.{WrongCount, BadValue, TooLarge}
use Rattle.vt_value.specs.declared.value.Value.{Value}
use Rattle.vt_value.specs.declared.value.Value.TheVariants.{Bool as Truth, Whole, Part}
use Rattle.vt_ring.specs.Answers.{and_then, all_of}
use Rattle.vt_ring.specs.Arguments.{whole_argument, count_from, between}
use Rattle.vt_ring.specs.Exact.{exact_sum, exact_difference, exact_product, exact_quotient, absolute_of, is_positive, is_negative, rounded_up}
use Rattle.vt_ring.specs.Items.{indices}
use Rattle.vt_ring.specs.Limits.{within_limits}

-- the arguments two by two
abbrev pub in_pairs : List Value → List (Value × Value)
in_pairs [] = []
in_pairs (value ∷ []) = []
in_pairs (value ∷ count ∷ rest) = (value, count) ∷ in_pairs rest

-- the second of a pair is a whole number, or wrong_kind
abbrev pub counted : Value × Value → Result (Value × ℤ) FaultKind
counted (value, count) = and_then (whole_argument count) (λ n. Ok (value, n))

-- the second of a pair is at least 0, or bad_value
abbrev pub run_of : Value × ℤ → Result (Value × ℕ) FaultKind
run_of (value, n) = and_then (count_from n) (λ count. Ok (value, count))

-- a value, so many times
abbrev pub copies_of : Value × ℕ → List Value
copies_of (value, count) = replicate count value

-- values with their counts: the kinds of all of them are looked at before a count's range
abbrev pub runs_of : List (Value × Value) → Result (List (Value × ℕ)) FaultKind
runs_of pairs = and_then (all_of (map counted pairs)) (λ numbered. all_of (map run_of numbered))

-- The arguments are values, each with a count behind it: each value so many times, in order. An odd number of arguments is wrong_count.
abbrev pub knit_of : List Value → Result (List Value) FaultKind
knit_of arguments =
    cond (length arguments % 2 == 0)
    (and_then (runs_of (in_pairs arguments)) (λ runs. within_limits (flat_map copies_of runs)))
    (Err WrongCount)

-- true where the number is not 0
abbrev pub bool_of_number : ℤ → Value
bool_of_number n = Truth (not (int_eq n (pos 0)))

-- a truth for each number
abbrev pub bools_without_limit : List Value → Result (List Value) FaultKind
bools_without_limit arguments = and_then (all_of (map whole_argument arguments)) (λ numbers. Ok (map bool_of_number numbers))

abbrev pub bools_of : List Value → Result (List Value) FaultKind
bools_of arguments = and_then (bools_without_limit arguments) within_limits

-- a number as a value: a whole number, where it is to be one, or else the fraction
abbrev pub number_value : Bool → Fraction → Value
number_value true f = Whole f.numer
number_value false f = Part f

-- the i-th number of a range, from a by this step upwards or downwards
abbrev pub range_number : Fraction → Fraction → Bool → ℕ → Result Fraction FaultKind
range_number a step true i = and_then (exact_product (whole (pos i)) step) (exact_difference a)
range_number a step false i = and_then (exact_product (whole (pos i)) step) (exact_sum a)

-- so many numbers of a range, or too_large where they are more than 4,096, before a number is computed
abbrev pub range_numbers : Fraction → Fraction → Bool → ℕ → Result (List Fraction) FaultKind
range_numbers a step downwards count =
    cond (nat_le count 4096) (all_of (map (range_number a step downwards) (indices count))) (Err TooLarge)

-- how many steps it is, by the way and the step, rounded up
abbrev pub steps_of : Fraction → Fraction → Result ℕ FaultKind
steps_of way step = and_then (exact_quotient (absolute_of way) step) (λ steps. Ok (rounded_up steps))

-- so many numbers of a range as values, over a way that is below 0 where it goes downwards
abbrev pub range_counted : Fraction → Fraction → Fraction → Bool → ℕ → Result (List Value) FaultKind
range_counted a way step wholes count =
    and_then (range_numbers a step (is_negative way) count) (λ numbers. Ok (map (number_value wholes) numbers))

-- the range over a way
abbrev pub range_by : Fraction → Fraction → Fraction → Bool → Result (List Value) FaultKind
range_by a way step wholes = and_then (steps_of way step) (range_counted a way step wholes)

-- The numbers from a towards b, without b, by a step above 0: upwards, or downwards where b is below a. With d the size of b - a they are as many as d / step, rounded up.
abbrev pub range_of : Fraction → Fraction → Fraction → Bool → Result (List Value) FaultKind
range_of a b step wholes =
    cond (is_positive step)
    (and_then (exact_difference b a) (λ way. range_by a way step wholes))
    (Err BadValue)

-- a + i * way / steps
abbrev pub line_number : Fraction → Fraction → ℕ → ℕ → Result Fraction FaultKind
line_number a way steps i =
    and_then (exact_product (whole (pos i)) way) (λ product.
    and_then (exact_quotient product (whole (pos steps))) (exact_sum a))

-- a + i * (b - a) / steps for each i below steps
abbrev pub line_counted : Fraction → Fraction → ℕ → Result (List Value) FaultKind
line_counted a b steps =
    and_then (exact_difference b a) (λ way.
    and_then (all_of (map (line_number a way steps) (indices steps))) (λ numbers.
    Ok (map (number_value false) numbers)))

-- as fractions, for 1 to 4,096 steps
abbrev pub line_of : Fraction → Fraction → ℤ → Result (List Value) FaultKind
line_of a b steps = and_then (between 1 4096 steps) (line_counted a b)

-- k truths among n as evenly as they go: item i is true where (i * k) mod n is below k
abbrev pub spread_value : ℕ → ℕ → ℕ → Value
spread_value k n i = Truth (nat_lt (i * k % n) k)

-- for n from 1 to 4,096 and k from 0 to n
abbrev pub spread_of : ℤ → ℤ → Result (List Value) FaultKind
spread_of k n = and_then (between 1 4096 n) (λ places. and_then (between 0 places k) (λ beats. Ok (map (spread_value beats places) (indices places))))
