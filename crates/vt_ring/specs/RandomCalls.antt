-- The calls that draw random words. `words k` is the k-th word from where the stream stands, from 0. All of this is the project's own.
use Rattle.std.specs.Prelude.{ℕ, ◌+◌, ◌-◌, ◌==◌, ◌&&◌, not, nat_lt, Bool, false, ℤ, pos, negsuc, ◌+ℤ◌, ◌-ℤ◌, List, length, map, slice_get, unwrap_or, Result, Ok, Err}
use Rattle.vt_frac.specs.Fraction.{Fraction}
use Rattle.vt_rand.specs.Draw.{unit_of, below_of}
use Rattle.vt_value.specs.declared.fault.FaultKind.{FaultKind}
use Rattle.vt_value.specs.declared.fault.FaultKind.TheVariants.{BadValue, EmptyRing}
use Rattle.vt_value.specs.declared.value.Value.{Value}
use Rattle.vt_value.specs.declared.value.Value.TheVariants.{Nil, Whole, Part, Bool as Truth}
use Rattle.vt_ring.specs.Answers.{and_then}
use Rattle.vt_ring.specs.Arguments.{between}
use Rattle.vt_ring.specs.Called.{Called, drawing, and_draw, demand, as_ring}
use Rattle.vt_ring.specs.Exact.{exact_sum, exact_difference, exact_product}
use Rattle.vt_ring.specs.Items.{indices}
use Rattle.vt_ring.specs.Limits.{within_limits}
use Rattle.vt_ring.specs.Shuffling.{shuffle_of}
use Rattle.vt_ring.specs.Signatures.{a_ring, a_whole, a_ring_and_perhaps_a_whole, perhaps_a_whole, perhaps_a_number, two_numbers, two_wholes}

-- a number below which can be drawn: from 1 to 2^32 - 1
abbrev pub bound_in : ℤ → Result ℕ FaultKind
bound_in n = between 1 4294967295 n

-- how many whole numbers there are from a to b, where there is one and there are fewer than 2^32
abbrev pub numbers_between : ℤ → Result ℕ FaultKind
numbers_between (pos d) = demand (nat_lt d 4294967295) BadValue (Ok (d + 1))
numbers_between (negsuc d) = Err BadValue

-- a fraction as a value
abbrev pub as_part : Result Fraction FaultKind → Result Value FaultKind
as_part answer = and_then answer (λ f. Ok (Part f))

-- `rand`, `rand N`: unit * N
unfoldable pub rand_call : List Value → (ℕ → ℕ) → Called
rand_call args words =
    and_draw (perhaps_a_number args) (λ f.
    drawing 1 (as_part (exact_product (unit_of (words 0)) f)))

-- `rand_i n`: below n
unfoldable pub rand_i_call : List Value → (ℕ → ℕ) → Called
rand_i_call args words =
    and_draw (and_then (a_whole args) bound_in) (λ n.
    drawing 1 (Ok (Whole (pos (below_of (words 0) n)))))

-- a + (b - a) * unit, one operation after the other
abbrev pub part_of_the_way : Fraction → Fraction → Fraction → Result Fraction FaultKind
part_of_the_way a b unit =
    and_then (exact_difference b a) (λ way.
    and_then (exact_product way unit) (λ part.
    exact_sum a part))

-- `rrand N, N`: a + (b - a) * unit
unfoldable pub rrand_call : List Value → (ℕ → ℕ) → Called
rrand_call args words =
    and_draw (two_numbers args) (λ (a, b).
    drawing 1 (as_part (part_of_the_way a b (unit_of (words 0)))))

-- `rrand_i n, n`: a + below(b - a + 1), where a is at most b and b - a below 2^32 - 1
unfoldable pub rrand_i_call : List Value → (ℕ → ℕ) → Called
rrand_i_call args words =
    and_draw (two_wholes args) (λ (a, b).
    and_draw (numbers_between (b -ℤ a)) (λ n.
    drawing 1 (Ok (Whole (a +ℤ pos (below_of (words 0) n))))))

-- `dice`, `dice n`, where n is 6 if it is not given: 1 + below n
unfoldable pub dice_call : List Value → (ℕ → ℕ) → Called
dice_call args words =
    and_draw (and_then (perhaps_a_whole (pos 6) args) bound_in) (λ n.
    drawing 1 (Ok (Whole (pos (1 + below_of (words 0) n)))))

-- `one_in n`: below n is 0
unfoldable pub one_in_call : List Value → (ℕ → ℕ) → Called
one_in_call args words =
    and_draw (and_then (a_whole args) bound_in) (λ n.
    drawing 1 (Ok (Truth (below_of (words 0) n == 0))))

-- the item that a word chooses: the one at below(length)
abbrev pub chosen : List Value → ℕ → Value
chosen items word = unwrap_or (slice_get items (below_of word (length items))) Nil

-- `choose r`
unfoldable pub choose_call : List Value → (ℕ → ℕ) → Called
choose_call args words =
    and_draw (a_ring args) (λ items.
    and_draw (demand (nat_lt 0 (length items)) EmptyRing (Ok items)) (λ items.
    drawing 1 (Ok (chosen items (words 0)))))

-- n items, each chosen by a word of its own
abbrev pub choices : List Value → (ℕ → ℕ) → ℕ → List Value
choices items words n = map (λ k. chosen items (words k)) (indices n)

-- above 0
abbrev pub is_above_zero : ℤ → Bool
is_above_zero (pos n) = nat_lt 0 n
is_above_zero (negsuc n) = false

-- `pick r`, `pick r, n`, where n is 1 if it is not given, and from 0 to 4,096: n choices
unfoldable pub pick_call : List Value → (ℕ → ℕ) → Called
pick_call args words =
    and_draw (a_ring_and_perhaps_a_whole args) (λ (items, number).
    and_draw (demand (not (length items == 0 && is_above_zero number)) EmptyRing (between 0 4096 number)) (λ n.
    drawing n (as_ring (within_limits (choices items words n)))))

-- `shuffle r`: one word for each item but one
unfoldable pub shuffle_call : List Value → (ℕ → ℕ) → Called
shuffle_call args words =
    and_draw (a_ring args) (λ items.
    drawing (length items - 1) (as_ring (shuffle_of items (map words (indices (length items - 1))))))
