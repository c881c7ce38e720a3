-- The calls on numbers. The project's own, after Ruby.
use Rattle.std.specs.Prelude.{◌<◌, Bool, ◌%◌, ◌==◌, not, ℤ, pos, neg_ℤ, unsigned_abs, if◌then◌else◌, List, Result, Ok}
use Rattle.std.specs.Int.{int_div_euclid}
use Rattle.vt_frac.specs.Fraction.{Fraction}
use Rattle.vt_frac.specs.Arithmetic.{floor_of}
use Rattle.vt_value.specs.declared.arithmetic.ArithOp.TheVariants.{Add, Sub}
use Rattle.vt_value.specs.declared.comparison.OrderOp.TheVariants.{Lt, Gt}
use Rattle.vt_value.specs.declared.fault.FaultKind.{FaultKind}
use Rattle.vt_value.specs.declared.value.Value.{Value}
use Rattle.vt_value.specs.declared.value.Value.TheVariants.{Whole, Bool as Truth}
use Rattle.vt_value.specs.Arithmetic.{arith_of}
use Rattle.vt_value.specs.Comparison.{compare_of}
use Rattle.vt_ring.specs.Answers.{and_then}
use Rattle.vt_ring.specs.Exact.{IsLeastNotBelow, exact_sum}
use Rattle.vt_ring.specs.Signatures.{one_of, two_of, a_number, a_whole}

-- `min N, N`: the second where it is below the first, and else the first
unfoldable pub min_call : List Value → Result Value FaultKind
min_call args =
    and_then (two_of args) (λ (a, b).
    and_then (compare_of Lt b a) (λ below.
    Ok (if below then b else a)))

-- `max N, N`: the second where it is above the first, and else the first
unfoldable pub max_call : List Value → Result Value FaultKind
max_call args =
    and_then (two_of args) (λ (a, b).
    and_then (compare_of Gt b a) (λ above.
    Ok (if above then b else a)))

-- `abs N`: 0 - N where N is below 0, and else N
unfoldable pub abs_call : List Value → Result Value FaultKind
abs_call args =
    and_then (one_of args) (λ n.
    and_then (compare_of Lt n (Whole (pos 0))) (λ below.
    if below then arith_of Sub (Whole (pos 0)) n else Ok n))

-- `inc N`: N + 1
unfoldable pub inc_call : List Value → Result Value FaultKind
inc_call args = and_then (one_of args) (λ n. arith_of Add n (Whole (pos 1)))

-- `dec N`: N - 1
unfoldable pub dec_call : List Value → Result Value FaultKind
dec_call args = and_then (one_of args) (λ n. arith_of Sub n (Whole (pos 1)))

-- the least whole number not below the value: the greatest not above it, seen from the other side of 0
unfoldable pub ceiling_of : Fraction → ℤ
ceiling_of f = neg_ℤ (int_div_euclid (neg_ℤ f.numer) (pos f.denom))

-- It is the least whole number not below the value, of whatever sign that is.
abbrev pub CeilingIsLeast : Type 0
CeilingIsLeast = (f : Fraction) → 0 < f.denom → IsLeastNotBelow f (ceiling_of f)

abbrev pub half : Fraction
half = record { numer = pos 1; denom = 2 }

-- `floor N`
unfoldable pub floor_call : List Value → Result Value FaultKind
floor_call args = and_then (a_number args) (λ f. Ok (Whole (floor_of f)))

-- `ceil N`
unfoldable pub ceil_call : List Value → Result Value FaultKind
ceil_call args = and_then (a_number args) (λ f. Ok (Whole (ceiling_of f)))

-- `round N`: floor(N + 1/2)
unfoldable pub round_call : List Value → Result Value FaultKind
round_call args =
    and_then (a_number args) (λ f.
    and_then (exact_sum f half) (λ g.
    Ok (Whole (floor_of g))))

-- two times some whole number
abbrev pub is_even : ℤ → Bool
is_even n = unsigned_abs n % 2 == 0

-- `even n`
unfoldable pub even_call : List Value → Result Value FaultKind
even_call args = and_then (a_whole args) (λ n. Ok (Truth (is_even n)))

-- `odd n`
unfoldable pub odd_call : List Value → Result Value FaultKind
odd_call args = and_then (a_whole args) (λ n. Ok (Truth (not (is_even n))))
