-- The calls that make rings. After the Sonic Pi tutorial, chapter 8; kinds and faults are the project's own.
use Rattle.std.specs.Prelude.{Bool, true, ◌&&◌, pos, List, [], ◌∷◌, codes, Option, Some, None, is_some, Result, Ok, Err}
use Rattle.vt_frac.specs.Fraction.{whole}
use Rattle.vt_value.specs.declared.fault.FaultKind.{FaultKind}
use Rattle.vt_value.specs.declared.fault.FaultKind.TheVariants.{WrongCount}
use Rattle.vt_value.specs.declared.value.Value.{Value}
use Rattle.vt_value.specs.Kinds.{ring_of, whole_of}
use Rattle.vt_ring.specs.Answers.{and_then}
use Rattle.vt_ring.specs.Building.{knit_of, bools_of, range_of, line_of, spread_of}
use Rattle.vt_ring.specs.Called.{as_ring}
use Rattle.vt_ring.specs.Limits.{within_limits}
use Rattle.vt_ring.specs.Signatures.{Options, option_named, number_argument, number_or, whole_or, two_or_three_of, two_numbers, two_wholes}

-- a single value: a ring is given as it is, and another value is the item of one
abbrev pub ring_of_one : Value → Option (List Value) → Result Value FaultKind
ring_of_one value (Some items) = Ok value
ring_of_one value None = as_ring (within_limits (value ∷ []))

-- `ring V..`
unfoldable pub ring_call : List Value → Result Value FaultKind
ring_call [] = as_ring (within_limits [])
ring_call (value ∷ []) = ring_of_one value (ring_of value)
ring_call (value ∷ next ∷ values) = as_ring (within_limits (value ∷ next ∷ values))

-- `knit V, n, V, n..`
unfoldable pub knit_call : List Value → Result Value FaultKind
knit_call args = as_ring (knit_of args)

-- `bools n..`
unfoldable pub bools_call : List Value → Result Value FaultKind
bools_call args = as_ring (bools_of args)

-- the step: the third number or the option, if one is given, and wrong_count if both are
abbrev pub one_step : Option Value → Option Value → Result (Option Value) FaultKind
one_step None option = Ok option
one_step (Some third) None = Ok (Some third)
one_step (Some third) (Some option) = Err WrongCount

-- a whole number, or not given
abbrev pub may_be_whole : Option Value → Bool
may_be_whole None = true
may_be_whole (Some value) = is_some (whole_of value)

-- `range N, N`, `range N, N, N`, option `step:`; the step is 1 if it is not given
unfoldable pub range_call : List Value → Options → Result Value FaultKind
range_call args options =
    and_then (two_or_three_of args) (λ (first, second, third).
    and_then (one_step third (option_named (codes "step") options)) (λ given.
    and_then (number_argument first) (λ a.
    and_then (number_argument second) (λ b.
    and_then (number_or (whole (pos 1)) given) (λ step.
    as_ring (range_of a b step (may_be_whole (Some first) && may_be_whole (Some second) && may_be_whole given)))))))

-- `line N, N`, option `steps:`, which is 4 if it is not given
unfoldable pub line_call : List Value → Options → Result Value FaultKind
line_call args options =
    and_then (two_numbers args) (λ (a, b).
    and_then (whole_or (pos 4) (option_named (codes "steps") options)) (λ steps.
    as_ring (line_of a b steps)))

-- `spread n, n`
unfoldable pub spread_call : List Value → Result Value FaultKind
spread_call args = and_then (two_wholes args) (λ (k, n). as_ring (spread_of k n))
