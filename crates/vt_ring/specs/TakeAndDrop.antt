-- The calls `take` and `drop`. After the Sonic Pi tutorial, chapter 8.5; wrong numbers are the project's own.
use Rattle.std.specs.Prelude.{ℤ, List, take, drop, Result}
use Rattle.vt_value.specs.declared.fault.FaultKind.{FaultKind}
use Rattle.vt_value.specs.declared.value.Value.{Value}
use Rattle.vt_ring.specs.Answers.{and_then}
use Rattle.vt_ring.specs.Arguments.{count_from}
use Rattle.vt_ring.specs.Limits.{within_limits}

-- the first n items, or all where there are no more
abbrev pub take_of : List Value → ℤ → Result (List Value) FaultKind
take_of items n = and_then (count_from n) (λ count. within_limits (take count items))

-- all but the first n items, or none where there are no more
abbrev pub drop_of : List Value → ℤ → Result (List Value) FaultKind
drop_of items n = and_then (count_from n) (λ count. within_limits (drop count items))
