-- The calls `stretch` and `repeat`. After the Sonic Pi tutorial, chapter 8.5; wrong numbers and limits are the project's own.
use Rattle.std.specs.Prelude.{ℕ, ℤ, List, replicate, flat_map, Result}
use Rattle.vt_value.specs.declared.fault.FaultKind.{FaultKind}
use Rattle.vt_value.specs.declared.value.Value.{Value}
use Rattle.vt_ring.specs.Answers.{and_then}
use Rattle.vt_ring.specs.Arguments.{count_from}
use Rattle.vt_ring.specs.Limits.{within_limits}

-- each item n times
abbrev pub stretched : ℕ → List Value → List Value
stretched n items = flat_map (replicate n) items

abbrev pub stretch_of : List Value → ℤ → Result (List Value) FaultKind
stretch_of items n = and_then (count_from n) (λ times. within_limits (stretched times items))

-- the whole list n times
abbrev pub repeated : ℕ → List Value → List Value
repeated n items = flat_map (λ copy. copy) (replicate n items)

abbrev pub repeat_of : List Value → ℤ → Result (List Value) FaultKind
repeat_of items n = and_then (count_from n) (λ times. within_limits (repeated times items))
