-- Numbers that are moved by octaves. The project's own.
use Rattle.std.specs.Prelude.{ℕ, ◌+◌, List, [], ◌∷◌, ◌++◌, map, cond, is_some, Result, Ok, Err}
use Rattle.vt_value.specs.declared.fault.FaultKind.{FaultKind}
use Rattle.vt_value.specs.declared.fault.FaultKind.TheVariants.{WrongKind}
use Rattle.vt_value.specs.declared.value.Value.{Value}
use Rattle.vt_value.specs.Kinds.{number_of}
use Rattle.vt_ring.specs.Answers.{and_then, all_of}
use Rattle.vt_ring.specs.NoteCalls.{climbed, times}

-- a number as it is, or wrong_kind
abbrev pub numeric : Value → Result Value FaultKind
numeric value = cond (is_some (number_of value)) (Ok value) (Err WrongKind)

-- a number so many octaves higher
abbrev pub octaves_up : ℕ → Value → Result Value FaultKind
octaves_up n value = and_then (numeric value) (λ note. climbed note (times n (12 ∷ [])))

-- each of the numbers so many octaves higher
abbrev pub all_up : ℕ → List Value → Result (List Value) FaultKind
all_up n values = all_of (map (octaves_up n) values)

-- one list, and the other behind it
abbrev pub joined : Result (List Value) FaultKind → Result (List Value) FaultKind → Result (List Value) FaultKind
joined front back = and_then front (λ xs. and_then back (λ ys. Ok (xs ++ ys)))

-- the numbers that stay, so many octaves higher, and behind them those that move, which are one octave higher still
abbrev pub moved_behind : ℕ → List Value → List Value → Result (List Value) FaultKind
moved_behind n moving staying = joined (all_up n staying) (all_up (n + 1) moving)
