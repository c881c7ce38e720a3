-- Lists of notes that grow. The project's own.
use Rattle.std.specs.Prelude.{◌≡◌, List, ◌++◌, Result, Ok, Err, IsOk}
use Rattle.vt_value.specs.declared.fault.FaultKind.{FaultKind}
use Rattle.vt_value.specs.declared.value.Value.{Value}
use Rattle.vt_ring.specs.Answers.{and_then}

-- notes that are there already, and others behind them
abbrev pub behind : List Value → Result (List Value) FaultKind → Result (List Value) FaultKind
behind made more = and_then more (λ notes. Ok (made ++ notes))

-- two answers are both there, or have one fault
pub record SameEnd (part all : Result (List Value) FaultKind) : Type 0 where
  pub there : IsOk part → IsOk all
  pub fault : (kind : FaultKind) → part ≡ Err kind → all ≡ Err kind
