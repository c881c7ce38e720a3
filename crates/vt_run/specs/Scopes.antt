-- Locals, and how deep a part of a text stands. That an assignment in a block changes the local outside it is after Ruby; the rest is own.
use Rattle.std.specs.Prelude.{ℕ, zero, suc, ◌+◌, List, [], ◌∷◌, ◌++◌, Bool, true, false, cond, nat_lt, length, take, bytes_eq, Option, Some, None, unwrap_or}
use Rattle.vt_value.specs.declared.fault.FaultKind.TheVariants.{TooDeep}
use Rattle.vt_value.specs.declared.value.Value.{Value}
use Rattle.vt_value.specs.declared.value.Value.TheVariants.{Nil}
use Rattle.vt_event.specs.Pairs.{Pairs}
use Rattle.vt_run.specs.declared.state.State.{State}
use Rattle.vt_run.specs.Actions.{fails}
use Rattle.vt_run.specs.Environment.{Env, Meaning}
use Rattle.vt_run.specs.Evaluation.{Ran, Spot, gives, after}

abbrev pub or_else : Option Value → Option Value → Option Value
or_else None other = other
or_else (Some value) other = Some value

-- the value of the last local of this name
abbrev pub lookup : List ℕ → Pairs → Option Value
lookup name [] = None
lookup name (local ∷ locals) = or_else (lookup name locals) (cond (bytes_eq local.0 name) (Some local.1) None)

abbrev pub put_before : List ℕ × Value → Bool → List ℕ → Value → Pairs → Option Pairs → Option Pairs
put_before local here name value locals (Some changed) = Some (local ∷ changed)
put_before local true name value locals None = Some ((name, value) ∷ locals)
put_before local false name value locals None = None

-- the locals with the last one of this name changed, if there is one
abbrev pub changed : List ℕ → Value → Pairs → Option Pairs
changed name value [] = None
changed name value (local ∷ locals) = put_before local (bytes_eq local.0 name) name value locals (changed name value locals)

-- an assignment changes the last local of its name, or adds one
abbrev pub assigned : List ℕ → Value → Pairs → Pairs
assigned name value locals = unwrap_or (changed name value locals) (locals ++ (name, value) ∷ [])

-- the parameters of a block with their values in order; a parameter without a value is nil
abbrev pub params_with : List (List ℕ) → List Value → Pairs
params_with [] values = []
params_with (name ∷ names) [] = (name, Nil) ∷ params_with names []
params_with (name ∷ names) (value ∷ values) = (name, value) ∷ params_with names values

abbrev pub with_locals : Pairs → State → State
with_locals locals st = record st { locals = locals }

-- one deeper, unless that is too deep: at most 256
abbrev pub enters : Env → Spot → State → (Spot → Ran) → Ran
enters env at st go = cond (nat_lt at.depth 256) (go (record at { depth = at.depth + 1 })) (fails TooDeep env at st)

-- so many pairs of parentheses round a part, each one deeper
abbrev pub inside_pairs : ℕ → Meaning → Meaning
inside_pairs zero part env at st = part env at st
inside_pairs (suc n) part env at st = enters env at st (λ deep. inside_pairs n part env deep st)

-- where parentheses stand, one deeper
abbrev pub pair_if : Bool → Env → Spot → State → (Spot → Ran) → Ran
pair_if true env at st go = enters env at st go
pair_if false env at st go = go at

-- parts one after another: the value is that of the last, or else the value before them
abbrev pub row : List Meaning → Value → Meaning
row [] value env at st = gives value st
row (part ∷ parts) value env at st = after (part env at st) (λ value st. row parts value env at st)

-- the statements of a branch are one deeper, with the same locals
abbrev pub branch : List Meaning → Meaning
branch stmts env at st = enters env at st (λ deep. row stmts Nil env deep st)

-- a block of the text being evaluated: its number, its parameters, and what its statements do
pub record BlockMeaning : Type 0 where
  pub number : ℕ
  pub params : List (List ℕ)
  pub run : Meaning

-- A block is run with these values for its parameters: it is entered, and they stand at the end of the locals; when it is left, the locals are cut to their length at entry.
abbrev pub runs : BlockMeaning → List Value → Env → Spot → State → Ran
runs block values env at st =
    enters env at st (λ deep.
    after (block.run env deep (with_locals (st.locals ++ params_with block.params values) st)) (λ value end.
    gives value (with_locals (take (length st.locals) end.locals) end)))
