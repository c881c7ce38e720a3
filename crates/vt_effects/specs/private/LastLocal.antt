-- The last local of a name, and the first of some values. Only clauses of private functions cite this.
use Rattle.std.specs.Prelude.{◌≡◌, ℕ, ◌<◌, List, [], ◌∷◌, length, set, Some, None}
use Rattle.vt_value.specs.declared.value.Value.{Value}
use Rattle.vt_value.specs.declared.value.Value.TheVariants.{Nil}
use Rattle.vt_event.specs.Pairs.{Pairs}
use Rattle.vt_run.specs.Scopes.{changed}

-- no local has the name
abbrev pub IsUnnamed : List ℕ → Pairs → Type 0
IsUnnamed name locals = (value : Value) → changed name value locals ≡ None

-- the local at this place is the one that is changed
pub record IsLastNamed (name : List ℕ) (locals : Pairs) (at : ℕ) : Type 0 where
  pub within : at < length locals
  pub changes : (value : Value) → changed name value locals ≡ Some (set locals at (name, value))

abbrev pub first_or_nil : List Value → Value
first_or_nil [] = Nil
first_or_nil (value ∷ values) = value
