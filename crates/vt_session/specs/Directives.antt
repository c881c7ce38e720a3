-- What a line is by its own bytes.
use Rattle.std.specs.Prelude.{◌≡◌, ℕ, Bool, false, ◌==◌, IsTrue, List, [], ◌∷◌, Some, codes, map}
use Rattle.vt_frac.specs.Fraction.{Fraction}
use Rattle.vt_frac.specs.Names.{begins, is_symbol_name}
use Rattle.vt_path.specs.Path.{IsPath, path_text}
use Rattle.vt_value.specs.declared.value.Value.{Value}
use Rattle.vt_value.specs.Arithmetic.{are_within}
use Rattle.vt_session.specs.Given.{given_of}
use Rattle.vt_session.specs.Times.{time_of}
use Rattle.vt_session.specs.Words.{IsDirective}

-- what a line is
pub data Line : Type 0 where
  -- no directive: a line of a text, or a blank one behind an input, with its newline
  PlainLine : List ℕ → Line
  -- %session 2
  VersionLine : Line
  -- %at TIME: a text begins
  AtLine : Fraction → Line
  -- %cue TIME PATH VALUE VALUE
  CueLine : Fraction → List (List ℕ) → List Value → Line
  -- %set TIME PATH VALUE
  SetLine : Fraction → List (List ℕ) → Value → Line
  -- %stop TIME :NAME
  StopLine : Fraction → List ℕ → Line

abbrev pub is_percent : ℕ → Bool
is_percent byte = byte == 37

-- a line that does not begin with `%`
pub record IsPlainLine (bytes line : List ℕ) : Type 0 where
  pub same : bytes ≡ line
  pub plain : begins is_percent line ≡ false

-- a text begins at this time
pub record IsAtLine (time : Fraction) (line : List ℕ) : Type 0 where
  pub when : List ℕ
  pub directive : IsDirective (codes "%at") (when ∷ []) line
  pub spelled : time_of when ≡ Some time

-- a cue, with the ring of its values, which is within the limits of the language
pub record IsCueLine (time : Fraction) (path : List (List ℕ)) (values : List Value) (line : List ℕ) : Type 0 where
  pub when : List ℕ
  pub given : List (List ℕ)
  pub directive : IsDirective (codes "%cue") (when ∷ path_text path ∷ given) line
  pub spelled : time_of when ≡ Some time
  pub path_form : IsPath path
  pub each : map given_of given ≡ map Some values
  pub within : IsTrue (are_within values)

-- a set of one value
pub record IsSetLine (time : Fraction) (path : List (List ℕ)) (value : Value) (line : List ℕ) : Type 0 where
  pub when : List ℕ
  pub given : List ℕ
  pub directive : IsDirective (codes "%set") (when ∷ path_text path ∷ given ∷ []) line
  pub spelled : time_of when ≡ Some time
  pub path_form : IsPath path
  pub one : given_of given ≡ Some value

-- a stop of the live loop of this name, which is written as a symbol
pub record IsStopLine (time : Fraction) (name line : List ℕ) : Type 0 where
  pub when : List ℕ
  pub directive : IsDirective (codes "%stop") (when ∷ (58 ∷ name) ∷ []) line
  pub spelled : time_of when ≡ Some time
  pub symbol : IsTrue (is_symbol_name name)

-- the line has the form of what it is
abbrev pub HasForm : Line → List ℕ → Type 0
HasForm (PlainLine bytes) line = IsPlainLine bytes line
HasForm VersionLine line = IsDirective (codes "%session") (codes "2" ∷ []) line
HasForm (AtLine time) line = IsAtLine time line
HasForm (CueLine time path values) line = IsCueLine time path values line
HasForm (SetLine time path value) line = IsSetLine time path value line
HasForm (StopLine time name) line = IsStopLine time name line
