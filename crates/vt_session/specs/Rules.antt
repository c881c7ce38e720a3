-- What may stand behind what, and the first line that may not.
use Rattle.std.specs.Prelude.{◌≡◌, ℕ, ◌+◌, ⊤, Bool, true, false, IsTrue, List, [], ◌∷◌, ◌++◌, length, All, filter, Option, Some, None}
use Rattle.std.specs.List.{filter_map, last_or, list_all}
use Rattle.std.specs.Ordering.{is_lt}
use Rattle.vt_frac.specs.Fraction.{Fraction}
use Rattle.vt_frac.specs.Order.{value_order}
use Rattle.vt_lex.specs.Bytes.{is_space}
use Rattle.vt_session.specs.Directives.{Line, PlainLine, VersionLine, AtLine, CueLine, SetLine, StopLine, HasForm}

-- the first line is `%session 2`
abbrev pub is_version_2 : List Line → Bool
is_version_2 (VersionLine ∷ lines) = true
is_version_2 _ = false

abbrev pub is_directive : Line → Bool
is_directive (PlainLine bytes) = false
is_directive _ = true

abbrev pub is_input : Line → Bool
is_input (CueLine time path values) = true
is_input (SetLine time path value) = true
is_input (StopLine time name) = true
is_input _ = false

-- the time of a directive
abbrev pub time_in : Line → Option Fraction
time_in (AtLine time) = Some time
time_in (CueLine time path values) = Some time
time_in (SetLine time path value) = Some time
time_in (StopLine time name) = Some time
time_in _ = None

abbrev pub is_some_input : Option Line → Bool
is_some_input None = false
is_some_input (Some line) = is_input line

-- the last directive is an input
abbrev pub is_behind_input : List Line → Bool
is_behind_input lines = is_some_input (last_or None (filter is_directive lines))

-- `%session 2` stands on line 1 and nowhere else; `%set` and `%stop` stand in version 2 alone
abbrev pub KeepsVersion : List Line → Line → Type 0
KeepsVersion before VersionLine = before ≡ []
KeepsVersion before (SetLine time path value) = is_version_2 before ≡ true
KeepsVersion before (StopLine time name) = is_version_2 before ≡ true
KeepsVersion before _ = ⊤

-- between an input and the next directive, or the end, only blank lines stand
abbrev pub KeepsInputs : List Line → Line → Type 0
KeepsInputs before (PlainLine bytes) = is_behind_input before ≡ true → IsTrue (list_all is_space bytes)
KeepsInputs before _ = ⊤

-- the time of a directive is not below that of an earlier one
abbrev pub KeepsTimes : List Line → Line → Type 0
KeepsTimes before line = (time : Fraction) → time_in line ≡ Some time → All (λ earlier. is_lt (value_order time earlier) ≡ false) (filter_map time_in before)

-- behind the lines before it, this line keeps all rules, and it is what is said of it
pub record Stands (before : List Line) (line : List ℕ) (what : Line) : Type 0 where
  pub form : HasForm what line
  pub version : KeepsVersion before what
  pub inputs : KeepsInputs before what
  pub times : KeepsTimes before what

-- behind the lines before them, these lines are what is said of them, in order
abbrev pub Follow : List Line → List (List ℕ) → List Line → Type 0
Follow before [] [] = ⊤
Follow before [] (what ∷ rest) = ⊥
Follow before (line ∷ lines) [] = ⊥
Follow before (line ∷ lines) (what ∷ rest) = Stands before line what × Follow (before ++ what ∷ []) lines rest

-- the lines keep all rules, and are this
abbrev pub AreRead : List (List ℕ) → List Line → Type 0
AreRead lines what = Follow [] lines what

-- the line of this number, from 1, keeps not all rules, whatever it is said to be, and all lines before it do
pub record FirstBadLine (lines : List (List ℕ)) (number : ℕ) : Type 0 where
  pub front : List (List ℕ)
  pub bad : List ℕ
  pub rest : List (List ℕ)
  pub whole : lines ≡ front ++ bad ∷ rest
  pub place : number ≡ length front + 1
  pub before : List Line
  pub good : AreRead front before
  pub breaks : (what : Line) → Stands before bad what → ⊥
