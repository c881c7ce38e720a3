-- Where a reader stands between two lines.
use Rattle.std.specs.Prelude.{◌≡◌, ⊤, ℕ, ◌+◌, ◌≤◌, ◌≤ℤ◌, pos, Bool, true, false, not, is_some, List, [], ◌∷◌, ◌++◌, length, All, Option, Some, None, Result, Ok, Err}
use Rattle.std.specs.List.{concat, filter_map}
use Rattle.std.specs.Option.{option_map}
use Rattle.std.specs.Ordering.{is_lt}
use Rattle.vt_event.specs.Event.{EventView}
use Rattle.vt_frac.specs.Fraction.{Fraction, IsFraction}
use Rattle.vt_frac.specs.Order.{value_order}
use Rattle.vt_session.specs.declared.directive.Deed.{Deed}
use Rattle.vt_session.specs.declared.directive.Deed.TheVariants.{Cue, Set, Stop}
use Rattle.vt_session.specs.declared.fault.SessionFault.{SessionFault}
use Rattle.vt_session.specs.declared.fault.SessionFault.TheVariants.{BadSession, NoMemory}
use Rattle.vt_session.specs.declared.reader.OpenText.{OpenText}
use Rattle.vt_session.specs.declared.reader.Reader.{Reader}
use Rattle.vt_session.specs.declared.text_part.TextPart.{TextPart}
use Rattle.vt_session.specs.Directives.{Line}
use Rattle.vt_session.specs.Rules.{AreRead, KeepsVersion, KeepsInputs, KeepsTimes, Stands, is_behind_input, is_version_2, time_in}
use Rattle.vt_session.specs.Sessions.{first_text, later_texts, inputs_from, text_before_directive}

-- a text of which some bytes are read
pub record OpenView : Type 0 where
  pub time : Fraction
  pub first_line : ℕ
  pub bytes : List ℕ

-- so many lines are read, of a session of version 2 or not, the last directive at this time; with the texts that are closed, the one that is open, and the inputs
pub record Standing : Type 0 where
  pub number : ℕ
  pub version_2 : Bool
  pub last : Fraction
  pub texts : List TextPart
  pub open_text : Option OpenView
  pub inputs : List EventView

abbrev pub open_of : OpenText → OpenView
open_of text = record { time = text.time; first_line = text.first_line; bytes = text.bytes.items }

abbrev pub standing_of : Reader → Standing
standing_of reader = record {
  number = reader.number;
  version_2 = reader.version_2;
  last = reader.last;
  texts = reader.texts.items;
  open_text = option_map open_of reader.open_text;
  inputs = reader.inputs.items;
}

-- the text that is open, with these bytes more
abbrev pub closed_with : OpenView → List ℕ → TextPart
closed_with open_text more = record { time = open_text.time; first_line = open_text.first_line; text = open_text.bytes ++ more }

-- the open text, if there is one, with this line more
abbrev pub with_line : Option OpenView → List ℕ → Option OpenView
with_line None line = None
with_line (Some open_text) line = Some (record { time = open_text.time; first_line = open_text.first_line; bytes = open_text.bytes ++ line })

-- the open text as it ends before these lines
abbrev pub open_texts : Option OpenView → List Line → List TextPart
open_texts None rest = []
open_texts (Some open_text) rest = closed_with open_text (text_before_directive rest) ∷ []

-- the texts of lines of which none is read, or of those that follow so many
abbrev pub texts_from : List Line → Standing → List Line → List TextPart
texts_from [] s rest = first_text rest ∷ later_texts 1 rest
texts_from (x ∷ what) s rest = s.texts ++ (open_texts s.open_text rest ++ later_texts (s.number + 1) rest)

-- nothing is read
pub record IsStart (s : Standing) : Type 0 where
  pub texts : s.texts ≡ []
  pub open_text : s.open_text ≡ Some (record { time = record { numer = pos 0; denom = 1 }; first_line = 1; bytes = [] })

-- where nothing is read, the reader stands at the start
abbrev pub StartsSo : List Line → Standing → Type 0
StartsSo [] s = IsStart s
StartsSo (x ∷ what) s = ⊤

-- a time of a directive
pub record IsTime (time : Fraction) : Type 0 where
  pub fraction : IsFraction time
  pub start : pos 0 ≤ℤ time.numer

-- a time may follow these lines exactly where it is not below the last one
pub record MayFollow (last time : Fraction) (what : List Line) : Type 0 where
  pub all : is_lt (value_order time last) ≡ false → All (λ earlier. is_lt (value_order time earlier) ≡ false) (filter_map time_in what)
  pub only : All (λ earlier. is_lt (value_order time earlier) ≡ false) (filter_map time_in what) → is_lt (value_order time last) ≡ false

-- the reader has read these lines
pub record Holds (what : List Line) (s : Standing) : Type 0 where
  pub number : s.number ≡ length what
  pub version : s.version_2 ≡ is_version_2 what
  pub behind : is_behind_input what ≡ not (is_some s.open_text)
  pub last : IsTime s.last
  pub times : (time : Fraction) → IsTime time → MayFollow s.last time what
  pub start : StartsSo what s
  pub texts : (rest : List Line) → first_text (what ++ rest) ∷ later_texts 1 (what ++ rest) ≡ texts_from what s rest
  pub inputs : (rest : List Line) → inputs_from 1 (what ++ rest) ≡ s.inputs ++ inputs_from (length s.inputs + 1) rest

-- the rules that a line keeps behind these lines, apart from its own form
pub record Keeps (before : List Line) (what : Line) : Type 0 where
  pub version : KeepsVersion before what
  pub inputs : KeepsInputs before what
  pub times : KeepsTimes before what

-- a line is taken as what it is, or it keeps not all rules
abbrev pub IsTaken : List Line → Line → Result Unit SessionFault → Standing → Type 0
IsTaken before what (Ok done) s = Keeps before what × Holds (before ++ what ∷ []) s
IsTaken before what (Err (BadSession number)) s = (number ≡ length before + 1) × (Keeps before what → ⊥)
IsTaken before what (Err NoMemory) s = ⊤

-- a line is read as something, or there is nothing as which it may stand there
abbrev pub IsLineRead : List Line → List ℕ → Result Unit SessionFault → Standing → Type 0
IsLineRead before line (Ok done) s = (what : Line) × Stands before line what × Holds (before ++ what ∷ []) s
IsLineRead before line (Err (BadSession number)) s = (number ≡ length before + 1) × ((what : Line) → Stands before line what → ⊥)
IsLineRead before line (Err NoMemory) s = ⊤

-- all lines are read, of an input within its limit
pub record IsWhole (s : Standing) : Type 0 where
  pub lines : List (List ℕ)
  pub what : List Line
  pub read : AreRead lines what
  pub holds : Holds what s
  pub few : length lines ≤ 1048576
  pub short : length (concat lines) ≤ 1048576

-- what only version 2 has
abbrev pub is_of_version_2 : Deed → Bool
is_of_version_2 (Cue path values) = false
is_of_version_2 (Set path value) = true
is_of_version_2 (Stop name) = true
