-- The texts and inputs that lines are.
use Rattle.std.specs.Prelude.{◌≡◌, ℕ, ◌+◌, ◌≤◌, ⊤, pos, List, [], ◌∷◌, ◌++◌, length, map, All}
use Rattle.vt_event.specs.Event.{EventView}
use Rattle.vt_event.specs.EventsByKind.{cue_event, ended_event, set_event}
use Rattle.vt_event.specs.Orderly.{AreOrderly, input_place}
use Rattle.vt_frac.specs.Fraction.{Fraction, whole}
use Rattle.vt_path.specs.declared.inner_path.InnerKind.TheVariants.{Stop}
use Rattle.vt_path.specs.Inner.{inner_of}
use Rattle.vt_value.specs.declared.value.Value.TheVariants.{Ring}
use Rattle.vt_session.specs.declared.fault.SessionFault.{SessionFault}
use Rattle.vt_session.specs.declared.fault.SessionFault.TheVariants.{BadSession, NoMemory}
use Rattle.vt_session.specs.declared.text_part.TextPart.{TextPart}
use Rattle.vt_session.specs.Directives.{Line, PlainLine, VersionLine, AtLine, CueLine, SetLine, StopLine}
use Rattle.vt_session.specs.Rules.{AreRead, FirstBadLine}

-- a session as contracts see it: its texts and its inputs, in order
pub record SessionView : Type 0 where
  pub texts : List TextPart
  pub inputs : List EventView

-- the bytes of the lines up to the next directive
abbrev pub text_before_directive : List Line → List ℕ
text_before_directive (PlainLine bytes ∷ lines) = bytes ++ text_before_directive lines
text_before_directive _ = []

abbrev pub text_part : Fraction → ℕ → List Line → TextPart
text_part time first_line lines = record { time = time; first_line = first_line; text = text_before_directive lines }

-- text 1, at time 0: the lines before the first directive, in version 2 those behind line 1 and before the first other one
abbrev pub first_text : List Line → TextPart
first_text (VersionLine ∷ lines) = text_part (whole (pos 0)) 2 lines
first_text lines = text_part (whole (pos 0)) 1 lines

-- the later texts, of lines of which the first has this number: behind each `%at` up to the next directive
abbrev pub later_texts : ℕ → List Line → List TextPart
later_texts number [] = []
later_texts number (AtLine time ∷ lines) = text_part time (number + 1) lines ∷ later_texts (number + 1) lines
later_texts number (line ∷ lines) = later_texts (number + 1) lines

-- the inputs, of which the first has this number
abbrev pub inputs_from : ℕ → List Line → List EventView
inputs_from number [] = []
inputs_from number (CueLine time path values ∷ lines) = cue_event (input_place time number) path (Ring values) ∷ inputs_from (number + 1) lines
inputs_from number (SetLine time path value ∷ lines) = set_event (input_place time number) path value ∷ inputs_from (number + 1) lines
inputs_from number (StopLine time name ∷ lines) = ended_event (input_place time number) (inner_of Stop name) ∷ inputs_from (number + 1) lines
inputs_from number (line ∷ lines) = inputs_from number lines

-- texts and inputs, each in the order of the lines
abbrev pub session_of : List Line → SessionView
session_of lines = record { texts = first_text lines ∷ later_texts 1 lines; inputs = inputs_from 1 lines }

-- the lines keep all rules, and this is their session
pub record IsSession (lines : List (List ℕ)) (session : SessionView) : Type 0 where
  pub what : List Line
  pub read : AreRead lines what
  pub whole_session : session ≡ session_of what

-- what a fault says of the lines; want of memory has no cause
abbrev pub IsRefusal : List (List ℕ) → SessionFault → Type 0
IsRefusal lines (BadSession line) = FirstBadLine lines line
IsRefusal lines NoMemory = ⊤

-- a text of a session, within the limits
pub record IsTextPart (part : TextPart) : Type 0 where
  pub short : length part.text ≤ 1048576
  pub from_one : 1 ≤ part.first_line
  pub within : part.first_line ≤ 1048577

-- what each session keeps: its texts and inputs are orderly, and its texts are within the limits
pub record IsSound (session : SessionView) : Type 0 where
  pub orderly : AreOrderly (map (λ part. part.time) session.texts) session.inputs
  pub texts_within : All IsTextPart session.texts
