-- What the words and the input come to: one status and one text. Own.
use Rattle.std.specs.Prelude.{ℕ, Bool, true, false, List, [], ◌++◌, if◌then◌else◌, Option, None, Some, codes, decimal, length, nat_le, not, ◌≡◌, ◌<◌, ◌≤◌, IsSomeAnd}
use Rattle.std.specs.List.{list_all, list_any}
use Rattle.vt_event.specs.declared.kind.Kind.{Kind}
use Rattle.vt_event.specs.declared.kind.Kind.TheVariants.{Fault}
use Rattle.vt_event.specs.declared.score.Score.{Score}
use Rattle.vt_gen.specs.Session.{session_text_of}
use Rattle.vt_serial.specs.declared.verdict.TextVerdict.{TextVerdict}
use Rattle.vt_session.specs.Verdict.{Judged, Read, Refused}
use Rattle.vt_session.proofs.Judging.{judged_of}
use Rattle.vt_text.specs.ScoreText.{newline, score_text_of}
use Rattle.vt_cli.specs.declared.command.Command.{Command}
use Rattle.vt_cli.specs.declared.command.Command.TheVariants.{Check, Gen, Render}
use Rattle.vt_cli.specs.declared.status.Status.{Status}
use Rattle.vt_cli.specs.declared.status.Status.TheVariants.{Fine, Usage, TooLong, BadSession, Faulty}
use Rattle.vt_cli.specs.Piece.{score_of}
use Rattle.vt_cli.specs.Reading.{limit}
use Rattle.vt_cli.specs.Check.{is_good, verdict_lines, verdicts_of}
use Rattle.vt_cli.specs.Commands.{command_of}

-- what a run comes to
pub record AnswerView : Type 0 where
  pub status : Status
  pub text : List ℕ

-- whether a command reads its input
abbrev pub reads : Command → Bool
reads Render = true
reads Check = true
reads (Gen seed loops beats) = false

-- the answer to words that are no command
abbrev pub usage : AnswerView
usage = record { status = Usage; text = codes "usage: render, check or gen, then pairs --name value" ++ newline }

-- the answer to an input above the limit
abbrev pub too_long : AnswerView
too_long = record { status = TooLong; text = codes "too long" ++ newline }

-- the event is a fault
abbrev pub is_fault : Kind → Bool
is_fault (Fault kind) = true
is_fault _ = false

-- the score holds a fault event
abbrev pub has_fault : Score → Bool
has_fault score = list_any (λ event. is_fault event.kind) score.events

-- the score of a piece, with the status that tells whether it holds a fault
abbrev pub rendered : Score → AnswerView
rendered score = record { status = if has_fault score then Faulty else Fine; text = score_text_of score }

-- a line for each text, also behind a refused one, with the status that tells whether one is refused
abbrev pub checked : List TextVerdict → AnswerView
checked verdicts = record { status = if list_all is_good verdicts then Fine else Faulty; text = verdict_lines 1 verdicts }

-- the answer to bytes that are no session, with the number of their first bad line
abbrev pub bad_session : ℕ → AnswerView
bad_session line = record { status = BadSession; text = codes "bad session at line " ++ decimal line ++ newline }

-- the answer of `check` to the session that the bytes are, or to their first bad line
abbrev pub checked_session : Judged → AnswerView
checked_session (Read session) = checked (verdicts_of session)
checked_session (Refused line) = bad_session line

-- a generated session
abbrev pub generated : ℕ → ℕ → ℕ → AnswerView
generated seed loops beats = record { status = Fine; text = session_text_of seed loops beats }

-- what a command answers to an input within the limit
abbrev pub answer_to : Command → List ℕ → AnswerView
answer_to Render input = rendered (score_of input)
answer_to Check input = checked_session (judged_of input)
answer_to (Gen seed loops beats) input = generated seed loops beats

-- an answer is given to an input within the limit alone
abbrev pub within_limit : List ℕ → AnswerView → AnswerView
within_limit input answer = if nat_le (length input) limit then answer else too_long

-- whether the words ask for the input
abbrev pub wants_input : Option Command → Bool
wants_input None = false
wants_input (Some command) = reads command

-- what of the input counts: all of it, or nothing where it is not asked for
abbrev pub heard : Option Command → List ℕ → List ℕ
heard command input = if wants_input command then input else []

-- what a command, or none, comes to on what counts of the input
abbrev pub outcome_of : Option Command → List ℕ → AnswerView
outcome_of None input = usage
outcome_of (Some command) input = within_limit input (answer_to command input)

-- one status and one text, for every list of words and every input
abbrev pub outcome : List (List ℕ) → List ℕ → AnswerView
outcome words input = outcome_of (command_of words) (heard (command_of words) input)

-- the words ask for the input, and it is longer than allowed
abbrev pub IsTooLong : List (List ℕ) → List ℕ → Type 0
IsTooLong words input = (wants_input (command_of words) ≡ true) × (limit < length input)

-- the bytes are no session
abbrev pub is_refused : Judged → Bool
is_refused (Read session) = false
is_refused (Refused line) = true

-- a text of the session is refused
abbrev pub has_refused_text : Judged → Bool
has_refused_text (Read session) = not (list_all is_good (verdicts_of session))
has_refused_text (Refused line) = false

-- the command reads a session, and the input is none
abbrev pub finds_bad_line : Command → List ℕ → Bool
finds_bad_line Render input = false
finds_bad_line Check input = is_refused (judged_of input)
finds_bad_line (Gen seed loops beats) input = false

-- the words are a command that reads a session, and the input, within the limit, is none
abbrev pub IsBadSession : List (List ℕ) → List ℕ → Type 0
IsBadSession words input = IsSomeAnd (command_of words) (λ command. (length (heard (command_of words) input) ≤ limit)
    × (finds_bad_line command (heard (command_of words) input) ≡ true))

-- the answer to a command reports a fault of the input
abbrev pub reports_fault : Command → List ℕ → Bool
reports_fault Render input = has_fault (score_of input)
reports_fault Check input = has_refused_text (judged_of input)
reports_fault (Gen seed loops beats) input = false

-- the words are a command, the input is within the limit, and the answer reports a fault
abbrev pub IsFaulty : List (List ℕ) → List ℕ → Type 0
IsFaulty words input = IsSomeAnd (command_of words) (λ command. (length (heard (command_of words) input) ≤ limit)
    × (reports_fault command (heard (command_of words) input) ≡ true))
