-- The meaning of a piece of notes and rests. After FARM 2014 for the time: a rest adds to the virtual time of its
-- thread, and the virtual time of one part and then another is the sum of both.
use Rattle.std.specs.Prelude.{ℕ, ◌+◌, ℤ, pos, ◌*ℤ◌, Bool, true, false, if◌then◌else◌, List, [], ◌∷◌, ◌++◌, Option, None, Some, codes, length, map, fold, count_by, position}
use Rattle.std.specs.List.{filter_map}
use Rattle.std.specs.Ordering.{int_cmp, is_lt}
use Rattle.vt_frac.specs.Fraction.{Fraction, whole, fits}
use Rattle.vt_frac.specs.Arithmetic.{sum_of}
use Rattle.vt_event.specs.declared.place.Place.{Place}
use Rattle.vt_value.specs.declared.fault.FaultKind.TheVariants.{Overflow, Syntax}
use Rattle.vt_value.specs.declared.value.Value.TheVariants.{Whole}
use Rattle.vt_event.specs.EventsByKind.{fault_event, play_event}
use Rattle.vt_event.specs.declared.event.Event.{Event}
use Rattle.vt_event.specs.declared.score.LivingState.TheVariants.{Asleep}
use Rattle.vt_event.specs.declared.score.Score.{Score}
use Rattle.vt_cli.specs.declared.line.Line.{Line}
use Rattle.vt_cli.specs.declared.line.Line.TheVariants.{Nothing, Play, Sleep, Refused}
use Rattle.vt_cli.specs.declared.piece.NextTime.{NextTime}
use Rattle.vt_cli.specs.declared.piece.NextTime.TheVariants.{Before, AtOrPast, Unfit}
use Rattle.vt_cli.specs.Line.{lines_of, line_of}

-- the horizon of a run, in seconds
abbrev pub horizon : Fraction
horizon = whole (pos 60)

-- the rest of a line that is one, in seconds
abbrev pub rest_of : Line → Option Fraction
rest_of Nothing = None
rest_of (Play note) = None
rest_of (Sleep amount) = Some amount
rest_of Refused = None

-- the virtual time after these lines: the sum of their rests
unfoldable pub time_after : List Line → Fraction
time_after before = fold sum_of (whole (pos 0)) (filter_map rest_of before)

-- a note is an action of its thread, and so is a rest, also one of 0
abbrev pub is_action : Line → Bool
is_action Nothing = false
is_action (Play note) = true
is_action (Sleep amount) = true
is_action Refused = false

-- a place of the thread of text 1, in micro step 0
abbrev pub place_at : Fraction → ℕ → Place
place_at time step = record { time = time; micro = 0; thread = 1 ∷ []; step = step }

-- the place of the next action after these lines
unfoldable pub place_after : List Line → Place
place_after before = place_at (time_after before) (count_by is_action before + 1)

-- a note is played by the synth at the start, without options or effect
abbrev pub note_event : Place → ℤ → Event
note_event place note = play_event place (codes "beep") (Whole note) [] None

-- the thread came to its end
abbrev pub ended : Score
ended = record { events = []; living = [] }

abbrev pub asleep_until : Fraction → Score
asleep_until time = record { events = []; living = record { thread = 1 ∷ []; state = Asleep time } ∷ [] }

-- these events first
abbrev pub preceded : List Event → Score → Score
preceded events score = record { events = events ++ score.events; living = score.living }

-- a/b is below c/d where a d is below c b
abbrev pub is_below : Fraction → Fraction → Bool
is_below a b = is_lt (int_cmp (a.numer *ℤ pos b.denom) (b.numer *ℤ pos a.denom))

-- What the exact time after a rest is: before the horizon, at or past it, or of a size that does not fit.
unfoldable pub next_time_of : Fraction → NextTime
next_time_of time = if fits time then (if is_below time horizon then Before time else AtOrPast time) else Unfit

-- A rest to a time before the horizon goes on with the later lines. One to a time at or past it leaves the thread
-- asleep, and one to a time that does not fit ends it by a fault.
abbrev pub rest_score : List Line → NextTime → Score → Score
rest_score before (Before time) later = later
rest_score before (AtOrPast time) later = asleep_until time
rest_score before Unfit later = preceded (fault_event (place_after before) Overflow (length before + 1) ∷ []) ended

-- What a line gives after the lines before it, where the lines after it give `later`. A refused line gives nothing:
-- a text that has one has no thread.
abbrev pub line_score : List Line → Line → Score → Score
line_score before Nothing later = later
line_score before (Play note) later = preceded (note_event (place_after before) note.number ∷ []) later
line_score before (Sleep amount) later = rest_score before (next_time_of (sum_of (time_after before) amount)) later
line_score before Refused later = later

-- what the second lines give after the first
abbrev pub score_after : List Line → List Line → Score
score_after before [] = ended
score_after before (line ∷ rest) = line_score before line (score_after (before ++ line ∷ []) rest)

-- a text that is refused has no thread: its fault stands before all actions
abbrev pub refused_score : ℕ → Score
refused_score line =
    preceded (fault_event (place_at (whole (pos 0)) 0) Syntax line ∷ []) ended

-- the line is none of a piece
abbrev pub is_refused : Line → Bool
is_refused Nothing = false
is_refused (Play note) = false
is_refused (Sleep amount) = false
is_refused Refused = true

-- a text is refused by the first of its lines that is none
abbrev pub score_unless_refused : Option ℕ → List Line → Score
score_unless_refused None lines = score_after [] lines
score_unless_refused (Some index) lines = refused_score (index + 1)

-- what the lines of a text give
unfoldable pub score_of_lines : List Line → Score
score_of_lines lines = score_unless_refused (position is_refused lines) lines

-- the score of a text
unfoldable pub score_of : List ℕ → Score
score_of text = score_of_lines (map line_of (lines_of text))
