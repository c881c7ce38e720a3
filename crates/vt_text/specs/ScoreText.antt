-- The text of a score: a line for each shown event, a line for each living thread, and the line of the end. Own.
use Rattle.std.specs.Prelude.{ℕ, ◌==◌, if◌then◌else◌, List, [], ◌∷◌, ◌++◌, Option, None, Some, codes, decimal, filter, length}
use Rattle.std.specs.List.{flat_map}
use Rattle.vt_frac.specs.Text.{fraction_text}
use Rattle.vt_path.specs.Path.{path_text}
use Rattle.vt_path.specs.Pattern.{pattern_text}
use Rattle.vt_value.specs.declared.value.Value.{Value}
use Rattle.vt_value.specs.Faults.{fault_word}
use Rattle.vt_value.specs.Kinds.{ring_of}
use Rattle.vt_value.specs.Text.{value_text}
use Rattle.vt_event.specs.declared.place.Place.{Place}
use Rattle.vt_event.specs.declared.references.FxId.{FxId}
use Rattle.vt_event.specs.declared.kind.Kind.{Kind}
use Rattle.vt_event.specs.declared.kind.Kind.TheVariants.{Play, Synth, Sample, Fx, Cue, Set, Log, Took, Fault, Body, Defined, Started, Ended}
use Rattle.vt_event.specs.declared.score.LivingState.{LivingState}
use Rattle.vt_event.specs.declared.score.LivingState.TheVariants.{Asleep, Waiting}
use Rattle.vt_event.specs.declared.score.Living.{Living}
use Rattle.vt_event.specs.declared.score.Score.{Score}
use Rattle.vt_event.specs.Event.{EventView}
use Rattle.vt_event.specs.Kinds.{is_shown}
use Rattle.vt_event.specs.Pairs.{Pairs}

-- what ends each line
abbrev pub newline : List ℕ
newline = 10 ∷ []

-- THREAD: the numbers of a thread's list, joined by dots
abbrev pub thread_text : List ℕ → List ℕ
thread_text [] = []
thread_text (number ∷ rest) = decimal number ++ flat_map (λ k. codes "." ++ decimal k) rest

-- the micro step, where it is above 0
abbrev pub micro_text : ℕ → List ℕ
micro_text micro = if micro == 0 then [] else (codes "+" ++ decimal micro)

-- TIME, TIME+M, and THREAD: what each event line begins with
abbrev pub place_text : Place → List ℕ
place_text place = fraction_text place.time ++ micro_text place.micro ++ codes " " ++ thread_text place.thread

-- an option: a blank, the name, `: ` and the value
abbrev pub option_text : (List ℕ × Value) → List ℕ
option_text option = codes " " ++ option.0 ++ codes ": " ++ value_text option.1

-- OPTS: the options in order
abbrev pub options_text : Pairs → List ℕ
options_text options = flat_map option_text options

-- IN: ` in THREAD#NUMBER` where an event stands in an effect
abbrev pub fx_text : Option FxId → List ℕ
fx_text None = []
fx_text (Some fx) = codes " in " ++ thread_text fx.thread ++ codes "#" ++ decimal fx.number

-- what stands behind what sounds: OPTS IN
abbrev pub setting_text : EventView → List ℕ
setting_text event = options_text event.options ++ fx_text event.fx

-- a value after a blank
abbrev pub after_blank : Value → List ℕ
after_blank value = codes " " ++ value_text value

abbrev pub spread_items : Option (List Value) → Value → List ℕ
spread_items None value = after_blank value
spread_items (Some items) value = flat_map after_blank items

-- SPREAD: each item of a ring after a blank, another value after a blank
abbrev pub spread_text : Value → List ℕ
spread_text value = spread_items (ring_of value) value

-- PATH, which each event that shows one has
abbrev pub shown_path : Option (List (List ℕ)) → List ℕ
shown_path None = []
shown_path (Some path) = path_text path

-- What happened. Inner events are never shown.
abbrev pub deed_text : Kind → EventView → List ℕ
-- play :SYNTH NOTE OPTS IN
deed_text Play event = codes "play :" ++ event.name ++ codes " " ++ value_text event.value ++ setting_text event
-- synth :NAME OPTS IN
deed_text Synth event = codes "synth :" ++ event.name ++ setting_text event
-- sample VALUE OPTS IN
deed_text Sample event = codes "sample " ++ value_text event.value ++ setting_text event
-- fx NUMBER :NAME OPTS IN
deed_text Fx event = codes "fx " ++ value_text event.value ++ codes " :" ++ event.name ++ setting_text event
-- cue PATH SPREAD
deed_text Cue event = codes "cue " ++ shown_path event.path ++ spread_text event.value
-- set PATH VALUE
deed_text Set event = codes "set " ++ shown_path event.path ++ after_blank event.value
-- log SPREAD
deed_text Log event = codes "log" ++ spread_text event.value
-- took PATH SPREAD
deed_text Took event = codes "took " ++ shown_path event.path ++ spread_text event.value
-- fault KIND LINE
deed_text (Fault fault) event = codes "fault " ++ fault_word fault ++ codes " " ++ decimal event.line
deed_text Body event = []
deed_text Defined event = []
deed_text Started event = []
deed_text Ended event = []

-- the line of an event, without its newline: TIME THREAD and what happened
unfoldable pub event_line : EventView → List ℕ
event_line event = place_text event.place ++ codes " " ++ deed_text event.kind event

-- asleep THREAD TIME, waiting THREAD PATTERN
abbrev pub state_line : LivingState → List ℕ → List ℕ
state_line (Asleep time) thread = codes "asleep " ++ thread_text thread ++ codes " " ++ fraction_text time
state_line (Waiting pattern) thread = codes "waiting " ++ thread_text thread ++ codes " " ++ pattern_text pattern

-- the line of a living thread, without its newline
unfoldable pub living_line : Living → List ℕ
living_line living = state_line living.state living.thread

-- end N: how many event lines there are
abbrev pub end_line : ℕ → List ℕ
end_line count = codes "end " ++ decimal count

-- the events that have a line
abbrev pub shown : List EventView → List EventView
shown events = filter (λ event. is_shown event.kind) events

abbrev pub event_lines : List EventView → List ℕ
event_lines events = flat_map (λ event. event_line event ++ newline) (shown events)

abbrev pub living_lines : List Living → List ℕ
living_lines livings = flat_map (λ living. living_line living ++ newline) livings

-- the whole text
unfoldable pub score_text_of : Score → List ℕ
score_text_of score = event_lines score.events ++ living_lines score.living ++ end_line (length (shown score.events)) ++ newline
