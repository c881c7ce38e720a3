-- The calls that sound: `play`, `synth` and `sample`. After the Sonic Pi tutorial, chapters 2 and 3; kinds and faults are own.
use Rattle.std.specs.Prelude.{ℕ, List, ◌++◌, map, filter, Bool, false, ◌||◌, not, cond, codes, bytes_eq, is_some, Option, Some, None, Result, Ok, Err}
use Rattle.std.specs.List.{filter_map, list_any}
use Rattle.vt_ring.specs.Answers.{and_then, all_of}
use Rattle.vt_ring.specs.Signatures.{note_argument, one_of}
use Rattle.vt_value.specs.declared.fault.FaultKind.{FaultKind}
use Rattle.vt_value.specs.declared.fault.FaultKind.TheVariants.{WrongKind}
use Rattle.vt_value.specs.declared.value.Value.{Value}
use Rattle.vt_value.specs.declared.value.Value.TheVariants.{Nil}
use Rattle.vt_value.specs.Kinds.{is_nil, symbol_of, text_bytes}
use Rattle.vt_event.specs.declared.place.Place.{Place}
use Rattle.vt_event.specs.Event.{EventView}
use Rattle.vt_event.specs.EventsByKind.{play_event, sample_event, synth_event}
use Rattle.vt_event.specs.Pairs.{Pairs}
use Rattle.vt_run.specs.declared.settings.Settings.{Settings}
use Rattle.vt_run.specs.declared.state.State.{State}
use Rattle.vt_run.specs.calls.Arguments.{Given, a_symbol, all_args, each_of}
use Rattle.vt_run.specs.calls.Deeds.{Deed, publishing}

abbrev pub is_rest_name : Option (List ℕ) → Bool
is_rest_name None = false
is_rest_name (Some name) = bytes_eq (codes "r") name || bytes_eq (codes "rest") name

-- nil, `:r` and `:rest` are played as silence
abbrev pub is_rest : Value → Bool
is_rest value = is_nil value || is_rest_name (symbol_of value)

-- a note to play, or none: a number or a symbol, or wrong_kind; and of a symbol the note that it names, or bad_note
abbrev pub note_to_play : Value → Result (Result (Option Value) FaultKind) FaultKind
note_to_play value =
    cond (is_rest value)
    (Ok (Ok None))
    (and_then (note_argument value) (λ note. Ok (and_then note (λ n. Ok (Some n)))))

-- the notes that a value is to play, by their kinds: those of each item of a ring, or its own; an item that is itself a ring is no note
abbrev pub notes_asked : Value → Result (List (Result (Option Value) FaultKind)) FaultKind
notes_asked value = all_of (map note_to_play (each_of value))

-- The notes that a value plays. The kinds of all items are looked at before the name of a note.
abbrev pub notes_to_play : Value → Result (List (Option Value)) FaultKind
notes_to_play value = and_then (notes_asked value) all_of

abbrev pub has_name : Pairs → List ℕ → Bool
has_name options name = list_any (λ (option : List ℕ × Value). bytes_eq option.0 name) options

-- the options as they are written, and then those defaults whose names are not among them
abbrev pub with_defaults : Pairs → Pairs → Pairs
with_defaults options defaults = options ++ filter (λ (option : List ℕ × Value). not (has_name options option.0)) defaults

-- a note is played with the thread's synth, in its effect
abbrev pub plays_note : Pairs → Settings → Value → Place → EventView
plays_note options settings note place = play_event place settings.synth note (with_defaults options settings.defaults) settings.fx

-- an event for each note, in order; silence is none
abbrev pub plays_notes : Pairs → Settings → List (Option Value) → List (Place → EventView)
plays_notes options settings notes = map (plays_note options settings) (filter_map (λ note. note) notes)

-- `play V`, with any options
unfoldable pub play_call : Given → State → Result Deed FaultKind
play_call given st =
    and_then (one_of (all_args given)) (λ value.
    and_then (notes_to_play value) (λ notes.
    Ok (record { events = plays_notes given.options st.settings notes; value = Nil; state = st })))

-- `synth :x`, with any options
unfoldable pub synth_call : Given → State → Result Deed FaultKind
synth_call given st =
    and_then (a_symbol (all_args given)) (λ name.
    Ok (publishing st (λ place. synth_event place name given.options st.settings.fx)))

-- a symbol or a text, or wrong_kind
abbrev pub sample_argument : Value → Result Value FaultKind
sample_argument value = cond (is_some (symbol_of value) || is_some (text_bytes value)) (Ok value) (Err WrongKind)

-- `sample V`, with any options
unfoldable pub sample_call : Given → State → Result Deed FaultKind
sample_call given st =
    and_then (one_of (all_args given)) (λ value.
    and_then (sample_argument value) (λ sample.
    Ok (publishing st (λ place. sample_event place sample given.options st.settings.fx))))
