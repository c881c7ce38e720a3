-- The notes that values stand for, without the silence among them: own.
use Rattle.std.specs.Prelude.{List, map, Option, Result, Ok}
use Rattle.std.specs.List.{filter_map}
use Rattle.vt_ring.specs.Answers.{all_of, and_then}
use Rattle.vt_value.specs.declared.fault.FaultKind.{FaultKind}
use Rattle.vt_value.specs.declared.value.Value.{Value}
use Rattle.vt_run.specs.calls.PlayCalls.{note_to_play}

-- the notes that sound
abbrev pub sounding : List (Option Value) → List Value
sounding notes = filter_map (λ note. note) notes

-- a note to play, or none, or the first of its faults
abbrev pub note_or_fault : Value → Result (Option Value) FaultKind
note_or_fault value = and_then (note_to_play value) (λ note. note)

-- the notes of these values that sound, where all of them may be played
abbrev pub sounding_of : List Value → Result (List Value) FaultKind
sounding_of values = and_then (all_of (map note_or_fault values)) (λ notes. Ok (sounding notes))
