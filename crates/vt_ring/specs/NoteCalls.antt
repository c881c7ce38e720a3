-- The calls on notes. After Sonic Pi's language reference; that they compute with values of the language is the project's own.
use Rattle.std.specs.Prelude.{ℕ, zero, suc, ◌-◌, pos, List, [], ◌∷◌, ◌++◌, take, codes, ok_or, Result, Ok}
use Rattle.vt_table.specs.Lists.{scale_steps, chord_intervals}
use Rattle.vt_value.specs.declared.arithmetic.ArithOp.TheVariants.{Add}
use Rattle.vt_value.specs.declared.fault.FaultKind.{FaultKind}
use Rattle.vt_value.specs.declared.fault.FaultKind.TheVariants.{WrongKind, BadValue}
use Rattle.vt_value.specs.declared.value.Value.{Value}
use Rattle.vt_value.specs.declared.value.Value.TheVariants.{Whole, Ring}
use Rattle.vt_value.specs.Arithmetic.{arith_of}
use Rattle.vt_ring.specs.Answers.{and_then}
use Rattle.vt_ring.specs.Arguments.{between}
use Rattle.vt_ring.specs.Called.{demand, as_ring}
use Rattle.vt_ring.specs.CountCalls.{are_numbers}
use Rattle.vt_ring.specs.Signatures.{Options, option_named, one_of, note_argument, a_note_and_a_symbol, a_note_and_a_whole, a_ring_and_a_whole, a_whole_a_note_and_a_symbol, whole_or}

-- a note so many half tones higher
abbrev pub raised : Value → ℕ → Result Value FaultKind
raised note tones = arith_of Add note (Whole (pos tones))

-- a note, and from it on one step after the other
abbrev pub steps_up : Value → List ℕ → Result (List Value) FaultKind
steps_up note [] = Ok (note ∷ [])
steps_up note (step ∷ steps) =
    and_then (raised note step) (λ next.
    and_then (steps_up next steps) (λ notes.
    Ok (note ∷ notes)))

-- the note that is reached by one step after the other
abbrev pub climbed : Value → List ℕ → Result Value FaultKind
climbed note [] = Ok note
climbed note (step ∷ steps) = and_then (raised note step) (λ next. climbed next steps)

-- for each interval the note so much above this one
abbrev pub intervals_above : Value → List ℕ → Result (List Value) FaultKind
intervals_above note [] = Ok []
intervals_above note (interval ∷ intervals) =
    and_then (raised note interval) (λ first.
    and_then (intervals_above note intervals) (λ notes.
    Ok (first ∷ notes)))

-- a list so many times, one after the other
abbrev pub times : ℕ → List ℕ → List ℕ
times zero steps = []
times (suc n) steps = steps ++ times n steps

-- the first so many steps of a scale, which go on from the first again after the last; so many rounds are enough, since a scale has a step
abbrev pub first_steps : ℕ → List ℕ → List ℕ
first_steps count steps = take count (times count steps)

-- so many inversions of a chord, one after the other: each takes the first note away and puts it at the end, an octave higher
abbrev pub inverted : ℕ → List Value → Result (List Value) FaultKind
inverted zero notes = Ok notes
inverted (suc n) [] = Ok []
inverted (suc n) (note ∷ notes) = and_then (raised note 12) (λ higher. inverted n (notes ++ higher ∷ []))

-- The rings of `scale`, `chord` and `octs` have at most 193 notes, and that of `chord_invert` has as many numbers as it is given, so they are within the limits.

-- `note V`
unfoldable pub note_call : List Value → Result Value FaultKind
note_call args =
    and_then (one_of args) (λ v.
    and_then (note_argument v) (λ note.
    note))

-- `scale V, :x`, option `num_octaves:` from 1 to 16, which is 1 if it is not given: the tonic, and from it on the steps of the scale, once for each octave
unfoldable pub scale_call : List Value → Options → Result Value FaultKind
scale_call args options =
    and_then (a_note_and_a_symbol args) (λ (note, name).
    and_then (whole_or (pos 1) (option_named (codes "num_octaves") options)) (λ number.
    and_then note (λ tonic.
    and_then (ok_or (scale_steps name) BadValue) (λ steps.
    and_then (between 1 16 number) (λ octaves.
    and_then (steps_up tonic (times octaves steps)) (λ notes.
    Ok (Ring notes)))))))

-- `chord V, :x`: for each interval of the chord the note so much above the tonic
unfoldable pub chord_call : List Value → Result Value FaultKind
chord_call args =
    and_then (a_note_and_a_symbol args) (λ (note, name).
    and_then note (λ tonic.
    and_then (ok_or (chord_intervals name) BadValue) (λ intervals.
    and_then (intervals_above tonic intervals) (λ notes.
    Ok (Ring notes)))))

-- `octs V, n`, n from 1 to 32: n notes, each 12 above the one before
unfoldable pub octs_call : List Value → Result Value FaultKind
octs_call args =
    and_then (a_note_and_a_whole args) (λ (note, number).
    and_then note (λ tonic.
    and_then (between 1 32 number) (λ count.
    and_then (steps_up tonic (times (count - 1) (12 ∷ []))) (λ notes.
    Ok (Ring notes)))))

-- `degree n, V, :x`, n from 1 to 64: the n-th note of the scale, of which the tonic is the first
unfoldable pub degree_call : List Value → Result Value FaultKind
degree_call args =
    and_then (a_whole_a_note_and_a_symbol args) (λ (number, note, name).
    and_then (between 1 64 number) (λ n.
    and_then note (λ tonic.
    and_then (ok_or (scale_steps name) BadValue) (λ steps.
    climbed tonic (first_steps (n - 1) steps)))))

-- `chord_invert r, n`, n from 0 to 64: the n-th inversion of a ring of numbers
unfoldable pub chord_invert_call : List Value → Result Value FaultKind
chord_invert_call args =
    and_then (a_ring_and_a_whole args) (λ (notes, number).
    demand (are_numbers notes) WrongKind (
    and_then (between 0 64 number) (λ n.
    as_ring (inverted n notes))))
