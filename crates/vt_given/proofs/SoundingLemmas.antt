-- Notes that sound.
use Rattle.std.proofs.Common.{◌≡◌, ◌<◌, ◌+◌, ℕ, List, [], ◌∷◌, ◌++◌, length, map, take, get_or, Option, Some, None, Result, Ok, Err, IsOk, refl, sym, ap, ◌∙◌, subst}
use Rattle.std.specs.Prelude.{option_to_list}
use Rattle.std.proofs.lemmas.Bool.{false≢true}
use Rattle.std.proofs.lemmas.List.{map_more}
use Rattle.std.proofs.lemmas.List.Elements.{filter_map-append}
use Rattle.vt_ring.specs.Answers.{MayGive, all_of, and_then}
use Rattle.vt_ring.proofs.AnswerLemmas.{all_of-append_ok, gives_all, gives_same, good_first, good_map}
use Rattle.vt_value.specs.Answers.{Gives}
use Rattle.vt_value.specs.declared.fault.FaultKind.{FaultKind}
use Rattle.vt_value.specs.declared.fault.ValueFault.{ValueFault}
use Rattle.vt_value.specs.declared.value.Value.{Value}
use Rattle.vt_run.specs.calls.Arguments.{each_of}
use Rattle.vt_run.specs.calls.PlayCalls.{note_to_play, notes_to_play}
use Rattle.vt_given.specs.Notes.{sounding}
use Rattle.vt_given.specs.Notes.{note_or_fault, sounding_of}

one_sounds : (note : Option Value) → sounding (note ∷ []) ≡ option_to_list note
one_sounds None = refl
one_sounds (Some value) = refl

sounding_with : (notes : List (Option Value)) (note : Option Value) → sounding (notes ++ note ∷ []) ≡ sounding notes ++ option_to_list note
sounding_with notes note = filter_map-append (λ sound. sound) notes (note ∷ []) ∙ ap (λ more. sounding notes ++ more) (one_sounds note)

sounds_with : (answer : Result (List (Option Value)) FaultKind) (made : List Value) (more : Option Value) →
    and_then answer (λ notes. Ok (sounding notes)) ≡ Ok made → and_then (and_then answer (λ notes. Ok (notes ++ more ∷ []))) (λ notes. Ok (sounding notes)) ≡ Ok (made ++ option_to_list more)
sounds_with (Ok notes) made more e = let same : sounding notes ≡ made = cc in ap (λ values. Ok values) (sounding_with notes more ∙ ap (λ values. values ++ option_to_list more) same)
sounds_with (Err kind) made more e = absurd (let z : Err kind ≡ Ok made = e in cc)

-- one note more
pub sounding_more : (values : List Value) (i : ℕ) (value : Value) (made : List Value) (note : Option Value) → i < length values → value ≡ get_or values i value →
    sounding_of (take i values) ≡ Ok made → note_or_fault value ≡ Ok note → sounding_of (take (i + 1) values) ≡ Ok (made ++ option_to_list note)
sounding_more values i value made note below is e n =
    ap (λ answers. and_then (all_of answers) (λ notes. Ok (sounding notes)))
    (map_more note_or_fault values i value below ∙ ap (λ v. map note_or_fault (take i values) ++ note_or_fault v ∷ []) (sym is) ∙ ap (λ answer. map note_or_fault (take i values) ++ answer ∷ []) n)
    ∙ ap (λ answer. and_then answer (λ notes. Ok (sounding notes))) (all_of-append_ok (map note_or_fault (take i values)) note)
    ∙ sounds_with (all_of (map note_or_fault (take i values))) made note e

pub sounding_good : (values made : List Value) → sounding_of values ≡ Ok made → IsOk (all_of (map note_or_fault values))
sounding_good values made e = go (all_of (map note_or_fault values)) e where
  go : (answer : Result (List (Option Value)) FaultKind) → and_then answer (λ notes. Ok (sounding notes)) ≡ Ok made → IsOk answer
  go (Ok notes) e = refl
  go (Err kind) e = absurd (let z : Err kind ≡ Ok made = e in cc)

-- the kinds of all, and then their names: where the kinds are good, the first fault is that of a name
both_steps : (first : Result (Option Value) FaultKind) (answer : Result (List (Result (Option Value) FaultKind)) FaultKind) (rest : Result (List (Option Value)) FaultKind) →
    and_then answer all_of ≡ rest → IsOk (and_then answer (λ answers. Ok (first ∷ answers))) →
    and_then (and_then answer (λ answers. Ok (first ∷ answers))) all_of ≡ and_then first (λ note. and_then rest (λ notes. Ok (note ∷ notes)))
both_steps first (Ok answers) rest e ok = ap (λ r. and_then first (λ note. and_then r (λ notes. Ok (note ∷ notes)))) e
both_steps first (Err kind) rest e ok = absurd (false≢true ok)

steps_of_all : (asked : List (Result (Result (Option Value) FaultKind) FaultKind)) → IsOk (all_of asked) → and_then (all_of asked) all_of ≡ all_of (map (λ answer. and_then answer (λ sound. sound)) asked)
steps_of_all [] ok = refl
steps_of_all (Ok first ∷ asked) ok =
    both_steps first (all_of asked) (all_of (map (λ answer. and_then answer (λ sound. sound)) asked))
    (steps_of_all asked (good_first (all_of asked) (λ answers. Ok (first ∷ answers)) ok)) ok
steps_of_all (Err kind ∷ asked) ok = absurd (false≢true ok)

as_faults : (values : List Value) → map (λ answer. and_then answer (λ sound. sound)) (map note_to_play values) ≡ map note_or_fault values
as_faults [] = refl
as_faults (value ∷ values) = ap (λ answers. note_or_fault value ∷ answers) (as_faults values)

pub kinds_and_names : (values : List Value) → IsOk (all_of (map note_to_play values)) → and_then (all_of (map note_to_play values)) all_of ≡ all_of (map note_or_fault values)
kinds_and_names values ok = steps_of_all (map note_to_play values) ok ∙ ap all_of (as_faults values)

-- the notes that sound of values that may all be played
pub gives_sounding : (values : List Value) (result : Result (List Value) ValueFault) → IsOk (all_of (map note_to_play values)) → IsOk (all_of (map note_or_fault values)) → MayGive (sounding_of values) result →
    Gives (and_then (and_then (all_of (map note_to_play values)) all_of) (λ notes. Ok (sounding notes))) result
gives_sounding values result kinds names h =
    gives_same _ (sounding_of values) result (ap (λ answer. and_then answer (λ notes. Ok (sounding notes))) (kinds_and_names values kinds))
    (gives_all (sounding_of values) result (good_map (all_of (map note_or_fault values)) sounding names) h)

-- a value, and its items or itself
pub value_sounding : (value : Value) (values : List Value) (result : Result (List Value) ValueFault) → values ≡ each_of value → IsOk (all_of (map note_to_play values)) → IsOk (all_of (map note_or_fault values)) →
    MayGive (sounding_of values) result → Gives (and_then (notes_to_play value) (λ notes. Ok (sounding notes))) result
value_sounding value values result is kinds names h =
    subst (λ values. Gives (and_then (and_then (all_of (map note_to_play values)) all_of) (λ notes. Ok (sounding notes))) result) is (gives_sounding values result kinds names h)

pub value_fault : (value : Value) (values : List Value) (kind : FaultKind) → values ≡ each_of value → IsOk (all_of (map note_to_play values)) → all_of (map note_or_fault values) ≡ Err kind →
    and_then (notes_to_play value) (λ notes. Ok (sounding notes)) ≡ Err kind
value_fault value values kind is kinds bad =
    ap (λ values. and_then (and_then (all_of (map note_to_play values)) all_of) (λ notes. Ok (sounding notes))) (sym is)
    ∙ ap (λ answer. and_then answer (λ notes. Ok (sounding notes))) (kinds_and_names values kinds ∙ bad)
