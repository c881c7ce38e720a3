-- What a value plays is a note, and its event is well made.
use Rattle.std.proofs.Common.{◌≡◌, ℤ, List, [], ◌∷◌, length, Bool, true, false, cond, Option, Some, None, Result, Ok, Err, sym, ap, ◌∙◌}
use Rattle.std.specs.Prelude.{IfOk, IfSome, IsTrue, is_some}
use Rattle.std.specs.List.{AllByRecursion, filter_map}
use Rattle.std.proofs.lemmas.Result.{IfOk-weaker}
use Rattle.vt_frac.specs.Fraction.{Fraction, IsFraction}
use Rattle.vt_ring.specs.Answers.{all_of, and_then}
use Rattle.vt_ring.specs.Signatures.{named_note, note_argument, note_layer}
use Rattle.vt_ring.proofs.Elements.{each_map}
use Rattle.vt_ring.proofs.limits.Answers.{all_of_gives, and_then_gives, ok_or_gives}
use Rattle.vt_ring.proofs.limits.NoteCalls.{IsNote, note_argument_gives}
use Rattle.vt_table.specs.Notes.{note_number}
use Rattle.vt_value.specs.declared.fault.FaultKind.{FaultKind}
use Rattle.vt_value.specs.declared.fault.FaultKind.TheVariants.{WrongKind}
use Rattle.vt_value.specs.declared.value.Value.{Value, out-Value, out-roll-Value}
use Rattle.vt_value.specs.declared.value.Value.TheOpen.{Value-F}
use Rattle.vt_value.specs.declared.value.Value.TheVariants.{Part, Whole, rolls-Part, rolls-Whole}
use Rattle.vt_value.specs.Kinds.{number_layer}
use Rattle.vt_value.specs.Limits.{AreWithin, IsWithin}
use Rattle.vt_event.specs.declared.place.Place.{Place}
use Rattle.vt_event.specs.Event.{EventView}
use Rattle.vt_event.specs.Kinds.{is_note}
use Rattle.vt_event.specs.Pairs.{Pairs}
use Rattle.vt_run.specs.declared.settings.Settings.{Settings}
use Rattle.vt_run.specs.calls.Arguments.{each_of}
use Rattle.vt_run.specs.calls.PlayCalls.{is_rest, note_to_play, notes_asked, notes_to_play, plays_note, plays_notes, with_defaults}
use Rattle.vt_run.specs.Limits.{ArePairsWithin, AreSettingsWithin}
use Rattle.vt_run.proofs.facts.ArgumentFacts.{each_of_within}
use Rattle.vt_run.proofs.facts.EventFacts.{play_told}
use Rattle.vt_run.proofs.facts.Known.{IsTold, Quiet}
use Rattle.vt_run.proofs.facts.PairFacts.{defaults_within}

-- a note, which under L is within the limits
pub record IsPlayed (L : Type 0) (note : Value) : Type 0 where
  pub number : IsTrue (is_note note)
  pub within : L → IsWithin note

-- notes and silences, the notes within the limits under L
abbrev pub ArePlayed : Type 0 → List (Option Value) → Type 0
ArePlayed L notes = AllByRecursion (λ found. IfSome found (IsPlayed L)) notes

-- the same, where their names may name no note
abbrev pub AreAsked : Type 0 → List (Result (Option Value) FaultKind) → Type 0
AreAsked L answers = AllByRecursion (λ answer. IfOk answer (λ found. IfSome found (IsPlayed L))) answers

abbrev IsNumber : Value → Type 0
IsNumber value = IsTrue (is_note value)

whole_number : (n : ℤ) → IsNumber (Whole n)
whole_number n = ap (λ (layer : Value-F Value). is_some (number_layer layer)) (sym (ap out-Value (rolls-Whole n)) ∙ out-roll-Value (Value-F.Whole n))

part_number : (f : Fraction) → IsNumber (Part f)
part_number f = ap (λ (layer : Value-F Value). is_some (number_layer layer)) (sym (ap out-Value (rolls-Part f)) ∙ out-roll-Value (Value-F.Part f))

named_number : (found : Option ℤ) → IfOk (named_note found) IsNumber
named_number None = tt
named_number (Some n) = whole_number n

layer_numbers : (layer : Value-F Value) → IfSome (note_layer layer) (λ note. IfOk note IsNumber)
layer_numbers Value-F.Nil = tt
layer_numbers (Value-F.Bool b) = tt
layer_numbers (Value-F.Whole n) = whole_number n
layer_numbers (Value-F.Part f) = part_number f
layer_numbers (Value-F.Sym name) = named_number (note_number name)
layer_numbers (Value-F.Text bytes) = tt
layer_numbers (Value-F.Ring items) = tt

argument_numbers : (value : Value) → IfOk (note_argument value) (λ note. IfOk note IsNumber)
argument_numbers value = ok_or_gives (note_layer (out-Value value)) WrongKind (λ note. IfOk note IsNumber) (layer_numbers (out-Value value))

module _ (L : Type 0) where
  -- the note that a value is, or names
  played_gives : (value : Value) → (L → IsWithin value) → IfOk (note_argument value) (λ note. IfOk note (IsPlayed L))
  played_gives value h = go (note_argument value) (argument_numbers value) (λ l. note_argument_gives value (h l)) where
    go : (answer : Result (Result Value FaultKind) FaultKind) → IfOk answer (λ note. IfOk note IsNumber) → (L → IfOk answer (λ note. IfOk note IsNote)) → IfOk answer (λ note. IfOk note (IsPlayed L))
    go (Ok (Ok note)) n w = record { number = n; within = λ l. (w l).within }
    go (Ok (Err kind)) n w = tt
    go (Err kind) n w = tt

  to_play_gives : (value : Value) → (L → IsWithin value) → IfOk (note_to_play value) (λ note. IfOk note (λ found. IfSome found (IsPlayed L)))
  to_play_gives value h = go (is_rest value) where
    go : (b : Bool) →
        IfOk (cond b (Ok (Ok None)) (and_then (note_argument value) (λ note. Ok (and_then note (λ n. Ok (Some n)))))) (λ note. IfOk note (λ found. IfSome found (IsPlayed L)))
    go true = tt
    go false =
        and_then_gives (note_argument value) (λ note. Ok (and_then note (λ n. Ok (Some n)))) (λ note. IfOk note (IsPlayed L)) _ (played_gives value h) (λ note played.
        and_then_gives note (λ n. Ok (Some n)) (IsPlayed L) (λ found. IfSome found (IsPlayed L)) played (λ n k. k))

  pub each_under : (values : List Value) → (L → AreWithin values) → AllByRecursion (λ (value : Value). L → IsWithin value) values
  each_under [] h = tt
  each_under (value ∷ values) h = (λ l. (h l).0, each_under values (λ l. (h l).1))

  all_of_each : {A : Type 0} (P : A → Type 0) (answers : List (Result A FaultKind)) → AllByRecursion (λ answer. IfOk answer P) answers → IfOk (all_of answers) (λ values. AllByRecursion P values)
  all_of_each P [] h = tt
  all_of_each P (answer ∷ answers) h =
      and_then_gives answer _ P _ h.0 (λ value k.
      and_then_gives (all_of answers) _ (λ values. AllByRecursion P values) _ (all_of_each P answers h.1) (λ values ks.
      (k, ks)))

  -- the notes that a value is to play
  pub notes_asked_give : (value : Value) → (L → IsWithin value) → IfOk (notes_asked value) (AreAsked L)
  notes_asked_give value h =
      IfOk-weaker (notes_asked value) (λ answers. AreAsked L answers × (length answers ≡ length (each_of value))) (AreAsked L) (λ answers all. all.0)
      (all_of_gives note_to_play (λ (value : Value). L → IsWithin value) (λ answer. IfOk answer (λ found. IfSome found (IsPlayed L))) to_play_gives (each_of value)
      (each_under (each_of value) (λ l. each_of_within value (h l))))

  -- those notes, where each of them has a name that names one
  pub asked_give : (answers : List (Result (Option Value) FaultKind)) → AreAsked L answers → IfOk (all_of answers) (ArePlayed L)
  asked_give answers h = all_of_each (λ found. IfSome found (IsPlayed L)) answers h

  -- the notes of a value
  pub notes_to_play_give : (value : Value) → (L → IsWithin value) → IfOk (notes_to_play value) (ArePlayed L)
  notes_to_play_give value h = and_then_gives (notes_asked value) _ (AreAsked L) (ArePlayed L) (notes_asked_give value h) asked_give

  played_each : (notes : List (Option Value)) → ArePlayed L notes → AllByRecursion (IsPlayed L) (filter_map (λ note. note) notes)
  played_each [] h = tt
  played_each (None ∷ notes) h = played_each notes h.1
  played_each (Some note ∷ notes) h = (h.0, played_each notes h.1)

  -- the events of these notes
  pub played_told : (T : EventView → Type 0) → Quiet L T → (options : Pairs) (settings : Settings) (notes : List (Option Value)) → (L → ArePairsWithin options) → (L → AreSettingsWithin settings) → ArePlayed L notes →
      AllByRecursion (λ event. (place : Place) → (L → IsFraction place.time) → IsTold L T place (event place)) (plays_notes options settings notes)
  played_told T quiet options settings notes o s h =
      each_map (IsPlayed L) (λ (event : Place → EventView). (place : Place) → (L → IsFraction place.time) → IsTold L T place (event place)) (plays_note options settings)
      (λ note p place time. play_told L T settings.synth note (with_defaults options settings.defaults) settings.fx place p.number (λ l. (s l).synth) p.within
      (λ l. defaults_within options settings.defaults (o l) (s l).defaults) time quiet)
      (filter_map (λ note. note) notes) (played_each notes h)
