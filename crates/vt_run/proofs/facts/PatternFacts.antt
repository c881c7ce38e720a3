-- The items of a pattern are notes with beats, within the limits of the language, and the events of the notes are well made.
use Rattle.std.proofs.Common.{◌≡◌, ℕ, pos, List, [], ◌∷◌, length, map, ◌||◌, false, Option, Some, None, Result, Ok, refl, arith}
use Rattle.std.specs.Prelude.{IfOk, IfSome, IsTrue, is_some, nat_eq, nat_lt, not}
use Rattle.std.specs.List.{AllByRecursion, list_all}
use Rattle.std.proofs.lemmas.Result.{IfOk-at_ok, IfOk-weaker}
use Rattle.vt_frac.specs.Fraction.{Fraction, IsFraction, whole}
use Rattle.vt_ring.specs.Answers.{all_of}
use Rattle.vt_ring.specs.Exact.{is_negative}
use Rattle.vt_ring.specs.Signatures.{a_ring, number_argument, ring_argument, two_of}
use Rattle.vt_ring.proofs.Elements.{each_map}
use Rattle.vt_ring.proofs.limits.Answers.{all_of_gives, and_then_gives, cond_gives}
use Rattle.vt_ring.proofs.limits.Arguments.{a_ring_gives, number_argument_gives, ring_argument_gives, two_give}
use Rattle.vt_ring.proofs.limits.Values.{IsRingWithin, whole_fraction}
use Rattle.vt_value.specs.declared.fault.FaultKind.{FaultKind}
use Rattle.vt_value.specs.declared.fault.FaultKind.TheVariants.{BadValue, EmptyRing, WrongKind}
use Rattle.vt_value.specs.declared.value.Value.{Value}
use Rattle.vt_value.specs.Kinds.{number_of, ring_of}
use Rattle.vt_value.specs.Limits.{AreWithin, IsWithin}
use Rattle.vt_event.specs.declared.place.Place.{Place}
use Rattle.vt_event.specs.Kinds.{is_note}
use Rattle.vt_event.specs.Pairs.{Pairs}
use Rattle.vt_run.specs.declared.settings.Settings.{Settings}
use Rattle.vt_run.specs.calls.Arguments.{Given, all_args, each_of, items_round}
use Rattle.vt_run.specs.calls.PatternCalls.{Item, beats_round, even_items, timed_items}
use Rattle.vt_run.specs.calls.PlayCalls.{notes_asked, plays_notes}
use Rattle.vt_run.specs.Limits.{ArePairsWithin, AreSettingsWithin}
use Rattle.vt_run.proofs.facts.ArgumentFacts.{IsNotNegative, each_of_within, items_round_within, none_negative, under}
use Rattle.vt_run.proofs.facts.Known.{IsGivenWithin, IsTold, Quiet}
use Rattle.vt_run.proofs.facts.NoteFacts.{AreAsked, ArePlayed, asked_give, each_under, notes_asked_give, played_told}
use Rattle.vt_run.proofs.facts.PairFacts.{each_zip}
use Rattle.vt_event.specs.Event.{EventView}

-- each value is a note, or silence
abbrev pub AreNotes : List (Option Value) → Type 0
AreNotes notes = AllByRecursion (λ note. IfSome note (λ value. IsTrue (is_note value))) notes

-- the notes are within the limits
abbrev pub AreNotesWithin : List (Option Value) → Type 0
AreNotesWithin notes = AllByRecursion (λ note. IfSome note IsWithin) notes

abbrev pub HasNotes : Item → Type 0
HasNotes item = AreNotes item.0

-- the notes are within the limits, and the beats are a fraction that is not negative
abbrev pub IsItem : Item → Type 0
IsItem item = AreNotesWithin item.0 × (IsFraction item.1 × (is_negative item.1 ≡ false))

beats_give : (n : ℕ) (value : Value) → IsWithin value → IfOk (beats_round n value) (AllByRecursion IsFraction)
beats_give n value h =
    let items = items_round n (each_of value) in
    cond_gives (is_some (number_of value) || is_some (ring_of value)) (all_of (map number_argument items)) WrongKind (AllByRecursion IsFraction) (λ kind.
    IfOk-weaker (all_of (map number_argument items)) (λ beats. AllByRecursion IsFraction beats × (length beats ≡ length items)) (AllByRecursion IsFraction) (λ beats all. all.0)
    (all_of_gives number_argument IsWithin IsFraction number_argument_gives items (items_round_within n (each_of value) (each_of_within value h))))

-- Both, the limits under L
module _ (L : Type 0) where
  abbrev IsMade : Item → Type 0
  IsMade item = ArePlayed L item.0 × (L → IsFraction item.1) × (is_negative item.1 ≡ false)

  are_notes : (notes : List (Option Value)) → ArePlayed L notes → AreNotes notes
  are_notes [] h = tt
  are_notes (None ∷ notes) h = (tt, are_notes notes h.1)
  are_notes (Some note ∷ notes) h = (h.0.number, are_notes notes h.1)

  are_within : (l : L) (notes : List (Option Value)) → ArePlayed L notes → AreNotesWithin notes
  are_within l [] h = tt
  are_within l (None ∷ notes) h = (tt, are_within l notes h.1)
  are_within l (Some note ∷ notes) h = (h.0.within l, are_within l notes h.1)

  have_notes : (items : List Item) → AllByRecursion IsMade items → AllByRecursion HasNotes items
  have_notes [] h = tt
  have_notes (item ∷ items) h = (are_notes item.0 h.0.0, have_notes items h.1)

  are_items : (l : L) (items : List Item) → AllByRecursion IsMade items → AllByRecursion IsItem items
  are_items l [] h = tt
  are_items l (item ∷ items) h = ((are_within l item.0 h.0.0, (h.0.1 l, h.0.2)), are_items l items h.1)

  played_of : (notes : List (Option Value)) → AreNotes notes → (L → AreNotesWithin notes) → ArePlayed L notes
  played_of [] n w = tt
  played_of (None ∷ notes) n w = (tt, played_of notes n.1 (λ l. (w l).1))
  played_of (Some note ∷ notes) n w = (record { number = n.0; within = λ l. (w l).0 }, played_of notes n.1 (λ l. (w l).1))

  -- the kinds of all notes of a ring, and then their names
  ring_asked : (ring : List Value) → (L → AreWithin ring) → IfOk (all_of (map notes_asked ring)) (AllByRecursion (AreAsked L))
  ring_asked ring h =
      IfOk-weaker (all_of (map notes_asked ring)) (λ asked. AllByRecursion (AreAsked L) asked × (length asked ≡ length ring)) (AllByRecursion (AreAsked L)) (λ asked all. all.0)
      (all_of_gives notes_asked (λ (value : Value). L → IsWithin value) (AreAsked L) (notes_asked_give L) ring (each_under L ring h))

  ring_played : (asked : List (List (Result (Option Value) FaultKind))) → AllByRecursion (AreAsked L) asked → IfOk (all_of (map all_of asked)) (AllByRecursion (ArePlayed L))
  ring_played asked h =
      IfOk-weaker (all_of (map all_of asked)) (λ notes. AllByRecursion (ArePlayed L) notes × (length notes ≡ length asked)) (AllByRecursion (ArePlayed L)) (λ notes all. all.0)
      (all_of_gives all_of (AreAsked L) (ArePlayed L) (asked_give L) asked h)

  -- beats that are not negative, fractions under L
  abbrev IsBeat : Fraction → Type 0
  IsBeat beats = (L → IsFraction beats) × (is_negative beats ≡ false)

  each_beat : (beats : List Fraction) → (L → AllByRecursion IsFraction beats) → AllByRecursion IsNotNegative beats → AllByRecursion IsBeat beats
  each_beat [] f h = tt
  each_beat (beat ∷ beats) f h = ((λ l. (f l).0, h.0), each_beat beats (λ l. (f l).1) h.1)

  module _ (given : Given) (g : L → IsGivenWithin given) where
    even_items_give : IfOk (even_items given) (AllByRecursion IsMade)
    even_items_give =
        and_then_gives (a_ring (all_args given)) _ (λ ring. L → IsRingWithin ring) _ (under L (a_ring (all_args given)) IsRingWithin (λ l. a_ring_gives (all_args given) (g l).args)) (λ ring r.
        and_then_gives (all_of (map notes_asked ring)) _ (AllByRecursion (AreAsked L)) _ (ring_asked ring (λ l. (r l).each)) (λ asked a.
        and_then_gives (all_of (map all_of asked)) _ (AllByRecursion (ArePlayed L)) _ (ring_played asked a) (λ notes n.
        each_map (ArePlayed L) IsMade (λ played. (played, whole (pos 1))) (λ played p. (p, (λ l. whole_fraction (pos 1) (omega arith)), refl)) notes n)))

    timed_items_give : IfOk (timed_items given) (AllByRecursion IsMade)
    timed_items_give =
        and_then_gives (two_of (all_args given)) _ (λ both. L → IsWithin both.0 × IsWithin both.1) _ (under L (two_of (all_args given)) (λ both. IsWithin both.0 × IsWithin both.1) (λ l. two_give (all_args given) (g l).args)) (λ both b.
        and_then_gives (ring_argument both.0) _ (λ ring. L → IsRingWithin ring) _ (under L (ring_argument both.0) IsRingWithin (λ l. ring_argument_gives both.0 (b l).0)) (λ ring r.
        and_then_gives (all_of (map notes_asked ring)) _ (AllByRecursion (AreAsked L)) _ (ring_asked ring (λ l. (r l).each)) (λ asked a.
        and_then_gives (beats_round (length ring) both.1) _ (λ beats. L → AllByRecursion IsFraction beats) _
        (under L (beats_round (length ring) both.1) (AllByRecursion IsFraction) (λ l. beats_give (length ring) both.1 (b l).1)) (λ beats f.
        and_then_gives (all_of (map all_of asked)) _ (AllByRecursion (ArePlayed L)) _ (ring_played asked a) (λ notes n.
        cond_gives (list_all (λ n. not (is_negative n)) beats) _ BadValue _ (λ forward.
        cond_gives (nat_eq (length ring) 0 || nat_lt 0 (length (each_of both.1))) _ EmptyRing _ (λ some.
        each_zip (ArePlayed L) IsBeat IsMade (λ played beat p q. (p, q.0, q.1)) notes beats n (each_beat beats f (none_negative beats forward)))))))))

-- The items of each call

pub even_items_fact : (given : Given) (items : List Item) → even_items given ≡ Ok items → IsGivenWithin given → AllByRecursion IsItem items
even_items_fact given items e g =
    are_items (IsGivenWithin given) g items (IfOk-at_ok (AllByRecursion (IsMade (IsGivenWithin given))) e (even_items_give (IsGivenWithin given) given (λ l. l)))

pub timed_items_fact : (given : Given) (items : List Item) → timed_items given ≡ Ok items → IsGivenWithin given → AllByRecursion IsItem items
timed_items_fact given items e g =
    are_items (IsGivenWithin given) g items (IfOk-at_ok (AllByRecursion (IsMade (IsGivenWithin given))) e (timed_items_give (IsGivenWithin given) given (λ l. l)))

pub even_items_notes : (given : Given) (items : List Item) → even_items given ≡ Ok items → AllByRecursion HasNotes items
even_items_notes given items e = have_notes ⊥ items (IfOk-at_ok (AllByRecursion (IsMade ⊥)) e (even_items_give ⊥ given (λ l. absurd l)))

pub timed_items_notes : (given : Given) (items : List Item) → timed_items given ≡ Ok items → AllByRecursion HasNotes items
timed_items_notes given items e = have_notes ⊥ items (IfOk-at_ok (AllByRecursion (IsMade ⊥)) e (timed_items_give ⊥ given (λ l. absurd l)))

-- the events of notes
pub notes_told : (L : Type 0) (T : EventView → Type 0) → Quiet L T → (options : Pairs) (settings : Settings) (notes : List (Option Value)) →
    (L → ArePairsWithin options) → (L → AreSettingsWithin settings) → AreNotes notes → (L → AreNotesWithin notes) →
    AllByRecursion (λ event. (place : Place) → (L → IsFraction place.time) → IsTold L T place (event place)) (plays_notes options settings notes)
notes_told L T quiet options settings notes o s n w = played_told L T quiet options settings notes o s (played_of L notes n w)
