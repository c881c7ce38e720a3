-- When the texts and the inputs of a session are orderly, and what an input is: own.
use Rattle.std.specs.Prelude.{◌≡◌, ℕ, ◌+◌, ◌≤◌, pos, ◌≤ℤ◌, List, [], ◌∷◌, Bool, true, false, Some, IsSomeAnd, IsTrue, All, codes, length, map, slice_get}
use Rattle.std.specs.List.Sorted.{IsSorted}
use Rattle.vt_frac.specs.Fraction.{Fraction, IsFraction, whole}
use Rattle.vt_frac.specs.Names.{is_symbol_name}
use Rattle.vt_frac.specs.Order.{value_order}
use Rattle.vt_path.specs.declared.inner_path.InnerKind.TheVariants.{Stop}
use Rattle.vt_path.specs.Inner.{inner_of}
use Rattle.vt_path.specs.Path.{IsPath}
use Rattle.vt_value.specs.declared.value.Value.{Value, out-Value}
use Rattle.vt_value.specs.declared.value.Value.TheOpen.{Value-F}
use Rattle.vt_value.specs.declared.value.Value.TheVariants.{Ring, Whole}
use Rattle.vt_value.specs.Kinds.{ring_of}
use Rattle.vt_value.specs.Limits.{IsWithin}
use Rattle.vt_event.specs.declared.kind.Kind.{Kind}
use Rattle.vt_event.specs.declared.kind.Kind.TheVariants.{Cue, Set, Ended}
use Rattle.vt_event.specs.declared.place.Place.{Place}
use Rattle.vt_event.specs.Event.{EventView, IsEvent}
use Rattle.vt_event.specs.EventsByKind.{cue_event, ended_event, set_event}

-- at most 1,048,576 times, each a fraction of at least 0, none below an earlier one
pub record AreOrderlyTimes (times : List Fraction) : Type 0 where
  pub few : length times ≤ 1048576
  pub fractions : All IsFraction times
  pub start : All (λ time. pos 0 ≤ℤ time.numer) times
  pub rising : IsSorted value_order times

-- the layer of a value that may be given with an input
abbrev pub given_layer : {A : Type 0} → Value-F A → Bool
given_layer (Value-F.Whole n) = true
given_layer (Value-F.Part f) = true
given_layer (Value-F.Sym name) = true
given_layer (Value-F.Text bytes) = true
given_layer _ = false

-- what may be given with an input: a number, a symbol or a text
abbrev pub is_given : Value → Bool
is_given value = given_layer (out-Value value)

-- where the input with this number, from 1, stands: in the thread `[0]`, at micro step 0, and its number is the step
abbrev pub input_place : Fraction → ℕ → Place
input_place time number = record { time = time; micro = 0; thread = 0 ∷ []; step = number }

-- a cue is given, at a path that a user may write, with the ring of its values
pub record IsGivenCue (event : EventView) : Type 0 where
  pub path : IsSomeAnd event.path IsPath
  pub values : IsSomeAnd (ring_of event.value) (All (λ item. IsTrue (is_given item)))

-- a value that may be given is set, at a path that a user may write
pub record IsGivenSet (event : EventView) : Type 0 where
  pub path : IsSomeAnd event.path IsPath
  pub value : IsTrue (is_given event.value)

-- the path `/!stop/NAME`, with the name of a symbol
pub record IsStopPath (path : List (List ℕ)) : Type 0 where
  pub name : List ℕ
  pub symbol : IsTrue (is_symbol_name name)
  pub whole : path ≡ inner_of Stop name

-- what is given, by its kind: a cue, a set, or an end at a stop path, by which a live loop is told to stop
abbrev pub IsGiven : Kind → EventView → Type 0
IsGiven Cue event = IsGivenCue event
IsGiven Set event = IsGivenSet event
IsGiven Ended event = IsSomeAnd event.path IsStopPath
IsGiven _ event = ⊥

-- The input with this number, from 1: it stands at its place, and a cue, a set or a stop is given with it. It has the fields of its kind and no others, so a stop has nil; and its value is within the limits of the language.
pub record IsInput (number : ℕ) (event : EventView) : Type 0 where
  pub place : event.place ≡ input_place event.place.time number
  pub form : IsGiven event.kind event
  pub fields : IsEvent event
  pub within : IsWithin event.value

-- Texts that begin at these times, and these inputs, are orderly: so are the times of each, and each input is one with its number from 1. Empty lists are orderly.
pub record AreOrderly (text_times : List Fraction) (inputs : List EventView) : Type 0 where
  pub texts : AreOrderlyTimes text_times
  pub inputs_times : AreOrderlyTimes (map (λ input. input.place.time) inputs)
  pub each : (k : ℕ) (input : EventView) → slice_get inputs k ≡ Some input → IsInput (k + 1) input

-- a cue of `/cue/a` with the value 60
abbrev pub cue_of_60 : Place → EventView
cue_of_60 place = cue_event place (codes "cue" ∷ codes "a" ∷ []) (Ring (Whole (pos 60) ∷ []))

-- a set of `/set/a` to 60
abbrev pub set_to_60 : Place → EventView
set_to_60 place = set_event place (codes "set" ∷ codes "a" ∷ []) (Whole (pos 60))

-- a stop of the live loop `a`
abbrev pub stop_of_a : Place → EventView
stop_of_a place = ended_event place (inner_of Stop (codes "a"))

-- there are such texts and inputs: texts at 0 and 8 seconds, and an input of each sort, at 0, 5/2 and 4
abbrev pub SomeListsAreOrderly : Type 0
SomeListsAreOrderly = AreOrderly (whole (pos 0) ∷ whole (pos 8) ∷ [])
    (cue_of_60 (input_place (whole (pos 0)) 1)
    ∷ set_to_60 (input_place (record { numer = pos 5; denom = 2 }) 2)
    ∷ stop_of_a (input_place (whole (pos 4)) 3) ∷ [])
