-- What is given in turns, as lists that have a value for every argument. Only models and clauses of private things cite this.
use Rattle.std.specs.Prelude.{ℕ, ◌+◌, pos, List, [], ◌∷◌, length, map, Bool, ◌||◌, not, cond, nat_eq, nat_lt, Option, Some, None, Result, Ok, Err}
use Rattle.std.specs.List.{list_all, zip}
use Rattle.vt_frac.specs.Fraction.{Fraction, whole}
use Rattle.vt_ring.specs.Answers.{and_then, all_of}
use Rattle.vt_ring.specs.Called.{demand}
use Rattle.vt_ring.specs.Exact.{is_negative}
use Rattle.vt_ring.specs.Items.{item_at}
use Rattle.vt_ring.specs.Signatures.{number_argument}
use Rattle.vt_value.specs.declared.fault.FaultKind.{FaultKind}
use Rattle.vt_value.specs.declared.fault.FaultKind.TheVariants.{BadValue, EmptyRing}
use Rattle.vt_value.specs.declared.value.Value.{Value}
use Rattle.vt_run.specs.calls.Arguments.{each_of, has_item, ring_if_given}
use Rattle.vt_run.specs.calls.PatternCalls.{Item, beats_round}
use Rattle.vt_run.specs.calls.PlayCalls.{notes_asked}
use Rattle.vt_run.specs.calls.ThreadCalls.{values_for}
use Rattle.vt_run.specs.calls.TimeCalls.{seconds_of}
use Rattle.vt_given.specs.Notes.{sounding}

-- the value of an answer, and another one for a fault
abbrev pub made_or : {A : Type 0} → A → Result A FaultKind → A
made_or other (Ok value) = value
made_or other (Err kind) = other

-- the number that a value is, and 0 for another value
abbrev pub number_in : Value → Fraction
number_in value = made_or (whole (pos 0)) (number_argument value)

-- so many beats in seconds, and 0 where that does not fit
abbrev pub seconds_in : Fraction → Fraction → Fraction
seconds_in bpm beats = made_or (whole (pos 0)) (seconds_of beats bpm)

abbrev pub not_below : Fraction → Bool
not_below number = not (is_negative number)

-- The threads of `at`

-- the rest before a block of `at`, by its number
abbrev pub rest_at : Fraction → Value → Fraction
rest_at bpm time = cond (is_negative (number_in time)) (whole (pos 0)) (seconds_in bpm (number_in time))

-- the value that the block is given
abbrev pub value_at : Option (List Value) → ℕ → Value → Value
value_at None at time = time
value_at (Some items) at time = made_or time (item_at items (pos at))

-- the rests and values of the blocks from this one on
abbrev pub timed : Fraction → Option (List Value) → ℕ → List Value → List (Fraction × Value)
timed bpm items at [] = []
timed bpm items at (time ∷ times) = (rest_at bpm time, value_at items at time) ∷ timed bpm items (at + 1) times

-- what the numbers and the ring of `at` come to
abbrev pub timed_by : List Value → Option Value → Fraction → Result (List (Fraction × Value)) FaultKind
timed_by times ring bpm =
    and_then (all_of (map number_argument times)) (λ beats.
    and_then (ring_if_given ring) (λ items.
    demand (list_all not_below beats) BadValue
    (demand (nat_eq (length beats) 0 || has_item items) EmptyRing
    (and_then (all_of (map (λ n. seconds_of n bpm) beats)) (λ rests.
    Ok (zip rests (values_for items times)))))))

-- The items of patterns

-- the notes of an item by their kinds, and none where one is of another kind
abbrev pub asked_in : Value → List (Result (Option Value) FaultKind)
asked_in value = made_or [] (notes_asked value)

-- the notes that an item plays, and none where one has no such name
abbrev pub notes_in : Value → List (Option Value)
notes_in value = made_or [] (all_of (asked_in value))

-- the number of beats of an item: that at its place in the ring, which is gone through again and again
abbrev pub beat_of : List Value → ℕ → Result Fraction FaultKind
beat_of times at = and_then (item_at times (pos at)) number_argument

abbrev pub beats_at : Option (List Value) → ℕ → Fraction
beats_at None at = whole (pos 1)
beats_at (Some times) at = made_or (whole (pos 0)) (beat_of times at)

-- the items from this one on
abbrev pub items_from : Option (List Value) → ℕ → List Value → List (List Value × Fraction)
items_from times at [] = []
items_from times at (value ∷ values) = (sounding (notes_in value), beats_at times at) ∷ items_from times (at + 1) values

-- what a ring and the numbers of its beats come to
abbrev pub timed_items_by : List Value → Value → Result (List Item) FaultKind
timed_items_by ring times =
    and_then (all_of (map notes_asked ring)) (λ asked.
    and_then (beats_round (length ring) times) (λ beats.
    and_then (all_of (map all_of asked)) (λ notes.
    demand (list_all not_below beats) BadValue
    (demand (nat_eq (length ring) 0 || nat_lt 0 (length (each_of times))) EmptyRing
    (Ok (zip notes beats))))))
