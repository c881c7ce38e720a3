-- What holds of the threads of texts, as the meaning of a session takes them: own.
use Rattle.std.specs.Prelude.{◌≤◌, ◌≡◌, ℕ, ◌<◌, ◌^◌, List, map, Bool, true, false, Some, Contains, slice_get}
use Rattle.vt_event.specs.declared.place.Place.{Place}
use Rattle.vt_event.specs.Event.{EventView}
use Rattle.vt_event.specs.Orderly.{AreOrderly}
use Rattle.vt_frac.specs.Fraction.{Fraction, IsFraction}
use Rattle.vt_path.specs.declared.pattern.Segment.{Segment}
use Rattle.vt_run.specs.declared.action.Action.TheVariants.{Emit, Rest, Spawn}
use Rattle.vt_run.specs.declared.start.Start.{Start}
use Rattle.vt_run.specs.declared.texts.Texts.{Texts}
use Rattle.vt_run.specs.Actions.{is_past}
use Rattle.vt_run.specs.Limits.{AreChecked, IsEventWithin, IsStartWithin}
use Rattle.vt_run.specs.Standing.{stands_at}
use Rattle.vt_run.specs.Threads.{acts}
use Rattle.vt_state.specs.LookUps.{HaveOwnPlaces}
use Rattle.vt_event.specs.declared.score.Outcome.TheVariants.{Scored, Spent}
use Rattle.vt_event.specs.declared.score.Score.{Score}
use Rattle.vt_meaning.specs.NextPlaces.{IsFinished}
use Rattle.vt_meaning.specs.Numbers.{OpensLow, StartsLow}
use Rattle.vt_meaning.specs.Meaning.{meaning, score_of}
use Rattle.vt_meaning.specs.Causal.{cut, IsPartOf, IsPrompt, IsWithin, lines_below}
use Rattle.vt_meaning.specs.Consistent.{IsConsistent}
use Rattle.vt_meaning.specs.Disturbers.{standing_at}
use Rattle.vt_meaning.specs.Happenings.{FirstOr, IsLast}
use Rattle.vt_meaning.specs.LookUps.{answer_of, first_above, last_below, matches_event}
use Rattle.vt_meaning.specs.Places.{Earlier}
use Rattle.vt_meaning.specs.Reach.{IsFed, IsKnown}
use Rattle.vt_meaning.specs.Session.{Key, opening_of, threads_of, with_horizon}
use Rattle.vt_meaning.specs.ThreadLaws.{AreActs, IsActs, IsGivenApart, IsOrderly, IsSession, IsStartsApart}
use Rattle.vt_meaning.specs.ThreadMeaning.{patterns_of, ThreadMeaning, Wants}
use Rattle.vt_meaning.specs.Traces.{Entry, MovesOn, Thread, stance_in, trace}
use Rattle.vt_meaning.specs.World.{events_of, Opening, total_of}

-- what texts mean to their threads up to a horizon, whatever is said of what these may write and of what the texts can lead to
abbrev pub threads_with : Texts → Fraction → (Start → List Segment → Bool) → (Start → Bool) → (EventView → Bool) → ThreadMeaning
threads_with texts until may fit known = record {
  until = until;
  acts = λ start answers n. acts texts (with_horizon until start) answers n;
  may = may;
  fit = fit;
  known = known;
}

-- of each such meaning this holds
abbrev pub OfTexts : (Texts → Fraction → ThreadMeaning → Type 0) → Type 0
OfTexts Holds =
    (texts : Texts) (until : Fraction) (may : Start → List Segment → Bool) (fit : Start → Bool) (known : EventView → Bool) →
    Holds texts until (threads_with texts until may fit known)

-- .. and of each of checked texts, with a horizon that a type holds
abbrev pub OfCheckedTexts : (Texts → Fraction → ThreadMeaning → Type 0) → Type 0
OfCheckedTexts Holds = OfTexts (λ texts until m. AreChecked texts → IsFraction until → Holds texts until m)

-- the threads of texts have the laws of steps
abbrev pub TextsAct : Type 0
TextsAct = OfTexts (λ texts until m. AreActs m)

-- where a thread stands after what it did is where a runner of its text says that it stands
abbrev pub TextsStand : Type 0
TextsStand =
    OfTexts (λ texts until m. (thread : Thread) →
    stance_in m thread ≡ stands_at (with_horizon until thread.start) thread.answers (m.acts thread.start thread.answers thread.done))

-- a thread starts another one at the time at which it stands
abbrev pub TextsArePrompt : Type 0
TextsArePrompt = OfTexts (λ texts until m. IsPrompt m)

-- .. as step 1, and in the micro step in which it stands
abbrev pub TextsStartLow : Type 0
TextsStartLow = OfTexts (λ texts until m. StartsLow m)

-- a rest moves a thread on that was fed so
abbrev pub TextsMove : Type 0
TextsMove =
    OfCheckedTexts (λ texts until m. (thread : Thread) (i : ℕ) (entry : Entry) (place : Place) (seconds : Fraction) →
    IsFed m thread i → slice_get (trace m thread) i ≡ Some entry → entry.step.action ≡ Some (Rest place seconds) → MovesOn place seconds)

-- what such a thread starts is within the limits of the language
abbrev pub TextsBreed : Type 0
TextsBreed =
    OfCheckedTexts (λ texts until m. (thread : Thread) (i : ℕ) (entry : Entry) (place : Place) (start : Start) →
    IsFed m thread i → slice_get (trace m thread) i ≡ Some entry → entry.step.action ≡ Some (Spawn place start) → IsStartWithin start)

-- what such a thread publishes that can be found is within the limits of the language
abbrev pub TextsTell : Type 0
TextsTell =
    OfCheckedTexts (λ texts until m. (thread : Thread) (i : ℕ) (entry : Entry) (event : EventView) (pattern : List Segment) →
    IsFed m thread i → slice_get (trace m thread) i ≡ Some entry → entry.step.action ≡ Some (Emit event) → matches_event pattern event ≡ true → IsEventWithin event)

-- What is to be shown of the rest of a meaning of texts: what its threads lead to is what the texts can lead to, and they write what they may.
pub record IsLeading (m : ThreadMeaning) : Type 0 where
  pub knows : (thread : Thread) (i : ℕ) (entry : Entry) (event : EventView) (pattern : List Segment) → IsFed m thread i → slice_get (trace m thread) i ≡ Some entry → entry.step.action ≡ Some (Emit event) → matches_event pattern event ≡ true →
      m.known event ≡ true
  pub breeds : (thread : Thread) (i : ℕ) (entry : Entry) (place : Place) (start : Start) → IsFed m thread i → slice_get (trace m thread) i ≡ Some entry → entry.step.action ≡ Some (Spawn place start) →
      m.fit start ≡ true
  pub writes : (thread : Thread) (i : ℕ) (entry : Entry) (event : EventView) (pattern : List Segment) → IsFed m thread i → slice_get (trace m thread) i ≡ Some entry → entry.step.action ≡ Some (Emit event) → matches_event pattern event ≡ true →
      m.may thread.start pattern ≡ true
  pub passes : (thread : Thread) (i : ℕ) (entry : Entry) (place : Place) (start : Start) (pattern : List Segment) → IsFed m thread i → slice_get (trace m thread) i ≡ Some entry → entry.step.action ≡ Some (Spawn place start) → m.may start pattern ≡ true →
      m.may thread.start pattern ≡ true

-- with that it has all laws that the theory of stores asks for
abbrev pub TextsAreActs : Type 0
TextsAreActs = OfCheckedTexts (λ texts until m. IsLeading m → IsActs m)

-- the times at which the texts of a session begin
abbrev pub text_times : Texts → List Fraction
text_times texts = map (λ text. text.0) texts

-- A session as it is rendered: its texts are checked, its texts and inputs are orderly, its horizon is a time, and its seed is one of 64 bits.
pub record IsRendered (key : Key) : Type 0 where
  pub checked : AreChecked key.texts
  pub orderly : AreOrderly (text_times key.texts) key.inputs
  pub horizon : IsFraction key.options.until
  pub seed : key.options.seed < 2 ^ 64

-- what such a session begins with: each text and refusal with a list of its own, each input with a place of its own, and all within the limits
pub record IsOpening (key : Key) : Type 0 where
  pub orderly : IsOrderly (opening_of key)
  pub given : IsGivenApart (opening_of key)
  pub texts : IsStartsApart (opening_of key)
  pub known : IsKnown (threads_of key.texts key.options.until) (opening_of key)
  pub places : HaveOwnPlaces (opening_of key).given
  -- and below the horizon
  pub early : (start : Start) → Contains (opening_of key).starts start → is_past key.options.until start.place.time ≡ false
  pub heard : (event : EventView) → Contains (opening_of key).given event → is_past key.options.until event.place.time ≡ false
  -- and in micro step 0
  pub low : OpensLow (opening_of key)

abbrev pub OpeningsAreOrderly : Type 0
OpeningsAreOrderly = (key : Key) → IsRendered key → IsOpening key

-- .. and all of it stands below the horizon, as does what is started below it
abbrev pub OpeningsAreWithin : Type 0
OpeningsAreWithin =
    (key : Key) (may : Start → List Segment → Bool) (fit : Start → Bool) (known : EventView → Bool) → IsRendered key → IsWithin (threads_with key.texts key.options.until may fit known) (opening_of key)

-- In a consistent set of threads of a session whose given events have places of their own each event has one. So the look-ups find what a read and a wait find by the time state.
abbrev pub EventsHaveOwnPlaces : Type 0
EventsHaveOwnPlaces =
    (m : ThreadMeaning) (opening : Opening) → IsSession m opening → HaveOwnPlaces opening.given → (threads : List Thread) → IsConsistent m opening threads → HaveOwnPlaces (events_of m opening threads)

-- what the look-ups find among the events of such a set is what a read and a wait find there
abbrev pub LookUpsFind : Type 0
LookUpsFind =
    (m : ThreadMeaning) (opening : Opening) → IsSession m opening → (threads : List Thread) → IsConsistent m opening threads →
    ((place : Place) (pattern : List Segment) → IsLast m opening threads place pattern (answer_of (last_below (events_of m opening threads) place pattern)))
    × ((place : Place) (wants : Wants) → FirstOr m opening threads place wants (first_above (events_of m opening threads) place (patterns_of wants)))

-- No thread of such a set stands at or past the horizon, where what the session begins with stands below it, and what is started below it.
abbrev pub NoneStandsPast : Type 0
NoneStandsPast =
    (m : ThreadMeaning) (opening : Opening) → IsSession m opening → IsWithin m opening → (threads : List Thread) → IsConsistent m opening threads →
    (k : ℕ) (thread : Thread) (place : Place) → slice_get threads k ≡ Some thread → standing_at (stance_in m thread) ≡ Some place → Earlier place.time m.until

-- A rendered session, with any reach that its texts keep within and that it begins in.
pub record IsRenderedWithin (key : Key) (may : Start → List Segment → Bool) (fit : Start → Bool) (known : EventView → Bool) : Type 0 where
  pub rendered : IsRendered key
  pub leading : IsLeading (threads_with key.texts key.options.until may fit known)
  pub begun : IsKnown (threads_with key.texts key.options.until may fit known) (opening_of key)

-- Where each thread may write everything, and the texts lead to everything, nothing more is to be shown.
abbrev pub AllIsWithin : Type 0
AllIsWithin = (key : Key) → IsRendered key → IsRenderedWithin key (λ start pattern. true) (λ start. true) (λ event. true)

-- **a session as it is rendered is one of which the theory of stores speaks**, with any such reach
abbrev pub RenderedIsSession : Type 0
RenderedIsSession =
    (key : Key) (may : Start → List Segment → Bool) (fit : Start → Bool) (known : EventView → Bool) → IsRenderedWithin key may fit known → IsSession (threads_with key.texts key.options.until may fit known) (opening_of key)

-- a store of a rendered session: such a reach, and which threads it holds
pub record IsStoreOf (key : Key) (may : Start → List Segment → Bool) (fit : Start → Bool) (known : EventView → Bool) (threads : List Thread) : Type 0 where
  pub session : IsRenderedWithin key may fit known
  pub consistent : IsConsistent (threads_with key.texts key.options.until may fit known) (opening_of key) threads

-- **a finished store of a rendered session that is within the budget holds what the session means**
abbrev pub FinishedIsMeant : Type 0
FinishedIsMeant =
    (key : Key) (may : Start → List Segment → Bool) (fit : Start → Bool) (known : EventView → Bool) (threads : List Thread) → IsStoreOf key may fit known threads →
    IsFinished (threads_with key.texts key.options.until may fit known) (opening_of key) threads → total_of (threads_with key.texts key.options.until may fit known) threads ≤ key.options.budget →
    meaning key ≡ Scored (score_of (threads_with key.texts key.options.until may fit known) (opening_of key) threads)

-- **a store of a rendered session that is above the budget is of one that is spent**
abbrev pub AboveIsSpent : Type 0
AboveIsSpent =
    (key : Key) (may : Start → List Segment → Bool) (fit : Start → Bool) (known : EventView → Bool) (threads : List Thread) → IsStoreOf key may fit known threads →
    key.options.budget < total_of (threads_with key.texts key.options.until may fit known) threads → meaning key ≡ Spent

-- Early texts of two rendered sessions fix their early events: by the time as their horizon and with some reach that they keep within, they are a part of what the texts of each session mean, and what the sessions begin with below the time is the same.
pub record IsEarlyPart (time : Fraction) (early : Texts) (key other : Key) (m : ThreadMeaning) : Type 0 where
  pub checked : AreChecked early
  pub horizon : IsFraction time
  pub leading : IsLeading m
  pub begun : IsKnown m (cut time (opening_of key))
  pub part : IsPartOf m (threads_of key.texts key.options.until)
  pub other_part : IsPartOf m (threads_of other.texts other.options.until)
  pub same : cut time (opening_of key) ≡ cut time (opening_of other)

-- **causality of rendered sessions**: then their scores have the same events below the time
abbrev pub EarlyTextsFix : Type 0
EarlyTextsFix =
    (time : Fraction) (early : Texts) (key other : Key) (may : Start → List Segment → Bool) (fit : Start → Bool) (known : EventView → Bool) → IsRendered key → IsRendered other → IsEarlyPart time early key other (threads_with early time may fit known) →
    (score score' : Score) → meaning key ≡ Scored score → meaning other ≡ Scored score' → lines_below time score.events ≡ lines_below time score'.events
