-- In a consistent set of threads each event has a place of its own.
use Rattle.std.proofs.Common.{◌≡◌, ℕ, zero, suc, ◌+◌, ◌<◌, List, [], ◌∷◌, length, refl, sym, ◌∙◌, ap, inl, inr, ◌⊎◌, arith, Option, Some, None}
use Rattle.std.specs.Prelude.{Contains, slice_get}
use Rattle.vt_event.specs.Event.{EventView}
use Rattle.vt_run.specs.declared.action.Action.{Action}
use Rattle.vt_run.specs.declared.action.Action.TheVariants.{Emit, Rest, Read, Wait, Spawn, End}
use Rattle.vt_state.specs.LookUps.{HaveOwnPlaces}
use Rattle.vt_state.proofs.OwnPlaces.{index_of, own_append}
use Rattle.vt_meaning.specs.Happenings.{Emitted}
use Rattle.vt_meaning.specs.ThreadMeaning.{ThreadMeaning}
use Rattle.vt_meaning.specs.Traces.{Entry, Thread, trace}
use Rattle.vt_meaning.specs.World.{emitted_by, emitted_in, emitted_one, events_of, Opening}
use Rattle.vt_meaning.proofs.Lists.{get-append_cases, none_some}

-- the event of an action
in_one : (action : Option Action) (k : ℕ) (event : EventView) → slice_get (emitted_one action) k ≡ Some event → action ≡ Some (Emit event)
in_one None k event at = absurd (none_some at)
in_one (Some (Emit other)) zero event at = let z : Some other ≡ Some event = at in let same : other ≡ event = cc z in ap (λ (e : EventView). Some (Emit e)) same
in_one (Some (Emit other)) (suc k) event at = absurd (none_some at)
in_one (Some (Rest place seconds)) k event at = absurd (none_some at)
in_one (Some (Read place pattern)) k event at = absurd (none_some at)
in_one (Some (Wait place pattern stop)) k event at = absurd (none_some at)
in_one (Some (Spawn place start)) k event at = absurd (none_some at)
in_one (Some (End place reason)) k event at = absurd (none_some at)

-- an action publishes one event at most
one_own : (action : Option Action) → HaveOwnPlaces (emitted_one action)
one_own None i j event other at there same = absurd (none_some at)
one_own (Some (Emit e)) zero zero event other at there same = refl
one_own (Some (Emit e)) zero (suc j) event other at there same = absurd (none_some there)
one_own (Some (Emit e)) (suc i) j event other at there same = absurd (none_some at)
one_own (Some (Rest place seconds)) i j event other at there same = absurd (none_some at)
one_own (Some (Read place pattern)) i j event other at there same = absurd (none_some at)
one_own (Some (Wait place pattern stop)) i j event other at there same = absurd (none_some at)
one_own (Some (Spawn place start)) i j event other at there same = absurd (none_some at)
one_own (Some (End place reason)) i j event other at there same = absurd (none_some at)

-- the entry with this number publishes the event
record Publishes (entries : List Entry) (i : ℕ) (event : EventView) : Type 0 where
  entry : Entry
  did : slice_get entries i ≡ Some entry
  is : entry.step.action ≡ Some (Emit event)

in_entries : (entries : List Entry) (k : ℕ) (event : EventView) → slice_get (emitted_in entries) k ≡ Some event → (i : ℕ) × Publishes entries i event
in_entries [] k event at = absurd (none_some at)
in_entries (entry ∷ entries) k event at = go (get-append_cases (emitted_one entry.step.action) (emitted_in entries) k event at) (λ j there. in_entries entries j event there)
  where
    go : (slice_get (emitted_one entry.step.action) k ≡ Some event) ⊎ ((j : ℕ) × (k ≡ length (emitted_one entry.step.action) + j) × (slice_get (emitted_in entries) j ≡ Some event)) →
        ((j : ℕ) → slice_get (emitted_in entries) j ≡ Some event → (i : ℕ) × Publishes entries i event) → (i : ℕ) × Publishes (entry ∷ entries) i event
    go (inl here) rest = (0, record { entry = entry; did = refl; is = in_one entry.step.action k event here })
    go (inr there) rest = let r = rest there.0 there.2 in (suc r.0, record { entry = r.1.entry; did = r.1.did; is = r.1.is })

-- no later one of these entries publishes at the place of an earlier one
abbrev ArePlacesOwn : List Entry → Type 0
ArePlacesOwn entries = (i j : ℕ) (event other : EventView) → i < j → Publishes entries i event → Publishes entries j other → event.place ≡ other.place → ⊥

entries_own : (entries : List Entry) → ArePlacesOwn entries → HaveOwnPlaces (emitted_in entries)
entries_own [] rising = λ i j event other at there same. absurd (none_some at)
entries_own (entry ∷ entries) rising =
    own_append (emitted_one entry.step.action) (emitted_in entries) (one_own entry.step.action)
    (entries_own entries (λ i j event other lt p q same. rising (suc i) (suc j) event other (omega (arith, lt)) (record { entry = p.entry; did = p.did; is = p.is }) (record { entry = q.entry; did = q.did; is = q.is }) same))
    (λ event other has there same.
    let at = index_of (emitted_one entry.step.action) event has in
    let to = index_of (emitted_in entries) other there in
    let p = in_entries entries to.0 other to.1 in
    rising 0 (suc p.0) event other (omega arith) (record { entry = entry; did = refl; is = in_one entry.step.action at.0 event at.1 }) (record { entry = p.1.entry; did = p.1.did; is = p.1.is }) same)

-- the thread with this number publishes the event
record IsBy (m : ThreadMeaning) (threads : List Thread) (k : ℕ) (event : EventView) : Type 0 where
  thread : Thread
  has : slice_get threads k ≡ Some thread
  i : ℕ
  publishes : Publishes (trace m thread) i event

in_threads : (m : ThreadMeaning) (threads : List Thread) (n : ℕ) (event : EventView) → slice_get (emitted_by m threads) n ≡ Some event → (k : ℕ) × IsBy m threads k event
in_threads m [] n event at = absurd (none_some at)
in_threads m (thread ∷ threads) n event at = go (get-append_cases (emitted_in (trace m thread)) (emitted_by m threads) n event at) (λ j there. in_threads m threads j event there)
  where
    go : (slice_get (emitted_in (trace m thread)) n ≡ Some event) ⊎ ((j : ℕ) × (n ≡ length (emitted_in (trace m thread)) + j) × (slice_get (emitted_by m threads) j ≡ Some event)) →
        ((j : ℕ) → slice_get (emitted_by m threads) j ≡ Some event → (k : ℕ) × IsBy m threads k event) → (k : ℕ) × IsBy m (thread ∷ threads) k event
    go (inl here) rest = let p = in_entries (trace m thread) n event here in (0, record { thread = thread; has = refl; i = p.0; publishes = p.1 })
    go (inr there) rest = let r = rest there.0 there.2 in (suc r.0, record { thread = r.1.thread; has = r.1.has; i = r.1.i; publishes = r.1.publishes })

-- no two threads publish at one place
abbrev AreThreadsApart : ThreadMeaning → List Thread → Type 0
AreThreadsApart m threads = (k l : ℕ) (event other : EventView) → (k ≡ l → ⊥) → IsBy m threads k event → IsBy m threads l other → event.place ≡ other.place → ⊥

further : (m : ThreadMeaning) (thread : Thread) (threads : List Thread) (k : ℕ) (event : EventView) → IsBy m threads k event → IsBy m (thread ∷ threads) (suc k) event
further m thread threads k event by = record { thread = by.thread; has = by.has; i = by.i; publishes = by.publishes }

threads_own : (m : ThreadMeaning) (threads : List Thread) → ((k : ℕ) (thread : Thread) → slice_get threads k ≡ Some thread → ArePlacesOwn (trace m thread)) → AreThreadsApart m threads → HaveOwnPlaces (emitted_by m threads)
threads_own m [] each apart = λ i j event other at there same. absurd (none_some at)
threads_own m (thread ∷ threads) each apart =
    own_append (emitted_in (trace m thread)) (emitted_by m threads) (entries_own (trace m thread) (each 0 thread refl))
    (threads_own m threads (λ k other has. each (suc k) other has) (λ k l event other differ p q same.
    apart (suc k) (suc l) event other (λ e. differ (omega (arith, e))) (further m thread threads k event p) (further m thread threads l other q) same))
    (λ event other has there same.
    let at = index_of (emitted_in (trace m thread)) event has in
    let to = index_of (emitted_by m threads) other there in
    let p = in_entries (trace m thread) at.0 event at.1 in
    let q = in_threads m threads to.0 other to.1 in
    apart 0 (suc q.0) event other (λ e. absurd (omega (arith, e))) (record { thread = thread; has = refl; i = p.0; publishes = p.1 }) (further m thread threads q.0 other q.1) same)

-- what was published, by who did it
emitted_so : (m : ThreadMeaning) (threads : List Thread) (k : ℕ) (event : EventView) → IsBy m threads k event → Emitted m threads event
emitted_so m threads k event by = record { thread = by.thread; i = by.i; entry = by.publishes.entry; acted = record { at = k; has = by.has; did = by.publishes.did; is = by.publishes.is } }

-- Given the facts of a consistent set of threads: each event has the list of its thread; no thread has another's, or that of a given event; the places of a thread rise.
pub events_own : (m : ThreadMeaning) (opening : Opening) (threads : List Thread) → HaveOwnPlaces opening.given →
    ((event : EventView) → (by : Emitted m threads event) → event.place.thread ≡ by.thread.start.place.thread) →
    ((k l : ℕ) (thread twin : Thread) → slice_get threads k ≡ Some thread → slice_get threads l ≡ Some twin → thread.start.place.thread ≡ twin.start.place.thread → k ≡ l) →
    ((event : EventView) (k : ℕ) (thread : Thread) → Contains opening.given event → slice_get threads k ≡ Some thread → event.place.thread ≡ thread.start.place.thread → ⊥) →
    ((thread : Thread) (k i j : ℕ) (entry later : Entry) (event other : EventView) → slice_get threads k ≡ Some thread → slice_get (trace m thread) i ≡ Some entry → slice_get (trace m thread) j ≡ Some later →
    entry.step.action ≡ Some (Emit event) → later.step.action ≡ Some (Emit other) → i < j → event.place ≡ other.place → ⊥) →
    HaveOwnPlaces (events_of m opening threads)
unfolding emitted_so
events_own m opening threads own list_of lists not_given rising =
    own_append opening.given (emitted_by m threads) own
    (threads_own m threads
    (λ k thread has i j event other lt p q same. rising thread k i j p.entry q.entry event other has p.did q.did p.is q.is lt same)
    (λ k l event other differ p q same.
    differ (lists k l p.thread q.thread p.has q.has (sym (list_of event (emitted_so m threads k event p)) ∙ ap (λ w. w.thread) same ∙ list_of other (emitted_so m threads l other q)))))
    (λ event other has there same.
    let to = index_of (emitted_by m threads) other there in
    let q = in_threads m threads to.0 other to.1 in
    not_given event q.0 q.1.thread has q.1.has (ap (λ w. w.thread) same ∙ list_of other (emitted_so m threads q.0 other q.1)))
