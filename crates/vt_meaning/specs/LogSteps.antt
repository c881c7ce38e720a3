-- The steps of a store, and which logs are those of stores: own.
--
-- The log says of each step whose it was and of which record. Here stands what must hold for an entry to name a step at all, and what the step leaves. Halting is a step without an entry.
use Rattle.std.specs.Prelude.{◌≡◌, ℕ, ◌<◌, List, [], ◌∷◌, ◌++◌, Bool, true, false, Some, None, slice_get}
use Rattle.vt_path.specs.declared.pattern.Segment.{Segment}
use Rattle.vt_event.specs.declared.place.Place.{Place}
use Rattle.vt_event.specs.Event.{EventView}
use Rattle.vt_run.specs.declared.action.Answer.{Answer}
use Rattle.vt_run.specs.declared.action.Answer.TheVariants.{Found}
use Rattle.vt_run.specs.Standing.{Asks, Ready}
use Rattle.vt_meaning.specs.Bounds.{Clear, Quiet}
use Rattle.vt_meaning.specs.Happenings.{IsFirst, IsLast}
use Rattle.vt_meaning.specs.Log.{Deed, LogEntry, Row, answered, come_back, next_piece, opening_rows, put_back, taken, threads_in}
use Rattle.vt_meaning.specs.Log.Deed.{Took, Published, PutBack, ReadAnswered, WaitAnswered}
use Rattle.vt_meaning.specs.ThreadMeaning.{ThreadMeaning, Wants}
use Rattle.vt_meaning.specs.Traces.{stance_in, waiting}
use Rattle.vt_meaning.specs.World.{Opening}

-- workers have numbers below this
abbrev pub worker_limit : ℕ
worker_limit = 64

-- a record is out to the worker
pub record IsOutTo (rows : List Row) (worker rec : ℕ) : Type 0 where
  pub row : Row
  pub has : slice_get rows rec ≡ Some row
  pub out : row.out ≡ Some worker

-- The entry names a step from these records to those. Its worker is below the limit, and its record is there.
pub data IsStep (m : ThreadMeaning) (opening : Opening) (rows : List Row) : LogEntry → List Row → Type 0 where
  -- a record whose thread goes on, and which is out to nobody, goes out to a worker who has none
  Takes : (worker rec : ℕ) (row : Row) (place : Place) → worker < worker_limit → slice_get rows rec ≡ Some row → stance_in m row.thread ≡ Ready place → row.out ≡ None → ((other : ℕ) → IsOutTo rows worker other → ⊥) →
      IsStep m opening rows (record { worker = worker; rec = rec; deed = Took }) (taken rows rec row worker)
  -- the record that is out to the worker comes back with its next piece
  Publishes : (worker rec : ℕ) (row : Row) → worker < worker_limit → slice_get rows rec ≡ Some row → row.out ≡ Some worker →
      IsStep m opening rows (record { worker = worker; rec = rec; deed = Published }) (come_back rows rec row (next_piece m row.thread))
  -- .. or as it was, with the answer that it went out with
  PutsBack : (worker rec : ℕ) (row : Row) → worker < worker_limit → slice_get rows rec ≡ Some row → row.out ≡ Some worker →
      IsStep m opening rows (record { worker = worker; rec = rec; deed = PutBack }) (put_back rows rec row)
  -- a read that is final gets its answer
  AnswersRead : (worker rec : ℕ) (row : Row) (place : Place) (pattern : List Segment) (answer : Answer) → worker < worker_limit → slice_get rows rec ≡ Some row → stance_in m row.thread ≡ Asks place pattern →
      Quiet m opening (threads_in rows) place pattern → IsLast m opening (threads_in rows) place pattern answer →
      IsStep m opening rows (record { worker = worker; rec = rec; deed = ReadAnswered }) (answered rows rec row answer)
  -- so does a wait
  AnswersWait : (worker rec : ℕ) (row : Row) (place : Place) (wants : Wants) (event : EventView) → worker < worker_limit → slice_get rows rec ≡ Some row → stance_in m row.thread ≡ waiting place wants →
      IsFirst m opening (threads_in rows) place wants event → Clear m opening (threads_in rows) event.place →
      IsStep m opening rows (record { worker = worker; rec = rec; deed = WaitAnswered }) (answered rows rec row (Found event))

-- The entries name steps, one after another, that lead from these records to those.
pub data AreSteps (m : ThreadMeaning) (opening : Opening) : List Row → List LogEntry → List Row → Type 0 where
  NoStep : (rows : List Row) → AreSteps m opening rows [] rows
  FirstStep : (rows next last : List Row) (entry : LogEntry) (entries : List LogEntry) → IsStep m opening rows entry next → AreSteps m opening next entries last → AreSteps m opening rows (entry ∷ entries) last

-- **the log is one of a store of the session, and the store has these records**
abbrev pub IsLogOf : ThreadMeaning → Opening → List LogEntry → List Row → Type 0
IsLogOf m opening log rows = AreSteps m opening (opening_rows opening) log rows

-- A store as its steps see it: its log, its records, and whether it is halted. Its events and its total are those of its records.
pub record StoreData : Type 0 where
  pub log : List LogEntry
  pub rows : List Row
  pub halted : Bool

abbrev pub opening_store : Opening → StoreData
opening_store opening = record { log = []; rows = opening_rows opening; halted = false }

-- One step of a store: one that its log has an entry of, or halting, by which the store is marked and what is out stays out.
pub data StoreStep (m : ThreadMeaning) (opening : Opening) (store : StoreData) : StoreData → Type 0 where
  Enters : (entry : LogEntry) (rows : List Row) → IsStep m opening store.rows entry rows → StoreStep m opening store (record { log = store.log ++ entry ∷ []; rows = rows; halted = store.halted })
  Halts : StoreStep m opening store (record { log = store.log; rows = store.rows; halted = true })

-- A store of the session: its log is one of a store, which has its records.
abbrev pub IsStore : ThreadMeaning → Opening → StoreData → Type 0
IsStore m opening store = IsLogOf m opening store.log store.rows

-- the deed sends a record out, or brings it back
abbrev pub moves_out_or_back : Deed → Bool
moves_out_or_back Took = true
moves_out_or_back Published = true
moves_out_or_back PutBack = true
moves_out_or_back ReadAnswered = false
moves_out_or_back WaitAnswered = false

-- the deed brings a record back
abbrev pub brings_back : Deed → Bool
brings_back Published = true
brings_back PutBack = true
brings_back Took = false
brings_back ReadAnswered = false
brings_back WaitAnswered = false

-- Before the entry with this number, by which its worker brings its record back, the same worker took it, and sent out or brought back nothing in between.
pub record StandsBehindTook (log : List LogEntry) (number : ℕ) (entry : LogEntry) : Type 0 where
  pub at : ℕ
  pub earlier : at < number
  pub took : slice_get log at ≡ Some (record { worker = entry.worker; rec = entry.rec; deed = Took })
  pub between : (k : ℕ) (other : LogEntry) → at < k → k < number → slice_get log k ≡ Some other → other.worker ≡ entry.worker → moves_out_or_back other.deed ≡ true → ⊥

-- so does each entry of the log by which a record comes back, and each worker is below the limit
pub record IsOrderlyLog (log : List LogEntry) : Type 0 where
  pub paired : (number : ℕ) (entry : LogEntry) → slice_get log number ≡ Some entry → brings_back entry.deed ≡ true → StandsBehindTook log number entry
  pub workers : (number : ℕ) (entry : LogEntry) → slice_get log number ≡ Some entry → entry.worker < worker_limit

-- no worker has two records out
abbrev pub HaveOneOut : List Row → Type 0
HaveOneOut rows = (worker rec other : ℕ) → IsOutTo rows worker rec → IsOutTo rows worker other → rec ≡ other
