-- The log of a store, and what its entries leave: own.
--
-- A store has a record for each thread of its session. Many workers run them: a ready record goes out to a worker, who runs a piece of it, and the piece is published. Each entry of the log names one such step. What the steps leave follows from the key and the log alone.
use Rattle.std.specs.Prelude.{ℕ, ◌+◌, ◌==◌, List, [], ◌∷◌, ◌++◌, map, length, drop, Bool, true, false, ◌&&◌, not, cond, is_some, nat_le, Option, Some, None, slice_get, slice_set}
use Rattle.vt_frac.specs.Fraction.{Fraction}
use Rattle.vt_event.specs.Event.{EventView}
use Rattle.vt_run.specs.declared.action.Answer.{Answer}
use Rattle.vt_run.specs.declared.action.Answer.TheVariants.{Found}
use Rattle.vt_run.specs.declared.start.Start.{Start}
use Rattle.vt_run.specs.Evaluation.{Step}
use Rattle.vt_run.specs.Notes.{capped}
use Rattle.vt_run.specs.Pieces.{or_more, stop_of}
use Rattle.vt_run.specs.Standing.{Stance, Ready, Asks, Waits}
use Rattle.vt_meaning.specs.Disturbers.{is_clear, is_quiet}
use Rattle.vt_meaning.specs.LookUps.{answer_of, first_above, last_below}
use Rattle.vt_meaning.specs.Steps.{more}
use Rattle.vt_meaning.specs.ThreadMeaning.{ThreadMeaning, with_stop}
use Rattle.vt_meaning.specs.Traces.{Thread, stance_in}
use Rattle.vt_meaning.specs.World.{Opening, World, events_of, opening_world, started_by, told, total_of}

-- what a worker did with a record: it took it, published a piece of it, put it back as it was, or gave its read or its wait the answer
pub data Deed : Type 0 where
  Took : Deed
  Published : Deed
  PutBack : Deed
  ReadAnswered : Deed
  WaitAnswered : Deed

-- an entry of the log: the worker, and the number of the record, from 0
pub record LogEntry : Type 0 where
  pub worker : ℕ
  pub rec : ℕ
  pub deed : Deed

-- a record: its thread, the answer that came since its last piece, if one did, and the worker to whom it is out, if it is
pub record Row : Type 0 where
  pub thread : Thread
  pub told : Option Answer
  pub out : Option ℕ

abbrev pub fresh_row : Thread → Row
fresh_row thread = record { thread = thread; told = None; out = None }

-- the threads of records
abbrev pub threads_in : List Row → World
threads_in rows = map (λ row. row.thread) rows

abbrev pub is_worker : ℕ → Option ℕ → Bool
is_worker worker None = false
is_worker worker (Some other) = other == worker

-- the record is out to the worker
abbrev pub is_out_to : ℕ → Row → Bool
is_out_to worker row = is_worker worker row.out

-- no record is out to the worker
abbrev pub is_free : ℕ → List Row → Bool
is_free worker [] = true
is_free worker (row ∷ rows) = not (is_out_to worker row) && is_free worker rows

abbrev pub goes : Stance → Bool
goes (Ready place) = true
goes _ = false

-- its thread goes on, and it is out to nobody
abbrev pub is_ready : ThreadMeaning → Row → Bool
is_ready m row = goes (stance_in m row.thread) && not (is_some row.out)

-- the steps of a piece: the fewest of these that make a stop, or reach the limit of cost
abbrev pub piece_of : Fraction → ℕ → ℕ → List Step → List Step
piece_of until limit cost [] = []
piece_of until limit cost (step ∷ steps) =
    step ∷ cond (is_some (or_more (stop_of until step.action) (nat_le limit (cost + step.cost)))) [] (piece_of until limit (cost + step.cost) steps)

-- a piece of a store ends at the latest where its cost reaches this
abbrev pub piece_limit : ℕ
piece_limit = 4096

-- the next piece of a thread: each step costs at least 1, so a piece has at most so many
unfoldable pub next_piece : ThreadMeaning → Thread → List Step
next_piece m thread = piece_of m.until piece_limit 0 (drop thread.done (m.acts thread.start thread.answers (thread.done + piece_limit)))

-- what steps start, in order
abbrev pub started_in : List Step → World
started_in [] = []
started_in (step ∷ steps) = started_by step.action ++ started_in steps

-- the record with this number goes out to the worker
abbrev pub taken : List Row → ℕ → Row → ℕ → List Row
taken rows rec row worker = slice_set rows rec (record { thread = row.thread; told = row.told; out = Some worker })

-- .. is put back as it was
abbrev pub put_back : List Row → ℕ → Row → List Row
put_back rows rec row = slice_set rows rec (record { thread = row.thread; told = row.told; out = None })

-- .. comes back with these steps, and what they started is there behind the others
abbrev pub come_back : List Row → ℕ → Row → List Step → List Row
come_back rows rec row steps = slice_set rows rec (fresh_row (more (length steps) row.thread)) ++ map fresh_row (started_in steps)

-- .. gets the answer
abbrev pub answered : List Row → ℕ → Row → Answer → List Row
answered rows rec row answer = slice_set rows rec (record { thread = told answer row.thread; told = Some answer; out = row.out })

-- a read is answered where that is final
abbrev pub read_by : ThreadMeaning → Opening → List Row → ℕ → Row → Stance → List Row
read_by m opening rows rec row (Asks place pattern) =
    cond (is_quiet m opening (threads_in rows) place pattern) (answered rows rec row (answer_of (last_below (events_of m opening (threads_in rows)) place pattern))) rows
read_by m opening rows rec row _ = rows

-- a wait is answered by an event below the front
abbrev pub wait_found : ThreadMeaning → Opening → List Row → ℕ → Row → Option EventView → List Row
wait_found m opening rows rec row None = rows
wait_found m opening rows rec row (Some event) = cond (is_clear m opening (threads_in rows) event.place) (answered rows rec row (Found event)) rows

abbrev pub wait_by : ThreadMeaning → Opening → List Row → ℕ → Row → Stance → List Row
wait_by m opening rows rec row (Waits place pattern stop) =
    wait_found m opening rows rec row (first_above (events_of m opening (threads_in rows)) place (with_stop pattern stop))
wait_by m opening rows rec row _ = rows

abbrev pub deed_on : ThreadMeaning → Opening → List Row → ℕ → ℕ → Row → Deed → List Row
deed_on m opening rows worker rec row Took = cond (is_ready m row && is_free worker rows) (taken rows rec row worker) rows
deed_on m opening rows worker rec row Published = cond (is_out_to worker row) (come_back rows rec row (next_piece m row.thread)) rows
deed_on m opening rows worker rec row PutBack = cond (is_out_to worker row) (put_back rows rec row) rows
deed_on m opening rows worker rec row ReadAnswered = read_by m opening rows rec row (stance_in m row.thread)
deed_on m opening rows worker rec row WaitAnswered = wait_by m opening rows rec row (stance_in m row.thread)

abbrev pub deed_at : ThreadMeaning → Opening → List Row → LogEntry → Option Row → List Row
deed_at m opening rows entry None = rows
deed_at m opening rows entry (Some row) = deed_on m opening rows entry.worker entry.rec row entry.deed

-- What the step that an entry names leaves. An entry that names no step of a store leaves all as it is.
abbrev pub after_entry : ThreadMeaning → Opening → List Row → LogEntry → List Row
after_entry m opening rows entry = deed_at m opening rows entry (slice_get rows entry.rec)

abbrev pub after_entries : ThreadMeaning → Opening → List LogEntry → List Row → List Row
after_entries m opening [] rows = rows
after_entries m opening (entry ∷ entries) rows = after_entries m opening entries (after_entry m opening rows entry)

-- the records before any step: those of the texts in their order
abbrev pub opening_rows : Opening → List Row
opening_rows opening = map fresh_row (opening_world opening)

-- the records that a log leaves; the events are those of their threads
unfoldable pub after : ThreadMeaning → Opening → List LogEntry → List Row
after m opening log = after_entries m opening log (opening_rows opening)

abbrev pub events_after : ThreadMeaning → Opening → List LogEntry → List EventView
events_after m opening log = events_of m opening (threads_in (after m opening log))

-- the total of a store: what the steps of its threads cost, or 2^64 - 1 where that is more
abbrev pub total_after : ThreadMeaning → Opening → List LogEntry → ℕ
total_after m opening log = capped (total_of m (threads_in (after m opening log)))

-- A job: the number of the record that is out, its start, its answers, its mark (how many steps it has done), and the answer that goes with it.
pub record JobData : Type 0 where
  pub rec : ℕ
  pub start : Start
  pub answers : List Answer
  pub mark : ℕ
  pub answer : Option Answer

abbrev pub job_of : ℕ → Row → JobData
job_of rec row = record { rec = rec; start = row.thread.start; answers = row.thread.answers; mark = row.thread.done; answer = row.told }

-- the jobs that are out to the worker, of records that are numbered from this number
abbrev pub jobs_from : ℕ → ℕ → List Row → List JobData
jobs_from worker rec [] = []
jobs_from worker rec (row ∷ rows) = cond (is_out_to worker row) (job_of rec row ∷ jobs_from worker (rec + 1) rows) (jobs_from worker (rec + 1) rows)

abbrev pub jobs_out : ℕ → List Row → List JobData
jobs_out worker rows = jobs_from worker 0 rows
