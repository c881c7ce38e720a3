-- What is proved of the log of a store.
use Rattle.std.specs.Prelude.{◌≡◌, ◌≢◌, ◌↔◌, ℕ, ◌+◌, ◌-◌, ◌<◌, ◌≤◌, ◌^◌, List, [], ◌∷◌, ◌++◌, length}
use Rattle.std.specs.List.{AllByRecursion}
use Rattle.vt_run.specs.declared.action.Answer.{Answer}
use Rattle.vt_run.specs.declared.piece.Piece.{Piece}
use Rattle.vt_event.specs.declared.place.Place.{Place}
use Rattle.vt_event.specs.Event.{EventView}
use Rattle.vt_path.specs.declared.pattern.Segment.{Segment}
use Rattle.vt_run.specs.Notes.{capped}
use Rattle.vt_run.specs.Pieces.{IsPiece}
use Rattle.vt_run.specs.Standing.{Ready}
use Rattle.vt_run.specs.Threads.{acts}
use Rattle.vt_meaning.specs.Consistent.{IsConsistent, IsExact}
use Rattle.vt_meaning.specs.Bounds.{Clear, Quiet}
use Rattle.vt_meaning.specs.Happenings.{IsFirst, IsLast}
use Rattle.vt_meaning.specs.Log.{LogEntry, Row, after, after_entry, job_of, jobs_out, next_piece, piece_limit, threads_in}
use Rattle.vt_meaning.specs.LogSteps.{AreSteps, HaveOneOut, IsLogOf, IsOrderlyLog, IsOutTo, IsStep, IsStore, opening_store, StoreData, StoreStep}
use Rattle.vt_meaning.specs.RealLaws.{OfTexts}
use Rattle.vt_meaning.specs.Session.{with_horizon}
use Rattle.vt_meaning.specs.ThreadLaws.{IsSession}
use Rattle.vt_meaning.specs.Steps.{Changes}
use Rattle.vt_meaning.specs.ThreadMeaning.{ThreadMeaning, Wants}
use Rattle.vt_meaning.specs.Traces.{stance_in, Thread}
use Rattle.vt_meaning.specs.World.{Opening}

-- **The job out to a worker is the same after further entries of other workers.**
abbrev pub JobStays : Type 0
JobStays =
    (m : ThreadMeaning) (opening : Opening) (log further : List LogEntry) (worker : ℕ) → AllByRecursion (λ entry. entry.worker ≢ worker) further →
    jobs_out worker (after m opening (log ++ further)) ≡ jobs_out worker (after m opening log)

-- and a worker has at most one job
abbrev pub OneJob : Type 0
OneJob = (m : ThreadMeaning) (opening : Opening) (log : List LogEntry) (worker : ℕ) → length (jobs_out worker (after m opening log)) ≤ 1

-- an entry more leaves what its step leaves
abbrev pub LogGrows : Type 0
LogGrows = (m : ThreadMeaning) (opening : Opening) (log : List LogEntry) (entry : LogEntry) → after m opening (log ++ entry ∷ []) ≡ after_entry m opening (after m opening log) entry

-- what a log leaves is consistent, whichever log it is
abbrev pub LogIsConsistent : Type 0
LogIsConsistent = (m : ThreadMeaning) (opening : Opening) → IsSession m opening → (log : List LogEntry) → IsConsistent m opening (threads_in (after m opening log))

-- The piece that a runner gives of a thread of texts is the next one of the log. Its answer, if one came, changed none of the steps that are done.
abbrev pub PiecesAreNext : Type 0
PiecesAreNext =
    OfTexts (λ texts until m. (thread : Thread) (old : List Answer) (piece : Piece) (now : ℕ) → IsExact m thread →
    acts texts (with_horizon until thread.start) old thread.done ≡ acts texts (with_horizon until thread.start) thread.answers thread.done →
    (next : IsPiece texts (with_horizon until thread.start) old thread.answers thread.done piece_limit piece now) → next.steps ≡ next_piece m thread)

-- **the records of a store are those that its log leaves**, each entry a step, and they are consistent; one that is out stands where its thread goes on
abbrev pub LogsLeave : Type 0
LogsLeave =
    (m : ThreadMeaning) (opening : Opening) → IsSession m opening → (log : List LogEntry) (rows : List Row) → IsLogOf m opening log rows →
    (rows ≡ after m opening log) × IsConsistent m opening (threads_in rows) × ((worker rec : ℕ) (out : IsOutTo rows worker rec) → (place : Place) × (stance_in m out.row.thread ≡ Ready place))

-- **each entry of its log by which a record comes back stands behind one by which its worker took it**, and each worker is below the limit
abbrev pub LogsAreOrderly : Type 0
LogsAreOrderly = (m : ThreadMeaning) (opening : Opening) (log : List LogEntry) (rows : List Row) → IsLogOf m opening log rows → IsOrderlyLog log

-- no worker has two records out; the job out to one is that of the record, and one who has none has no job
abbrev pub OneIsOut : Type 0
OneIsOut =
    (m : ThreadMeaning) (opening : Opening) (log : List LogEntry) (rows : List Row) → IsLogOf m opening log rows →
    HaveOneOut rows
    × ((worker rec : ℕ) (out : IsOutTo rows worker rec) → jobs_out worker rows ≡ job_of rec out.row ∷ [])
    × ((worker : ℕ) → ((rec : ℕ) → IsOutTo rows worker rec → ⊥) → jobs_out worker rows ≡ [])

-- a log is one of a store exactly where its front part is, and what follows names steps from there
abbrev pub LogsOfParts : Type 0
LogsOfParts =
    (m : ThreadMeaning) (opening : Opening) (log further : List LogEntry) (rows : List Row) →
    IsLogOf m opening (log ++ further) rows ↔ ((before : List Row) × IsLogOf m opening log before × AreSteps m opening before further rows)

-- the opening store is a store, and a step leaves one
abbrev pub StoresStayStores : Type 0
StoresStayStores =
    (m : ThreadMeaning) (opening : Opening) →
    IsStore m opening (opening_store opening) × ((store next : StoreData) → IsStore m opening store → StoreStep m opening store next → IsStore m opening next)

-- each step changes what threads did by steps of theirs and final answers alone
abbrev pub StepsAreChanges : Type 0
StepsAreChanges =
    (m : ThreadMeaning) (opening : Opening) → IsSession m opening → (rows next : List Row) (entry : LogEntry) → IsConsistent m opening (threads_in rows) → IsStep m opening rows entry next →
    Changes m opening (threads_in rows) (threads_in next)

-- **so whatever steps follow, the front does not fall, and what is final stays final with its answer**
abbrev pub StepsLeaveFinal : Type 0
StepsLeaveFinal =
    (m : ThreadMeaning) (opening : Opening) → IsSession m opening → (rows last : List Row) (entries : List LogEntry) → IsConsistent m opening (threads_in rows) → AreSteps m opening rows entries last →
    ((place : Place) → Clear m opening (threads_in rows) place → Clear m opening (threads_in last) place)
    × ((place : Place) (pattern : List Segment) (answer : Answer) → Quiet m opening (threads_in rows) place pattern → IsLast m opening (threads_in rows) place pattern answer →
    Quiet m opening (threads_in last) place pattern × IsLast m opening (threads_in last) place pattern answer)
    × ((place : Place) (wants : Wants) (event : EventView) → IsFirst m opening (threads_in rows) place wants event → Clear m opening (threads_in rows) event.place →
    IsFirst m opening (threads_in last) place wants event × Clear m opening (threads_in last) event.place)

-- A total that is capped at each addition is the whole total capped, and is above a budget below the cap exactly where the whole total is.
abbrev pub CapsDoNotMatter : Type 0
CapsDoNotMatter =
    ((total cost : ℕ) → capped (capped total + cost) ≡ capped (total + cost))
    × ((total cost : ℕ) → capped (capped total + capped cost) ≡ capped (total + cost))
    × ((budget total : ℕ) → budget < 2 ^ 64 - 1 → (budget < capped total) ↔ (budget < total))

-- **So of two stores of one session whose logs differ by further entries of other workers the job out to a worker is the same.**
abbrev pub StoreJobsStay : Type 0
StoreJobsStay =
    (m : ThreadMeaning) (opening : Opening) → IsSession m opening → (log further : List LogEntry) (rows later : List Row) (worker : ℕ) → IsLogOf m opening log rows → IsLogOf m opening (log ++ further) later →
    AllByRecursion (λ entry. entry.worker ≢ worker) further → jobs_out worker later ≡ jobs_out worker rows
