-- A job that is out stays as it is until its worker does something.
use Rattle.std.proofs.Common.{◌≡◌, ℕ, zero, suc, ◌+◌, ◌≤◌, List, [], ◌∷◌, ◌++◌, length, map, refl, sym, ◌∙◌, ap, arith, Bool, true, false, cond, subst, true≢false, Option, Some, None}
use Rattle.std.specs.Prelude.{◌≢◌, ◌==◌, ◌&&◌, not, is_some, slice_get, slice_set}
use Rattle.std.specs.List.{AllByRecursion}
use Rattle.std.proofs.lemmas.Bool.{eqb-false, eqb-true}
use Rattle.vt_event.specs.Event.{EventView}
use Rattle.vt_run.specs.declared.action.Answer.{Answer}
use Rattle.vt_run.specs.declared.action.Answer.TheVariants.{Found}
use Rattle.vt_run.specs.Standing.{Stance, Ready, Asks, Waits, Asleep, Over}
use Rattle.vt_meaning.specs.Disturbers.{is_clear, is_quiet}
use Rattle.vt_meaning.specs.LogLaws.{JobStays, LogGrows, LogsLeave, OneJob, StoreJobsStay}
use Rattle.vt_meaning.specs.Log.{Deed, LogEntry, Row, after, after_entries, after_entry, answered, come_back, deed_at, deed_on, fresh_row, goes, is_free, is_out_to, is_ready, is_worker, job_of, jobs_from, next_piece, opening_rows, put_back, read_by, started_in, taken, threads_in, wait_by, wait_found}
use Rattle.vt_meaning.specs.Log.Deed.{Took, Published, PutBack, ReadAnswered, WaitAnswered}
use Rattle.vt_meaning.specs.LookUps.{answer_of, first_above, last_below}
use Rattle.vt_meaning.specs.Steps.{more}
use Rattle.vt_meaning.specs.ThreadMeaning.{ThreadMeaning, with_stop}
use Rattle.vt_meaning.specs.Traces.{Thread, stance_in}
use Rattle.vt_meaning.specs.World.{Opening, events_of, opening_world, told}

none_some : {A : Type 0} {x : A} → ◌≡◌ {A = Option A} None (Some x) → ⊥
none_some h = cc

some_same : {A : Type 0} {x y : A} → Some x ≡ Some y → x ≡ y
some_same h = cc

false_true : false ≡ true → ⊥
false_true h = cc

-- the entries of a log, one list after another
entries-append : (m : ThreadMeaning) (opening : Opening) (xs ys : List LogEntry) (rows : List Row) → after_entries m opening (xs ++ ys) rows ≡ after_entries m opening ys (after_entries m opening xs rows)
entries-append m opening [] ys rows = refl
entries-append m opening (x ∷ xs) ys rows = entries-append m opening xs ys (after_entry m opening rows x)

pub log_grows : LogGrows
unfolding after
log_grows m opening log entry = entries-append m opening log (entry ∷ []) (opening_rows opening)

-- a row that is out to nobody gives no job
no_jobs : (worker rec : ℕ) (threads : List Thread) → jobs_from worker rec (map fresh_row threads) ≡ []
no_jobs worker rec [] = refl
no_jobs worker rec (thread ∷ threads) = no_jobs worker (rec + 1) threads

jobs-append : (worker rec : ℕ) (rows : List Row) (threads : List Thread) → jobs_from worker rec (rows ++ map fresh_row threads) ≡ jobs_from worker rec rows
jobs-append worker rec [] threads = no_jobs worker rec threads
jobs-append worker rec (row ∷ rows) threads = go (is_out_to worker row) (jobs-append worker (rec + 1) rows threads)
  where
    go : (out : Bool) → jobs_from worker (rec + 1) (rows ++ map fresh_row threads) ≡ jobs_from worker (rec + 1) rows →
        cond out (job_of rec row ∷ jobs_from worker (rec + 1) (rows ++ map fresh_row threads)) (jobs_from worker (rec + 1) (rows ++ map fresh_row threads))
        ≡ cond out (job_of rec row ∷ jobs_from worker (rec + 1) rows) (jobs_from worker (rec + 1) rows)
    go true same = ap (λ l. job_of rec row ∷ l) same
    go false same = same

-- a row that is not out to the worker is replaced by one that is not
jobs-set : (worker rec : ℕ) (rows : List Row) (k : ℕ) (row next : Row) → slice_get rows k ≡ Some row → is_out_to worker row ≡ false → is_out_to worker next ≡ false →
    jobs_from worker rec (slice_set rows k next) ≡ jobs_from worker rec rows
jobs-set worker rec [] k row next has old new = absurd (none_some has)
jobs-set worker rec (first ∷ rows) zero row next has old new =
    let out : is_out_to worker first ≡ false = ap (is_out_to worker) (some_same has) ∙ old in
    ap (λ b. cond b (job_of rec next ∷ jobs_from worker (rec + 1) rows) (jobs_from worker (rec + 1) rows)) new
    ∙ ap (λ b. cond b (job_of rec first ∷ jobs_from worker (rec + 1) rows) (jobs_from worker (rec + 1) rows)) (sym out)
jobs-set worker rec (first ∷ rows) (suc k) row next has old new =
    ap (λ l. cond (is_out_to worker first) (job_of rec first ∷ l) l) (jobs-set worker (rec + 1) rows k row next has old new)

-- a record that is out stands where its thread goes on
abbrev pub OutGoes : ThreadMeaning → Row → Type 0
OutGoes m row = is_some row.out ≡ true → goes (stance_in m row.thread) ≡ true

abbrev pub AllGo : ThreadMeaning → List Row → Type 0
AllGo m rows = AllByRecursion (OutGoes m) rows

pub go_at : (m : ThreadMeaning) (rows : List Row) (k : ℕ) (row : Row) → AllGo m rows → slice_get rows k ≡ Some row → OutGoes m row
go_at m [] k row all has = absurd (none_some has)
go_at m (first ∷ rows) zero row all has = subst (OutGoes m) (some_same has) all.0
go_at m (first ∷ rows) (suc k) row all has = go_at m rows k row all.1 has

go_set : (m : ThreadMeaning) (rows : List Row) (k : ℕ) (next : Row) → AllGo m rows → OutGoes m next → AllGo m (slice_set rows k next)
go_set m [] k next all new = tt
go_set m (first ∷ rows) zero next all new = (new, all.1)
go_set m (first ∷ rows) (suc k) next all new = (all.0, go_set m rows k next all.1 new)

pub go_fresh : (m : ThreadMeaning) (threads : List Thread) → AllGo m (map fresh_row threads)
go_fresh m [] = tt
go_fresh m (thread ∷ threads) = (λ out. absurd (false_true out), go_fresh m threads)

go_append : (m : ThreadMeaning) (rows others : List Row) → AllGo m rows → AllGo m others → AllGo m (rows ++ others)
go_append m [] others all more = more
go_append m (row ∷ rows) others all more = (all.0, go_append m rows others all.1 more)

-- one that does not go on is out to nobody
not_out : (m : ThreadMeaning) (row : Row) → OutGoes m row → goes (stance_in m row.thread) ≡ false → (out : Option ℕ) → row.out ≡ out → out ≡ None
not_out m row all stays None is = refl
not_out m row all stays (Some worker) is = absurd (false_true (sym stays ∙ all (ap is_some is)))

out_none : (worker : ℕ) (row : Row) → row.out ≡ None → is_out_to worker row ≡ false
out_none worker row is = ap (is_worker worker) is

-- what is out to one worker is not out to another
other_worker : (v worker : ℕ) → v ≢ worker → (out : Option ℕ) → is_worker v out ≡ true → is_worker worker out ≡ false
other_worker v worker differ None is = absurd (false_true is)
other_worker v worker differ (Some other) is = go (other == worker) refl
  where
    go : (same : Bool) → (other == worker) ≡ same → same ≡ false
    go true e = absurd (differ (sym (eqb-true other v is) ∙ eqb-true other worker e))
    go false e = refl

none_out : (worker : ℕ) (out : Option ℕ) → not (is_some out) ≡ true → is_worker worker out ≡ false
none_out worker None is = refl
none_out worker (Some other) is = absurd (false_true is)

unequal : (v worker : ℕ) → v ≢ worker → (v == worker) ≡ false
unequal v worker differ = go (v == worker) refl
  where
    go : (same : Bool) → (v == worker) ≡ same → same ≡ false
    go true e = absurd (differ (eqb-true v worker e))
    go false e = refl

both_true : (a b : Bool) → (a && b) ≡ true → (a ≡ true) × (b ≡ true)
both_true true b h = (refl, h)
both_true false b h = absurd (false_true h)

-- what an entry of another worker leaves
record Stays (m : ThreadMeaning) (worker : ℕ) (rows next : List Row) : Type 0 where
  jobs : jobs_from worker 0 next ≡ jobs_from worker 0 rows
  all : AllGo m next

stays_same : (m : ThreadMeaning) (worker : ℕ) (rows : List Row) → AllGo m rows → Stays m worker rows rows
stays_same m worker rows all = record { jobs = refl; all = all }

module _ (m : ThreadMeaning) (opening : Opening) (rows : List Row) (v rec : ℕ) (row : Row) (all : AllGo m rows) (has : slice_get rows rec ≡ Some row) where
  keeps_all : (next : Row) → OutGoes m next → AllGo m (slice_set rows rec next)
  keeps_all next new = go_set m rows rec next all new

  answer_stays : (worker : ℕ) (answer : Answer) → goes (stance_in m row.thread) ≡ false → Stays m worker rows (answered rows rec row answer)
  answer_stays worker answer still =
      let none : row.out ≡ None = not_out m row (go_at m rows rec row all has) still row.out refl in
      record {
        jobs = jobs-set worker 0 rows rec row (record { thread = told answer row.thread; told = Some answer; out = row.out }) has (out_none worker row none) (ap (is_worker worker) none);
        all = keeps_all (record { thread = told answer row.thread; told = Some answer; out = row.out }) (λ out. absurd (false_true (sym (ap is_some none) ∙ out)));
      }

  read_stays : (worker : ℕ) (stance : Stance) → stance_in m row.thread ≡ stance → Stays m worker rows (read_by m opening rows rec row stance)
  read_stays worker (Asks place pattern) is = go (is_quiet m opening (threads_in rows) place pattern)
    where
      go : (quiet : Bool) → Stays m worker rows (cond quiet (answered rows rec row (answer_of (last_below (events_of m opening (threads_in rows)) place pattern))) rows)
      go true = answer_stays worker (answer_of (last_below (events_of m opening (threads_in rows)) place pattern)) (ap goes is)
      go false = stays_same m worker rows all
  read_stays worker (Ready place) is = stays_same m worker rows all
  read_stays worker (Waits place pattern stop) is = stays_same m worker rows all
  read_stays worker (Asleep time) is = stays_same m worker rows all
  read_stays worker Over is = stays_same m worker rows all

  wake_stays : (worker : ℕ) → goes (stance_in m row.thread) ≡ false → (found : Option EventView) → Stays m worker rows (wait_found m opening rows rec row found)
  wake_stays worker still None = stays_same m worker rows all
  wake_stays worker still (Some event) = go (is_clear m opening (threads_in rows) event.place)
    where
      go : (clear : Bool) → Stays m worker rows (cond clear (answered rows rec row (Found event)) rows)
      go true = answer_stays worker (Found event) still
      go false = stays_same m worker rows all

  wait_stays : (worker : ℕ) (stance : Stance) → stance_in m row.thread ≡ stance → Stays m worker rows (wait_by m opening rows rec row stance)
  wait_stays worker (Waits place pattern stop) is = wake_stays worker (ap goes is) (first_above (events_of m opening (threads_in rows)) place (with_stop pattern stop))
  wait_stays worker (Ready place) is = stays_same m worker rows all
  wait_stays worker (Asks place pattern) is = stays_same m worker rows all
  wait_stays worker (Asleep time) is = stays_same m worker rows all
  wait_stays worker Over is = stays_same m worker rows all

  take_stays : (worker : ℕ) → v ≢ worker → (can : Bool) → (is_ready m row && is_free v rows) ≡ can → Stays m worker rows (cond can (taken rows rec row v) rows)
  take_stays worker differ true is =
      let ready = both_true (is_ready m row) (is_free v rows) is in
      let parts = both_true (goes (stance_in m row.thread)) (not (is_some row.out)) ready.0 in
      record {
        jobs = jobs-set worker 0 rows rec row (record { thread = row.thread; told = row.told; out = Some v }) has (none_out worker row.out parts.1) (unequal v worker differ);
        all = keeps_all (record { thread = row.thread; told = row.told; out = Some v }) (λ out. parts.0);
      }
  take_stays worker differ false is = stays_same m worker rows all

  publish_stays : (worker : ℕ) → v ≢ worker → (mine : Bool) → is_out_to v row ≡ mine → Stays m worker rows (cond mine (come_back rows rec row (next_piece m row.thread)) rows)
  publish_stays worker differ true is =
      let next : Row = fresh_row (more (length (next_piece m row.thread)) row.thread) in
      record {
        jobs =
            jobs-append worker 0 (slice_set rows rec next) (started_in (next_piece m row.thread))
            ∙ jobs-set worker 0 rows rec row next has (other_worker v worker differ row.out is) refl;
        all = go_append m (slice_set rows rec next) (map fresh_row (started_in (next_piece m row.thread))) (keeps_all next (λ out. absurd (false_true out))) (go_fresh m (started_in (next_piece m row.thread)));
      }
  publish_stays worker differ false is = stays_same m worker rows all

  back_stays : (worker : ℕ) → v ≢ worker → (mine : Bool) → is_out_to v row ≡ mine → Stays m worker rows (cond mine (put_back rows rec row) rows)
  back_stays worker differ true is = record {
    jobs = jobs-set worker 0 rows rec row (record { thread = row.thread; told = row.told; out = None }) has (other_worker v worker differ row.out is) refl;
    all = keeps_all (record { thread = row.thread; told = row.told; out = None }) (λ out. absurd (false_true out));
  }
  back_stays worker differ false is = stays_same m worker rows all

  deed_stays : (worker : ℕ) → v ≢ worker → (deed : Deed) → Stays m worker rows (deed_on m opening rows v rec row deed)
  deed_stays worker differ Took = take_stays worker differ (is_ready m row && is_free v rows) refl
  deed_stays worker differ Published = publish_stays worker differ (is_out_to v row) refl
  deed_stays worker differ PutBack = back_stays worker differ (is_out_to v row) refl
  deed_stays worker differ ReadAnswered = read_stays worker (stance_in m row.thread) refl
  deed_stays worker differ WaitAnswered = wait_stays worker (stance_in m row.thread) refl

entry_stays : (m : ThreadMeaning) (opening : Opening) (rows : List Row) (worker : ℕ) (entry : LogEntry) → AllGo m rows → entry.worker ≢ worker → Stays m worker rows (after_entry m opening rows entry)
entry_stays m opening rows worker entry all differ = go (slice_get rows entry.rec) refl
  where
    go : (found : Option Row) → slice_get rows entry.rec ≡ found → Stays m worker rows (deed_at m opening rows entry found)
    go None is = stays_same m worker rows all
    go (Some row) is = deed_stays m opening rows entry.worker entry.rec row all is worker differ entry.deed

entries_stay : (m : ThreadMeaning) (opening : Opening) (worker : ℕ) (entries : List LogEntry) (rows : List Row) → AllGo m rows → AllByRecursion (λ (entry : LogEntry). entry.worker ≢ worker) entries →
    jobs_from worker 0 (after_entries m opening entries rows) ≡ jobs_from worker 0 rows
entries_stay m opening worker [] rows all differ = refl
entries_stay m opening worker (entry ∷ entries) rows all differ =
    let one = entry_stays m opening rows worker entry all differ.0 in
    entries_stay m opening worker entries (after_entry m opening rows entry) one.all differ.1 ∙ one.jobs

-- what every entry keeps: that holds for a worker who is not among them, so for one that has another number
pub all_go : (m : ThreadMeaning) (opening : Opening) (entries : List LogEntry) (rows : List Row) → AllGo m rows → AllGo m (after_entries m opening entries rows)
all_go m opening [] rows all = all
all_go m opening (entry ∷ entries) rows all =
    all_go m opening entries (after_entry m opening rows entry) (entry_stays m opening rows (suc entry.worker) entry all (λ e. absurd (omega (arith, e)))).all

pub job_stays : JobStays
unfolding after
job_stays m opening log further worker differ =
    ap (jobs_from worker 0) (entries-append m opening log further (opening_rows opening))
    ∙ entries_stay m opening worker further (after_entries m opening log (opening_rows opening)) (all_go m opening log (opening_rows opening) (go_fresh m (opening_world opening))) differ

-- a row that is not out to the worker takes a job away, or none
jobs-fewer : (worker rec : ℕ) (rows : List Row) (k : ℕ) (next : Row) → is_out_to worker next ≡ false → length (jobs_from worker rec (slice_set rows k next)) ≤ length (jobs_from worker rec rows)
jobs-fewer worker rec [] k next new = omega arith
jobs-fewer worker rec (first ∷ rows) zero next new = go (is_out_to worker next) new (is_out_to worker first)
  where
    go : (out : Bool) → out ≡ false → (had : Bool) → length (cond out (job_of rec next ∷ jobs_from worker (rec + 1) rows) (jobs_from worker (rec + 1) rows)) ≤ length (cond had (job_of rec first ∷ jobs_from worker (rec + 1) rows) (jobs_from worker (rec + 1) rows))
    go true e had = absurd (true≢false e)
    go false e true = omega arith
    go false e false = omega arith
jobs-fewer worker rec (first ∷ rows) (suc k) next new = go (is_out_to worker first) (jobs-fewer worker (rec + 1) rows k next new)
  where
    go : (had : Bool) → length (jobs_from worker (rec + 1) (slice_set rows k next)) ≤ length (jobs_from worker (rec + 1) rows) →
        length (cond had (job_of rec first ∷ jobs_from worker (rec + 1) (slice_set rows k next)) (jobs_from worker (rec + 1) (slice_set rows k next))) ≤ length (cond had (job_of rec first ∷ jobs_from worker (rec + 1) rows) (jobs_from worker (rec + 1) rows))
    go true le = omega (arith, le)
    go false le = le

not_true : (b : Bool) → not b ≡ true → b ≡ false
not_true false h = refl
not_true true h = absurd (false_true h)

free_none : (worker rec : ℕ) (rows : List Row) → is_free worker rows ≡ true → length (jobs_from worker rec rows) ≤ 0
free_none worker rec [] free = omega arith
free_none worker rec (row ∷ rows) free =
    let parts = both_true (not (is_out_to worker row)) (is_free worker rows) free in
    go (is_out_to worker row) (not_true (is_out_to worker row) parts.0) (free_none worker (rec + 1) rows parts.1)
  where
    go : (out : Bool) → out ≡ false → length (jobs_from worker (rec + 1) rows) ≤ 0 → length (cond out (job_of rec row ∷ jobs_from worker (rec + 1) rows) (jobs_from worker (rec + 1) rows)) ≤ 0
    go true e le = absurd (true≢false e)
    go false e le = le

-- where a worker has no job, one more is the only one
free_one : (worker rec : ℕ) (rows : List Row) (k : ℕ) (next : Row) → is_free worker rows ≡ true → length (jobs_from worker rec (slice_set rows k next)) ≤ 1
free_one worker rec [] k next free = omega arith
free_one worker rec (row ∷ rows) zero next free =
    go (is_out_to worker next) (free_none worker (rec + 1) rows (both_true (not (is_out_to worker row)) (is_free worker rows) free).1)
  where
    go : (out : Bool) → length (jobs_from worker (rec + 1) rows) ≤ 0 → length (cond out (job_of rec next ∷ jobs_from worker (rec + 1) rows) (jobs_from worker (rec + 1) rows)) ≤ 1
    go true le = omega (arith, le)
    go false le = omega (arith, le)
free_one worker rec (row ∷ rows) (suc k) next free =
    let parts = both_true (not (is_out_to worker row)) (is_free worker rows) free in
    go (is_out_to worker row) (not_true (is_out_to worker row) parts.0) (free_one worker (rec + 1) rows k next parts.1)
  where
    go : (out : Bool) → out ≡ false → length (jobs_from worker (rec + 1) (slice_set rows k next)) ≤ 1 →
        length (cond out (job_of rec row ∷ jobs_from worker (rec + 1) (slice_set rows k next)) (jobs_from worker (rec + 1) (slice_set rows k next))) ≤ 1
    go true e le = absurd (true≢false e)
    go false e le = le

module _ (m : ThreadMeaning) (opening : Opening) (rows : List Row) (v rec : ℕ) (row : Row) (all : AllGo m rows) (has : slice_get rows rec ≡ Some row) (few : length (jobs_from v 0 rows) ≤ 1) where
  took_one : (can : Bool) → (is_ready m row && is_free v rows) ≡ can → length (jobs_from v 0 (cond can (taken rows rec row v) rows)) ≤ 1
  took_one true is = free_one v 0 rows rec (record { thread = row.thread; told = row.told; out = Some v }) (both_true (is_ready m row) (is_free v rows) is).1
  took_one false is = few

  published_one : (mine : Bool) → length (jobs_from v 0 (cond mine (come_back rows rec row (next_piece m row.thread)) rows)) ≤ 1
  published_one true =
      let next : Row = fresh_row (more (length (next_piece m row.thread)) row.thread) in
      let same = ap length (jobs-append v 0 (slice_set rows rec next) (started_in (next_piece m row.thread))) in
      let fewer = jobs-fewer v 0 rows rec next refl in
      omega (arith, same, fewer, few)
  published_one false = few

  back_one : (mine : Bool) → length (jobs_from v 0 (cond mine (put_back rows rec row) rows)) ≤ 1
  back_one true = let fewer = jobs-fewer v 0 rows rec (record { thread = row.thread; told = row.told; out = None }) refl in omega (arith, fewer, few)
  back_one false = few

  deed_one : (deed : Deed) → length (jobs_from v 0 (deed_on m opening rows v rec row deed)) ≤ 1
  deed_one Took = took_one (is_ready m row && is_free v rows) refl
  deed_one Published = published_one (is_out_to v row)
  deed_one PutBack = back_one (is_out_to v row)
  deed_one ReadAnswered = let same = ap length (read_stays m opening rows v rec row all has v (stance_in m row.thread) refl).jobs in omega (arith, same, few)
  deed_one WaitAnswered = let same = ap length (wait_stays m opening rows v rec row all has v (stance_in m row.thread) refl).jobs in omega (arith, same, few)

own_entry : (m : ThreadMeaning) (opening : Opening) (rows : List Row) (entry : LogEntry) → AllGo m rows → length (jobs_from entry.worker 0 rows) ≤ 1 → length (jobs_from entry.worker 0 (after_entry m opening rows entry)) ≤ 1
own_entry m opening rows entry all few = go (slice_get rows entry.rec) refl
  where
    go : (found : Option Row) → slice_get rows entry.rec ≡ found → length (jobs_from entry.worker 0 (deed_at m opening rows entry found)) ≤ 1
    go None is = few
    go (Some row) is = deed_one m opening rows entry.worker entry.rec row all is few entry.deed

entry_one : (m : ThreadMeaning) (opening : Opening) (rows : List Row) (worker : ℕ) (entry : LogEntry) → AllGo m rows → length (jobs_from worker 0 rows) ≤ 1 → length (jobs_from worker 0 (after_entry m opening rows entry)) ≤ 1
entry_one m opening rows worker entry all few = go (entry.worker == worker) refl
  where
    go : (same : Bool) → (entry.worker == worker) ≡ same → length (jobs_from worker 0 (after_entry m opening rows entry)) ≤ 1
    go true e =
        let is : entry.worker ≡ worker = eqb-true entry.worker worker e in
        subst (λ w. length (jobs_from w 0 (after_entry m opening rows entry)) ≤ 1) is (own_entry m opening rows entry all (subst (λ w. length (jobs_from w 0 rows) ≤ 1) (sym is) few))
    go false e =
        let same = ap length (entry_stays m opening rows worker entry all (eqb-false entry.worker worker e)).jobs in
        omega (arith, same, few)

entries_one : (m : ThreadMeaning) (opening : Opening) (worker : ℕ) (entries : List LogEntry) (rows : List Row) → AllGo m rows → length (jobs_from worker 0 rows) ≤ 1 → length (jobs_from worker 0 (after_entries m opening entries rows)) ≤ 1
entries_one m opening worker [] rows all few = few
entries_one m opening worker (entry ∷ entries) rows all few =
    entries_one m opening worker entries (after_entry m opening rows entry) (entry_stays m opening rows (suc entry.worker) entry all (λ e. absurd (omega (arith, e)))).all (entry_one m opening rows worker entry all few)

pub one_job : OneJob
unfolding after
one_job m opening log worker =
    let none = ap length (no_jobs worker 0 (opening_world opening)) in
    entries_one m opening worker log (opening_rows opening) (go_fresh m (opening_world opening)) (omega (arith, none))

-- the same of stores, whose records are what their logs leave
pub store_jobs_stay : LogsLeave → JobStays → StoreJobsStay
store_jobs_stay leave stay m opening session log further rows later worker steps more differ =
    ap (jobs_from worker 0) (leave m opening session (log ++ further) later more).0 ∙ stay m opening log further worker differ ∙ sym (ap (jobs_from worker 0) (leave m opening session log rows steps).0)
