-- Whatever a log says, what it leaves is consistent.
use Rattle.std.proofs.Common.{◌≡◌, ℕ, zero, suc, ◌+◌, ◌-◌, ◌<◌, ◌≤◌, List, [], ◌∷◌, ◌++◌, length, take, drop, map, refl, sym, ◌∙◌, ap, inl, inr, ◌⊎◌, arith, Bool, true, false, cond, subst, Option, Some, None, length-append, append_assoc, append-nil}
use Rattle.std.specs.Prelude.{◌&&◌, is_some, nat_le, slice_get, slice_set}
use Rattle.std.proofs.lemmas.Bool.{cases_lt}
use Rattle.std.proofs.lemmas.List.{append_cancel_left, drop_at, take_at}
use Rattle.vt_frac.specs.Fraction.{Fraction}
use Rattle.vt_event.specs.declared.place.Place.{Place}
use Rattle.vt_event.specs.Event.{EventView}
use Rattle.vt_run.specs.declared.action.Answer.{Answer}
use Rattle.vt_run.specs.declared.action.Answer.TheVariants.{Found}
use Rattle.vt_run.specs.declared.start.Start.{Start}
use Rattle.vt_run.specs.Evaluation.{Step}
use Rattle.vt_run.specs.Pieces.{or_more, stop_of}
use Rattle.vt_run.specs.Standing.{Stance, Ready, Asks, Waits, Asleep, Over}
use Rattle.vt_meaning.specs.Consistent.{IsConsistent, IsExact}
use Rattle.vt_meaning.specs.Disturbers.{is_clear, is_quiet}
use Rattle.vt_meaning.specs.Happenings.{FirstOr}
use Rattle.vt_meaning.specs.LogLaws.{LogIsConsistent}
use Rattle.vt_meaning.specs.Log.{Deed, LogEntry, Row, after, after_entries, after_entry, answered, come_back, deed_at, deed_on, fresh_row, is_free, is_out_to, is_ready, next_piece, opening_rows, piece_limit, piece_of, put_back, read_by, started_in, taken, threads_in, wait_by, wait_found}
use Rattle.vt_meaning.specs.Log.Deed.{Took, Published, PutBack, ReadAnswered, WaitAnswered}
use Rattle.vt_meaning.specs.LookUps.{answer_of, first_above, last_below}
use Rattle.vt_meaning.specs.RealLaws.{LookUpsFind}
use Rattle.vt_meaning.specs.Steps.{more, started_all}
use Rattle.vt_meaning.specs.Theorems.{DisturbersRight, FrontRight, Opens, PiecesKeep, ReadsKeep, WaitsKeep}
use Rattle.vt_meaning.specs.ThreadLaws.{AreActs, IsSession}
use Rattle.vt_meaning.specs.ThreadMeaning.{ThreadMeaning, Wants, with_stop}
use Rattle.vt_meaning.specs.Traces.{Entry, Thread, paired, stance_in, standing, trace}
use Rattle.vt_meaning.specs.World.{Opening, events_of, opening_world, started_by, told}
use Rattle.vt_meaning.proofs.Pairing.{left, paired-append}
use Rattle.vt_meaning.proofs.StepLaws.{longer_by}
use Rattle.vt_meaning.proofs.Lists.{entry_at, none_some}
use Rattle.vt_meaning.proofs.RealThreads.{first_paired, left_for, paired_cons}

-- the threads of rows
pub threads_set : (rows : List Row) (k : ℕ) (row : Row) → threads_in (slice_set rows k row) ≡ slice_set (threads_in rows) k row.thread
threads_set [] k row = refl
threads_set (first ∷ rows) zero row = refl
threads_set (first ∷ rows) (suc k) row = ap (λ l. first.thread ∷ l) (threads_set rows k row)

pub threads_append : (rows others : List Row) → threads_in (rows ++ others) ≡ threads_in rows ++ threads_in others
threads_append [] others = refl
threads_append (row ∷ rows) others = ap (λ l. row.thread ∷ l) (threads_append rows others)

pub threads_fresh : (threads : List Thread) → threads_in (map fresh_row threads) ≡ threads
threads_fresh [] = refl
threads_fresh (thread ∷ threads) = ap (λ l. thread ∷ l) (threads_fresh threads)

pub thread_at : (rows : List Row) (k : ℕ) (row : Row) → slice_get rows k ≡ Some row → slice_get (threads_in rows) k ≡ Some row.thread
thread_at [] k row has = absurd (none_some has)
thread_at (first ∷ rows) zero row has = let z : Some first ≡ Some row = has in let same : first ≡ row = cc z in ap (λ (r : Row). Some r.thread) same
thread_at (first ∷ rows) (suc k) row has = thread_at rows k row has

set_same : (threads : List Thread) (k : ℕ) (thread : Thread) → slice_get threads k ≡ Some thread → slice_set threads k thread ≡ threads
set_same [] k thread has = refl
set_same (first ∷ threads) zero thread has = let z : Some first ≡ Some thread = has in let same : first ≡ thread = cc z in ap (λ t. t ∷ threads) (sym same)
set_same (first ∷ threads) (suc k) thread has = ap (λ l. first ∷ l) (set_same threads k thread has)

-- a row with the same thread changes nothing of the threads
pub same_threads : (rows : List Row) (k : ℕ) (row next : Row) → slice_get rows k ≡ Some row → next.thread ≡ row.thread → threads_in (slice_set rows k next) ≡ threads_in rows
same_threads rows k row next has same =
    threads_set rows k next ∙ ap (slice_set (threads_in rows) k) same ∙ set_same (threads_in rows) k row.thread (thread_at rows k row has)

-- entries are as many as steps, and start what these start
pub length_paired : (xs : List Step) (answers : List Answer) → length (paired xs answers) ≡ length xs
length_paired [] answers = refl
length_paired (x ∷ xs) answers = ap length (paired_cons x xs answers) ∙ ap suc (length_paired xs (left_for x.action answers))

started_paired : (xs : List Step) (answers : List Answer) → started_all (paired xs answers) ≡ started_in xs
started_paired [] answers = refl
started_paired (x ∷ xs) answers = ap started_all (paired_cons x xs answers) ∙ ap (λ l. started_by x.action ++ l) (started_paired xs (left_for x.action answers))

-- a piece is the first of the steps
piece_first : (until : Fraction) (limit cost : ℕ) (steps : List Step) → (rest : List Step) × (steps ≡ piece_of until limit cost steps ++ rest)
piece_first until limit cost [] = ([], refl)
piece_first until limit cost (x ∷ xs) = go (is_some (or_more (stop_of until x.action) (nat_le limit (cost + x.cost)))) (piece_first until limit (cost + x.cost) xs)
  where
    go : (stops : Bool) → ((rest : List Step) × (xs ≡ piece_of until limit (cost + x.cost) xs ++ rest)) →
        (rest : List Step) × (x ∷ xs ≡ (x ∷ cond stops [] (piece_of until limit (cost + x.cost) xs)) ++ rest)
    go true later = (xs, refl)
    go false later = (later.0, ap (λ l. x ∷ l) later.1)

module _ (m : ThreadMeaning) (a : AreActs m) where
  -- a list for n steps has n, where the list for more has
  acts_full : (start : Start) (answers : List Answer) (n d : ℕ) → n ≤ length (m.acts start answers (n + d)) → length (m.acts start answers n) ≡ n
  unfolding trace
  acts_full start answers n d many = go (cases_lt (length few) n)
    where
      few : List Step
      few = m.acts start answers n

      all : List Step
      all = m.acts start answers (n + d)

      thread : Thread
      thread = record { start = start; answers = answers; done = n + d }

      go : (length few < n) ⊎ (n ≤ length few) → length few ≡ n
      go (inr le) = let s = a.short start answers n in omega (arith, le, s)
      go (inl lt) =
          let l = longer_by m a start answers n d in
          let e = entry_at (paired all answers) (length few) (let p = length_paired all answers in omega (arith, p, lt, many)) in
          let here = a.placed thread (length few) e.0 e.1 in
          let first : take (length few) (paired all answers) ≡ paired few answers =
          first_paired all answers (length few) ∙ ap (λ xs. paired (take (length few) xs) answers) l.1 ∙ ap (λ xs. paired xs answers) (take_at few l.0 (length few) refl) in
          absurd (a.stops start answers n lt here.0 (ap (standing m start) (sym first) ∙ here.1))

  -- after its next piece a thread has done just that more
  piece_steps : (thread : Thread) → IsExact m thread →
      m.acts thread.start thread.answers (thread.done + length (next_piece m thread)) ≡ m.acts thread.start thread.answers thread.done ++ next_piece m thread
  unfolding next_piece trace
  piece_steps thread exact = next.1 ∙ ap (λ l. done ++ l) same
    where
      done : List Step
      done = m.acts thread.start thread.answers thread.done

      count : length done ≡ thread.done
      count = sym (length_paired done thread.answers) ∙ exact.done

      all : (rest : List Step) × (m.acts thread.start thread.answers (thread.done + piece_limit) ≡ done ++ rest)
      all = longer_by m a thread.start thread.answers thread.done piece_limit

      behind : drop thread.done (m.acts thread.start thread.answers (thread.done + piece_limit)) ≡ all.0
      behind = ap (drop thread.done) all.1 ∙ drop_at done all.0 thread.done count

      piece : List Step
      piece = piece_of m.until piece_limit 0 (drop thread.done (m.acts thread.start thread.answers (thread.done + piece_limit)))

      first : (rest : List Step) × (all.0 ≡ piece ++ rest)
      first = let p = piece_first m.until piece_limit 0 (drop thread.done (m.acts thread.start thread.answers (thread.done + piece_limit))) in (p.0, sym behind ∙ p.1)

      few : length piece ≤ piece_limit
      few =
          let s = a.short thread.start thread.answers (thread.done + piece_limit) in
          let l = ap length all.1 ∙ length-append done all.0 in
          let k = ap length first.1 ∙ length-append piece first.0 in
          omega (arith, s, l, k, count)

      next : (rest : List Step) × (m.acts thread.start thread.answers (thread.done + length piece) ≡ done ++ rest)
      next = longer_by m a thread.start thread.answers thread.done (length piece)

      later : (rest : List Step) × (m.acts thread.start thread.answers ((thread.done + length piece) + (piece_limit - length piece)) ≡ m.acts thread.start thread.answers (thread.done + length piece) ++ rest)
      later = longer_by m a thread.start thread.answers (thread.done + length piece) (piece_limit - length piece)

      sum : (thread.done + length piece) + (piece_limit - length piece) ≡ thread.done + piece_limit
      sum = omega (arith, few)

      whole : all.0 ≡ next.0 ++ later.0
      whole =
          append_cancel_left done all.0 (next.0 ++ later.0)
          (sym all.1 ∙ ap (m.acts thread.start thread.answers) (sym sum) ∙ later.1 ∙ ap (λ l. l ++ later.0) next.1 ∙ append_assoc done next.0 later.0)

      full : length next.0 ≡ length piece
      full =
          let l = ap length all.1 ∙ length-append done all.0 in
          let k = ap length first.1 ∙ length-append piece first.0 in
          let e = ap (λ n. length (m.acts thread.start thread.answers n)) sum in
          let f = acts_full thread.start thread.answers (thread.done + length piece) (piece_limit - length piece) (omega (arith, l, k, e, count)) in
          let g = ap length next.1 ∙ length-append done next.0 in
          omega (arith, f, g, count)

      same : next.0 ≡ piece
      same =
          sym (take_at next.0 later.0 (length piece) full) ∙ ap (take (length piece)) (sym whole ∙ first.1) ∙ take_at piece first.0 (length piece) refl

  -- .. and its trace has the entries of these steps behind
  pub piece_trace : (thread : Thread) → IsExact m thread → (w : List Entry) × (trace m (more (length (next_piece m thread)) thread) ≡ trace m thread ++ w) × (length w ≡ length (next_piece m thread)) × (started_all w ≡ started_in (next_piece m thread))
  unfolding trace
  piece_trace thread exact =
      let piece = next_piece m thread in
      let done = m.acts thread.start thread.answers thread.done in (
        paired piece (left done thread.answers),
        ap (λ xs. paired xs thread.answers) (piece_steps thread exact) ∙ paired-append done piece thread.answers,
        length_paired piece (left done thread.answers),
        started_paired piece (left done thread.answers),
      )

module _ (opens : Opens) (pieces : PiecesKeep) (reads : ReadsKeep) (waits : WaitsKeep) (disturbers : DisturbersRight) (front : FrontRight) (finds : LookUpsFind)
    (m : ThreadMeaning) (opening : Opening) (session : IsSession m opening) where
  abbrev Good : List Row → Type 0
  Good rows = IsConsistent m opening (threads_in rows)

  module _ (rows : List Row) (good : Good rows) (v rec : ℕ) (row : Row) (has : slice_get rows rec ≡ Some row) where
    has_thread : slice_get (threads_in rows) rec ≡ Some row.thread
    has_thread = thread_at rows rec row has

    unchanged : (next : Row) → next.thread ≡ row.thread → Good (slice_set rows rec next)
    unchanged next same = subst (IsConsistent m opening) (sym (same_threads rows rec row next has same)) good

    changed : (next : Row) → IsConsistent m opening (slice_set (threads_in rows) rec next.thread ++ []) → Good (slice_set rows rec next)
    changed next con = subst (IsConsistent m opening) (append-nil (slice_set (threads_in rows) rec next.thread) ∙ sym (threads_set rows rec next)) con

    took : (can : Bool) → Good (cond can (taken rows rec row v) rows)
    took true = unchanged (record { thread = row.thread; told = row.told; out = Some v }) refl
    took false = good

    back : (mine : Bool) → Good (cond mine (put_back rows rec row) rows)
    back true = unchanged (record { thread = row.thread; told = row.told; out = None }) refl
    back false = good

    came : Good (come_back rows rec row (next_piece m row.thread))
    came =
        let piece = next_piece m row.thread in
        let thread : Thread = more (length piece) row.thread in
        let w = piece_trace m session.acts.acts row.thread (good.exact rec row.thread has_thread) in
        let con = pieces m opening session (threads_in rows) good (length piece) rec row.thread has_thread w.0 w.1 w.2 in
        let e : slice_set (threads_in rows) rec thread ++ started_all w.0 ≡ threads_in (come_back rows rec row piece) =
        ap (λ l. slice_set (threads_in rows) rec thread ++ l) (w.3 ∙ sym (threads_fresh (started_in piece)))
        ∙ ap (λ l. l ++ threads_in (map fresh_row (started_in piece))) (sym (threads_set rows rec (fresh_row thread)))
        ∙ sym (threads_append (slice_set rows rec (fresh_row thread)) (map fresh_row (started_in piece))) in
        subst (IsConsistent m opening) e con

    publish : (mine : Bool) → Good (cond mine (come_back rows rec row (next_piece m row.thread)) rows)
    publish true = came
    publish false = good

    read : (stance : Stance) → stance_in m row.thread ≡ stance → Good (read_by m opening rows rec row stance)
    read (Asks place pattern) is = go (is_quiet m opening (threads_in rows) place pattern) refl
      where
        answer : Answer
        answer = answer_of (last_below (events_of m opening (threads_in rows)) place pattern)

        go : (quiet : Bool) → is_quiet m opening (threads_in rows) place pattern ≡ quiet → Good (cond quiet (answered rows rec row answer) rows)
        go true e =
            changed (record { thread = told answer row.thread; told = Some answer; out = row.out })
            (reads m opening session (threads_in rows) good rec row.thread place pattern answer has_thread is ((disturbers m opening (threads_in rows) place pattern).1.0 e) ((finds m opening session (threads_in rows) good).0 place pattern))
        go false e = good
    read (Ready place) is = good
    read (Waits place pattern stop) is = good
    read (Asleep time) is = good
    read Over is = good

    wake : (place : Place) (wants : Wants) → stance_in m row.thread ≡ Waits place wants.pattern wants.stop → (found : Option EventView) → FirstOr m opening (threads_in rows) place wants found →
        Good (wait_found m opening rows rec row found)
    wake place wants is None first = good
    wake place wants is (Some event) first = go (is_clear m opening (threads_in rows) event.place) refl
      where
        go : (clear : Bool) → is_clear m opening (threads_in rows) event.place ≡ clear → Good (cond clear (answered rows rec row (Found event)) rows)
        go true e =
            changed (record { thread = told (Found event) row.thread; told = Some (Found event); out = row.out })
            (waits m opening session (threads_in rows) good rec row.thread place wants event has_thread is first ((front m opening (threads_in rows) event.place).0 e))
        go false e = good

    wait : (stance : Stance) → stance_in m row.thread ≡ stance → Good (wait_by m opening rows rec row stance)
    wait (Waits place pattern stop) is =
        wake place (record { pattern = pattern; stop = stop }) is (first_above (events_of m opening (threads_in rows)) place (with_stop pattern stop)) ((finds m opening session (threads_in rows) good).1 place (record { pattern = pattern; stop = stop }))
    wait (Ready place) is = good
    wait (Asks place pattern) is = good
    wait (Asleep time) is = good
    wait Over is = good

    deed_good : (deed : Deed) → Good (deed_on m opening rows v rec row deed)
    deed_good Took = took (is_ready m row && is_free v rows)
    deed_good Published = publish (is_out_to v row)
    deed_good PutBack = back (is_out_to v row)
    deed_good ReadAnswered = read (stance_in m row.thread) refl
    deed_good WaitAnswered = wait (stance_in m row.thread) refl

  pub entry_good : (rows : List Row) (entry : LogEntry) → Good rows → Good (after_entry m opening rows entry)
  entry_good rows entry good = go (slice_get rows entry.rec) refl
    where
      go : (found : Option Row) → slice_get rows entry.rec ≡ found → Good (deed_at m opening rows entry found)
      go None is = good
      go (Some row) is = deed_good rows good entry.worker entry.rec row is entry.deed

  entries_good : (entries : List LogEntry) (rows : List Row) → Good rows → Good (after_entries m opening entries rows)
  entries_good [] rows good = good
  entries_good (entry ∷ entries) rows good = entries_good entries (after_entry m opening rows entry) (entry_good rows entry good)

  after_good : (log : List LogEntry) → Good (after m opening log)
  unfolding after
  after_good log = entries_good log (opening_rows opening) (subst (IsConsistent m opening) (sym (threads_fresh (opening_world opening))) (opens m opening session))

-- **what a log leaves is consistent**
pub log_is_consistent : Opens → PiecesKeep → ReadsKeep → WaitsKeep → DisturbersRight → FrontRight → LookUpsFind → LogIsConsistent
log_is_consistent opens pieces reads waits disturbers front finds m opening session log = after_good opens pieces reads waits disturbers front finds m opening session log
