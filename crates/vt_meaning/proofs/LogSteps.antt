-- What the steps that a log names leave is what the log leaves, and what such a log is like.
use Rattle.std.proofs.Common.{◌≡◌, ℕ, zero, suc, ◌+◌, ◌<◌, ◌≤◌, List, [], ◌∷◌, ◌++◌, length, map, refl, sym, ◌∙◌, ap, inl, inr, ◌⊎◌, arith, Bool, true, false, cond, subst, Option, Some, None, add-zero, append-nil, append_assoc, length-append}
use Rattle.std.specs.Prelude.{◌==◌, ◌&&◌, ◌-◌, ◌^◌, min, not, is_some, slice_get, slice_set}
use Rattle.std.proofs.lemmas.Bool.{eqb-true}
use Rattle.std.proofs.lemmas.Bool.Decides.{eqb_tells}
use Rattle.std.proofs.lemmas.Option.{slice_get_within}
use Rattle.vt_path.specs.declared.pattern.Segment.{Segment}
use Rattle.vt_event.specs.declared.place.Place.{Place}
use Rattle.vt_event.specs.Event.{EventView}
use Rattle.vt_run.specs.declared.action.Answer.{Answer}
use Rattle.vt_run.specs.declared.action.Answer.TheVariants.{Nothing, Found}
use Rattle.vt_run.specs.Standing.{Stance, Ready, Asks, Waits, Asleep, Over}
use Rattle.vt_meaning.specs.Consistent.{IsConsistent}
use Rattle.vt_meaning.specs.Disturbers.{is_clear, is_quiet}
use Rattle.vt_meaning.specs.Happenings.{FirstOr, IsFirst, IsLast}
use Rattle.vt_meaning.specs.Log.{LogEntry, Row, after, after_entries, after_entry, answered, come_back, deed_at, fresh_row, goes, is_free, is_out_to, is_worker, job_of, jobs_from, next_piece, opening_rows, put_back, read_by, started_in, taken, threads_in, wait_by, wait_found}
use Rattle.vt_meaning.specs.Log.Deed.{Took, Published, PutBack, ReadAnswered, WaitAnswered}
use Rattle.vt_meaning.specs.LogLaws.{CapsDoNotMatter, LogsAreOrderly, LogsLeave, LogsOfParts, OneIsOut, StoresStayStores}
use Rattle.vt_meaning.specs.LogSteps.{AreSteps, brings_back, HaveOneOut, IsLogOf, IsOrderlyLog, IsOutTo, IsStep, IsStore, moves_out_or_back, StandsBehindTook, StoreData, StoreStep, worker_limit}
use Rattle.vt_meaning.specs.LogSteps.StoreStep.{Enters, Halts}
use Rattle.vt_meaning.specs.LogSteps.AreSteps.{FirstStep, NoStep}
use Rattle.vt_meaning.specs.LogSteps.IsStep.{AnswersRead, AnswersWait, Publishes, PutsBack, Takes}
use Rattle.vt_meaning.specs.LookUps.{answer_of, first_above, last_below}
use Rattle.vt_meaning.specs.Places.{Before}
use Rattle.vt_meaning.specs.RealLaws.{LookUpsFind}
use Rattle.vt_meaning.specs.Steps.{more}
use Rattle.vt_meaning.specs.Theorems.{DisturbersRight, FrontRight, Opens, PiecesKeep, ReadsKeep, WaitsKeep}
use Rattle.vt_meaning.specs.ThreadLaws.{IsSession}
use Rattle.vt_meaning.specs.ThreadMeaning.{ThreadMeaning, Wants, with_stop}
use Rattle.vt_meaning.specs.Traces.{Thread, stance_in}
use Rattle.vt_meaning.specs.World.{Opening, events_of, opening_world, told}
use Rattle.vt_meaning.proofs.Lists.{get-append_cases, get-append_left, get-append_right, get-set_other, get-set_same, none_some}
use Rattle.vt_meaning.proofs.LogConsistent.{entry_good, threads_fresh}
use Rattle.vt_meaning.proofs.LogJobs.{all_go, go_at, go_fresh}
use Rattle.vt_meaning.proofs.Order.{not_both, before_upto}

some_one : {A : Type 0} {x y : A} → Some x ≡ Some y → x ≡ y
some_one h = cc

-- what a read finds is one answer, and what a wait finds one event
last_one : (m : ThreadMeaning) (opening : Opening) (threads : List Thread) (place : Place) (pattern : List Segment) (one other : Answer) → IsLast m opening threads place pattern one → IsLast m opening threads place pattern other → one ≡ other
last_one m opening threads place pattern Nothing Nothing h k = refl
last_one m opening threads place pattern Nothing (Found e) h k = absurd (h e k.0)
last_one m opening threads place pattern (Found e) Nothing h k = absurd (k e h.0)
last_one m opening threads place pattern (Found e) (Found f) h k = ap (λ (x : EventView). Found x) (go (h.1 f k.0) (k.1 e h.0))
  where
    go : (f ≡ e) ⊎ Before f.place e.place → (e ≡ f) ⊎ Before e.place f.place → e ≡ f
    go (inl same) below = sym same
    go (inr lt) (inl same) = same
    go (inr lt) (inr gt) = absurd (not_both f.place e.place lt (before_upto e.place f.place gt))

first_one : (m : ThreadMeaning) (opening : Opening) (threads : List Thread) (place : Place) (wants : Wants) (event : EventView) (found : Option EventView) → IsFirst m opening threads place wants event → FirstOr m opening threads place wants found → found ≡ Some event
first_one m opening threads place wants e None h k = absurd (k e h.found)
first_one m opening threads place wants e (Some f) h k = ap (λ (x : EventView). Some x) (go (h.least f k.found) (k.least e h.found))
  where
    go : (f ≡ e) ⊎ Before e.place f.place → (e ≡ f) ⊎ Before f.place e.place → f ≡ e
    go (inl same) below = same
    go (inr lt) (inl same) = sym same
    go (inr lt) (inr gt) = absurd (not_both e.place f.place lt (before_upto f.place e.place gt))

both_so : (a b : Bool) → a ≡ true → b ≡ true → (a && b) ≡ true
both_so a b x y = rw (x, y) refl

same_number : (n : ℕ) → (n == n) ≡ true
same_number n = elim (eqb_tells n n) [ inl h ↦ h.0 | inr h ↦ absurd (h.1 refl) ]

-- no record is out to the worker
free_so : (worker : ℕ) (rows : List Row) → ((other : ℕ) → IsOutTo rows worker other → ⊥) → is_free worker rows ≡ true
free_so worker [] none = refl
free_so worker (row ∷ rows) none = both_so (not (is_out_to worker row)) (is_free worker rows) (go row.out refl) (free_so worker rows (λ k out. none (suc k) (record { row = out.row; has = out.has; out = out.out })))
  where
    go : (out : Option ℕ) → row.out ≡ out → not (is_worker worker out) ≡ true
    go None e = refl
    go (Some v) e = ask (v == worker) refl
      where
        ask : (b : Bool) → (v == worker) ≡ b → not b ≡ true
        ask true same = absurd (none 0 (record { row = row; has = refl; out = e ∙ ap (λ (w : ℕ). Some w) (eqb-true v worker same) }))
        ask false differ = refl

module _ (opens : Opens) (pieces : PiecesKeep) (reads : ReadsKeep) (waits : WaitsKeep) (disturbers : DisturbersRight) (front : FrontRight) (finds : LookUpsFind)
    (m : ThreadMeaning) (opening : Opening) (session : IsSession m opening) where
  -- what a step leaves is what its entry leaves
  step_after : (rows next : List Row) (entry : LogEntry) → IsConsistent m opening (threads_in rows) → IsStep m opening rows entry next → next ≡ after_entry m opening rows entry
  step_after rows next entry good (Takes worker rec row place few has stance out none) =
      let ready : (goes (stance_in m row.thread) && not (is_some row.out)) ≡ true = rw (stance, out) refl in
      let can : ((goes (stance_in m row.thread) && not (is_some row.out)) && is_free worker rows) ≡ true = both_so (goes (stance_in m row.thread) && not (is_some row.out)) (is_free worker rows) ready (free_so worker rows none) in
      sym (ap (deed_at m opening rows entry) has ∙ ap (λ b. cond b (taken rows rec row worker) rows) can)
  step_after rows next entry good (Publishes worker rec row few has out) =
      let mine : is_out_to worker row ≡ true = ap (is_worker worker) out ∙ same_number worker in
      sym (ap (deed_at m opening rows entry) has ∙ ap (λ b. cond b (come_back rows rec row (next_piece m row.thread)) rows) mine)
  step_after rows next entry good (PutsBack worker rec row few has out) =
      let mine : is_out_to worker row ≡ true = ap (is_worker worker) out ∙ same_number worker in
      sym (ap (deed_at m opening rows entry) has ∙ ap (λ b. cond b (put_back rows rec row) rows) mine)
  step_after rows next entry good (AnswersRead worker rec row place pattern answer few has stance quiet last) =
      let tested : is_quiet m opening (threads_in rows) place pattern ≡ true = (disturbers m opening (threads_in rows) place pattern).1.1 quiet in
      let found = last_below (events_of m opening (threads_in rows)) place pattern in
      let same : answer_of found ≡ answer = last_one m opening (threads_in rows) place pattern (answer_of found) answer ((finds m opening session (threads_in rows) good).0 place pattern) last in
      sym (ap (deed_at m opening rows entry) has ∙ ap (read_by m opening rows rec row) stance ∙ ap (λ b. cond b (answered rows rec row (answer_of found)) rows) tested ∙ ap (answered rows rec row) same)
  step_after rows next entry good (AnswersWait worker rec row place wants event few has stance first clear) =
      let tested : is_clear m opening (threads_in rows) event.place ≡ true = (front m opening (threads_in rows) event.place).1 clear in
      let found = first_above (events_of m opening (threads_in rows)) place (with_stop wants.pattern wants.stop) in
      let same : found ≡ Some event = first_one m opening (threads_in rows) place wants event found first ((finds m opening session (threads_in rows) good).1 place wants) in
      sym (ap (deed_at m opening rows entry) has ∙ ap (wait_by m opening rows rec row) stance ∙ ap (wait_found m opening rows rec row) same ∙ ap (λ b. cond b (answered rows rec row (Found event)) rows) tested)

  step_good : (rows next : List Row) (entry : LogEntry) → IsConsistent m opening (threads_in rows) → IsStep m opening rows entry next → IsConsistent m opening (threads_in next)
  step_good rows next entry good step =
      subst (λ r. IsConsistent m opening (threads_in r)) (sym (step_after rows next entry good step)) (entry_good opens pieces reads waits disturbers front finds m opening session rows entry good)

  steps_after : (rows last : List Row) (entries : List LogEntry) → IsConsistent m opening (threads_in rows) → AreSteps m opening rows entries last → (last ≡ after_entries m opening entries rows) × IsConsistent m opening (threads_in last)
  steps_after rows last entries good (NoStep _) = (refl, good)
  steps_after rows last entries good (FirstStep _ next _ entry rest step steps) =
      let s = step_after rows next entry good step in
      let t = steps_after next last rest (step_good rows next entry good step) steps in
      (t.0 ∙ ap (after_entries m opening rest) s, t.1)

  opened_good : IsConsistent m opening (threads_in (opening_rows opening))
  opened_good = subst (IsConsistent m opening) (sym (threads_fresh (opening_world opening))) (opens m opening session)

-- where a thread goes on there is a place
goes_at : (stance : Stance) → goes stance ≡ true → (place : Place) × (stance ≡ Ready place)
goes_at (Ready place) e = (place, refl)
goes_at (Asks place pattern) e = absurd (let z : false ≡ true = e in cc)
goes_at (Waits place pattern stop) e = absurd (let z : false ≡ true = e in cc)
goes_at (Asleep time) e = absurd (let z : false ≡ true = e in cc)
goes_at Over e = absurd (let z : false ≡ true = e in cc)

-- **the records of a store are those that its log leaves**
pub logs_leave : Opens → PiecesKeep → ReadsKeep → WaitsKeep → DisturbersRight → FrontRight → LookUpsFind → LogsLeave
unfolding after
logs_leave opens pieces reads waits disturbers front finds m opening session log rows steps =
    let found = steps_after opens pieces reads waits disturbers front finds m opening session (opening_rows opening) rows log (opened_good opens pieces reads waits disturbers front finds m opening session) steps in (
      found.0,
      found.1,
      λ worker rec out.
          let all = all_go m opening log (opening_rows opening) (go_fresh m (opening_world opening)) in
          let has : slice_get (after_entries m opening log (opening_rows opening)) rec ≡ Some out.row = ap (λ r. slice_get r rec) (sym found.0) ∙ out.has in
          goes_at (stance_in m out.row.thread) (go_at m (after_entries m opening log (opening_rows opening)) rec out.row all has (ap is_some out.out)),
    )

-- fresh records are out to nobody
fresh_not_out : (threads : List Thread) (k worker : ℕ) (row : Row) → slice_get (map fresh_row threads) k ≡ Some row → row.out ≡ Some worker → ⊥
fresh_not_out [] k worker row has out = none_some has
fresh_not_out (thread ∷ threads) zero worker row has out = none_some (ap (λ (r : Row). r.out) (some_one has) ∙ out)
fresh_not_out (thread ∷ threads) (suc k) worker row has out = fresh_not_out threads k worker row has out

-- what is out after one record is another: that one, or another that was out before
out_set : (rows : List Row) (rec : ℕ) (old row : Row) → slice_get rows rec ≡ Some old → (worker k : ℕ) → IsOutTo (slice_set rows rec row) worker k → ((k ≡ rec) × (row.out ≡ Some worker)) ⊎ ((k ≡ rec → ⊥) × IsOutTo rows worker k)
out_set rows rec old row has worker k out = elim (eqb_tells k rec) [ inl h ↦ inl (h.1, here h.1) | inr h ↦ inr (h.1, there h.1) ]
  where
    here : k ≡ rec → row.out ≡ Some worker
    here same =
        let at : slice_get (slice_set rows rec row) rec ≡ Some out.row = subst (λ n. slice_get (slice_set rows rec row) n ≡ Some out.row) same out.has in
        let is : row ≡ out.row = some_one (sym (get-set_same rows rec old row has) ∙ at) in
        ap (λ (r : Row). r.out) is ∙ out.out

    there : (k ≡ rec → ⊥) → IsOutTo rows worker k
    there differ = record { row = out.row; has = sym (get-set_other rows rec k row differ) ∙ out.has; out = out.out }

-- What is out after a step was out before it, to a worker who now moved nothing; or its worker took it now.
abbrev StaysOut : List Row → LogEntry → ℕ → ℕ → Type 0
StaysOut rows entry worker k = IsOutTo rows worker k × (entry.worker ≡ worker → moves_out_or_back entry.deed ≡ true → ⊥)

abbrev TakenNow : LogEntry → ℕ → ℕ → Type 0
TakenNow entry worker k = entry ≡ record { worker = worker; rec = k; deed = Took }

false_not : false ≡ true → ⊥
false_not h = cc

came_back_out : (rows : List Row) (v rec : ℕ) (row next : Row) → HaveOneOut rows → slice_get rows rec ≡ Some row → row.out ≡ Some v → next.out ≡ None → (entry : LogEntry) → entry.worker ≡ v → (worker k : ℕ) → IsOutTo (slice_set rows rec next) worker k →
    StaysOut rows entry worker k
came_back_out rows v rec row next one has mine none entry own worker k out = elim (out_set rows rec row next has worker k out) [ inl h ↦ absurd (none_some (sym none ∙ h.1)) | inr h ↦ (h.1, λ same moves. h.0 (one v k rec (subst (λ n. IsOutTo rows n k) (sym same ∙ own) h.1) (record { row = row; has = has; out = mine }))) ]

answered_out : (rows : List Row) (rec : ℕ) (row next : Row) → slice_get rows rec ≡ Some row → next.out ≡ row.out → (entry : LogEntry) → moves_out_or_back entry.deed ≡ false → (worker k : ℕ) → IsOutTo (slice_set rows rec next) worker k → StaysOut rows entry worker k
answered_out rows rec row next has same entry still worker k out =
    (elim (out_set rows rec row next has worker k out) [ inl h ↦ subst (λ n. IsOutTo rows worker n) (sym h.0) (record { row = row; has = has; out = sym same ∙ h.1 }) | inr h ↦ h.1 ], λ own moves. false_not (sym still ∙ moves))

out_step : (m : ThreadMeaning) (opening : Opening) (rows next : List Row) (entry : LogEntry) → IsStep m opening rows entry next → HaveOneOut rows → (worker k : ℕ) → IsOutTo next worker k → StaysOut rows entry worker k ⊎ TakenNow entry worker k
out_step m opening rows next entry (Takes v rec row place few has stance none free) one worker k out =
    elim (out_set rows rec row (record { thread = row.thread; told = row.told; out = Some v }) has worker k out) [
      | inl h ↦ inr (now (some_one h.1) (sym h.0))
      | inr h ↦ inl (h.1, λ same moves. free k (subst (λ n. IsOutTo rows n k) (sym same) h.1))
    ]
  where
    now : v ≡ worker → rec ≡ k → TakenNow (record { worker = v; rec = rec; deed = Took }) worker k
    now a b = λ j. record { worker = a j; rec = b j; deed = Took }
out_step m opening rows next entry (Publishes v rec row few has mine) one worker k out =
    elim (get-append_cases (slice_set rows rec (fresh_row (more (length (next_piece m row.thread)) row.thread))) (map fresh_row (started_in (next_piece m row.thread))) k out.row out.has) [
      | inl l ↦ inl (came_back_out rows v rec row (fresh_row (more (length (next_piece m row.thread)) row.thread)) one has mine refl (record { worker = v; rec = rec; deed = Published }) refl worker k (record { row = out.row; has = l; out = out.out }))
      | inr r ↦ absurd (fresh_not_out (started_in (next_piece m row.thread)) r.0 worker out.row r.2 out.out)
    ]
out_step m opening rows next entry (PutsBack v rec row few has mine) one worker k out =
    inl (came_back_out rows v rec row (record { thread = row.thread; told = row.told; out = None }) one has mine refl (record { worker = v; rec = rec; deed = PutBack }) refl worker k out)
out_step m opening rows next entry (AnswersRead v rec row place pattern answer few has stance quiet last) one worker k out =
    inl (answered_out rows rec row (record { thread = told answer row.thread; told = Some answer; out = row.out }) has refl (record { worker = v; rec = rec; deed = ReadAnswered }) refl worker k out)
out_step m opening rows next entry (AnswersWait v rec row place wants event few has stance first clear) one worker k out =
    inl (answered_out rows rec row (record { thread = told (Found event) row.thread; told = Some (Found event); out = row.out }) has refl (record { worker = v; rec = rec; deed = WaitAnswered }) refl worker k out)

-- a record that comes back was out to the worker
back_step : (m : ThreadMeaning) (opening : Opening) (rows next : List Row) (entry : LogEntry) → IsStep m opening rows entry next → brings_back entry.deed ≡ true → IsOutTo rows entry.worker entry.rec
back_step m opening rows next entry (Takes v rec row place few has stance none free) back = absurd (false_not back)
back_step m opening rows next entry (Publishes v rec row few has mine) back = record { row = row; has = has; out = mine }
back_step m opening rows next entry (PutsBack v rec row few has mine) back = record { row = row; has = has; out = mine }
back_step m opening rows next entry (AnswersRead v rec row place pattern answer few has stance quiet last) back = absurd (false_not back)
back_step m opening rows next entry (AnswersWait v rec row place wants event few has stance first clear) back = absurd (false_not back)

few_step : (m : ThreadMeaning) (opening : Opening) (rows next : List Row) (entry : LogEntry) → IsStep m opening rows entry next → entry.worker < worker_limit
few_step m opening rows next entry (Takes v rec row place few has stance none free) = few
few_step m opening rows next entry (Publishes v rec row few has mine) = few
few_step m opening rows next entry (PutsBack v rec row few has mine) = few
few_step m opening rows next entry (AnswersRead v rec row place pattern answer few has stance quiet last) = few
few_step m opening rows next entry (AnswersWait v rec row place wants event few has stance first clear) = few

-- the worker took the record in this log, and has moved nothing since
abbrev Since : List LogEntry → ℕ → ℕ → Type 0
Since log worker rec = StandsBehindTook log (length log) (record { worker = worker; rec = rec; deed = Took })

only_one : (entry other : LogEntry) (k : ℕ) → slice_get (entry ∷ []) k ≡ Some other → (k ≡ 0) × (entry ≡ other)
only_one entry other zero has = (refl, some_one has)
only_one entry other (suc k) has = absurd (none_some has)

grown : (log : List LogEntry) (entry : LogEntry) → length (log ++ entry ∷ []) ≡ length log + 1
grown log entry = length-append log (entry ∷ [])

since_more : (log : List LogEntry) (worker rec : ℕ) → Since log worker rec → (entry : LogEntry) → (entry.worker ≡ worker → moves_out_or_back entry.deed ≡ true → ⊥) → Since (log ++ entry ∷ []) worker rec
since_more log worker rec s entry still = record {
  at = s.at;
  earlier = (let g = grown log entry in let e = s.earlier in omega (arith, g, e));
  took = get-append_left log (entry ∷ []) s.at (record { worker = worker; rec = rec; deed = Took }) s.took;
  between =
      λ k other after before has own moves.
      elim (get-append_cases log (entry ∷ []) k other has) [
        | inl l ↦ s.between k other after (slice_get_within log k other l) l own moves
        | inr r ↦ (let is = (only_one entry other r.0 r.2).1 in still (ap (λ (x : LogEntry). x.worker) is ∙ own) (ap (λ (x : LogEntry). moves_out_or_back x.deed) is ∙ moves))
      ];
}

since_now : (log : List LogEntry) (worker rec : ℕ) → Since (log ++ record { worker = worker; rec = rec; deed = Took } ∷ []) worker rec
since_now log worker rec = record {
  at = length log;
  earlier = (let g = grown log entry in omega (arith, g));
  took = subst (λ n. slice_get (log ++ entry ∷ []) n ≡ Some entry) (add-zero (length log)) (get-append_right log (entry ∷ []) 0 entry refl);
  between = λ k other after before has own moves. (let g = grown log entry in absurd (omega (arith, g, after, before)));
}
  where
    entry : LogEntry
    entry = record { worker = worker; rec = rec; deed = Took }

-- an entry stands behind what it stood behind, in a longer log
behind_more : (log : List LogEntry) (number : ℕ) (entry : LogEntry) → number ≤ length log → StandsBehindTook log number entry → (more : LogEntry) → StandsBehindTook (log ++ more ∷ []) number entry
behind_more log number entry within s more = record {
  at = s.at;
  earlier = s.earlier;
  took = get-append_left log (more ∷ []) s.at (record { worker = entry.worker; rec = entry.rec; deed = Took }) s.took;
  between =
      λ k other after before has own moves.
      elim (get-append_cases log (more ∷ []) k other has) [ inl l ↦ s.between k other after before l own moves | inr r ↦ (let e = r.1 in absurd (omega (arith, e, before, within))) ];
}

-- a log and the records that it leaves
record IsSound (log : List LogEntry) (rows : List Row) : Type 0 where
  pub one : HaveOneOut rows
  pub since : (worker k : ℕ) → IsOutTo rows worker k → Since log worker k
  pub orderly : IsOrderlyLog log

sound_step : (m : ThreadMeaning) (opening : Opening) (log : List LogEntry) (rows next : List Row) (entry : LogEntry) → IsSound log rows → IsStep m opening rows entry next → IsSound (log ++ entry ∷ []) next
sound_step m opening log rows next entry s step = record { one = one; since = since; orderly = record { paired = paired; workers = workers } }
  where
    clash : (worker k l : ℕ) → StaysOut rows entry worker k → TakenNow entry worker l → ⊥
    clash worker k l stays now = stays.1 (ap (λ (x : LogEntry). x.worker) now) (ap (λ (x : LogEntry). moves_out_or_back x.deed) now)

    one : HaveOneOut next
    one worker k l a b = go (out_step m opening rows next entry step s.one worker k a) (out_step m opening rows next entry step s.one worker l b)
      where
        go : StaysOut rows entry worker k ⊎ TakenNow entry worker k → StaysOut rows entry worker l ⊎ TakenNow entry worker l → k ≡ l
        go (inl x) (inl y) = s.one worker k l x.0 y.0
        go (inl x) (inr y) = absurd (clash worker k l x y)
        go (inr x) (inl y) = absurd (clash worker l k y x)
        go (inr x) (inr y) = sym (ap (λ (e : LogEntry). e.rec) x) ∙ ap (λ (e : LogEntry). e.rec) y

    since : (worker k : ℕ) → IsOutTo next worker k → Since (log ++ entry ∷ []) worker k
    since worker k out =
        elim (out_step m opening rows next entry step s.one worker k out) [
          | inl x ↦ since_more log worker k (s.since worker k x.0) entry x.1
          | inr now ↦ subst (λ e. Since (log ++ e ∷ []) worker k) (sym now) (since_now log worker k)
        ]

    last : brings_back entry.deed ≡ true → StandsBehindTook (log ++ entry ∷ []) (length log) entry
    last back =
        let b = s.since entry.worker entry.rec (back_step m opening rows next entry step back) in
        behind_more log (length log) entry (omega arith) (record { at = b.at; earlier = b.earlier; took = b.took; between = b.between }) entry

    paired : (number : ℕ) (other : LogEntry) → slice_get (log ++ entry ∷ []) number ≡ Some other → brings_back other.deed ≡ true → StandsBehindTook (log ++ entry ∷ []) number other
    paired number other has back =
        elim (get-append_cases log (entry ∷ []) number other has) [
          | inl l ↦ behind_more log number other (let w = slice_get_within log number other l in omega (arith, w)) (s.orderly.paired number other l back) entry
          | inr r ↦
              (let is = only_one entry other r.0 r.2 in
              let z = is.0 in
              let at : length log ≡ number = (let e = r.1 in omega (arith, e, z)) in
              subst (λ n. StandsBehindTook (log ++ entry ∷ []) n other) at (subst (λ e. StandsBehindTook (log ++ entry ∷ []) (length log) e) is.1 (last (ap (λ (x : LogEntry). brings_back x.deed) is.1 ∙ back))))
        ]

    workers : (number : ℕ) (other : LogEntry) → slice_get (log ++ entry ∷ []) number ≡ Some other → other.worker < worker_limit
    workers number other has =
        elim (get-append_cases log (entry ∷ []) number other has) [
          | inl l ↦ s.orderly.workers number other l
          | inr r ↦ subst (λ e. e.worker < worker_limit) (only_one entry other r.0 r.2).1 (few_step m opening rows next entry step)
        ]

sound_steps : (m : ThreadMeaning) (opening : Opening) (log : List LogEntry) (rows last : List Row) (entries : List LogEntry) → IsSound log rows → AreSteps m opening rows entries last → IsSound (log ++ entries) last
sound_steps m opening log rows last entries s (NoStep _) = subst (λ l. IsSound l rows) (sym (append-nil log)) s
sound_steps m opening log rows last entries s (FirstStep _ next _ entry rest step steps) =
    subst (λ l. IsSound l last) (append_assoc log (entry ∷ []) rest) (sound_steps m opening (log ++ entry ∷ []) next last rest (sound_step m opening log rows next entry s step) steps)

opening_sound : (opening : Opening) → IsSound [] (opening_rows opening)
opening_sound opening = record {
  one = λ worker k l a b. absurd (fresh_not_out (opening_world opening) k worker a.row a.has a.out);
  since = λ worker k out. absurd (fresh_not_out (opening_world opening) k worker out.row out.has out.out);
  orderly = record { paired = λ number entry has back. absurd (none_some has); workers = λ number entry has. absurd (none_some has) };
}

log_sound : (m : ThreadMeaning) (opening : Opening) (log : List LogEntry) (rows : List Row) → IsLogOf m opening log rows → IsSound log rows
log_sound m opening log rows steps = sound_steps m opening [] (opening_rows opening) rows log (opening_sound opening) steps

-- **what is brought back was taken**
pub logs_are_orderly : LogsAreOrderly
logs_are_orderly m opening log rows steps = (log_sound m opening log rows steps).orderly

is_out : (worker : ℕ) (out : Option ℕ) → is_worker worker out ≡ true → out ≡ Some worker
is_out worker None e = absurd (false_not e)
is_out worker (Some other) e = ap (λ (w : ℕ). Some w) (eqb-true other worker e)

-- one who has nothing out has no job
none_from : (worker n : ℕ) (rows : List Row) → ((k : ℕ) → IsOutTo rows worker k → ⊥) → jobs_from worker n rows ≡ []
none_from worker n [] none = refl
none_from worker n (row ∷ rows) none = go (is_out_to worker row) refl (none_from worker (n + 1) rows (λ k out. none (suc k) (record { row = out.row; has = out.has; out = out.out })))
  where
    go : (out : Bool) → is_out_to worker row ≡ out → jobs_from worker (n + 1) rows ≡ [] → cond out (job_of n row ∷ jobs_from worker (n + 1) rows) (jobs_from worker (n + 1) rows) ≡ []
    go true e rest = absurd (none 0 (record { row = row; has = refl; out = is_out worker row.out e }))
    go false e rest = rest

one_from : (worker n : ℕ) (rows : List Row) (k : ℕ) (row : Row) → slice_get rows k ≡ Some row → row.out ≡ Some worker → ((i j : ℕ) → IsOutTo rows worker i → IsOutTo rows worker j → i ≡ j) → jobs_from worker n rows ≡ job_of (n + k) row ∷ []
one_from worker n [] k row has out one = absurd (none_some has)
one_from worker n (first ∷ rows) zero row has out one =
    let same : first ≡ row = some_one has in
    let here : is_out_to worker first ≡ true = ap (is_out_to worker) same ∙ ap (is_worker worker) out ∙ same_number worker in
    let mine : IsOutTo (first ∷ rows) worker 0 = record { row = row; has = has; out = out } in
    let rest : jobs_from worker (n + 1) rows ≡ [] = none_from worker (n + 1) rows (λ j other. let e = one 0 (suc j) mine (record { row = other.row; has = other.has; out = other.out }) in omega (arith, e)) in
    ap (λ b. cond b (job_of n first ∷ jobs_from worker (n + 1) rows) (jobs_from worker (n + 1) rows)) here
    ∙ ap (λ l. job_of n first ∷ l) rest
    ∙ ap (λ (r : Row). job_of n r ∷ []) same
    ∙ ap (λ i. job_of i row ∷ []) (sym (add-zero n))
one_from worker n (first ∷ rows) (suc k) row has out one =
    go (is_out_to worker first) refl (one_from worker (n + 1) rows k row has out (λ i j a b. let e = one (suc i) (suc j) (record { row = a.row; has = a.has; out = a.out }) (record { row = b.row; has = b.has; out = b.out }) in omega (arith, e)))
  where
    go : (here : Bool) → is_out_to worker first ≡ here → jobs_from worker (n + 1) rows ≡ job_of ((n + 1) + k) row ∷ [] → cond here (job_of n first ∷ jobs_from worker (n + 1) rows) (jobs_from worker (n + 1) rows) ≡ job_of (n + suc k) row ∷ []
    go true e rest = absurd (let c = one 0 (suc k) (record { row = first; has = refl; out = is_out worker first.out e }) (record { row = row; has = has; out = out }) in omega (arith, c))
    go false e rest = let at : (n + 1) + k ≡ n + suc k = omega arith in rest ∙ ap (λ i. job_of i row ∷ []) at

pub one_is_out : OneIsOut
one_is_out m opening log rows steps =
    let one = (log_sound m opening log rows steps).one in (
      one,
      λ worker rec out. let at : 0 + rec ≡ rec = omega arith in one_from worker 0 rows rec out.row out.has out.out (λ i j a b. one worker i j a b) ∙ ap (λ i. job_of i out.row ∷ []) at,
      λ worker none. none_from worker 0 rows none,
    )

-- steps in two parts
joined : (m : ThreadMeaning) (opening : Opening) (rows next last : List Row) (xs ys : List LogEntry) → AreSteps m opening rows xs next → AreSteps m opening next ys last → AreSteps m opening rows (xs ++ ys) last
joined m opening rows next last xs ys (NoStep _) more = more
joined m opening rows next last xs ys (FirstStep _ middle _ entry rest step steps) more = FirstStep rows middle last entry (rest ++ ys) step (joined m opening middle next last rest ys steps more)

-- the first of some steps, and the others
first_of : (m : ThreadMeaning) (opening : Opening) (rows last : List Row) (x : LogEntry) (xs entries : List LogEntry) → AreSteps m opening rows entries last → entries ≡ x ∷ xs → (next : List Row) × IsStep m opening rows x next × AreSteps m opening next xs last
first_of m opening rows last x xs entries (NoStep _) e = absurd (let z : ◌≡◌ {A = List LogEntry} [] (x ∷ xs) = e in cc)
first_of m opening rows last x xs entries (FirstStep _ next _ entry rest step steps) e =
    let z : entry ∷ rest ≡ x ∷ xs = e in
    let one : entry ≡ x = cc z in
    let others : rest ≡ xs = cc z in
    (next, subst (λ y. IsStep m opening rows y next) one step, subst (λ ys. AreSteps m opening next ys last) others steps)

parted : (m : ThreadMeaning) (opening : Opening) (rows last : List Row) (xs ys : List LogEntry) → AreSteps m opening rows (xs ++ ys) last → (next : List Row) × AreSteps m opening rows xs next × AreSteps m opening next ys last
parted m opening rows last [] ys steps = (rows, NoStep rows, steps)
parted m opening rows last (x ∷ xs) ys steps =
    let f = first_of m opening rows last x (xs ++ ys) (x ∷ (xs ++ ys)) steps refl in
    let p = parted m opening f.0 last xs ys f.2 in
    (p.0, FirstStep rows f.0 p.0 x xs f.1 p.1, p.2)

pub logs_of_parts : LogsOfParts
logs_of_parts m opening log further rows = (
  λ steps. parted m opening (opening_rows opening) rows log further steps,
  λ parts. joined m opening (opening_rows opening) parts.0 rows log further parts.1 parts.2,
)

pub stores_stay_stores : StoresStayStores
stores_stay_stores m opening = (NoStep (opening_rows opening), stays)
  where
    stays : (store next : StoreData) → IsStore m opening store → StoreStep m opening store next → IsStore m opening next
    stays store next is (Enters entry rows step) = joined m opening (opening_rows opening) store.rows rows store.log (entry ∷ []) is (FirstStep store.rows rows rows entry [] step (NoStep rows))
    stays store next is Halts = is

-- **a total that is capped at each addition is the whole total capped**
pub caps_do_not_matter : CapsDoNotMatter
caps_do_not_matter = (
  λ total cost. once (2 ^ 64 - 1) total cost,
  λ total cost. twice (2 ^ 64 - 1) total cost,
  λ budget total below. (λ lt. over (2 ^ 64 - 1) budget total lt, λ lt. back (2 ^ 64 - 1) budget total below lt),
)
  where
    once : (cap total cost : ℕ) → min (min total cap + cost) cap ≡ min (total + cost) cap
    once cap total cost = omega arith

    twice : (cap total cost : ℕ) → min (min total cap + min cost cap) cap ≡ min (total + cost) cap
    twice cap total cost = omega arith

    over : (cap budget total : ℕ) → budget < min total cap → budget < total
    over cap budget total lt = omega (arith, lt)

    back : (cap budget total : ℕ) → budget < cap → budget < total → budget < min total cap
    back cap budget total below lt = omega (arith, below, lt)
