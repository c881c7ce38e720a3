-- The steps of a log change what threads did by steps of theirs and final answers. So what is final stays so.
use Rattle.std.proofs.Common.{◌≡◌, ℕ, List, ◌++◌, length, map, refl, sym, ◌∙◌, ap, subst, Some, None, append-nil}
use Rattle.std.specs.Prelude.{slice_get, slice_set}
use Rattle.vt_path.specs.declared.pattern.Segment.{Segment}
use Rattle.vt_event.specs.declared.place.Place.{Place}
use Rattle.vt_event.specs.Event.{EventView}
use Rattle.vt_run.specs.declared.action.Answer.{Answer}
use Rattle.vt_run.specs.declared.action.Answer.TheVariants.{Found}
use Rattle.vt_meaning.specs.Bounds.{Clear, Quiet}
use Rattle.vt_meaning.specs.Consistent.{IsConsistent}
use Rattle.vt_meaning.specs.Happenings.{IsFirst, IsLast}
use Rattle.vt_meaning.specs.Log.{LogEntry, Row, answered, come_back, fresh_row, next_piece, started_in, threads_in}
use Rattle.vt_meaning.specs.LogLaws.{StepsAreChanges, StepsLeaveFinal}
use Rattle.vt_meaning.specs.LogSteps.{AreSteps, IsStep}
use Rattle.vt_meaning.specs.LogSteps.AreSteps.{FirstStep, NoStep}
use Rattle.vt_meaning.specs.LogSteps.IsStep.{AnswersRead, AnswersWait, Publishes, PutsBack, Takes}
use Rattle.vt_meaning.specs.Steps.{Changes, Follows, more, started_all}
use Rattle.vt_meaning.specs.Steps.Changes.{Changed, Unchanged}
use Rattle.vt_meaning.specs.Steps.Follows.{Stepped, Told, Woken}
use Rattle.vt_meaning.specs.Theorems.{FinalStays, FrontStays}
use Rattle.vt_meaning.specs.ThreadLaws.{IsLawful, IsLive, IsSession}
use Rattle.vt_meaning.specs.ThreadMeaning.{ThreadMeaning, Wants}
use Rattle.vt_meaning.specs.Traces.{Thread, trace}
use Rattle.vt_meaning.specs.World.{moved_on, one_more, Opening, told}
use Rattle.vt_meaning.proofs.AnsweredAsks.{read_kept, wait_kept}
use Rattle.vt_meaning.proofs.LogConsistent.{piece_trace, same_threads, thread_at, threads_append, threads_fresh, threads_set}
use Rattle.vt_meaning.proofs.OneMoreStep.{snoc, step_kept}
use Rattle.vt_meaning.proofs.PublishedPieces.{piece_both}
use Rattle.vt_meaning.proofs.StepLaws.{acts_lawful, acts_live}

module _ (m : ThreadMeaning) (opening : Opening) (session : IsSession m opening) where
  law : IsLawful m
  law = acts_lawful m session.acts

  live : IsLive m
  live = acts_live m session.acts.acts

  follow_kept : (these those : List Thread) → IsConsistent m opening these → Follows m opening these those → IsConsistent m opening those
  follow_kept these those consistent (Stepped i t p x has stands grown) =
      let g = live.grows t p (consistent.exact i t has) stands in
      let same : x ≡ g.0 = (snoc (trace m t) (trace m t) x g.0 (sym grown ∙ g.1)).1 in
      subst (λ a. IsConsistent m opening (moved_on these i (one_more t) a)) (ap (λ w. w.step.action) (sym same)) (step_kept m law live opening session.known session.orderly these consistent i t p has stands)
  follow_kept these those consistent (Told i t p q a has stands quiet last) = read_kept m law live opening session.known these consistent i t has p q a stands quiet last
  follow_kept these those consistent (Woken i t p q e has stands first clear) = wait_kept m law live opening session.known these consistent i t has p q e stands first clear

  module _ (rows : List Row) (good : IsConsistent m opening (threads_in rows)) (rec : ℕ) (row : Row) (has : slice_get rows rec ≡ Some row) where
    unmoved : (next : Row) → next.thread ≡ row.thread → Changes m opening (threads_in rows) (threads_in (slice_set rows rec next))
    unmoved next same = subst (Changes m opening (threads_in rows)) (sym (same_threads rows rec row next has same)) (Unchanged (threads_in rows))

    told_one : (answer : Answer) → Follows m opening (threads_in rows) (moved_on (threads_in rows) rec (told answer row.thread) None) → Changes m opening (threads_in rows) (threads_in (answered rows rec row answer))
    told_one answer follows =
        let next : List Thread = moved_on (threads_in rows) rec (told answer row.thread) None in
        let is : next ≡ threads_in (answered rows rec row answer) =
        append-nil (slice_set (threads_in rows) rec (told answer row.thread)) ∙ sym (threads_set rows rec (record { thread = told answer row.thread; told = Some answer; out = row.out })) in
        subst (Changes m opening (threads_in rows)) is (Changed (threads_in rows) next next follows (Unchanged next))

    came : Changes m opening (threads_in rows) (threads_in (come_back rows rec row (next_piece m row.thread)))
    came =
        let piece = next_piece m row.thread in
        let thread : Thread = more (length piece) row.thread in
        let at : slice_get (threads_in rows) rec ≡ Some row.thread = thread_at rows rec row has in
        let w = piece_trace m session.acts.acts row.thread (good.exact rec row.thread at) in
        let both = piece_both m session.acts opening session.known session.orderly (length piece) (threads_in rows) good rec row.thread at w.0 w.1 w.2 in
        let e : slice_set (threads_in rows) rec thread ++ started_all w.0 ≡ threads_in (come_back rows rec row piece) =
        ap (λ l. slice_set (threads_in rows) rec thread ++ l) (w.3 ∙ sym (threads_fresh (started_in piece)))
        ∙ ap (λ l. l ++ threads_in (map fresh_row (started_in piece))) (sym (threads_set rows rec (fresh_row thread)))
        ∙ sym (threads_append (slice_set rows rec (fresh_row thread)) (map fresh_row (started_in piece))) in
        subst (Changes m opening (threads_in rows)) e both.1

  step_changes : (rows next : List Row) (entry : LogEntry) → IsConsistent m opening (threads_in rows) → IsStep m opening rows entry next → Changes m opening (threads_in rows) (threads_in next)
  step_changes rows next entry good (Takes worker rec row place few has stance none free) = unmoved rows good rec row has (record { thread = row.thread; told = row.told; out = Some worker }) refl
  step_changes rows next entry good (Publishes worker rec row few has out) = came rows good rec row has
  step_changes rows next entry good (PutsBack worker rec row few has out) = unmoved rows good rec row has (record { thread = row.thread; told = row.told; out = None }) refl
  step_changes rows next entry good (AnswersRead worker rec row place pattern answer few has stance quiet last) =
      told_one rows good rec row has answer (Told rec row.thread place pattern answer (thread_at rows rec row has) stance quiet last)
  step_changes rows next entry good (AnswersWait worker rec row place wants event few has stance first clear) =
      told_one rows good rec row has (Found event) (Woken rec row.thread place wants event (thread_at rows rec row has) stance first clear)

-- what stays of some threads, whatever changes
record Stays (m : ThreadMeaning) (opening : Opening) (these those : List Thread) : Type 0 where
  pub good : IsConsistent m opening those
  pub clear : (place : Place) → Clear m opening these place → Clear m opening those place
  pub reads : (place : Place) (pattern : List Segment) (answer : Answer) → Quiet m opening these place pattern → IsLast m opening these place pattern answer → Quiet m opening those place pattern × IsLast m opening those place pattern answer
  pub waits : (place : Place) (wants : Wants) (event : EventView) → IsFirst m opening these place wants event → Clear m opening these event.place → IsFirst m opening those place wants event × Clear m opening those event.place

stays_and : (m : ThreadMeaning) (opening : Opening) (these next those : List Thread) → Stays m opening these next → Stays m opening next those → Stays m opening these those
stays_and m opening these next those a b = record {
  good = b.good;
  clear = λ place clear. b.clear place (a.clear place clear);
  reads = λ place pattern answer quiet last. let r = a.reads place pattern answer quiet last in b.reads place pattern answer r.0 r.1;
  waits = λ place wants event first clear. let r = a.waits place wants event first clear in b.waits place wants event r.0 r.1;
}

stays_same : (m : ThreadMeaning) (opening : Opening) (these : List Thread) → IsConsistent m opening these → Stays m opening these these
stays_same m opening these good = record {
  good = good;
  clear = λ place clear. clear;
  reads = λ place pattern answer quiet last. (quiet, last);
  waits = λ place wants event first clear. (first, clear);
}

module _ (front : FrontStays) (final : FinalStays) (m : ThreadMeaning) (opening : Opening) (session : IsSession m opening) where
  changes_stay : (these those : List Thread) → IsConsistent m opening these → Changes m opening these those → Stays m opening these those
  changes_stay these those good (Unchanged _) = stays_same m opening these good
  changes_stay these those good (Changed _ next _ follows later) =
      let kept = follow_kept m opening session these next good follows in
      let f = final m opening session these next good follows in
      stays_and m opening these next those (record { good = kept; clear = front m opening session these next good follows; reads = f.0; waits = f.1 }) (changes_stay next those kept later)

  steps_stay : (rows last : List Row) (entries : List LogEntry) → IsConsistent m opening (threads_in rows) → AreSteps m opening rows entries last → Stays m opening (threads_in rows) (threads_in last)
  steps_stay rows last entries good (NoStep _) = stays_same m opening (threads_in rows) good
  steps_stay rows last entries good (FirstStep _ next _ entry rest step steps) =
      let one = changes_stay (threads_in rows) (threads_in next) good (step_changes m opening session rows next entry good step) in
      stays_and m opening (threads_in rows) (threads_in next) (threads_in last) one (steps_stay next last rest one.good steps)

pub steps_are_changes : StepsAreChanges
steps_are_changes m opening session rows next entry good step = step_changes m opening session rows next entry good step

-- **what is final stays so**
pub steps_leave_final : FrontStays → FinalStays → StepsLeaveFinal
steps_leave_final front final m opening session rows last entries good steps =
    let s = steps_stay front final m opening session rows last entries good steps in
    (s.clear, s.reads, s.waits)
