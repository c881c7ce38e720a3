-- All waits in order, and then all reads in order: after that nothing final is left to answer.
use Rattle.std.proofs.Common.{◌≡◌, ℕ, ◌+◌, ◌<◌, List, [], sym, ◌∙◌, ap, inl, inr, ◌⊎◌, arith, subst, Some, None}
use Rattle.std.specs.Prelude.{slice_get, slice_set}
use Rattle.vt_event.specs.Event.{EventView}
use Rattle.vt_event.specs.declared.place.Place.{Place}
use Rattle.vt_path.specs.declared.pattern.Segment.{Segment}
use Rattle.vt_run.specs.Standing.{Asks, next_step, Ready, Waits}
use Rattle.vt_run.specs.declared.action.Answer.{Answer}
use Rattle.vt_run.specs.declared.action.Answer.TheVariants.{Found}
use Rattle.vt_meaning.specs.Consistent.{IsConsistent}
use Rattle.vt_meaning.specs.Happenings.{Happened, IsFirst}
use Rattle.vt_meaning.specs.Reach.{IsKnown}
use Rattle.vt_meaning.specs.Theorems.{NoFinalRead, NoFinalWait}
use Rattle.vt_meaning.specs.ThreadLaws.{IsGivenApart, IsLawful, IsLive, IsOrderly}
use Rattle.vt_meaning.specs.ThreadMeaning.{ThreadMeaning, Wants}
use Rattle.vt_meaning.specs.Traces.{stance_in, Thread, waiting, wake}
use Rattle.vt_meaning.specs.World.{moved_on, Opening, told}
use Rattle.vt_meaning.proofs.Order.{three}
use Rattle.vt_meaning.proofs.StoreSteps.{happened_on}
use Rattle.vt_meaning.proofs.MovedThreads.{split}
use Rattle.vt_meaning.proofs.AnsweredAsks.{read_now, read_next, read_adds_none, wait_now, wait_next, wait_adds_none}
use Rattle.vt_meaning.proofs.AnswersEnable.{wait_enables, read_enables_wait, read_enables_read}
use Rattle.vt_meaning.proofs.Lists.{get-append_cases, get-set_other, get-set_same, none_some}

-- of the threads of which one was told something each other is as it was
was_there : (these : List Thread) (n k : ℕ) (thread t' twin : Thread) → slice_get these n ≡ Some thread → slice_get (moved_on these n t' None) k ≡ Some twin → ((k ≡ n) × (twin ≡ t')) ⊎ ((k ≡ n → ⊥) × (slice_get these k ≡ Some twin))
was_there these n k thread t' twin has h =
    elim (get-append_cases (slice_set these n t') [] k twin h) [
      | inl l ↦
          (elim (split k n) [
            | inl e ↦
                (let a : slice_get (slice_set these n t') n ≡ Some twin = subst (λ j. slice_get (slice_set these n t') j ≡ Some twin) e l in
                let z : Some twin ≡ Some t' = sym a ∙ get-set_same these n thread t' has in
                inl (e, cc z))
            | inr ne ↦ inr (ne, sym (get-set_other these n k t' ne) ∙ l)
          ])
      | inr r ↦ absurd (none_some r.2)
    ]

-- what is first hangs on the events alone
first_same : (m : ThreadMeaning) (opening : Opening) (these those : List Thread) → ((event : EventView) → Happened m opening those event → Happened m opening these event) → ((event : EventView) → Happened m opening these event → Happened m opening those event) →
    (place : Place) (wants : Wants) (e : EventView) → IsFirst m opening those place wants e → IsFirst m opening these place wants e
first_same m opening these those back on place wants e h =
    record {
      found = record { happened = back e h.found.happened; matches = h.found.matches; above = h.found.above };
      least = λ event a. h.least event (record { happened = on event a.happened; matches = a.matches; above = a.above });
    }

less_of : (k n : ℕ) → k < n + 1 → (k ≡ n → ⊥) → k < n
less_of k n lt ne = elim (three k n) [ inl l ↦ l | inr (inl e) ↦ absurd (ne e) | inr (inr g) ↦ absurd (omega (arith, lt, g)) ]

pub waits_pass : (m : ThreadMeaning) (law : IsLawful m) (live : IsLive m) (opening : Opening) (knowns : IsKnown m opening) (these : List Thread) (consistent : IsConsistent m opening these) (n : ℕ) → NoFinalWait m opening these n →
    (thread : Thread) (place : Place) (wants : Wants) (event : EventView) → slice_get these n ≡ Some thread → stance_in m thread ≡ waiting place wants → IsFirst m opening these place wants event → NoFinalWait m opening (moved_on these n (told (Found event) thread) None) (n + 1)
waits_pass m law live opening knowns these consistent n none thread place wants event has waits first k v r c f lt vhas st fst clear =
    elim (was_there these n k thread t' v has vhas) [
      | inl a ↦ absurd (let z : Ready (wake event place) ≡ Waits r c.pattern c.stop = sym (wait_now m law live opening knowns these consistent n thread has place wants event waits first) ∙ ap (stance_in m) (sym a.1) ∙ st in cc)
      | inr a ↦
          none k v r c f (less_of k n lt a.0) a.1 st
          (first_same m opening these those (wait_adds_none m law live opening knowns these consistent n thread has place wants event waits first)
          (happened_on m law opening knowns these those (wake event place) (wait_next m law live opening knowns these consistent n thread has place wants event waits first)) r c f fst)
          (wait_enables m law live opening knowns these consistent n thread has place wants event waits first f.place clear)
    ]
  where
    t' : Thread
    t' = told (Found event) thread

    those : List Thread
    those = moved_on these n t' None

module _ (m : ThreadMeaning) (law : IsLawful m) (live : IsLive m) (opening : Opening) (knowns : IsKnown m opening) (ok : IsOrderly opening) (given : IsGivenApart opening) (these : List Thread) (consistent : IsConsistent m opening these)
    (n : ℕ) (thread : Thread) (place : Place) (pattern : List Segment) (answer : Answer) (has : slice_get these n ≡ Some thread) (asks : stance_in m thread ≡ Asks place pattern) where
  abbrev those : List Thread
  those = moved_on these n (told answer thread) None

  pub reads_pass_waits : (l : ℕ) → NoFinalWait m opening these l → NoFinalWait m opening those l
  reads_pass_waits l none k v r c f lt vhas st fst clear =
      elim (was_there these n k thread (told answer thread) v has vhas) [
        | inl a ↦ absurd (let z : Ready (next_step place) ≡ Waits r c.pattern c.stop = sym (read_now m law live opening knowns these consistent n thread has place pattern answer asks) ∙ ap (stance_in m) (sym a.1) ∙ st in cc)
        | inr a ↦
            (let h = read_adds_none m law live opening knowns these consistent n thread has place pattern answer asks f fst.found.happened in
            none k v r c f lt a.1 st
            (first_same m opening these those (read_adds_none m law live opening knowns these consistent n thread has place pattern answer asks)
            (happened_on m law opening knowns these those place (read_next m law live opening knowns these consistent n thread has place pattern answer asks)) r c f fst)
            (read_enables_wait m law live opening knowns ok given these consistent n thread has place pattern answer asks f h clear))
      ]

  pub reads_pass : NoFinalRead m opening these n → NoFinalRead m opening those (n + 1)
  reads_pass none k v r c lt vhas st quiet =
      elim (was_there these n k thread (told answer thread) v has vhas) [
        | inl a ↦ absurd (let z : Ready (next_step place) ≡ Asks r c = sym (read_now m law live opening knowns these consistent n thread has place pattern answer asks) ∙ ap (stance_in m) (sym a.1) ∙ st in cc)
        | inr a ↦ none k v r c (less_of k n lt a.0) a.1 st (read_enables_read m law live opening knowns ok given these consistent n thread has place pattern answer asks k v r c a.0 a.1 st quiet)
      ]
