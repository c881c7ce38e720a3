-- The meaning of a session and its stores.
use Rattle.std.proofs.Common.{refl, ◌≡◌, ◌+◌, ◌*◌, ◌≤◌, List, sym, ◌∙◌, ap, ◌⊎◌, arith}
use Rattle.vt_event.specs.declared.score.Outcome.TheVariants.{Scored}
use Rattle.vt_meaning.specs.Consistent.{IsConsistent}
use Rattle.vt_meaning.specs.Meaning.{Ending, ending_of, in_order, is_event_before, is_living_before, living_in, meaning_by, outcome_of, score_of}
use Rattle.vt_meaning.specs.Meaning.Ending.{Ends, OverBudget}
use Rattle.vt_meaning.specs.Means.{Means}
use Rattle.vt_meaning.specs.NextPlaces.{IsFinished}
use Rattle.vt_meaning.specs.Reach.{IsKnown}
use Rattle.vt_meaning.specs.Theorems.{Same}
use Rattle.vt_meaning.specs.ThreadLaws.{IsGivenApart, IsLawful, IsLive, IsOrderly, IsStartsApart}
use Rattle.vt_meaning.specs.ThreadMeaning.{ThreadMeaning}
use Rattle.vt_meaning.specs.Traces.{standing, Thread, trace}
use Rattle.vt_meaning.specs.World.{events_of, Opening, opening_world, total_of}
use Rattle.vt_meaning.proofs.TransitionsEnded.{ends_right}
use Rattle.vt_meaning.proofs.KeptByTransitions.{opening_consistent, means_ends, within_budget}
use Rattle.vt_meaning.proofs.EventPlaces.{same_trace, events_over, apart}
use Rattle.vt_meaning.proofs.FrontAndBounds.{IsApart, listed, unlisted}
use Rattle.vt_meaning.proofs.ScoresInOrder.{events_never, events_onward, in_order_same, living_same, same_place}
use Rattle.vt_meaning.proofs.FinishedAgree.{begun_there}
use Rattle.vt_meaning.proofs.FunctionTransitions.{transitions_mean}

-- two scores with the same events and the same that live on
score_of_parts : (m m' : ThreadMeaning) (opening opening' : Opening) (these those : List Thread) → in_order is_event_before (events_of m opening these) ≡ in_order is_event_before (events_of m' opening' those) →
    in_order is_living_before (living_in m these) ≡ in_order is_living_before (living_in m' those) → score_of m opening these ≡ score_of m' opening' those
unfolding score_of
score_of_parts m m' opening opening' these those e l = λ j. record { events = e j; living = l j }

pub same : (m : ThreadMeaning) (law : IsLawful m) (opening : Opening) (knowns : IsKnown m opening) (these those : List Thread) → IsConsistent m opening these → IsConsistent m opening those → IsFinished m opening these → IsFinished m opening those → IsApart m opening these → IsApart m opening those → Same m opening these those
same m law opening knowns these those these_hold those_hold these_end those_end ta ua =
    record {
      score =
          score_of_parts m m opening opening these those
          (in_order_same is_event_before events_onward events_never (events_of m opening these) (events_of m opening those)
          (λ e f a b s t. ta e f (unlisted m opening these e a) (unlisted m opening these f b) (same_place e f s t))
          (λ e f a b s t. ua e f (unlisted m opening those e a) (unlisted m opening those f b) (same_place e f s t))
          (λ f h. listed m opening those f (events_over m law opening knowns these those these_hold those_hold these_end those_end f (unlisted m opening these f h)))
          (λ f h. listed m opening these f (events_over m law opening knowns those these those_hold these_hold those_end these_end f (unlisted m opening those f h))))
          (living_same m m these those these_hold.apart those_hold.apart
          (λ k t has.
          let b = begun_there m law opening knowns these those these_hold those_hold those_end k t has in
          let e = same_trace m law opening knowns these those these_hold those_hold these_end those_end k b.at t b.thread has b.has (sym b.start) in
          (b.at, b.thread, b.has, ap (λ s. s.place.thread) (sym b.start), ap (standing m t.start) e ∙ ap (λ s. standing m s (trace m b.thread)) (sym b.start)))
          (λ l u has.
          let b = begun_there m law opening knowns those these those_hold these_hold these_end l u has in
          let e = same_trace m law opening knowns those these those_hold these_hold those_end these_end l b.at u b.thread has b.has (sym b.start) in
          (b.at, b.thread, b.has, ap (λ s. s.place.thread) (sym b.start), ap (standing m u.start) e ∙ ap (λ s. standing m s (trace m b.thread)) (sym b.start))));
      there = events_over m law opening knowns these those these_hold those_hold these_end those_end;
      back = events_over m law opening knowns those these those_hold these_hold those_end these_end;
      threads =
          λ k t has.
          let b = begun_there m law opening knowns these those these_hold those_hold those_end k t has in
          (b.at, b.thread, b.has, sym b.start, same_trace m law opening knowns these those these_hold those_hold these_end those_end k b.at t b.thread has b.has (sym b.start));
      threads_back =
          λ l u has.
          let b = begun_there m law opening knowns those these those_hold these_hold these_end l u has in
          (b.at, b.thread, b.has, b.start, same_trace m law opening knowns these those these_hold those_hold these_end those_end b.at l b.thread u b.has has b.start);
    }

module _ (m : ThreadMeaning) (law : IsLawful m) (live : IsLive m) (opening : Opening) (knowns : IsKnown m opening) (ok : IsOrderly opening) (given : IsGivenApart opening) (texts : IsStartsApart opening) where
  pub means : Means m opening (opening_world opening) (ending_of m opening)
  unfolding ending_of
  means = transitions_mean m law live opening knowns ok given (2 * opening.budget + 2) (opening_world opening) (opening_consistent m live opening texts) (omega arith)

  -- **a finished store within the budget is the world at the end, up to the order of its threads**
  pub finished_store : (those : List Thread) → IsConsistent m opening those → IsFinished m opening those → total_of m those ≤ opening.budget →
      (ws : List Thread) × (ending_of m opening ≡ Ends ws) × Same m opening ws those
  finished_store those those_hold those_end le =
      let w = means_ends m law live opening knowns ok those those_hold those_end le (opening_world opening) (ending_of m opening) (opening_consistent m live opening texts) means in
      (w.0, w.1, same m law opening knowns w.0 those w.2 those_hold w.3 those_end (apart m law live opening knowns ok given w.0 w.2) (apart m law live opening knowns ok given those those_hold))

  -- **a store above the budget is of a session that is spent**
  pub not_spent : (those : List Thread) → IsConsistent m opening those → (ending_of m opening ≡ OverBudget) ⊎ (total_of m those ≤ opening.budget)
  not_spent those those_hold = within_budget m law live opening knowns ok those those_hold (opening_world opening) (ending_of m opening) (opening_consistent m live opening texts) means

  -- what the relation comes to is what the function does
  one_meaning : (o : Ending) → Means m opening (opening_world opening) o → (d : Ending) → ending_of m opening ≡ d → outcome_of m opening o ≡ outcome_of m opening d
  one_meaning (Ends vs) by d is =
      let right = ends_right m law live opening knowns ok (opening_world opening) (Ends vs) (opening_consistent m live opening texts) by vs refl in
      let w = finished_store vs right.consistent right.finished right.within in
      ap (λ l. Scored l) (sym w.2.score) ∙ ap (outcome_of m opening) (sym w.1 ∙ is)
  one_meaning OverBudget by OverBudget is = refl
  one_meaning OverBudget by (Ends ws) is =
      let right = ends_right m law live opening knowns ok (opening_world opening) (ending_of m opening) (opening_consistent m live opening texts) means ws is in
      let w = means_ends m law live opening knowns ok ws right.consistent right.finished right.within (opening_world opening) OverBudget (opening_consistent m live opening texts) by in
      absurd (let z : OverBudget ≡ Ends w.0 = w.1 in cc)

  -- **the relation is the function**
  pub relation_is : Means m opening (opening_world opening) (ending_of m opening) × ((o : Ending) → Means m opening (opening_world opening) o → outcome_of m opening o ≡ meaning_by m opening)
  unfolding meaning_by
  relation_is = (means, λ o by. one_meaning o by (ending_of m opening) refl)
