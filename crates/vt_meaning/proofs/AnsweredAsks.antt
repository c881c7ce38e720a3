-- The answer to a read or to a wait, and that it leaves a store consistent.
use Rattle.std.proofs.Common.{◌≡◌, ℕ, ◌+◌, List, [], ◌∷◌, ◌++◌, length, refl, sym, ◌∙◌, ap, inl, inr, ◌⊎◌, arith, true, zero, suc, subst, Some, None, length-append}
use Rattle.std.specs.Prelude.{slice_get, cond, sum_by}
use Rattle.std.proofs.lemmas.List.Sums.{sum_by-append, sum_by-cons}
use Rattle.vt_event.specs.Event.{EventView}
use Rattle.vt_event.specs.declared.place.Place.{Place}
use Rattle.vt_path.specs.declared.pattern.Segment.{Segment}
use Rattle.vt_run.specs.Standing.{Asks, next_step, Ready, Stance}
use Rattle.vt_run.specs.declared.action.Action.{Action}
use Rattle.vt_run.specs.declared.action.Action.TheVariants.{Emit, Read}
use Rattle.vt_run.specs.declared.action.Answer.{Answer}
use Rattle.vt_run.specs.declared.action.Answer.TheVariants.{Found}
use Rattle.vt_meaning.specs.Bounds.{Clear, Quiet, StandsBelow}
use Rattle.vt_meaning.specs.Consistent.{got, has_answer, IsConsistent, IsExact}
use Rattle.vt_meaning.specs.Happenings.{Happened, IsFirst, IsLast}
use Rattle.vt_meaning.specs.NextPlaces.{GoesOn}
use Rattle.vt_meaning.specs.Places.{Before, Upto}
use Rattle.vt_meaning.specs.Reach.{IsKnown}
use Rattle.vt_meaning.specs.ThreadLaws.{IsLawful, IsLive}
use Rattle.vt_meaning.specs.ThreadMeaning.{ThreadMeaning, Wants}
use Rattle.vt_meaning.specs.Traces.{after_action, after_step, Entry, is_ask, stance_in, standing, Thread, trace, wait_for, waiting, wake}
use Rattle.vt_meaning.specs.World.{moved_on, Opening, told}
use Rattle.vt_meaning.proofs.Order.{before-trans, before-next_step, before_upto, upto_same}
use Rattle.vt_meaning.proofs.Traces.{after_met, standing_snoc, Last, last_step, last_read, last_wait}
use Rattle.vt_meaning.proofs.StoreSteps.{IsRight, IsNext, kept, clear_kept, quiet_kept, first_kept, last_kept}
use Rattle.vt_meaning.proofs.MovedThreads.{GoesOver, next, next_answers, was}
use Rattle.vt_meaning.proofs.Lists.{get-append_cases, get-append_left, get-append_right, none_some}

pub exact_answered : (m : ThreadMeaning) (thread : Thread) (answer : Answer) (entries : List Entry) (entry other : Entry) → IsExact m thread → trace m thread ≡ entries ++ entry ∷ [] →
    trace m (told answer thread) ≡ entries ++ other ∷ [] → entry.answer ≡ None → other.answer ≡ Some answer → IsExact m (told answer thread)
exact_answered m thread answer entries entry other k whole replied none some =
    let c : Entry → ℕ = λ w. cond (has_answer w) 1 0 in
    let e = ap length replied in
    let f = length-append entries (other ∷ []) in
    let g = length-append entries (entry ∷ []) in
    let w = ap length whole in
    let d = k.done in
    let u = k.used in
    let a1 = ap (sum_by c) replied ∙ sum_by-append c entries (other ∷ []) in
    let a2 = ap (sum_by c) whole ∙ sum_by-append c entries (entry ∷ []) in
    let b1 = sum_by-cons c other [] in
    let b2 = sum_by-cons c entry [] in
    let z : c entry ≡ 0 = ap (λ o. cond (got o) 1 0) none in
    let o : c other ≡ 1 = ap (λ o. cond (got o) 1 0) some in
    let l = length-append thread.answers (answer ∷ []) in
    record { done = omega (arith, e, f, g, w, d); used = omega (arith, u, a1, a2, b1, b2, z, o, l) }

-- a trace, and the same with another answer at its end
same_front : (entries : List Entry) (entry other : Entry) (j : ℕ) (z : Entry) → slice_get (entries ++ entry ∷ []) j ≡ Some z →
    (slice_get (entries ++ other ∷ []) j ≡ Some z) ⊎ ((slice_get (entries ++ other ∷ []) j ≡ Some other) × (z ≡ entry))
same_front entries entry other j z e =
    elim (get-append_cases entries (entry ∷ []) j z e) [
      | inl l ↦ inl (get-append_left entries (other ∷ []) j z l)
      | inr r ↦ inr (one r.0 r.1 r.2)
    ]
  where
    one : (n : ℕ) → j ≡ length entries + n → slice_get (entry ∷ []) n ≡ Some z → (slice_get (entries ++ other ∷ []) j ≡ Some other) × (z ≡ entry)
    one zero e g = (rw e (get-append_right entries (other ∷ []) 0 other refl), (let k : Some entry ≡ Some z = g in cc))
    one (suc n) e g = absurd (none_some g)

module _ (m : ThreadMeaning) (law : IsLawful m) (live : IsLive m) (opening : Opening) (knowns : IsKnown m opening) (these : List Thread) (consistent : IsConsistent m opening these)
    (i : ℕ) (thread : Thread) (has : slice_get these i ≡ Some thread) (entries : List Entry) (entry : Entry) (whole : trace m thread ≡ entries ++ entry ∷ [])
    (act : Action) (is : entry.step.action ≡ Some act) (ask : is_ask (Some act) ≡ true) (none : entry.answer ≡ None) (answer : Answer) (place : Place)
    (bound : GoesOn m opening these (stance_in m thread) place)
    (fronts : (c : Place) → GoesOn m opening (moved_on these i (told answer thread) None) (stance_in m (told answer thread)) c → Upto place c)
    (above : (r : Place) → StandsBelow (stance_in m (told answer thread)) r → Before place r) where
  abbrev x' : Entry
  x' = record { step = entry.step; answer = Some answer }

  abbrev those : List Thread
  those = moved_on these i (told answer thread) None

  replied : trace m (told answer thread) ≡ entries ++ x' ∷ []
  replied = live.replies thread answer entries entry (consistent.exact i thread has) whole (ap is_ask is ∙ ask) none

  to_new : (j : ℕ) (other : Entry) → slice_get (trace m thread) j ≡ Some other → (slice_get (trace m (told answer thread)) j ≡ Some other) ⊎ ((slice_get (trace m (told answer thread)) j ≡ Some x') × (other ≡ entry))
  to_new j other d = subst (λ l. (slice_get l j ≡ Some other) ⊎ ((slice_get l j ≡ Some x') × (other ≡ entry))) (sym replied) (same_front entries entry x' j other (subst (λ l. slice_get l j ≡ Some other) whole d))

  to_old : (j : ℕ) (other : Entry) → slice_get (trace m (told answer thread)) j ≡ Some other → (slice_get (trace m thread) j ≡ Some other) ⊎ ((slice_get (trace m thread) j ≡ Some entry) × (other ≡ x'))
  to_old j other d = subst (λ l. (slice_get l j ≡ Some other) ⊎ ((slice_get l j ≡ Some entry) × (other ≡ x'))) (sym whole) (same_front entries x' entry j other (subst (λ l. slice_get l j ≡ Some other) replied d))

  over : GoesOver m opening these those thread (told answer thread) None place
  over =
      record {
        start = refl;
        bound = bound;
        exact = exact_answered m thread answer entries entry x' (consistent.exact i thread has) whole replied none refl;
        on =
            λ j other a did s.
            elim (to_new j other did)
            [ inl old ↦ (other, old, s) | inr new ↦ (x', new.0, ap (λ w. w.step.action) (sym new.1) ∙ s) ];
        back =
            λ j other a did s.
            elim (to_old j other did)
            [ inl old ↦ inl (other, old, s) | inr new ↦ inl (entry, new.0, ap (λ w. w.step.action) (sym new.1) ∙ s) ];
        acts = λ a e. absurd (none_some e);
        child = λ r s e. absurd (none_some e);
        alone = λ r s e. absurd (none_some e);
        fronts = fronts;
        above = above;
        within = λ a e. absurd (none_some e);
      }

  pub nexts : IsNext m opening these those place
  nexts = next m law opening knowns these consistent i thread (told answer thread) None place has over

  -- with an answer the same events are there
  pub adds_none : (f : EventView) → Happened m opening those f → Happened m opening these f
  adds_none f (inl g) = inl g
  adds_none f (inr em) =
      elim (was m law opening knowns these consistent i thread (told answer thread) None place has over em.thread em.i em.entry (Emit f) em.acted) [
        | inl k ↦ inr (record { thread = k.thread; i = em.i; entry = k.entry; acted = k.acted })
        | inr new ↦ absurd (none_some new.1)
      ]

  pub answer_kept : IsRight m opening those act answer → IsConsistent m opening those
  answer_kept right =
      kept m law opening knowns these those place nexts consistent
      (next_answers m law opening knowns these consistent i thread (told answer thread) None place has over
      (λ j other a c did s ans.
      elim (to_old j other did) [
        | inl old ↦ inl (other, old, s, ans)
        | inr new ↦
            (let e : Some act ≡ Some a = sym is ∙ ap (λ w. w.step.action) (sym new.1) ∙ s in
            let f : Some answer ≡ Some c = ap (λ w. w.answer) (sym new.1) ∙ ans in
            let ea : act ≡ a = cc e in
            let eb : answer ≡ c = cc f in
            inr (subst (λ w. IsRight m opening those w c) ea (subst (IsRight m opening those act) eb right)))
      ]))

-- where a thread stands once its ask is told
now_stands : (m : ThreadMeaning) (live : IsLive m) (thread : Thread) (s : Stance) (l : Last m thread s) (act : Action) (answer : Answer) → IsExact m thread →
    l.entry.step.action ≡ Some act → is_ask (Some act) ≡ true → l.entry.answer ≡ None → stance_in m (told answer thread) ≡ after_action m.until act (Some answer)
now_stands m live thread s l act answer exact is ask none =
    let x' : Entry = record { step = l.entry.step; answer = Some answer } in
    ap (standing m thread.start) (live.replies thread answer l.before l.entry exact l.whole (ap is_ask is ∙ ask) none)
    ∙ standing_snoc m thread.start l.before x'
    ∙ ap (λ w. after_step m.until w l.entry.step.action (Some answer)) l.stood
    ∙ ap (λ o. after_step m.until (Ready l.place) o (Some answer)) is

module _ (m : ThreadMeaning) (law : IsLawful m) (live : IsLive m) (opening : Opening) (knowns : IsKnown m opening) (these : List Thread) (consistent : IsConsistent m opening these)
    (i : ℕ) (thread : Thread) (has : slice_get these i ≡ Some thread) (place : Place) (pattern : List Segment) (answer : Answer) (asks : stance_in m thread ≡ Asks place pattern) where
  abbrev vs : List Thread
  vs = moved_on these i (told answer thread) None

  pub read_last : Last m thread (Asks place pattern)
  read_last = last_step m law thread (Asks place pattern) asks (λ r e. cc)

  pub read_was : (read_last.entry.step.action ≡ Some (Read place pattern)) × (read_last.entry.answer ≡ None)
  read_was = last_read m thread place pattern read_last

  read_bound : GoesOn m opening these (stance_in m thread) place
  read_bound = rw asks refl

  pub read_now : stance_in m (told answer thread) ≡ Ready (next_step place)
  read_now = now_stands m live thread (Asks place pattern) read_last (Read place pattern) answer (consistent.exact i thread has) read_was.0 refl read_was.1

  read_fronts : (c : Place) → GoesOn m opening vs (stance_in m (told answer thread)) c → Upto place c
  read_fronts c on =
      let z : c ≡ next_step place = subst (λ s. GoesOn m opening vs s c) read_now on in
      subst (Upto place) (sym z) (before_upto place (next_step place) (before-next_step place))

  read_above : (c : Place) → StandsBelow (stance_in m (told answer thread)) c → Before place c
  read_above c st =
      let z : StandsBelow (Ready (next_step place)) c = subst (λ s. StandsBelow s c) read_now st in
      before-trans place (next_step place) c (before-next_step place) z

  pub read_next : IsNext m opening these vs place
  read_next = nexts m law live opening knowns these consistent i thread has read_last.before read_last.entry read_last.whole (Read place pattern) read_was.0 refl read_was.1 answer place read_bound read_fronts read_above

  pub read_adds_none : (event : EventView) → Happened m opening vs event → Happened m opening these event
  read_adds_none = adds_none m law live opening knowns these consistent i thread has read_last.before read_last.entry read_last.whole (Read place pattern) read_was.0 refl read_was.1 answer place read_bound read_fronts read_above

  -- **the answer to a quiet read leaves a consistent set**
  pub read_kept : Quiet m opening these place pattern → IsLast m opening these place pattern answer → IsConsistent m opening (moved_on these i (told answer thread) None)
  read_kept quiet last =
      answer_kept m law live opening knowns these consistent i thread has read_last.before read_last.entry read_last.whole (Read place pattern) read_was.0 refl read_was.1 answer place read_bound read_fronts read_above
      (last_kept m law opening knowns these vs place read_next place pattern answer last quiet, quiet_kept m law opening knowns these vs place read_next place pattern quiet)

module _ (m : ThreadMeaning) (law : IsLawful m) (live : IsLive m) (opening : Opening) (knowns : IsKnown m opening) (these : List Thread) (consistent : IsConsistent m opening these)
    (i : ℕ) (thread : Thread) (has : slice_get these i ≡ Some thread) (place : Place) (wants : Wants) (event : EventView) (waits : stance_in m thread ≡ waiting place wants) (first : IsFirst m opening these place wants event) where
  abbrev ws : List Thread
  ws = moved_on these i (told (Found event) thread) None

  wait_last : Last m thread (waiting place wants)
  wait_last = last_step m law thread (waiting place wants) waits (λ r event. cc)

  wait_was : (wait_last.entry.step.action ≡ Some (wait_for place wants)) × (wait_last.entry.answer ≡ None)
  wait_was = last_wait m thread place wants wait_last

  wait_bound : GoesOn m opening these (stance_in m thread) (wake event place)
  wait_bound = subst (λ s. GoesOn m opening these s (wake event place)) (sym waits) (event, first.found, refl)

  pub wait_now : stance_in m (told (Found event) thread) ≡ Ready (wake event place)
  wait_now = now_stands m live thread (waiting place wants) wait_last (wait_for place wants) (Found event) (consistent.exact i thread has) wait_was.0 refl wait_was.1 ∙ after_met place wants event first.found.matches

  wait_fronts : (c : Place) → GoesOn m opening ws (stance_in m (told (Found event) thread)) c → Upto (wake event place) c
  wait_fronts c on =
      let z : c ≡ wake event place = subst (λ s. GoesOn m opening ws s c) wait_now on in
      upto_same (wake event place) c (sym z)

  wait_above : (c : Place) → StandsBelow (stance_in m (told (Found event) thread)) c → Before (wake event place) c
  wait_above c st = let z : StandsBelow (Ready (wake event place)) c = subst (λ s. StandsBelow s c) wait_now st in z

  pub wait_next : IsNext m opening these ws (wake event place)
  wait_next = nexts m law live opening knowns these consistent i thread has wait_last.before wait_last.entry wait_last.whole (wait_for place wants) wait_was.0 refl wait_was.1 (Found event) (wake event place) wait_bound wait_fronts wait_above

  pub wait_adds_none : (f : EventView) → Happened m opening ws f → Happened m opening these f
  wait_adds_none = adds_none m law live opening knowns these consistent i thread has wait_last.before wait_last.entry wait_last.whole (wait_for place wants) wait_was.0 refl wait_was.1 (Found event) (wake event place) wait_bound wait_fronts wait_above

  -- **so does the answer to a wait whose event the front has passed**
  pub wait_kept : Clear m opening these event.place → IsConsistent m opening (moved_on these i (told (Found event) thread) None)
  wait_kept clear =
      answer_kept m law live opening knowns these consistent i thread has wait_last.before wait_last.entry wait_last.whole (wait_for place wants) wait_was.0 refl wait_was.1 (Found event) (wake event place) wait_bound wait_fronts wait_above
      (event, refl, first_kept m law opening knowns these ws (wake event place) wait_next place wants event first clear, clear_kept m law opening knowns these ws (wake event place) wait_next event.place clear)
