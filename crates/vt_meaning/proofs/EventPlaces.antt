-- The places of events: each is one event's. By them two finished sets are compared.
use Rattle.std.proofs.Common.{◌≡◌, ℕ, ◌<◌, ◌≤◌, List, [], ◌∷◌, ◌++◌, length, take, refl, sym, ◌∙◌, ap, inl, inr, arith, true, false, zero, suc, subst, Option, Some, None, length-append}
use Rattle.std.specs.Prelude.{slice_get, Contains, count_by}
use Rattle.std.proofs.lemmas.Option.{slice_get_within}
use Rattle.std.proofs.lemmas.List.{take_all}
use Rattle.vt_event.specs.Event.{EventView}
use Rattle.vt_event.specs.declared.place.Place.{Place}
use Rattle.vt_frac.specs.Fraction.{Fraction}
use Rattle.vt_run.specs.Standing.{next_step}
use Rattle.vt_run.specs.declared.action.Action.{Action}
use Rattle.vt_run.specs.declared.action.Action.TheVariants.{Emit, End, Read, Rest, Spawn, Wait}
use Rattle.vt_run.specs.declared.action.Answer.{Answer}
use Rattle.vt_run.specs.declared.action.Answer.TheVariants.{Found}
use Rattle.vt_meaning.specs.Consistent.{IsConsistent}
use Rattle.vt_meaning.specs.Happenings.{Emitted, Happened}
use Rattle.vt_meaning.specs.NextPlaces.{GoesOn, IsFinished}
use Rattle.vt_meaning.specs.Places.{Before}
use Rattle.vt_meaning.specs.Reach.{IsKnown}
use Rattle.vt_meaning.specs.ThreadLaws.{is_spawn, IsGivenApart, IsLawful, IsLive, IsOrderly}
use Rattle.vt_meaning.specs.ThreadMeaning.{ThreadMeaning, Wants}
use Rattle.vt_meaning.specs.Traces.{after_action, after_step, Entry, is_ask, stance_in, standing, Thread, trace, wait_for, wake}
use Rattle.vt_meaning.specs.World.{Opening}
use Rattle.vt_meaning.proofs.Order.{before-irrefl, three}
use Rattle.vt_meaning.proofs.Traces.{after_met, At, in_thread, InThread, rises_after, stand_at, standing_more}
use Rattle.vt_meaning.proofs.Agreement.{did_act}
use Rattle.vt_meaning.proofs.Ranks.{sane}
use Rattle.vt_meaning.proofs.OneMoreStep.{long}
use Rattle.vt_meaning.proofs.FrontAndBounds.{IsApart}
use Rattle.vt_meaning.proofs.SharedSessions.{Shares, flip, itself}
use Rattle.vt_meaning.proofs.FinishedAgree.{agree, did_by}
use Rattle.vt_meaning.proofs.Lists.{entry_at, take_one_more}

module _ (m : ThreadMeaning) (law : IsLawful m) (live : IsLive m) (opening : Opening) (knowns : IsKnown m opening) (ok : IsOrderly opening) (given : IsGivenApart opening) (these : List Thread) (consistent : IsConsistent m opening these) where
  -- who published an event is told by its list
  pub list_of : (event : EventView) → (em : Emitted m these event) → event.place.thread ≡ em.thread.start.place.thread
  list_of event em =
      let here = law.placed em.thread em.i em.entry em.acted.did in
      let within = slice_get_within (trace m em.thread) em.i em.entry em.acted.did in
      let l : here.0.thread ≡ em.thread.start.place.thread =
      subst (InThread em.thread.start.place.thread) here.1 (in_thread m law em.thread em.i (omega arith)) in
      ap (λ w. w.thread) (here.2 (Emit event) em.acted.is) ∙ l

  -- a given event has no thread's list
  pub not_given : (event : EventView) (k : ℕ) (t : Thread) → Contains opening.given event → slice_get these k ≡ Some t → event.place.thread ≡ t.start.place.thread → ⊥
  not_given event k t g has l =
      elim (consistent.rooted k t has) [
        | inl o ↦ given.no_text event t.start g o l
        | inr s ↦
            (let n = live.named s.thread s.i s.entry s.place t.start s.acted.did s.acted.is in
            let a = long m live opening ok these consistent s.acted.at s.thread s.acted.has in
            let b = ap length (l ∙ n) in
            let c = length-append s.thread.start.place.thread (suc (count_by is_spawn (take s.i (trace m s.thread))) ∷ []) in
            let d = given.one event g in
            omega (arith, a, b, c, d))
      ]

  mixed : (event f : EventView) → Contains opening.given event → (em : Emitted m these f) → event.place ≡ f.place → ⊥
  mixed event f g em same = not_given event em.acted.at em.thread g em.acted.has (ap (λ w. w.thread) same ∙ list_of f em)

  pub later : (t : Thread) (k i j : ℕ) (x y : Entry) (event f : EventView) → slice_get these k ≡ Some t → slice_get (trace m t) i ≡ Some x → slice_get (trace m t) j ≡ Some y →
      x.step.action ≡ Some (Emit event) → y.step.action ≡ Some (Emit f) → i < j → event.place ≡ f.place → ⊥
  later t k i j x y event f has xd yd xa ya lt same =
      let there = law.placed t j y yd in
      let within = slice_get_within (trace m t) j y yd in
      let up : Before event.place there.0 = rises_after m law t (sane m opening these consistent k t has) i j x (Emit event) there.0 xd xa lt there.1 (omega arith) in
      before-irrefl event.place (subst (Before event.place) (sym (there.2 (Emit f) ya) ∙ sym same) up)

  pub apart : IsApart m opening these
  apart event f (inl g) (inl h) same = given.apart event f g h same
  apart event f (inl g) (inr em) same = absurd (mixed event f g em same)
  apart event f (inr em) (inl g) same = absurd (mixed f event g em (sym same))
  apart event f (inr em) (inr fm) same =
      let at : em.acted.at ≡ fm.acted.at =
      consistent.apart em.acted.at fm.acted.at em.thread fm.thread em.acted.has fm.acted.has (sym (list_of event em) ∙ ap (λ w. w.thread) same ∙ list_of f fm) in
      let z : Some em.thread ≡ Some fm.thread = sym em.acted.has ∙ ap (slice_get these) at ∙ fm.acted.has in
      let t : em.thread ≡ fm.thread = cc z in
      let fd : slice_get (trace m em.thread) fm.i ≡ Some fm.entry = subst (λ w. slice_get (trace m w) fm.i ≡ Some fm.entry) (sym t) fm.acted.did in
      elim (three em.i fm.i) [
        | inl lt ↦ absurd (later em.thread em.acted.at em.i fm.i em.entry fm.entry event f em.acted.has em.acted.did fd em.acted.is fm.acted.is lt same)
        | inr (inl i) ↦
            (let y : Some em.entry ≡ Some fm.entry = sym em.acted.did ∙ ap (slice_get (trace m em.thread)) i ∙ fd in
            let x : em.entry ≡ fm.entry = cc y in
            let a : Some (Emit event) ≡ Some (Emit f) = sym em.acted.is ∙ ap (λ w. w.step.action) x ∙ fm.acted.is in
            cc a)
        | inr (inr gt) ↦ absurd (later em.thread em.acted.at fm.i em.i fm.entry em.entry f event em.acted.has fd em.acted.did fm.acted.is em.acted.is gt (sym same))
      ]

-- nothing answered what a finished thread did last
last_plain : (m : ThreadMeaning) (law : IsLawful m) (opening : Opening) (these : List Thread) → IsConsistent m opening these → IsFinished m opening these →
    (k i : ℕ) (thread : Thread) (entry : Entry) → slice_get these k ≡ Some thread → slice_get (trace m thread) i ≡ Some entry → length (trace m thread) ≡ suc i → entry.answer ≡ None
last_plain m law opening these consistent finished k i thread entry has d e = elim (law.plain thread i entry d) [ inl ask ↦ asked entry.step.action refl ask entry.answer refl | inr none ↦ none ]
  where
    stands_so : (act : Action) (a : Option Answer) → entry.step.action ≡ Some act → entry.answer ≡ a → stance_in m thread ≡ after_action m.until act a
    stands_so act a is ans =
        stand_at m thread (suc i) (omega arith) ∙ standing_more m thread.start (trace m thread) i entry d
        ∙ ap (λ o. after_step m.until (standing m thread.start (take i (trace m thread))) o entry.answer) is ∙ ap (λ o. after_action m.until act o) ans

    asked : (act : Option Action) → entry.step.action ≡ act → is_ask act ≡ true → (a : Option Answer) → entry.answer ≡ a → entry.answer ≡ None
    asked act is ask None ans = ans
    asked None is ask (Some a) ans = absurd (let n : false ≡ true = ask in cc)
    asked (Some (Emit _)) is ask (Some a) ans = absurd (let n : false ≡ true = ask in cc)
    asked (Some (Rest _ _)) is ask (Some a) ans = absurd (let n : false ≡ true = ask in cc)
    asked (Some (Spawn _ _)) is ask (Some a) ans = absurd (let n : false ≡ true = ask in cc)
    asked (Some (End _ _)) is ask (Some a) ans = absurd (let n : false ≡ true = ask in cc)
    asked (Some (Read p q)) is ask (Some a) ans =
        absurd (finished k thread (next_step p) has (subst (λ s. GoesOn m opening these s (next_step p)) (sym (stands_so (Read p q) (Some a) is ans)) refl))
    asked (Some (Wait p c o)) is ask (Some a) ans =
        let q : Wants = record { pattern = c; stop = o } in
        let w = consistent.waits thread i entry p q a (record { at = k; has = has; did = d; is = is }) ans in
        absurd
        (finished k thread (wake w.0 p) has
        (subst (λ s. GoesOn m opening these s (wake w.0 p)) (sym (stands_so (wait_for p q) (Some (Found w.0)) is (ans ∙ ap Some w.1) ∙ after_met p q w.0 w.2.found.matches)) refl))

-- two finished consistent sets of threads of one opening hold the same
module _ (m : ThreadMeaning) (law : IsLawful m) (opening : Opening) (knowns : IsKnown m opening) (these those : List Thread) (these_hold : IsConsistent m opening these) (those_hold : IsConsistent m opening those) (these_end : IsFinished m opening these) (those_end : IsFinished m opening those) where
  -- two sets with one list of steps for each start have one list of events
  pub events_over : (event : EventView) → Happened m opening these event → Happened m opening those event
  events_over event (inl g) = inl g
  events_over event (inr em) =
      let here = law.placed em.thread em.i em.entry em.acted.did in
      let d = agree m law opening knowns these those these_hold those_hold em.acted.at em.i em.thread em.entry here.0 em.acted.has em.acted.did here.1 (λ k t b has on. absurd (those_end k t b has on)) in
      inr (record { thread = d.thread; i = em.i; entry = d.entry; acted = did_act m m those em.thread em.i em.entry (Emit event) d em.acted.is })

-- a thread that stands at times in question alone has done what its twin in the finished set did
same_length : (Soon : Fraction → Type 0) (m m' : ThreadMeaning) (opening opening' : Opening) → Shares Soon m m' opening opening' → (these those : List Thread) → IsConsistent m opening these → IsConsistent m' opening' those → IsFinished m' opening' those →
    ((k i : ℕ) (thread : Thread) (place : Place) → slice_get these k ≡ Some thread → i ≤ length (trace m thread) → At m thread i place → Soon place.time) →
    (k l : ℕ) (thread twin : Thread) → slice_get these k ≡ Some thread → slice_get those l ≡ Some twin → thread.start ≡ twin.start → length (trace m thread) ≤ length (trace m' twin)
same_length Soon m m' opening opening' shared these those these_hold those_hold those_end all k l thread twin thas uhas start = go (length (trace m thread)) refl
  where
    go : (n : ℕ) → length (trace m thread) ≡ n → n ≤ length (trace m' twin)
    go zero e = omega arith
    go (suc i) e =
        let x = entry_at (trace m thread) i (omega arith) in
        let d = did_by Soon m m' opening opening' shared these those these_hold those_hold those_end all k l thread twin thas uhas start i x.0 x.1 in
        slice_get_within (trace m' twin) i d.1.0 d.1.1

-- **two finished sets have the same threads, with the same traces**
pub same_trace_by : (Soon : Fraction → Type 0) (m m' : ThreadMeaning) (opening opening' : Opening) → Shares Soon m m' opening opening' → (these those : List Thread) → IsConsistent m opening these → IsConsistent m' opening' those → IsFinished m opening these → IsFinished m' opening' those →
    ((k i : ℕ) (thread : Thread) (place : Place) → slice_get these k ≡ Some thread → i ≤ length (trace m thread) → At m thread i place → Soon place.time) →
    ((k i : ℕ) (thread : Thread) (place : Place) → slice_get those k ≡ Some thread → i ≤ length (trace m' thread) → At m' thread i place → Soon place.time) →
    (k l : ℕ) (thread twin : Thread) → slice_get these k ≡ Some thread → slice_get those l ≡ Some twin → thread.start ≡ twin.start → trace m thread ≡ trace m' twin
same_trace_by Soon m m' opening opening' shared these those these_hold those_hold these_end those_end all all' k l thread twin thas uhas start = go (length (trace m thread)) refl
  where
    le : length (trace m thread) ≤ length (trace m' twin)
    le = same_length Soon m m' opening opening' shared these those these_hold those_hold those_end all k l thread twin thas uhas start

    ge : length (trace m' twin) ≤ length (trace m thread)
    ge = same_length Soon m' m opening' opening (flip Soon m m' opening opening' shared) those these those_hold these_hold these_end all' l k twin thread uhas thas (sym start)

    go : (n : ℕ) → length (trace m thread) ≡ n → trace m thread ≡ trace m' twin
    go zero e =
        let ge' = ge in
        sym (take_all 0 (trace m thread) (omega arith)) ∙ take_all 0 (trace m' twin) (omega (arith, ge'))
    go (suc i) e =
        let le' = le in
        let ge' = ge in
        let x = entry_at (trace m thread) i (omega arith) in
        let d = did_by Soon m m' opening opening' shared these those these_hold those_hold those_end all k l thread twin thas uhas start i x.0 x.1 in
        let y = d.1 in
        let xn : x.0.answer ≡ None = last_plain m shared.law opening these these_hold these_end k i thread x.0 thas x.1 e in
        let yn : y.0.answer ≡ None = last_plain m' shared.law_back opening' those those_hold those_end l i twin y.0 uhas y.1 (omega (arith, le', ge')) in
        let step : x.0.step ≡ y.0.step = y.2 in
        let ans : x.0.answer ≡ y.0.answer = xn ∙ sym yn in
        let same : x.0 ≡ y.0 = (λ j. record { step = step j; answer = ans j }) in
        sym (take_all (suc i) (trace m thread) (omega arith)) ∙ take_one_more (trace m thread) i x.0 x.1
        ∙ ap (λ w. w ++ x.0 ∷ []) d.0 ∙ ap (λ w. take i (trace m' twin) ++ w ∷ []) same ∙ sym (take_one_more (trace m' twin) i y.0 y.1)
        ∙ take_all (suc i) (trace m' twin) (omega (arith, le', ge'))

pub same_trace : (m : ThreadMeaning) (law : IsLawful m) (opening : Opening) (knowns : IsKnown m opening) (these those : List Thread) → IsConsistent m opening these → IsConsistent m opening those → IsFinished m opening these → IsFinished m opening those →
    (k l : ℕ) (thread twin : Thread) → slice_get these k ≡ Some thread → slice_get those l ≡ Some twin → thread.start ≡ twin.start → trace m thread ≡ trace m twin
same_trace m law opening knowns these those these_hold those_hold these_end those_end =
    same_trace_by (λ n. Unit {0}) m m opening opening (itself m law opening knowns) these those these_hold those_hold these_end those_end (λ k i thread p h l a. tt) (λ k i thread p h l a. tt)
