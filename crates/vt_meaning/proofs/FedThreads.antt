-- The threads of a consistent set are fed: what they began with and found is what the texts can lead to.
use Rattle.std.proofs.Common.{◌≡◌, ℕ, ◌+◌, ◌-◌, ◌<◌, ◌≤◌, List, length, refl, sym, ◌∙◌, ap, inl, inr, arith, true, false, zero, suc, subst, Option, Some, None}
use Rattle.std.specs.Prelude.{slice_get, Bool, Contains}
use Rattle.std.proofs.lemmas.Option.{slice_get_within}
use Rattle.vt_event.specs.Event.{EventView}
use Rattle.vt_event.specs.declared.place.Place.{Place}
use Rattle.vt_frac.specs.Fraction.{Fraction}
use Rattle.vt_path.specs.declared.pattern.Segment.{Segment}
use Rattle.vt_run.specs.Standing.{Ready}
use Rattle.vt_run.specs.declared.action.Action.{Action}
use Rattle.vt_run.specs.declared.action.Action.TheVariants.{Emit, End, Read, Rest, Spawn, Wait}
use Rattle.vt_run.specs.declared.action.Answer.TheVariants.{Found}
use Rattle.vt_run.specs.declared.start.Start.{Start}
use Rattle.vt_meaning.specs.Consistent.{IsConsistent}
use Rattle.vt_meaning.specs.Happenings.{Happened}
use Rattle.vt_meaning.specs.LookUps.{matches_event}
use Rattle.vt_meaning.specs.Places.{Before, NoLater, Upto}
use Rattle.vt_meaning.specs.Reach.{Fits, IsFed, IsFedBy, IsFitBy, IsKnown, IsKnownBy}
use Rattle.vt_meaning.specs.ThreadLaws.{IsLawful}
use Rattle.vt_meaning.specs.ThreadMeaning.{meets, ThreadMeaning, Wants}
use Rattle.vt_meaning.specs.Traces.{after_action, after_step, Entry, is_ask, Thread, trace, wait_for, wake}
use Rattle.vt_meaning.specs.World.{Opening}
use Rattle.vt_meaning.proofs.Order.{before-trans, before-upto, before_upto, before-wake, upto_time}
use Rattle.vt_meaning.proofs.Traces.{after_met, met_pattern, standing_more, At, IsSane, rises, rises_after, at_start}
use Rattle.vt_meaning.proofs.Ranks.{rank, rank-less, all_places, covers, sane, acted_at}

-- first for some times only, of which what begins then and what fed threads do then is known to be right
module _ (Soon : Fraction → Type 0) (earlier : (n k : Fraction) → NoLater n k → Soon k → Soon n) (fit : Start → Bool) (known : EventView → Bool) (m : ThreadMeaning) (law : IsLawful m) (opening : Opening)
    (starts : (start : Start) → Soon start.place.time → Contains opening.starts start → IsFitBy fit start) (given : (event : EventView) → Soon event.place.time → Contains opening.given event → IsKnownBy known event)
    (knows : (thread : Thread) (i : ℕ) (entry : Entry) (event : EventView) (pattern : List Segment) → IsFedBy fit known m thread i → slice_get (trace m thread) i ≡ Some entry → entry.step.action ≡ Some (Emit event) → Soon event.place.time → matches_event pattern event ≡ true → IsKnownBy known event)
    (breeds : (thread : Thread) (i : ℕ) (entry : Entry) (place : Place) (start : Start) → IsFedBy fit known m thread i → slice_get (trace m thread) i ≡ Some entry → entry.step.action ≡ Some (Spawn place start) → Soon start.place.time → IsFitBy fit start)
    (these : List Thread) (consistent : IsConsistent m opening these) where
  module _ (n : ℕ) (ih : (k i : ℕ) (thread : Thread) (r : Place) → slice_get these k ≡ Some thread → i ≤ length (trace m thread) → At m thread i r → Soon r.time → rank (all_places m these) r < n → IsFedBy fit known m thread i)
      (k i : ℕ) (thread : Thread) (r : Place) (has : slice_get these k ≡ Some thread) (le : i ≤ length (trace m thread)) (at : At m thread i r) (now : Soon r.time) (less : rank (all_places m these) r < suc n) where
    soon : (place : Place) → Upto place r → Soon place.time
    soon place up = earlier place.time r.time (upto_time place r up) now

    sane_t : IsSane m thread
    sane_t = sane m opening these consistent k thread has

    fit_t : IsFitBy fit thread.start
    fit_t =
        elim (consistent.rooted k thread has) [
          | inl o ↦
              (let up : Upto thread.start.place r = rises m law thread sane_t i 0 thread.start.place r (at_start m thread) (subst (λ j. At m thread j r) (omega arith) at) (omega (arith, le)) in
              starts thread.start (soon thread.start.place up) o)
          | inr start ↦
              (let up : Upto thread.start.place r = rises m law thread sane_t i 0 thread.start.place r (at_start m thread) (subst (λ j. At m thread j r) (omega arith) at) (omega (arith, le)) in
              let lt : Before start.place r = before-upto start.place thread.start.place r (law.later start.thread start.i start.entry start.place thread.start start.acted.did start.acted.is) up in
              let j = rank-less (all_places m these) start.place r (covers m these start.thread start.i start.entry (Spawn start.place thread.start) start.acted) lt in
              let w = slice_get_within (trace m start.thread) start.i start.entry start.acted.did in
              breeds start.thread start.i start.entry start.place thread.start
              (ih start.acted.at start.i start.thread start.place start.acted.has (omega (arith, w)) (acted_at m law start.thread start.i start.entry (Spawn start.place thread.start) start.acted.did start.acted.is) (soon start.place (before_upto start.place r lt)) (omega (arith, j, less)))
              start.acted.did start.acted.is (soon thread.start.place up))
        ]

    known_below : (f : EventView) (pattern : List Segment) → matches_event pattern f ≡ true → Happened m opening these f → Before f.place r → IsKnownBy known f
    known_below f pattern matched (inl g) lt = given f (soon f.place (before_upto f.place r lt)) g
    known_below f pattern matched (inr em) lt =
        let j = rank-less (all_places m these) f.place r (covers m these em.thread em.i em.entry (Emit f) em.acted) lt in
        let w = slice_get_within (trace m em.thread) em.i em.entry em.acted.did in
        knows em.thread em.i em.entry f pattern
        (ih em.acted.at em.i em.thread f.place em.acted.has (omega (arith, w)) (acted_at m law em.thread em.i em.entry (Emit f) em.acted.did em.acted.is) (soon f.place (before_upto f.place r lt)) (omega (arith, j, less)))
        em.acted.did em.acted.is (soon f.place (before_upto f.place r lt)) matched

    told_t : (j : ℕ) (other : Entry) (f : EventView) → j < i → slice_get (trace m thread) j ≡ Some other → other.answer ≡ Some (Found f) → IsKnownBy known f × Fits other.step.action f
    told_t j other f lt yd ans =
        elim (law.plain thread j other yd) [
          | inl ask ↦ by other.step.action refl ask
          | inr none ↦ absurd (let z : None ≡ Some (Found f) = sym none ∙ ans in cc)
        ]
      where
        by : (act : Option Action) → other.step.action ≡ act → is_ask act ≡ true → IsKnownBy known f × Fits other.step.action f
        by None event ask = absurd (let z : false ≡ true = ask in cc)
        by (Some (Emit _)) event ask = absurd (let z : false ≡ true = ask in cc)
        by (Some (Rest _ _)) event ask = absurd (let z : false ≡ true = ask in cc)
        by (Some (Spawn _ _)) event ask = absurd (let z : false ≡ true = ask in cc)
        by (Some (End _ _)) event ask = absurd (let z : false ≡ true = ask in cc)
        by (Some (Read place pattern)) event ask =
            let a = consistent.reads thread j other place pattern (Found f) (record { at = k; has = has; did = yd; is = event }) ans in
            let up : Before place r = rises_after m law thread sane_t j i other (Read place pattern) r yd event lt at le in
            (known_below f pattern a.0.0.matches a.0.0.happened (before-trans f.place place r a.0.0.below up), subst (λ o. Fits o f) (sym event) a.0.0.matches)
        by (Some (Wait place pattern c)) event ask =
            let w : Wants = record { pattern = pattern; stop = c } in
            let a = consistent.waits thread j other place w (Found f) (record { at = k; has = has; did = yd; is = event }) ans in
            let z : Found f ≡ Found a.0 = a.1 in
            let same : a.0 ≡ f = cc z in
            let here = law.placed thread j other yd in
            let next : At m thread (suc j) (wake f place) =
            standing_more m thread.start (trace m thread) j other yd ∙ ap (λ start. after_step m.until start other.step.action other.answer) here.1
            ∙ ap (λ o. after_step m.until (Ready here.0) o other.answer) event ∙ ap (λ o. after_action m.until (wait_for place w) o) ans ∙ after_met place w f (subst (λ g. meets w g ≡ true) same a.2.found.matches) in
            let d : suc j + (i - suc j) ≡ i = omega (arith, lt) in
            let up : Upto (wake f place) r = rises m law thread sane_t (i - suc j) (suc j) (wake f place) r next (subst (λ c. At m thread c r) (sym d) at) (omega (arith, lt, le)) in
            let first = subst (λ g. Happened m opening these g) same a.2.found.happened in
            let some = met_pattern w f (subst (λ g. meets w g ≡ true) same a.2.found.matches) in
            (known_below f some.0 some.1 first (before-upto f.place (wake f place) r (before-wake f place) up), subst (λ o. Fits o f) (sym event) (subst (λ g. Fits (Some (wait_for place w)) g) same a.2.found.matches))

  fed_upto : (n k i : ℕ) (thread : Thread) (r : Place) → slice_get these k ≡ Some thread → i ≤ length (trace m thread) → At m thread i r → Soon r.time → rank (all_places m these) r < n → IsFedBy fit known m thread i
  fed_upto zero k i thread r has le at now less = absurd (omega arith)
  fed_upto (suc n) k i thread r has le at now less =
      record {
        begun = fit_t n (λ k' i' t' r' h l a start w. fed_upto n k' i' t' r' h l a start w) k i thread r has le at now less;
        told = told_t n (λ k' i' t' r' h l a start w. fed_upto n k' i' t' r' h l a start w) k i thread r has le at now less;
      }

  -- **a thread that stands at such a time was told what is right**
  pub fed_by : (k i : ℕ) (thread : Thread) (r : Place) → slice_get these k ≡ Some thread → i ≤ length (trace m thread) → At m thread i r → Soon r.time → IsFedBy fit known m thread i
  fed_by k i thread r has le at now = fed_upto (suc (rank (all_places m these) r)) k i thread r has le at now (omega arith)

module _ (m : ThreadMeaning) (law : IsLawful m) (opening : Opening) (knowns : IsKnown m opening) (these : List Thread) (consistent : IsConsistent m opening these) where
  -- **and at any time, where all times are meant**
  pub fed_at : (k i : ℕ) (thread : Thread) (place : Place) → slice_get these k ≡ Some thread → i ≤ length (trace m thread) → At m thread i place → IsFed m thread i
  fed_at k i thread place has le at =
      fed_by (λ n. Unit {0}) (λ n l h s. tt) m.fit m.known m law opening (λ s _ h. knowns.starts s h) (λ e _ h. knowns.given e h)
      (λ a j entry e q f d is _ matched. law.reach.knows a j entry e q f d is matched) (λ a j entry p s f d is _. law.reach.breeds a j entry p s f d is)
      these consistent k i thread place has le at tt

  pub fed : (k i : ℕ) (thread : Thread) (entry : Entry) → slice_get these k ≡ Some thread → slice_get (trace m thread) i ≡ Some entry → IsFed m thread i
  fed k i thread entry has did = let w = slice_get_within (trace m thread) i entry did in fed_at k i thread (law.placed thread i entry did).0 has (omega (arith, w)) (law.placed thread i entry did).1
