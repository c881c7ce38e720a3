-- The horizon of a session is never reached by what stands in one of its stores.
use Rattle.std.proofs.Common.{◌≡◌, ℕ, ◌<◌, ◌≤◌, List, length, refl, sym, ◌∙◌, ap, inl, inr, arith, Bool, true, false, zero, suc, subst, Option, Some, None}
use Rattle.std.specs.Prelude.{slice_get, is_some}
use Rattle.std.proofs.lemmas.Option.{slice_get_within}
use Rattle.vt_event.specs.Event.{EventView}
use Rattle.vt_event.specs.declared.place.Place.{Place}
use Rattle.vt_frac.specs.Arithmetic.{sum_of}
use Rattle.vt_frac.specs.Fraction.{Fraction, IsFraction}
use Rattle.vt_run.specs.Actions.{is_past}
use Rattle.vt_run.specs.Standing.{action_place, Asks, Asleep, next_step, Over, Ready, Waits}
use Rattle.vt_run.specs.declared.action.Action.{Action}
use Rattle.vt_run.specs.declared.action.Action.TheVariants.{Emit, End, Read, Rest, Spawn, Wait}
use Rattle.vt_run.specs.declared.action.Answer.{Answer}
use Rattle.vt_run.specs.declared.action.Answer.TheVariants.{Found, Nothing}
use Rattle.vt_meaning.specs.Causal.{IsWithin}
use Rattle.vt_meaning.specs.Consistent.{IsConsistent}
use Rattle.vt_meaning.specs.Happenings.{Happened}
use Rattle.vt_meaning.specs.Places.{Before, Earlier}
use Rattle.vt_meaning.specs.ThreadLaws.{IsLawful}
use Rattle.vt_meaning.specs.ThreadMeaning.{ThreadMeaning, Wants}
use Rattle.vt_meaning.specs.Traces.{after_rest, after_step, MovesOn, rested, Thread, trace, wait_for, wake, woken_by}
use Rattle.vt_meaning.specs.World.{Opening}
use Rattle.vt_meaning.proofs.Order.{before-wake}
use Rattle.vt_meaning.proofs.Horizon.{before_horizon, fraction_lowest, sum_lowest}
use Rattle.vt_meaning.proofs.Traces.{one_ready, At, one_up, moved_upto, at_start}
use Rattle.vt_meaning.proofs.Ranks.{rank, rank-less, rank-upto, all_places, covers, sane, acted_at}
use Rattle.vt_meaning.proofs.Agreement.{goes_by}
use Rattle.vt_meaning.proofs.Lists.{entry_at}

-- from below the horizon one goes on below it, or not at all
in_time : (u : Fraction) (place p : Place) (act : Option Action) (ans : Option Answer) → IsFraction u → ((a : Action) → act ≡ Some a → action_place a ≡ place) → Earlier place.time u →
    ((c : Place) (wants : Wants) (event : EventView) → act ≡ Some (wait_for c wants) → ans ≡ Some (Found event) → wake event c ≡ p → Earlier event.place.time u) →
    ((c : Place) (n : Fraction) → act ≡ Some (Rest c n) → MovesOn c n) → after_step u (Ready place) act ans ≡ Ready p → Earlier p.time u
in_time u place p None ans good here lt woken rests h = subst (λ wants. Earlier wants.time u) (one_ready place p h) lt
in_time u place p (Some (Emit event)) ans good here lt woken rests h =
    subst (λ wants. Earlier wants.time u) (one_ready (next_step event.place) p h) (subst (λ wants. Earlier wants.time u) (sym (here (Emit event) refl)) lt)
in_time u place p (Some (Rest c n)) ans good here lt woken rests h = rest (is_past u (sum_of c.time n)) refl h
  where
    rest : (d : Bool) → is_past u (sum_of c.time n) ≡ d → after_rest d c n ≡ Ready p → Earlier p.time u
    rest false event k =
        let t : sum_of c.time n ≡ p.time = sym (rests c n refl).time ∙ ap (λ wants. wants.time) (one_ready (rested c n) p k) in
        subst (λ wants. Earlier wants u) t (before_horizon (sum_of c.time n) u (sum_lowest c.time n) (fraction_lowest u good) event)
    rest true event k = absurd (let z : Asleep (sum_of c.time n) ≡ Ready p = k in cc)
in_time u place p (Some (Read c q)) None good here lt woken rests h = absurd (let z : Asks c q ≡ Ready p = h in cc)
in_time u place p (Some (Read c q)) (Some a) good here lt woken rests h =
    subst (λ wants. Earlier wants.time u) (one_ready (next_step c) p h) (subst (λ wants. Earlier wants.time u) (sym (here (Read c q) refl)) lt)
in_time u place p (Some (Wait c q d)) None good here lt woken rests h = absurd (let z : Waits c q d ≡ Ready p = h in cc)
in_time u place p (Some (Wait c q d)) (Some Nothing) good here lt woken rests h = absurd (let z : Over ≡ Ready p = h in cc)
in_time u place p (Some (Wait c q d)) (Some (Found event)) good here lt woken rests h = wakes (is_some event.path) h
  where
    wakes : (awake : Bool) → woken_by event awake c ≡ Ready p → Earlier p.time u
    wakes true k = let z = one_ready (wake event c) p k in subst (λ v. Earlier v.time u) z (woken c (record { pattern = q; stop = d }) event refl refl z)
    wakes false k = absurd (let z : Over ≡ Ready p = k in cc)
in_time u place p (Some (Spawn c s)) ans good here lt woken rests h =
    subst (λ wants. Earlier wants.time u) (one_ready (next_step c) p h) (subst (λ wants. Earlier wants.time u) (sym (here (Spawn c s) refl)) lt)
in_time u place p (Some (End c reason)) ans good here lt woken rests h = absurd (let z : Over ≡ Ready p = h in cc)

module _ (m : ThreadMeaning) (law : IsLawful m) (opening : Opening) (w : IsWithin m opening) (these : List Thread) (consistent : IsConsistent m opening these) where
  module _ (n : ℕ) (ih : (k i : ℕ) (thread : Thread) (place : Place) → slice_get these k ≡ Some thread → i ≤ length (trace m thread) → At m thread i place → rank (all_places m these) place < n → Earlier place.time m.until) where
    event_within : (e : EventView) → Happened m opening these e → rank (all_places m these) e.place < n → Earlier e.place.time m.until
    event_within e (inl g) less = w.given e g
    event_within e (inr em) less =
        let d = slice_get_within (trace m em.thread) em.i em.entry em.acted.did in
        ih em.acted.at em.i em.thread e.place em.acted.has (omega (arith, d)) (acted_at m law em.thread em.i em.entry (Emit e) em.acted.did em.acted.is) less

    start_within : (k : ℕ) (thread : Thread) → slice_get these k ≡ Some thread → rank (all_places m these) thread.start.place < suc n → Earlier thread.start.place.time m.until
    start_within k thread has less =
        elim (consistent.rooted k thread has) [
          | inl o ↦ w.starts thread.start o
          | inr s ↦
              (let lt : Before s.place thread.start.place = law.later s.thread s.i s.entry s.place thread.start s.acted.did s.acted.is in
              let j = rank-less (all_places m these) s.place thread.start.place (covers m these s.thread s.i s.entry (Spawn s.place thread.start) s.acted) lt in
              let d = slice_get_within (trace m s.thread) s.i s.entry s.acted.did in
              w.spawns s.thread s.i s.entry s.place thread.start s.acted.did s.acted.is
              (ih s.acted.at s.i s.thread s.place s.acted.has (omega (arith, d)) (acted_at m law s.thread s.i s.entry (Spawn s.place thread.start) s.acted.did s.acted.is) (omega (arith, j, less))))
        ]

    step_within : (k : ℕ) (thread : Thread) → slice_get these k ≡ Some thread → (i : ℕ) (place : Place) → i ≤ length (trace m thread) → At m thread i place → rank (all_places m these) place < suc n → Earlier place.time m.until
    step_within k thread has zero place le at less =
        let z : Ready thread.start.place ≡ Ready place = sym (at_start m thread) ∙ at in
        let e : thread.start.place ≡ place = cc z in
        subst (λ p. Earlier p.time m.until) e (start_within k thread has (subst (λ p. rank (all_places m these) p < suc n) (sym e) less))
    step_within k thread has (suc i) place le at less =
        let x = entry_at (trace m thread) i (omega arith) in
        let here = law.placed thread i x.0 x.1 in
        let up = rank-upto (all_places m these) here.0 place (moved_upto x.0.step.action here.0 place (one_up m law thread (sane m opening these consistent k thread has) i x.0 here.0 place x.1 here.1 at)) in
        let before = step_within k thread has i here.0 (omega arith) here.1 (omega (arith, up, less)) in
        in_time m.until here.0 place x.0.step.action x.0.answer w.horizon here.2 before
        (λ c v e is ans wk.
        let a = consistent.waits thread i x.0 c v (Found e) (record { at = k; has = has; did = x.1; is = is }) ans in
        let z : Found e ≡ Found a.0 = a.1 in
        let same : a.0 ≡ e = cc z in
        let first = subst (λ g. Happened m opening these g) same a.2.found.happened in
        elim first as (λ h. Earlier e.place.time m.until) [
          | inl g ↦ w.given e g
          | inr em ↦
              (let j = rank-less (all_places m these) e.place place (covers m these em.thread em.i em.entry (Emit e) em.acted) (subst (Before e.place) wk (before-wake e c)) in
              event_within e (inr em) (omega (arith, j, less)))
        ])
        (λ c n is. (sane m opening these consistent k thread has).rests i x.0 c n x.1 is)
        (goes_by m thread i x.0 here.0 place x.1 here.1 at)

  within_upto : (n k i : ℕ) (thread : Thread) (place : Place) → slice_get these k ≡ Some thread → i ≤ length (trace m thread) → At m thread i place → rank (all_places m these) place < n → Earlier place.time m.until
  within_upto zero k i thread place has le at less = absurd (omega arith)
  within_upto (suc n) k i thread place has le at less = step_within n (λ k' i' t' r' h l a s. within_upto n k' i' t' r' h l a s) k thread has i place le at less

  -- **so the places of each thread are below it**
  pub within : (k i : ℕ) (thread : Thread) (place : Place) → slice_get these k ≡ Some thread → i ≤ length (trace m thread) → At m thread i place → Earlier place.time m.until
  within k i thread place has le at = within_upto (suc (rank (all_places m these) place)) k i thread place has le at (omega arith)

  -- **and those of the events**
  pub event_below : (e : EventView) → Happened m opening these e → Earlier e.place.time m.until
  event_below e h = event_within (suc (rank (all_places m these) e.place)) (λ k i thread place has le at less. within k i thread place has le at) e h (omega arith)
