-- Agreement: two consistent sets of threads, of sessions that share what stands at the times in question, hold the same there as far as
-- both have come. What the front of one has passed, or a quiet read of it, the other has too. By induction on the rank of a place.
use Rattle.std.proofs.Common.{◌≡◌, ℕ, ◌+◌, ◌-◌, ◌<◌, ◌≤◌, List, [], ◌∷◌, ◌++◌, length, take, refl, sym, ◌∙◌, ap, inl, inr, arith, Bool, true, false, zero, suc, subst, Option, Some, None}
use Rattle.std.specs.Prelude.{slice_get}
use Rattle.std.proofs.lemmas.Option.{slice_get_cases, slice_get_within}
use Rattle.vt_event.specs.Event.{EventView}
use Rattle.vt_event.specs.declared.place.Place.{Place}
use Rattle.vt_frac.specs.Arithmetic.{sum_of}
use Rattle.vt_frac.specs.Fraction.{Fraction}
use Rattle.vt_path.specs.declared.pattern.Segment.{Segment}
use Rattle.vt_run.specs.Actions.{is_past}
use Rattle.vt_run.specs.Standing.{action_place, Asks, Asleep, next_step, Over, Ready, Stance, Waits}
use Rattle.vt_run.specs.declared.action.Action.{Action}
use Rattle.vt_run.specs.declared.action.Action.TheVariants.{Emit, End, Read, Rest, Spawn, Wait}
use Rattle.vt_run.specs.declared.action.Answer.{Answer}
use Rattle.vt_run.specs.declared.action.Answer.TheVariants.{Found, Nothing}
use Rattle.vt_run.specs.declared.start.Start.{Start}
use Rattle.vt_meaning.specs.Bounds.{Clear, Quiet, StandsBelow}
use Rattle.vt_meaning.specs.Consistent.{IsConsistent}
use Rattle.vt_meaning.specs.Happenings.{Acted, Begun, Emitted, Happened, IsFirst, IsLast}
use Rattle.vt_meaning.specs.LookUps.{matches_event}
use Rattle.vt_meaning.specs.NextPlaces.{GoesOn}
use Rattle.vt_meaning.specs.Places.{Before, NoLater, Upto}
use Rattle.vt_meaning.specs.ThreadMeaning.{meets, ThreadMeaning, Wants}
use Rattle.vt_meaning.specs.Traces.{after_action, after_rest, after_step, after_wait, Entry, is_ask, MovesOn, rested, stance_in, Thread, trace, wait_for, waiting, wake}
use Rattle.vt_meaning.specs.World.{Opening}
use Rattle.vt_meaning.proofs.Order.{before-trans, before-irrefl, before-cases, before-wake, before-next_step, before-upto, before_upto, upto_same, upto_split, upto-trans, not_both, upto_time, no_later_same}
use Rattle.vt_meaning.proofs.Traces.{after_met, one_ready, standing_more, At, IsSane, rises, rises_after, at_start, stand_at, one_up, moved_upto, asks_by, waits_by}
use Rattle.vt_meaning.proofs.Writers.IsHot.{Itself, Fed}
use Rattle.vt_meaning.proofs.Writers.{IsHot, hot_disturbs, hot_more, hot_calm, meets_more}
use Rattle.vt_meaning.proofs.Ranks.{rank, rank-less, rank-upto, Covers, sane, clear_below, acted_at}
use Rattle.vt_meaning.proofs.SharedSessions.{Shares, flip, one_place, step_same}
use Rattle.vt_meaning.proofs.Lists.{entry_at, take_one_more}

-- some thread has, up to and with this step, done what that thread of the other set did
pub record Did (m m' : ThreadMeaning) (bs : List Thread) (t : Thread) (i : ℕ) (x : Entry) : Type 0 where
  pub at : ℕ
  pub thread : Thread
  pub entry : Entry
  pub has : slice_get bs at ≡ Some thread
  pub start : t.start ≡ thread.start
  pub before : take i (trace m' t) ≡ take i (trace m thread)
  pub did : slice_get (trace m thread) i ≡ Some entry
  pub step : x.step ≡ entry.step

pub did_act : (m m' : ThreadMeaning) (bs : List Thread) (thread : Thread) (i : ℕ) (entry : Entry) (a : Action) → (d : Did m m' bs thread i entry) → entry.step.action ≡ Some a → Acted m bs d.thread i d.entry a
did_act m m' bs thread i entry a d is = record { at = d.at; has = d.has; did = d.did; is = ap (λ s. s.action) (sym d.step) ∙ is }

pub goes_by : (m : ThreadMeaning) (thread : Thread) (i : ℕ) (entry : Entry) (place p : Place) → slice_get (trace m thread) i ≡ Some entry → At m thread i place → At m thread (suc i) p → after_step m.until (Ready place) entry.step.action entry.answer ≡ Ready p
goes_by m thread i entry place p did a g = ap (λ s. after_step m.until s entry.step.action entry.answer) (sym a) ∙ sym (standing_more m thread.start (trace m thread) i entry did) ∙ g

abbrev is_over : Stance → Bool
is_over (Ready p) = false
is_over (Asks p q) = false
is_over (Waits p q c) = false
is_over (Asleep n) = true
is_over Over = true

-- what leaves a thread over leaves it so with any answer, and by any horizon that is no nearer
stays_over : (u v : Fraction) (place p : Place) (act : Option Action) (a b : Option Answer) → ((time seconds : Fraction) → NoLater (sum_of time seconds) p.time → is_past u (sum_of time seconds) ≡ is_past v (sum_of time seconds)) →
    ((c : Place) (wants : Wants) (d : Answer) → act ≡ Some (wait_for c wants) → a ≡ Some d → (e : EventView) × (d ≡ Found e) × (meets wants e ≡ true)) →
    ((c : Place) (n : Fraction) → act ≡ Some (Rest c n) → MovesOn c n) →
    is_over (after_step u (Ready place) act a) ≡ true → after_step v (Ready place) act b ≡ Ready p → ⊥
stays_over u v place p None a b hor woken rests over go = let z : false ≡ true = over in cc
stays_over u v place p (Some (Emit e)) a b hor woken rests over go = let z : false ≡ true = over in cc
stays_over u v place p (Some (Rest c n)) a b hor woken rests over go = rest (is_past u (sum_of c.time n)) (is_past v (sum_of c.time n)) refl refl over go
  where
    rest : (d e : Bool) → is_past u (sum_of c.time n) ≡ d → is_past v (sum_of c.time n) ≡ e → is_over (after_rest d c n) ≡ true → after_rest e c n ≡ Ready p → ⊥
    rest false e de ee o g = let z : false ≡ true = o in cc
    rest true true de ee o g = let z : Asleep (sum_of c.time n) ≡ Ready p = g in cc
    rest true false de ee o g =
        let t : sum_of c.time n ≡ p.time = sym (rests c n refl).time ∙ ap (λ wants. wants.time) (one_ready (rested c n) p g) in
        let h : true ≡ false = sym de ∙ hor c.time n (no_later_same (sum_of c.time n) p.time t) ∙ ee in cc
stays_over u v place p (Some (Read c q)) None b hor woken rests over go = let z : false ≡ true = over in cc
stays_over u v place p (Some (Read c q)) (Some a) b hor woken rests over go = let z : false ≡ true = over in cc
stays_over u v place p (Some (Wait c q d)) None b hor woken rests over go = let z : false ≡ true = over in cc
stays_over u v place p (Some (Wait c q d)) (Some Nothing) b hor woken rests over go =
    let k = woken c (record { pattern = q; stop = d }) Nothing refl refl in let z : Nothing ≡ Found k.0 = k.1 in cc
stays_over u v place p (Some (Wait c q d)) (Some (Found e)) b hor woken rests over go =
    let k = woken c (record { pattern = q; stop = d }) (Found e) refl refl in
    let same : k.0 ≡ e = cc in
    let met = subst (λ f. meets (record { pattern = q; stop = d }) f ≡ true) same k.2 in
    let z : false ≡ true = sym (ap is_over (after_met c (record { pattern = q; stop = d }) e met)) ∙ over in cc
stays_over u v place p (Some (Spawn c s)) a b hor woken rests over go = let z : false ≡ true = over in cc
stays_over u v place p (Some (End c reason)) a b hor woken rests over go = let z : Over ≡ Ready p = go in cc

-- **What those did was done in these.** Said of the threads whose start is Hot, at places that are Low, where what starts or
-- wakes a hot thread is hot, and no hot thread of these has a low bound
module _ (Soon : Fraction → Type 0) (m m' : ThreadMeaning) (opening opening' : Opening) (shared : Shares Soon m m' opening opening') (these those : List Thread) (these_hold : IsConsistent m opening these) (those_hold : IsConsistent m' opening' those)
    (places : List Place) (covers : Covers m' those places) (Hot : Start → Type 0) (Low : Place → Type 0)
    (lower : (p r : Place) → Before p r → Low r → Low p)
    (soon : (p : Place) → Low p → Soon p.time)
    (same : (k l i : ℕ) (thread twin : Thread) (b r : Place) → slice_get these k ≡ Some thread → slice_get those l ≡ Some twin → twin.start ≡ thread.start → i ≤ length (trace m thread) → i ≤ length (trace m' twin) →
    At m thread i b → At m' twin i r → Low r → take i (trace m' twin) ≡ take i (trace m thread))
    (parent : (l i : ℕ) (twin : Thread) (entry : Entry) (p : Place) (s : Start) → slice_get those l ≡ Some twin → slice_get (trace m' twin) i ≡ Some entry → entry.step.action ≡ Some (Spawn p s) → Low p → Hot s → Hot twin.start)
    (feeds : (k l i : ℕ) (thread another : Thread) (b : Place) (wants : Wants) (entry : Entry) (event : EventView) → slice_get these k ≡ Some thread → slice_get those l ≡ Some another → Hot thread.start → stance_in m thread ≡ waiting b wants → Low b →
    slice_get (trace m' another) i ≡ Some entry → entry.step.action ≡ Some (Emit event) → Low event.place → meets wants event ≡ true → Hot another.start)
    (calm : (k : ℕ) (thread : Thread) (b : Place) → slice_get these k ≡ Some thread → Hot thread.start → GoesOn m opening these (stance_in m thread) b → Low b → ⊥) where
  low_upto : (p r : Place) → Upto p r → Low r → Low p
  low_upto p r up low = elim (upto_split p r up) [ inl e ↦ subst Low (sym e) low | inr lt ↦ lower p r lt low ]

  -- the induction: all of it holds below this rank
  module _ (n : ℕ) (ih : (l i : ℕ) (twin : Thread) (z : Entry) (r : Place) → slice_get those l ≡ Some twin → Hot twin.start → slice_get (trace m' twin) i ≡ Some z → At m' twin i r → Low r → rank places r < n → Did m m' these twin i z)
      (l i : ℕ) (twin : Thread) (z : Entry) (r : Place) (uhas : slice_get those l ≡ Some twin) (hot : Hot twin.start) (did : slice_get (trace m' twin) i ≡ Some z) (at : At m' twin i r) (low : Low r) (less : rank places r < suc n) where
    within : i < length (trace m' twin)
    within = slice_get_within (trace m' twin) i z did

    sane_u : IsSane m' twin
    sane_u = sane m' opening' those those_hold l twin uhas

    -- an action below r is in these
    below : (another : Thread) (j : ℕ) (entry : Entry) (a : Action) → Acted m' those another j entry a → Hot another.start → Before (action_place a) r → Did m m' these another j entry
    below another j entry a acted hot' lt =
        let k = rank-less places (action_place a) r (covers another j entry a acted) lt in
        ih acted.at j another entry (action_place a) acted.has hot' acted.did (acted_at m' shared.law_back another j entry a acted.did acted.is) (lower (action_place a) r lt low) (omega (arith, k, less))

    event_there : (event : EventView) → Happened m' opening' those event → ((em : Emitted m' those event) → Hot em.thread.start) → Before event.place r → Happened m opening these event
    event_there event (inl g) hot' lt = inl (shared.given_back event (soon event.place (lower event.place r lt low)) g)
    event_there event (inr em) hot' lt =
        let d = below em.thread em.i em.entry (Emit event) em.acted (hot' em) lt in
        inr (record { thread = d.thread; i = em.i; entry = d.entry; acted = did_act m m' these em.thread em.i em.entry (Emit event) d em.acted.is })

    first : Upto twin.start.place r
    first = rises m' shared.law_back twin sane_u i 0 twin.start.place r (at_start m' twin) (subst (λ j. At m' twin j r) (omega arith) at) (omega (arith, within))

    begun : Begun these twin.start
    begun =
        elim (those_hold.rooted l twin uhas) [
          | inl o ↦ these_hold.opened twin.start (shared.starts_back twin.start (soon twin.start.place (low_upto twin.start.place r first low)) o)
          | inr s ↦
              (let up = first in
              let lt : Before s.place r = before-upto s.place twin.start.place r (shared.law_back.later s.thread s.i s.entry s.place twin.start s.acted.did s.acted.is) up in
              let d = below s.thread s.i s.entry (Spawn s.place twin.start) s.acted (parent s.acted.at s.i s.thread s.entry s.place twin.start s.acted.has s.acted.did s.acted.is (lower s.place r lt low) hot) lt in
              these_hold.spawned twin.start (record { thread = d.thread; i = s.i; entry = d.entry; place = s.place; acted = did_act m m' these s.thread s.i s.entry (Spawn s.place twin.start) d s.acted.is }))
        ]

    -- a thread of these that began as twin did has got as far
    module _ (k : ℕ) (thread : Thread) (thas : slice_get these k ≡ Some thread) (start : twin.start ≡ thread.start) (short : length (trace m thread) ≤ i) where
      hot_t : Hot thread.start
      hot_t = subst Hot start hot

      -- where twin stood after as many steps as thread did, and that it went on
      next : (p : Place) × At m' twin (length (trace m thread)) p × Upto p r
      next =
          let j = length (trace m thread) in
          let y = entry_at (trace m' twin) j (omega (arith, within, short)) in
          let here = shared.law_back.placed twin j y.0 y.1 in
          let d : j + (i - j) ≡ i = omega (arith, short) in
          (here.0, here.1, rises m' shared.law_back twin sane_u (i - j) j here.0 r here.1 (subst (λ a. At m' twin a r) (sym d) at) (omega (arith, within, short)))

      stop : (b : Place) (s : Stance) → stance_in m thread ≡ s → GoesOn m opening these s b → Low b → ⊥
      stop b s e on low' = calm k thread b thas hot_t (subst (λ wants. GoesOn m opening these wants b) (sym e) on) low'

      -- thread did the last of its steps j, and twin went on after it
      module _ (j : ℕ) (entry : Entry) (len : length (trace m thread) ≡ suc j) (xd : slice_get (trace m thread) j ≡ Some entry) where
        here : (p : Place) × At m thread j p × ((a : Action) → entry.step.action ≡ Some a → action_place a ≡ p)
        here = shared.law.placed thread j entry xd

        other : (y : Entry) × (slice_get (trace m' twin) j ≡ Some y)
        other = entry_at (trace m' twin) j (let a = within in let b = short in omega (arith, a, b, len))

        there : (p : Place) × At m' twin j p × ((a : Action) → other.0.step.action ≡ Some a → action_place a ≡ p)
        there = shared.law_back.placed twin j other.0 other.1

        at_next : At m' twin (suc j) next.0
        at_next = subst (λ a. At m' twin a next.0) len next.1

        one : Upto there.0 r
        one = upto-trans there.0 next.0 r (moved_upto other.0.step.action there.0 next.0 (one_up m' shared.law_back twin sane_u j other.0 there.0 next.0 other.1 there.1 at_next)) next.2

        low_there : Low there.0
        low_there = low_upto there.0 r one low

        alike : take j (trace m' twin) ≡ take j (trace m thread)
        alike = let a = within in let b = short in same k l j thread twin here.0 there.0 thas uhas start (omega (arith, len)) (omega (arith, a, b, len)) here.1 there.1 low_there

        step : other.0.step ≡ entry.step
        step = step_same Soon m' m opening' opening (flip Soon m m' opening opening' shared) those these those_hold these_hold l k j twin thread other.0 entry there.0 here.0 uhas thas start alike other.1 xd there.1 here.1 (soon there.0 low_there)

        one_spot : there.0 ≡ here.0
        one_spot = one_place m' m twin thread j there.0 here.0 start alike there.1 here.1

        ends : after_step m.until (Ready here.0) entry.step.action entry.answer ≡ stance_in m thread
        ends = ap (λ s. after_step m.until s entry.step.action entry.answer) (sym here.1) ∙ sym (standing_more m thread.start (trace m thread) j entry xd) ∙ sym (stand_at m thread (suc j) (omega (arith, len)))

        goes : after_step m'.until (Ready here.0) entry.step.action other.0.answer ≡ Ready next.0
        goes = ap (λ p. after_step m'.until (Ready p) entry.step.action other.0.answer) (sym one_spot) ∙ ap (λ s. after_step m'.until (Ready there.0) s.action other.0.answer) (sym step) ∙ goes_by m' twin j other.0 there.0 next.0 other.1 there.1 at_next

        acts : (a : Action) → entry.step.action ≡ Some a → other.0.step.action ≡ Some a
        acts a is = ap (λ s. s.action) step ∙ is

        under : (a : Action) → entry.step.action ≡ Some a → Before (action_place a) r
        under a is =
            let wants = within in let b = short in
            before-upto (action_place a) next.0 r (rises_after m' shared.law_back twin sane_u j (suc j) other.0 a next.0 other.1 (acts a is) (omega arith) at_next (omega (arith, wants, b, len))) next.2

        horizon : (time seconds : Fraction) → NoLater (sum_of time seconds) next.0.time → is_past m.until (sum_of time seconds) ≡ is_past m'.until (sum_of time seconds)
        horizon time seconds le = shared.horizon time seconds (shared.earlier (sum_of time seconds) next.0.time le (soon next.0 (low_upto next.0 r next.2 low)))

        -- an answered wait of thread was answered by what is wanted
        woken_right : (c : Place) (wants : Wants) (d : Answer) → entry.step.action ≡ Some (wait_for c wants) → entry.answer ≡ Some d → (e : EventView) × (d ≡ Found e) × (meets wants e ≡ true)
        woken_right c wants d is ans = let a = these_hold.waits thread j entry c wants d (record { at = k; has = thas; did = xd; is = is }) ans in (a.0, a.1, a.2.found.matches)

        rests_right : (c : Place) (n' : Fraction) → entry.step.action ≡ Some (Rest c n') → MovesOn c n'
        rests_right c n' is = (sane m opening these these_hold k thread thas).rests j entry c n' xd is

        stuck_wait : (b : Place) (wants : Wants) → stance_in m thread ≡ waiting b wants → ⊥
        stuck_wait b wants e = answered other.0.answer refl
          where
            act : (entry.step.action ≡ Some (wait_for b wants)) × (entry.answer ≡ None)
            act = waits_by m.until here.0 b wants entry.step.action entry.answer (ends ∙ e)

            after_b : (o : Option Answer) → other.0.answer ≡ o → after_wait b wants o ≡ Ready next.0
            after_b o ans = sym (ap (λ c. after_step m'.until (Ready here.0) c other.0.answer) act.0 ∙ ap (λ c. after_action m'.until (wait_for b wants) c) ans) ∙ goes

            answered : (o : Option Answer) → other.0.answer ≡ o → ⊥
            answered None ans = let z : Waits b wants.pattern wants.stop ≡ Ready next.0 = after_b None ans in cc
            answered (Some c) ans =
                let other_w = those_hold.waits twin j other.0 b wants c (record { at = l; has = uhas; did = other.1; is = acts (wait_for b wants) act.0 }) ans in
                let event = other_w.0 in
                let woke : wake event b ≡ next.0 = one_ready (wake event b) next.0 (sym (after_met b wants event other_w.2.found.matches) ∙ after_b (Some (Found event)) (ans ∙ ap Some other_w.1)) in
                let up : Upto (wake event b) r = subst (λ p. Upto p r) (sym woke) next.2 in
                let lt : Before event.place r = before-upto event.place (wake event b) r (before-wake event b) up in
                let lb : Low b = lower b r (under (wait_for b wants) act.0) low in
                let hap = event_there event other_w.2.found.happened (λ em. feeds k em.acted.at em.i thread em.thread b wants em.entry event thas em.acted.has hot_t e lb em.acted.did em.acted.is (lower event.place r lt low) other_w.2.found.matches) lt in
                stop (wake event b) (waiting b wants) e (event, record { happened = hap; matches = other_w.2.found.matches; above = other_w.2.found.above }, refl) (low_upto (wake event b) r up low)

        stuck : (s : Stance) → stance_in m thread ≡ s → ((p : Place) → s ≡ Ready p → ⊥) → ⊥
        stuck (Ready b) e ne = ne b refl
        stuck (Asks b q) e ne =
            let act = asks_by m.until here.0 b q entry.step.action entry.answer (ends ∙ e) in
            stop b (Asks b q) e refl (lower b r (under (Read b q) act.0) low)
        stuck (Waits b q c) e ne = stuck_wait b (record { pattern = q; stop = c }) e
        stuck (Asleep n') e ne =
            stays_over m.until m'.until here.0 next.0 entry.step.action entry.answer other.0.answer horizon woken_right rests_right (ap is_over (ends ∙ e)) goes
        stuck Over e ne =
            stays_over m.until m'.until here.0 next.0 entry.step.action entry.answer other.0.answer horizon woken_right rests_right (ap is_over (ends ∙ e)) goes

      -- thread does not stand at a place from which it goes on
      standing_there : (b : Place) → stance_in m thread ≡ Ready b → ⊥
      standing_there b e =
          let j = length (trace m thread) in
          let at_t : At m thread j b = sym (stand_at m thread j (omega arith)) ∙ e in
          let alike : take j (trace m' twin) ≡ take j (trace m thread) = same k l j thread twin b next.0 thas uhas start (omega arith) (let wants = within in omega (arith, wants, short)) at_t next.1 (low_upto next.0 r next.2 low) in
          let p : next.0 ≡ b = one_place m' m twin thread j next.0 b start alike next.1 at_t in
          stop next.0 (Ready b) e p (low_upto next.0 r next.2 low)

      not_short : (c : ℕ) → length (trace m thread) ≡ c → ⊥
      not_short zero e = standing_there thread.start.place (stand_at m thread 0 (omega (arith, e)) ∙ at_start m thread)
      not_short (suc j) e =
          let entry = entry_at (trace m thread) j (omega (arith, e)) in
          stuck j entry.0 e entry.1 (stance_in m thread) refl (λ p g. standing_there p g)

    there_too : Did m m' these twin i z
    there_too =
        let b = begun in
        elim ((slice_get_cases (trace m b.thread) i).1) [
          | inl wants ↦
              (let thread = b.thread in
              let here = shared.law.placed thread i wants.0 wants.2 in
              let alike : take i (trace m' twin) ≡ take i (trace m thread) = same b.at l i thread twin here.0 r b.has uhas (sym b.start) (let c = wants.1 in omega (arith, c)) (let c = within in omega (arith, c)) here.1 at low in
              record { at = b.at; thread = thread; entry = wants.0; has = b.has; start = sym b.start; before = alike; did = wants.2; step = step_same Soon m' m opening' opening (flip Soon m m' opening opening' shared) those these those_hold these_hold l b.at i twin thread z wants.0 r here.0 uhas b.has (sym b.start) alike did wants.2 at here.1 (soon r low) })
          | inr wants ↦ absurd (not_short b.at b.thread b.has (sym b.start) wants.0 (length (trace m b.thread)) refl)
        ]

  pub reached : (n l i : ℕ) (twin : Thread) (z : Entry) (r : Place) → slice_get those l ≡ Some twin → Hot twin.start → slice_get (trace m' twin) i ≡ Some z → At m' twin i r → Low r → rank places r < n → Did m m' these twin i z
  reached zero l i twin z r has hot did at low less = absurd (omega arith)
  reached (suc n) l i twin z r has hot did at low less = there_too n (λ l' i' u' z' r' h o d a wants k. reached n l' i' u' z' r' h o d a wants k) l i twin z r has hot did at low less

-- two threads of one start agree in the steps that both did, as long as these stand below the rank and at times in question
abbrev pub Overlap : (Fraction → Type 0) → List Place → ℕ → Type 0
Overlap Soon places n =
    (m m' : ThreadMeaning) (opening opening' : Opening) → Shares Soon m m' opening opening' → (these those : List Thread) → IsConsistent m opening these → IsConsistent m' opening' those → Covers m these places → Covers m' those places →
    (k l i : ℕ) (thread twin : Thread) (place r : Place) → slice_get these k ≡ Some thread → slice_get those l ≡ Some twin → thread.start ≡ twin.start → i ≤ length (trace m thread) → i ≤ length (trace m' twin) →
    At m thread i place → At m' twin i r → Soon place.time → rank places place < n → take i (trace m thread) ≡ take i (trace m' twin)

-- a read got one answer in both, where the matches of each are in the other
same_read : (m m' : ThreadMeaning) (opening opening' : Opening) (these those : List Thread) (place : Place) (pattern : List Segment) (answer b : Answer) → IsLast m opening these place pattern answer → IsLast m' opening' those place pattern b →
    ((event : EventView) → Happened m opening these event → matches_event pattern event ≡ true → Before event.place place → Happened m' opening' those event) →
    ((event : EventView) → Happened m' opening' those event → matches_event pattern event ≡ true → Before event.place place → Happened m opening these event) → answer ≡ b
same_read m m' opening opening' these those place pattern Nothing Nothing h k over back = refl
same_read m m' opening opening' these those place pattern Nothing (Found event) h k over back =
    absurd (h event (record { happened = back event k.0.happened k.0.matches k.0.below; matches = k.0.matches; below = k.0.below }))
same_read m m' opening opening' these those place pattern (Found event) Nothing h k over back =
    absurd (k event (record { happened = over event h.0.happened h.0.matches h.0.below; matches = h.0.matches; below = h.0.below }))
same_read m m' opening opening' these those place pattern (Found event) (Found f) h k over back =
    elim (k.1 event (record { happened = over event h.0.happened h.0.matches h.0.below; matches = h.0.matches; below = h.0.below })) [
      | inl z ↦ ap Found z
      | inr lt ↦
          elim (h.1 f (record { happened = back f k.0.happened k.0.matches k.0.below; matches = k.0.matches; below = k.0.below })) [
            | inl z ↦ ap Found (sym z)
            | inr gt ↦ absurd (before-irrefl event.place (before-trans event.place f.place event.place lt gt))
          ]
    ]

-- and a wait one event
same_wait : (m m' : ThreadMeaning) (opening opening' : Opening) (these those : List Thread) (place : Place) (wants : Wants) (event f : EventView) → IsFirst m opening these place wants event → IsFirst m' opening' those place wants f →
    Clear m' opening' those f.place → (Clear m' opening' those event.place → Happened m' opening' those event) → (Before f.place event.place → Happened m opening these f) → event ≡ f
same_wait m m' opening opening' these those place wants event f h k uclear there back =
    elim (before-cases event.place f.place) [
      | inl lt ↦ before (clear_below m' opening' those event.place f.place lt uclear) (before_upto event.place f.place lt)
      | inr (inl z) ↦ before (subst (Clear m' opening' those) (sym z) uclear) (upto_same event.place f.place z)
      | inr (inr gt) ↦
          elim (h.least f (record { happened = back gt; matches = k.found.matches; above = k.found.above })) [
            | inl z ↦ sym z
            | inr lt ↦ absurd (before-irrefl event.place (before-trans event.place f.place event.place lt gt))
          ]
    ]
  where
    before : Clear m' opening' those event.place → Upto event.place f.place → event ≡ f
    before clear up =
        elim (k.least event (record { happened = there clear; matches = h.found.matches; above = h.found.above })) [
          | inl z ↦ z
          | inr gt ↦ absurd (not_both f.place event.place gt up)
        ]

module _ (Soon : Fraction → Type 0) (places : List Place) (n : ℕ) (over : Overlap Soon places n) where
  -- a step of those is in these, if it stands so low that the front of these is above it
  pub clear_there : (m m' : ThreadMeaning) (opening opening' : Opening) → Shares Soon m m' opening opening' → (these those : List Thread) → IsConsistent m opening these → IsConsistent m' opening' those →
      Covers m these places → Covers m' those places → (l i : ℕ) (thread : Thread) (z : Entry) (place : Place) → slice_get those l ≡ Some thread → slice_get (trace m' thread) i ≡ Some z → At m' thread i place →
      Clear m opening these place → Soon place.time → rank places place < n → Did m m' these thread i z
  clear_there m m' opening opening' shared these those these_hold those_hold these_listed those_listed l i thread z place has did at clear now less =
      reached Soon m m' opening opening' shared these those these_hold those_hold places those_listed (λ s. Unit {0}) (λ r. Upto r place) (λ pattern r lt up. before_upto pattern place (before-upto pattern r place lt up))
      (λ r up. shared.earlier r.time place.time (upto_time r place up) now)
      (λ k l' i' twin u' b r th uh st lt lu bt au up.
      let le = rank-upto places r place up in
      over m' m opening' opening (flip Soon m m' opening opening' shared) those these those_hold these_hold those_listed these_listed l' k i' u' twin r b uh th st lu lt au bt (shared.earlier r.time place.time (upto_time r place up) now) (omega (arith, le, less)))
      (λ l' i' u' entry pattern s uh d is lo h. tt) (λ k l' i' twin v b wants entry f th vh h e lb d is lo g. tt) (λ k twin b th h on up. not_both place b (clear k twin b th on) up)
      (suc (rank places place)) l i thread z place has tt did at (upto_same place place refl) (omega arith)

  -- an event of those that a read wants, which is quiet in these, is in these
  pub quiet_there : (m m' : ThreadMeaning) (opening opening' : Opening) → Shares Soon m m' opening opening' → (these those : List Thread) → IsConsistent m opening these → IsConsistent m' opening' those →
      Covers m these places → Covers m' those places → (place : Place) (pattern : List Segment) → Quiet m opening these place pattern → Soon place.time → rank places place < n → (e : EventView) → Happened m' opening' those e → matches_event pattern e ≡ true → Before e.place place → Happened m opening these e
  quiet_there m m' opening opening' shared these those these_hold those_hold these_listed those_listed place pattern quiet now less e (inl g) match lt = inl (shared.given_back e (shared.earlier e.place.time place.time (upto_time e.place place (before_upto e.place place lt)) now) g)
  quiet_there m m' opening opening' shared these those these_hold those_hold these_listed those_listed place pattern quiet now less e (inr em) match lt =
      let a = em.acted in
      let d =
      reached Soon m m' opening opening' shared these those these_hold those_hold places those_listed (IsHot m these place pattern) (λ r. Before r place) (λ c r l k. before-trans c r place l k)
      (λ r up. low_now r up)
      (λ k l' i' twin u' b r th uh st lt' lu bt au up.
      let le = rank-upto places r place (before_upto r place up) in
      over m' m opening' opening (flip Soon m m' opening opening' shared) those these those_hold these_hold those_listed these_listed l' k i' u' twin r b uh th st lu lt' au bt (low_now r up) (omega (arith, le, less)))
      (λ l' i' u' entry c s uh d is lo h. hot_more m these place pattern s u'.start (λ o k. shared.passes those those_hold l' i' u' entry c s o uh d is (low_now c lo) k) h)
      (λ k l' i' twin v b wants entry f th vh h st lb d is lo g.
      Fed twin b wants (hot_disturbs m these place pattern twin (record { at = k; has = th; below = subst (λ s. StandsBelow s place) (sym st) lb }) h) st
      (meets_more m v.start f (λ o k. shared.writes those those_hold l' i' v entry f o vh d is (low_now f.place lo) k) wants g))
      (λ k twin b th h on up. hot_calm m opening these place pattern quiet k twin b th h on up)
      (suc (rank places e.place)) a.at em.i em.thread em.entry e.place a.has (Itself (shared.writes those those_hold a.at em.i em.thread em.entry e pattern a.has a.did a.is (low_now e.place lt) match)) a.did
      (acted_at m' shared.law_back em.thread em.i em.entry (Emit e) a.did a.is) lt (omega arith) in
      inr (record { thread = d.thread; i = em.i; entry = d.entry; acted = did_act m m' these em.thread em.i em.entry (Emit e) d em.acted.is })
    where
      low_now : (r : Place) → Before r place → Soon r.time
      low_now r up = shared.earlier r.time place.time (upto_time r place (before_upto r place up)) now

  -- so one ask has one answer in both, where what went before is one and both went on
  module _ (m m' : ThreadMeaning) (opening opening' : Opening) (shared : Shares Soon m m' opening opening') (these those : List Thread) (these_hold : IsConsistent m opening these) (those_hold : IsConsistent m' opening' those)
      (these_listed : Covers m these places) (those_listed : Covers m' those places) (k l : ℕ) (twin thread : Thread) (thas : slice_get these k ≡ Some twin) (uhas : slice_get those l ≡ Some thread)
      (i : ℕ) (entry y : Entry) (xd : slice_get (trace m twin) i ≡ Some entry) (yd : slice_get (trace m' thread) i ≡ Some y) (step : entry.step ≡ y.step)
      (b c place r : Place) (xa : At m twin i b) (ya : At m' thread i c) (xn : At m twin (suc i) place) (yn : At m' thread (suc i) r) (now : Soon place.time) (less : rank places place < suc n) where
    goes_x : (act : Action) (o : Option Answer) → entry.step.action ≡ Some act → entry.answer ≡ o → after_action m.until act o ≡ Ready place
    goes_x act o is ans =
        sym (ap (λ a. after_step m.until (Ready b) a entry.answer) is ∙ ap (λ a. after_action m.until act a) ans) ∙ goes_by m twin i entry b place xd xa xn

    goes_y : (act : Action) (o : Option Answer) → y.step.action ≡ Some act → y.answer ≡ o → after_action m'.until act o ≡ Ready r
    goes_y act o is ans =
        sym (ap (λ a. after_step m'.until (Ready c) a y.answer) is ∙ ap (λ a. after_action m'.until act a) ans) ∙ goes_by m' thread i y c r yd ya yn

    below_now : (a : Place) → Before a place → Soon a.time
    below_now a lt = shared.earlier a.time place.time (upto_time a place (before_upto a place lt)) now

    read_same : (a : Place) (pattern : List Segment) → entry.step.action ≡ Some (Read a pattern) → y.step.action ≡ Some (Read a pattern) → (o o' : Option Answer) → entry.answer ≡ o → y.answer ≡ o' → o ≡ o'
    read_same a pattern xis yis None o' xans yans = absurd (let z : Asks a pattern ≡ Ready place = goes_x (Read a pattern) None xis xans in cc)
    read_same a pattern xis yis (Some d) None xans yans = absurd (let z : Asks a pattern ≡ Ready r = goes_y (Read a pattern) None yis yans in cc)
    read_same a pattern xis yis (Some d) (Some d') xans yans =
        let mine_at : Acted m these twin i entry (Read a pattern) = record { at = k; has = thas; did = xd; is = xis } in
        let mine = these_hold.reads twin i entry a pattern d mine_at xans in
        let other = those_hold.reads thread i y a pattern d' (record { at = l; has = uhas; did = yd; is = yis }) yans in
        let z : Ready (next_step a) ≡ Ready place = goes_x (Read a pattern) (Some d) xis xans in
        let e : next_step a ≡ place = cc z in
        let up : Before a place = subst (Before a) e (before-next_step a) in
        let j = rank-less places a place (these_listed twin i entry (Read a pattern) mine_at) up in
        ap Some
        (same_read m m' opening opening' these those a pattern d d' mine.0 other.0
        (λ f h g lt. quiet_there m' m opening' opening (flip Soon m m' opening opening' shared) those these those_hold these_hold those_listed these_listed a pattern other.1 (below_now a up) (omega (arith, j, less)) f h g lt)
        (λ f h g lt. quiet_there m m' opening opening' shared these those these_hold those_hold these_listed those_listed a pattern mine.1 (below_now a up) (omega (arith, j, less)) f h g lt))

    wait_same : (a : Place) (wants : Wants) → entry.step.action ≡ Some (wait_for a wants) → y.step.action ≡ Some (wait_for a wants) → (o o' : Option Answer) → entry.answer ≡ o → y.answer ≡ o' → o ≡ o'
    wait_same a wants xis yis None o' xans yans = absurd (let z : Waits a wants.pattern wants.stop ≡ Ready place = goes_x (wait_for a wants) None xis xans in cc)
    wait_same a wants xis yis (Some d) None xans yans = absurd (let z : Waits a wants.pattern wants.stop ≡ Ready r = goes_y (wait_for a wants) None yis yans in cc)
    wait_same a wants xis yis (Some d) (Some d') xans yans = ap Some (mine.1 ∙ ap Found one ∙ sym other.1)
      where
        mine : (e : EventView) × (d ≡ Found e) × IsFirst m opening these a wants e × Clear m opening these e.place
        mine = these_hold.waits twin i entry a wants d (record { at = k; has = thas; did = xd; is = xis }) xans

        other : (e : EventView) × (d' ≡ Found e) × IsFirst m' opening' those a wants e × Clear m' opening' those e.place
        other = those_hold.waits thread i y a wants d' (record { at = l; has = uhas; did = yd; is = yis }) yans

        woke : wake mine.0 a ≡ place
        woke = one_ready (wake mine.0 a) place (sym (after_met a wants mine.0 mine.2.found.matches) ∙ goes_x (wait_for a wants) (Some (Found mine.0)) xis (xans ∙ ap Some mine.1))

        under : Before mine.0.place place
        under = subst (Before mine.0.place) woke (before-wake mine.0 a)

        there : Happened m opening these mine.0 → Clear m' opening' those mine.0.place → Happened m' opening' those mine.0
        there (inl g) clear = inl (shared.given mine.0 (below_now mine.0.place under) g)
        there (inr em) clear =
            let j = rank-less places mine.0.place place (these_listed em.thread em.i em.entry (Emit mine.0) em.acted) under in
            let dd = clear_there m' m opening' opening (flip Soon m m' opening opening' shared) those these those_hold these_hold those_listed these_listed em.acted.at em.i em.thread em.entry mine.0.place em.acted.has em.acted.did
            (acted_at m shared.law em.thread em.i em.entry (Emit mine.0) em.acted.did em.acted.is) clear (below_now mine.0.place under) (omega (arith, j, less)) in
            inr (record { thread = dd.thread; i = em.i; entry = dd.entry; acted = did_act m' m those em.thread em.i em.entry (Emit mine.0) dd em.acted.is })

        back : Happened m' opening' those other.0 → Before other.0.place mine.0.place → Happened m opening these other.0
        back (inl g) lt = inl (shared.given_back other.0 (below_now other.0.place (before-trans other.0.place mine.0.place place lt under)) g)
        back (inr em) lt =
            let up = before-trans other.0.place mine.0.place place lt under in
            let j = rank-less places other.0.place place (those_listed em.thread em.i em.entry (Emit other.0) em.acted) up in
            let dd = clear_there m m' opening opening' shared these those these_hold those_hold these_listed those_listed em.acted.at em.i em.thread em.entry other.0.place em.acted.has em.acted.did
            (acted_at m' shared.law_back em.thread em.i em.entry (Emit other.0) em.acted.did em.acted.is) (clear_below m opening these other.0.place mine.0.place lt mine.3) (below_now other.0.place up) (omega (arith, j, less)) in
            inr (record { thread = dd.thread; i = em.i; entry = dd.entry; acted = did_act m m' these em.thread em.i em.entry (Emit other.0) dd em.acted.is })

        one : mine.0 ≡ other.0
        one = same_wait m m' opening opening' these those a wants mine.0 other.0 mine.2 other.2 other.3 (there mine.2.found.happened) (back other.2.found.happened)

    same_entry : entry ≡ y
    same_entry = let ans = answer in λ j. record { step = step j; answer = ans j }
      where
        by : (act : Option Action) → entry.step.action ≡ act → is_ask act ≡ true → entry.answer ≡ y.answer
        by None e ask = absurd (let n : false ≡ true = ask in cc)
        by (Some (Emit _)) e ask = absurd (let n : false ≡ true = ask in cc)
        by (Some (Rest _ _)) e ask = absurd (let n : false ≡ true = ask in cc)
        by (Some (Spawn _ _)) e ask = absurd (let n : false ≡ true = ask in cc)
        by (Some (End _ _)) e ask = absurd (let n : false ≡ true = ask in cc)
        by (Some (Read a pattern)) e ask = read_same a pattern e (ap (λ s. s.action) (sym step) ∙ e) entry.answer y.answer refl refl
        by (Some (Wait a pattern c)) e ask = wait_same a (record { pattern = pattern; stop = c }) e (ap (λ s. s.action) (sym step) ∙ e) entry.answer y.answer refl refl

        answer : entry.answer ≡ y.answer
        answer =
            elim (shared.law.plain twin i entry xd) [
              | inl ask ↦ by entry.step.action refl ask
              | inr none ↦
                  elim (shared.law_back.plain thread i y yd) [
                    | inl ask ↦ by entry.step.action refl (ap (λ s. is_ask s.action) step ∙ ask)
                    | inr none' ↦ none ∙ sym none'
                  ]
            ]

  overlap_next : (m m' : ThreadMeaning) (opening opening' : Opening) → Shares Soon m m' opening opening' → (these those : List Thread) → IsConsistent m opening these → IsConsistent m' opening' those → Covers m these places → Covers m' those places →
      (k l : ℕ) (twin thread : Thread) → slice_get these k ≡ Some twin → slice_get those l ≡ Some thread → twin.start ≡ thread.start →
      (i : ℕ) (place r : Place) → i ≤ length (trace m twin) → i ≤ length (trace m' thread) → At m twin i place → At m' thread i r → Soon place.time → rank places place < suc n → take i (trace m twin) ≡ take i (trace m' thread)
  overlap_next m m' opening opening' shared these those these_hold those_hold these_listed those_listed k l twin thread thas uhas start zero place r lt lu a b now less = refl
  overlap_next m m' opening opening' shared these those these_hold those_hold these_listed those_listed k l twin thread thas uhas start (suc i) place r lt lu a b now less =
      let entry = entry_at (trace m twin) i (omega arith) in
      let y = entry_at (trace m' thread) i (omega arith) in
      let xa = shared.law.placed twin i entry.0 entry.1 in
      let ya = shared.law_back.placed thread i y.0 y.1 in
      let rise = moved_upto entry.0.step.action xa.0 place (one_up m shared.law twin (sane m opening these these_hold k twin thas) i entry.0 xa.0 place entry.1 xa.1 a) in
      let up = rank-upto places xa.0 place rise in
      let sooner = shared.earlier xa.0.time place.time (upto_time xa.0 place rise) now in
      let before = overlap_next m m' opening opening' shared these those these_hold those_hold these_listed those_listed k l twin thread thas uhas start i xa.0 ya.0 (omega arith) (omega arith) xa.1 ya.1 sooner (omega (arith, up, less)) in
      let step : entry.0.step ≡ y.0.step = step_same Soon m m' opening opening' shared these those these_hold those_hold k l i twin thread entry.0 y.0 xa.0 ya.0 thas uhas start before entry.1 y.1 xa.1 ya.1 sooner in
      let e : entry.0 ≡ y.0 = same_entry m m' opening opening' shared these those these_hold those_hold these_listed those_listed k l twin thread thas uhas i entry.0 y.0 entry.1 y.1 step xa.0 ya.0 place r xa.1 ya.1 a b now less in
      take_one_more (trace m twin) i entry.0 entry.1 ∙ ap (λ wants. wants ++ entry.0 ∷ []) before ∙ ap (λ wants. take i (trace m' thread) ++ wants ∷ []) e
      ∙ sym (take_one_more (trace m' thread) i y.0 y.1)

-- **the agreement of two sets, for all ranks**
pub overlap : (Soon : Fraction → Type 0) (places : List Place) (n : ℕ) → Overlap Soon places n
overlap Soon places zero m m' opening opening' shared these those these_hold those_hold these_listed those_listed k l i t u p r th uh st lt lu a b now less = absurd (omega arith)
overlap Soon places (suc n) m m' opening opening' shared these those these_hold those_hold these_listed those_listed k l i t u p r th uh st lt lu a b now less =
    overlap_next Soon places n (overlap Soon places n) m m' opening opening' shared these those these_hold those_hold these_listed those_listed k l t u th uh st i p r lt lu a b now less
