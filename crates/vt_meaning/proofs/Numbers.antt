-- The numbers of a store stay below the total of its costs.
use Rattle.std.proofs.Common.{◌≡◌, ℕ, ◌+◌, ◌<◌, ◌≤◌, List, [], ◌∷◌, ◌++◌, length, map, refl, sym, ◌∙◌, ap, inl, inr, arith, Bool, true, false, zero, suc, subst, Option, Some, None, length-append}
use Rattle.std.specs.Prelude.{slice_get, cond, is_some, sum_by, Contains}
use Rattle.std.specs.List.{remove}
use Rattle.std.proofs.lemmas.Option.{slice_get_within, get_or_from_slice_get}
use Rattle.std.proofs.lemmas.List.Sums.{count_by-le-length, sum_by-cons, sum_by-remove}
use Rattle.std.proofs.lemmas.List.Elements.{Contains-append_left, Contains-append_right}
use Rattle.vt_frac.specs.Arithmetic.{sum_of}
use Rattle.vt_frac.specs.Fraction.{Fraction}
use Rattle.vt_ring.specs.Exact.{is_positive}
use Rattle.vt_event.specs.declared.place.Place.{Place}
use Rattle.vt_event.specs.Event.{EventView}
use Rattle.vt_run.specs.declared.action.Action.{Action}
use Rattle.vt_run.specs.declared.action.Action.TheVariants.{Emit, Rest, Read, Wait, Spawn, End}
use Rattle.vt_run.specs.declared.action.Answer.{Answer}
use Rattle.vt_run.specs.declared.action.Answer.TheVariants.{Nothing, Found}
use Rattle.vt_run.specs.declared.start.Start.{Start}
use Rattle.vt_run.specs.Actions.{is_past}
use Rattle.vt_run.specs.Standing.{Ready, Asks, Waits, Asleep, Over, action_place, next_step}
use Rattle.vt_meaning.specs.Consistent.{IsConsistent}
use Rattle.vt_meaning.specs.Bounds.{Clear}
use Rattle.vt_meaning.specs.Happenings.{Emitted, Happened, IsFirst}
use Rattle.vt_meaning.specs.Numbers.{NumbersStayLow, OpensLow, StartsLow}
use Rattle.vt_meaning.specs.Places.{Before, is_before}
use Rattle.vt_meaning.specs.ThreadLaws.{IsLawful, IsLive}
use Rattle.vt_meaning.specs.ThreadMeaning.{ThreadMeaning, Wants}
use Rattle.vt_meaning.specs.Traces.{after_rest, after_step, cost_in, Entry, rested, Thread, trace, wait_for, wake, woken_by}
use Rattle.vt_meaning.specs.World.{Opening, total_of}
use Rattle.vt_meaning.proofs.StepLaws.{acts_lawful, acts_live}
use Rattle.vt_meaning.proofs.Agreement.{goes_by}
use Rattle.vt_meaning.proofs.FinishedAgree.{remove-keeps}
use Rattle.vt_meaning.proofs.Lists.{entry_at, none_some}
use Rattle.vt_meaning.proofs.Order.{before-wake, before_upto}
use Rattle.vt_meaning.proofs.Ranks.{rank, rank-less, rank-upto, all_places, covers, sane, acted_at}
use Rattle.vt_meaning.proofs.FunctionTransitions.{costs_length}
use Rattle.vt_meaning.proofs.KeptByTransitions.{get_of}
use Rattle.vt_meaning.proofs.Traces.{At, at_start, moved_upto, one_ready, one_up}

-- a thread has done no more steps than all threads cost
pub length_total : (m : ThreadMeaning) (live : IsLive m) (these : List Thread) (k : ℕ) (thread : Thread) → slice_get these k ≡ Some thread → length (trace m thread) ≤ total_of m these
unfolding total_of cost_in
length_total m live these k thread has =
    let within = slice_get_within these k thread has in
    let a = sum_by-remove (λ u. sum_by (λ x. x.step.cost) (trace m u)) these k thread within in
    let b = ap (λ u. sum_by (λ x. x.step.cost) (trace m u)) (get_or_from_slice_get these k thread thread has) in
    let c = costs_length (trace m thread) (live.costs thread) in
    omega (arith, a, b, c)

-- an action takes a thread one step further at most
one_step : (u : Fraction) (place p : Place) (act : Option Action) (ans : Option Answer) → ((a : Action) → act ≡ Some a → action_place a ≡ place) → after_step u (Ready place) act ans ≡ Ready p → p.step ≤ place.step + 1
one_step u place p None ans here h = let z = ap (λ w. w.step) (one_ready place p h) in omega (arith, z)
one_step u place p (Some (Emit e)) ans here h =
    let z = ap (λ w. w.step) (one_ready (next_step e.place) p h) in let y = ap (λ w. w.step) (here (Emit e) refl) in omega (arith, z, y)
one_step u place p (Some (Rest c n)) ans here h = rest (is_past u (sum_of c.time n)) h
  where
    rests : (positive : Bool) → (next_step (cond positive (record c { time = sum_of c.time n; micro = 0 }) c)).step ≡ c.step + 1
    rests true = refl
    rests false = refl

    rest : (d : Bool) → after_rest d c n ≡ Ready p → p.step ≤ place.step + 1
    rest false k =
        let z = ap (λ w. w.step) (one_ready (rested c n) p k) in
        let y = ap (λ w. w.step) (here (Rest c n) refl) in
        let x : (rested c n).step ≡ c.step + 1 = rests (is_positive n) in
        omega (arith, z, y, x)
    rest true k = absurd (let z : Asleep (sum_of c.time n) ≡ Ready p = k in cc)
one_step u place p (Some (Read c q)) None here h = absurd (let z : Asks c q ≡ Ready p = h in cc)
one_step u place p (Some (Read c q)) (Some a) here h =
    let z = ap (λ w. w.step) (one_ready (next_step c) p h) in let y = ap (λ w. w.step) (here (Read c q) refl) in omega (arith, z, y)
one_step u place p (Some (Wait c q d)) None here h = absurd (let z : Waits c q d ≡ Ready p = h in cc)
one_step u place p (Some (Wait c q d)) (Some Nothing) here h = absurd (let z : Over ≡ Ready p = h in cc)
one_step u place p (Some (Wait c q d)) (Some (Found e)) here h = wakes (is_some e.path) h
  where
    wakes : (awake : Bool) → woken_by e awake c ≡ Ready p → p.step ≤ place.step + 1
    wakes true k = let z = ap (λ w. w.step) (one_ready (wake e c) p k) in let y = ap (λ w. w.step) (here (Wait c q d) refl) in omega (arith, z, y)
    wakes false k = absurd (let z : Over ≡ Ready p = k in cc)
one_step u place p (Some (Spawn c s)) ans here h =
    let z = ap (λ w. w.step) (one_ready (next_step c) p h) in let y = ap (λ w. w.step) (here (Spawn c s) refl) in omega (arith, z, y)
one_step u place p (Some (End c reason)) ans here h = absurd (let z : Over ≡ Ready p = h in cc)

-- and its micro step is no higher, unless it was woken
low_step : (n : ℕ) (u : Fraction) (place p : Place) (act : Option Action) (ans : Option Answer) → ((a : Action) → act ≡ Some a → action_place a ≡ place) → place.micro ≤ n →
    ((c : Place) (wants : Wants) (event : EventView) → act ≡ Some (wait_for c wants) → ans ≡ Some (Found event) → wake event c ≡ p → event.place.micro + 1 ≤ n) → after_step u (Ready place) act ans ≡ Ready p → p.micro ≤ n
low_step n u place p None ans here le woken h = let z = ap (λ wants. wants.micro) (one_ready place p h) in omega (arith, z, le)
low_step n u place p (Some (Emit event)) ans here le woken h =
    let z = ap (λ wants. wants.micro) (one_ready (next_step event.place) p h) in let y = ap (λ wants. wants.micro) (here (Emit event) refl) in omega (arith, z, y, le)
low_step n u place p (Some (Rest c k)) ans here le woken h = rest (is_past u (sum_of c.time k)) h
  where
    rests : (positive : Bool) → (next_step (cond positive (record c { time = sum_of c.time k; micro = 0 }) c)).micro ≤ c.micro
    rests true = omega arith
    rests false = omega arith

    rest : (d : Bool) → after_rest d c k ≡ Ready p → p.micro ≤ n
    rest false g =
        let z = ap (λ wants. wants.micro) (one_ready (rested c k) p g) in
        let y = ap (λ wants. wants.micro) (here (Rest c k) refl) in
        let x : (rested c k).micro ≤ c.micro = rests (is_positive k) in
        omega (arith, z, y, x, le)
    rest true g = absurd (let z : Asleep (sum_of c.time k) ≡ Ready p = g in cc)
low_step n u place p (Some (Read c q)) None here le woken h = absurd (let z : Asks c q ≡ Ready p = h in cc)
low_step n u place p (Some (Read c q)) (Some a) here le woken h =
    let z = ap (λ wants. wants.micro) (one_ready (next_step c) p h) in let y = ap (λ wants. wants.micro) (here (Read c q) refl) in omega (arith, z, y, le)
low_step n u place p (Some (Wait c q d)) None here le woken h = absurd (let z : Waits c q d ≡ Ready p = h in cc)
low_step n u place p (Some (Wait c q d)) (Some Nothing) here le woken h = absurd (let z : Over ≡ Ready p = h in cc)
low_step n u place p (Some (Wait c q d)) (Some (Found event)) here le woken h = wakes (is_some event.path) h
  where
    wakes : (awake : Bool) → woken_by event awake c ≡ Ready p → p.micro ≤ n
    wakes true k =
        let z = one_ready (wake event c) p k in
        let y = woken c (record { pattern = q; stop = d }) event refl refl z in
        let x = ap (λ wants. wants.micro) z in omega (arith, y, x)
    wakes false k = absurd (let z : Over ≡ Ready p = k in cc)
low_step n u place p (Some (Spawn c s)) ans here le woken h =
    let z = ap (λ wants. wants.micro) (one_ready (next_step c) p h) in let y = ap (λ wants. wants.micro) (here (Spawn c s) refl) in omega (arith, z, y, le)
low_step n u place p (Some (End c reason)) ans here le woken h = absurd (let z : Over ≡ Ready p = h in cc)

-- the places of the events that threads found
abbrev found_one : Option Answer → List Place
found_one None = []
found_one (Some Nothing) = []
found_one (Some (Found e)) = e.place ∷ []

abbrev found_in : List Entry → List Place
found_in [] = []
found_in (x ∷ xs) = found_one x.answer ++ found_in xs

abbrev all_found : ThreadMeaning → List Thread → List Place
all_found m [] = []
all_found m (t ∷ these) = found_in (trace m t) ++ all_found m these

found_in-has : (entries : List Entry) (i : ℕ) (entry : Entry) (event : EventView) → slice_get entries i ≡ Some entry → entry.answer ≡ Some (Found event) → Contains (found_in entries) event.place
found_in-has [] i entry event did ans = absurd (none_some did)
found_in-has (y ∷ ys) zero entry event did ans =
    let same : y ≡ entry = cc in
    let here : Contains (found_one (Some (Found event))) event.place = (0, omega arith, refl) in
    Contains-append_left (found_one y.answer) (found_in ys) event.place (subst (λ o. Contains (found_one o) event.place) (sym (ap (λ w. w.answer) same ∙ ans)) here)
found_in-has (y ∷ ys) (suc i) entry event did ans = Contains-append_right (found_one y.answer) (found_in ys) event.place (found_in-has ys i entry event did ans)

all_found-has : (m : ThreadMeaning) (these : List Thread) (k : ℕ) (thread : Thread) (place : Place) → slice_get these k ≡ Some thread → Contains (found_in (trace m thread)) place → Contains (all_found m these) place
all_found-has m [] k thread place e h = absurd (none_some e)
all_found-has m (u ∷ those) zero thread place e h =
    let same : u ≡ thread = cc in
    Contains-append_left (found_in (trace m u)) (all_found m those) place (subst (λ w. Contains (found_in (trace m w)) place) (sym same) h)
all_found-has m (u ∷ those) (suc k) thread place e h = Contains-append_right (found_in (trace m u)) (all_found m those) place (all_found-has m those k thread place e h)

found_few : (entries : List Entry) → length (found_in entries) ≤ length entries
found_few [] = omega arith
found_few (x ∷ xs) = let a = length-append (found_one x.answer) (found_in xs) in let b = found_few xs in let c = one x.answer in omega (arith, a, b, c)
  where
    one : (o : Option Answer) → length (found_one o) ≤ 1
    one None = omega arith
    one (Some Nothing) = omega arith
    one (Some (Found e)) = omega arith

all_few : (m : ThreadMeaning) (live : IsLive m) (these : List Thread) → length (all_found m these) ≤ total_of m these
unfolding total_of cost_in
all_few m live [] = omega arith
all_few m live (t ∷ these) =
    let a = length-append (found_in (trace m t)) (all_found m these) in
    let b = found_few (trace m t) in
    let c = costs_length (trace m t) (live.costs t) in
    let d = all_few m live these in
    let e = sum_by-cons (λ u. sum_by (λ x. x.step.cost) (trace m u)) t these in
    omega (arith, a, b, c, d, e)

module _ (m : ThreadMeaning) (law : IsLawful m) (live : IsLive m) (opening : Opening) (low : StartsLow m) (opens : OpensLow opening) (these : List Thread) (consistent : IsConsistent m opening these) where
  start_step : (k : ℕ) (thread : Thread) → slice_get these k ≡ Some thread → thread.start.place.step ≤ 1
  start_step k thread has = elim (consistent.rooted k thread has) [ inl o ↦ opens.steps thread.start o | inr s ↦ (low s.thread s.i s.entry s.place thread.start s.acted.did s.acted.is).0 ]

  step_count : (k : ℕ) (thread : Thread) → slice_get these k ≡ Some thread → (i : ℕ) (place : Place) → i ≤ length (trace m thread) → At m thread i place → place.step ≤ 1 + i
  step_count k thread has zero place le at =
      let z : Ready thread.start.place ≡ Ready place = sym (at_start m thread) ∙ at in
      let event = ap (λ w. w.step) (one_ready thread.start.place place z) in let s = start_step k thread has in omega (arith, event, s)
  step_count k thread has (suc i) place le at =
      let x = entry_at (trace m thread) i (omega arith) in
      let here = law.placed thread i x.0 x.1 in
      let before = step_count k thread has i here.0 (omega arith) here.1 in
      let one = one_step m.until here.0 place x.0.step.action x.0.answer here.2 (goes_by m thread i x.0 here.0 place x.1 here.1 at) in
      omega (arith, before, one)

  abbrev found : List Place
  found = all_found m these

  module _ (n : ℕ) (ih : (k i : ℕ) (thread : Thread) (r : Place) → slice_get these k ≡ Some thread → i ≤ length (trace m thread) → At m thread i r → rank (all_places m these) r < n → r.micro ≤ rank found r) where
    event_low : (event : EventView) → Happened m opening these event → rank (all_places m these) event.place < n → event.place.micro ≤ rank found event.place
    event_low event (inl g) less = let z = opens.given event g in omega (arith, z)
    event_low event (inr em) less =
        let d = slice_get_within (trace m em.thread) em.i em.entry em.acted.did in
        ih em.acted.at em.i em.thread event.place em.acted.has (omega (arith, d)) (acted_at m law em.thread em.i em.entry (Emit event) em.acted.did em.acted.is) less

    start_low : (k : ℕ) (thread : Thread) → slice_get these k ≡ Some thread → rank (all_places m these) thread.start.place < suc n → thread.start.place.micro ≤ rank found thread.start.place
    start_low k thread has less =
        elim (consistent.rooted k thread has) [
          | inl o ↦ (let z = opens.micros thread.start o in omega (arith, z))
          | inr s ↦
              (let lt : Before s.place thread.start.place = law.later s.thread s.i s.entry s.place thread.start s.acted.did s.acted.is in
              let j = rank-less (all_places m these) s.place thread.start.place (covers m these s.thread s.i s.entry (Spawn s.place thread.start) s.acted) lt in
              let d = slice_get_within (trace m s.thread) s.i s.entry s.acted.did in
              let below = ih s.acted.at s.i s.thread s.place s.acted.has (omega (arith, d)) (acted_at m law s.thread s.i s.entry (Spawn s.place thread.start) s.acted.did s.acted.is) (omega (arith, j, less)) in
              let more = rank-upto found s.place thread.start.place (before_upto s.place thread.start.place lt) in
              let z = (low s.thread s.i s.entry s.place thread.start s.acted.did s.acted.is).1 in
              omega (arith, below, more, z))
        ]

    step_low : (k : ℕ) (thread : Thread) → slice_get these k ≡ Some thread → (i : ℕ) (r : Place) → i ≤ length (trace m thread) → At m thread i r → rank (all_places m these) r < suc n → r.micro ≤ rank found r
    step_low k thread has zero r le at less =
        let z : Ready thread.start.place ≡ Ready r = sym (at_start m thread) ∙ at in
        let event = one_ready thread.start.place r z in
        subst (λ place. place.micro ≤ rank found place) event (start_low k thread has (subst (λ place. rank (all_places m these) place < suc n) (sym event) less))
    step_low k thread has (suc i) r le at less =
        let x = entry_at (trace m thread) i (omega arith) in
        let here = law.placed thread i x.0 x.1 in
        let rise = moved_upto x.0.step.action here.0 r (one_up m law thread (sane m opening these consistent k thread has) i x.0 here.0 r x.1 here.1 at) in
        let up = rank-upto (all_places m these) here.0 r rise in
        let before = step_low k thread has i here.0 (omega arith) here.1 (omega (arith, up, less)) in
        let more = rank-upto found here.0 r rise in
        low_step (rank found r) m.until here.0 r x.0.step.action x.0.answer here.2 (omega (arith, before, more))
        (λ c wants event is ans wk. woken c wants event (consistent.waits thread i x.0 c wants (Found event) (record { at = k; has = has; did = x.1; is = is }) ans) wk (all_found-has m these k thread event.place has (found_in-has (trace m thread) i x.0 event x.1 ans)))
        (goes_by m thread i x.0 here.0 r x.1 here.1 at)
      where
        woken : (c : Place) (wants : Wants) (event : EventView) → (g : EventView) × (Found event ≡ Found g) × IsFirst m opening these c wants g × Clear m opening these g.place → wake event c ≡ r → Contains found event.place → event.place.micro + 1 ≤ rank found r
        woken c wants event a wk there =
            let same : a.0 ≡ event = cc in
            let happened = subst (λ g. Happened m opening these g) same a.2.found.happened in
            let lt = subst (Before event.place) wk (before-wake event c) in
            let more = rank-less found event.place r there lt in
            let below = event_before happened (λ em. rank-less (all_places m these) event.place r (covers m these em.thread em.i em.entry (Emit event) em.acted) lt) in
            omega (arith, more, below)
          where
            event_before : Happened m opening these event → ((em : Emitted m these event) → rank (all_places m these) event.place < rank (all_places m these) r) → event.place.micro ≤ rank found event.place
            event_before (inl g) ranks = let z = opens.given event g in omega (arith, z)
            event_before (inr em) ranks = let j = ranks em in event_low event (inr em) (omega (arith, j, less))

  low_upto : (n k i : ℕ) (thread : Thread) (r : Place) → slice_get these k ≡ Some thread → i ≤ length (trace m thread) → At m thread i r → rank (all_places m these) r < n → r.micro ≤ rank found r
  low_upto zero k i thread r has le at less = absurd (omega arith)
  low_upto (suc n) k i thread r has le at less = step_low n (λ k' i' t' r' h l a s. low_upto n k' i' t' r' h l a s) k thread has i r le at less

  micro_low : (r : Place) → r.micro ≤ rank found r → r.micro ≤ total_of m these
  unfolding rank
  micro_low r le = let a = count_by-le-length (λ q. is_before q r) found in let b = all_few m live these in omega (arith, le, a, b)

  -- **numbers stay low**
  low_place : (k i : ℕ) (thread : Thread) (r : Place) → slice_get these k ≡ Some thread → i ≤ length (trace m thread) → At m thread i r → r.micro ≤ total_of m these
  low_place k i thread r has le at = micro_low r (low_upto (suc (rank (all_places m these) r)) k i thread r has le at (omega arith))

  low_event : (event : EventView) → Happened m opening these event → event.place.micro ≤ total_of m these
  low_event event h =
      micro_low event.place
      (event_low (suc (rank (all_places m these) event.place)) (λ k i thread r has le at less. low_upto (suc (rank (all_places m these) event.place)) k i thread r has le at less) event h (omega arith))

-- ---- records

-- a list without one of its items
shorter : {A : Type 0} (ys : List A) (j : ℕ) (y : A) → slice_get ys j ≡ Some y → length ys ≡ suc (length (remove ys j))
shorter [] j y h = absurd (none_some h)
shorter (x ∷ xs) zero y h = refl
shorter (x ∷ xs) (suc j) y h = ap suc (shorter xs j y h)

-- items that differ and all stand in another list are no more than that has
few : {A : Type 0} (xs ys : List A) → ((k l : ℕ) (x : A) → slice_get xs k ≡ Some x → slice_get xs l ≡ Some x → k ≡ l) →
    ((k : ℕ) (x : A) → slice_get xs k ≡ Some x → (j : ℕ) × (slice_get ys j ≡ Some x)) → length xs ≤ length ys
few [] ys apart there = omega arith
few (x ∷ xs) ys apart there =
    let c = there 0 x refl in
    let rest = few xs (remove ys c.0)
    (λ k l y h g. let z = apart (suc k) (suc l) y h g in omega (arith, z))
    (λ k y h.
    let d = there (suc k) y h in
    let ne : d.0 ≡ c.0 → ⊥ = (λ e.
    let same : x ≡ y = (let z : Some x ≡ Some y = sym c.1 ∙ ap (slice_get ys) (sym e) ∙ d.1 in cc) in
    let n = apart (suc k) 0 y h (ap Some same) in omega (arith, n)) in
    remove-keeps ys c.0 d.0 y d.1 ne) in
    let one = shorter ys c.0 x c.1 in
    omega (arith, rest, one)

lists_of : List Thread → List (List ℕ)
lists_of these = map (λ t. t.start.place.thread) these

-- the lists of the threads that steps start
abbrev spawned_one : Option Action → List (List ℕ)
spawned_one (Some (Spawn p s)) = s.place.thread ∷ []
spawned_one _ = []

abbrev spawned_in : List Entry → List (List ℕ)
spawned_in [] = []
spawned_in (x ∷ xs) = spawned_one x.step.action ++ spawned_in xs

abbrev all_spawned : ThreadMeaning → List Thread → List (List ℕ)
all_spawned m [] = []
all_spawned m (t ∷ these) = spawned_in (trace m t) ++ all_spawned m these

spawned_few : (entries : List Entry) → length (spawned_in entries) ≤ length entries
spawned_few [] = omega arith
spawned_few (x ∷ xs) = let a = length-append (spawned_one x.step.action) (spawned_in xs) in let b = spawned_few xs in let c = one x.step.action in omega (arith, a, b, c)
  where
    one : (o : Option Action) → length (spawned_one o) ≤ 1
    one None = omega arith
    one (Some (Emit e)) = omega arith
    one (Some (Rest p n)) = omega arith
    one (Some (Read p q)) = omega arith
    one (Some (Wait p q c)) = omega arith
    one (Some (Spawn p s)) = omega arith
    one (Some (End p reason)) = omega arith

all_spawned_few : (m : ThreadMeaning) (live : IsLive m) (these : List Thread) → length (all_spawned m these) ≤ total_of m these
unfolding total_of cost_in
all_spawned_few m live [] = omega arith
all_spawned_few m live (t ∷ these) =
    let a = length-append (spawned_in (trace m t)) (all_spawned m these) in
    let b = spawned_few (trace m t) in
    let c = costs_length (trace m t) (live.costs t) in
    let d = all_spawned_few m live these in
    let e = sum_by-cons (λ u. sum_by (λ x. x.step.cost) (trace m u)) t these in
    omega (arith, a, b, c, d, e)

spawned_in-has : (entries : List Entry) (i : ℕ) (entry : Entry) (place : Place) (start : Start) → slice_get entries i ≡ Some entry → entry.step.action ≡ Some (Spawn place start) → Contains (spawned_in entries) start.place.thread
spawned_in-has [] i entry place start did is = absurd (none_some did)
spawned_in-has (y ∷ ys) zero entry place start did is =
    let same : y ≡ entry = cc in
    let here : Contains (spawned_one (Some (Spawn place start))) start.place.thread = (0, omega arith, refl) in
    Contains-append_left (spawned_one y.step.action) (spawned_in ys) start.place.thread (subst (λ o. Contains (spawned_one o) start.place.thread) (sym (ap (λ w. w.step.action) same ∙ is)) here)
spawned_in-has (y ∷ ys) (suc i) entry place start did is = Contains-append_right (spawned_one y.step.action) (spawned_in ys) start.place.thread (spawned_in-has ys i entry place start did is)

all_spawned-has : (m : ThreadMeaning) (these : List Thread) (k : ℕ) (thread : Thread) (l : List ℕ) → slice_get these k ≡ Some thread → Contains (spawned_in (trace m thread)) l → Contains (all_spawned m these) l
all_spawned-has m [] k thread l e h = absurd (none_some e)
all_spawned-has m (u ∷ those) zero thread l e h =
    let same : u ≡ thread = cc in
    Contains-append_left (spawned_in (trace m u)) (all_spawned m those) l (subst (λ w. Contains (spawned_in (trace m w)) l) (sym same) h)
all_spawned-has m (u ∷ those) (suc k) thread l e h = Contains-append_right (spawned_in (trace m u)) (all_spawned m those) l (all_spawned-has m those k thread l e h)

named : {A : Type 0} (f : A → List ℕ) (xs : List A) (k : ℕ) (l : List ℕ) → slice_get (map f xs) k ≡ Some l → (x : A) × (slice_get xs k ≡ Some x) × (f x ≡ l)
named f [] k l h = absurd (none_some h)
named f (x ∷ xs) zero l h = (x, refl, (let z : Some (f x) ≡ Some l = h in cc))
named f (x ∷ xs) (suc k) l h = named f xs k l h

names : {A : Type 0} (f : A → List ℕ) (xs : List A) (k : ℕ) (x : A) → slice_get xs k ≡ Some x → Contains (map f xs) (f x)
names f [] k x h = absurd (none_some h)
names f (y ∷ ys) zero x h = let same : y ≡ x = cc in subst (λ w. Contains (map f (y ∷ ys)) (f w)) same (0, omega arith, refl)
names f (y ∷ ys) (suc k) x h = let r = names f ys k x h in (suc r.0, (let l = r.1 in omega (arith, l)), r.2)

length-names : {A : Type 0} (f : A → List ℕ) (xs : List A) → length (map f xs) ≡ length xs
length-names f [] = refl
length-names f (x ∷ xs) = ap suc (length-names f xs)

records_low : (m : ThreadMeaning) (live : IsLive m) (opening : Opening) (these : List Thread) → IsConsistent m opening these → length these ≤ length opening.starts + total_of m these
unfolding lists_of
records_low m live opening these consistent =
    let roots : List (List ℕ) = map (λ s. s.place.thread) opening.starts in
    let all = few (lists_of these) (roots ++ all_spawned m these)
    (λ k l x h g.
    let a = named (λ t. t.start.place.thread) these k x h in
    let b = named (λ t. t.start.place.thread) these l x g in
    consistent.apart k l a.0 b.0 a.1 b.1 (a.2 ∙ sym b.2))
    (λ k x h.
    let a = named (λ t. t.start.place.thread) these k x h in
    let c : Contains (roots ++ all_spawned m these) a.0.start.place.thread =
    elim (consistent.rooted k a.0 a.1) [
      | inl o ↦ Contains-append_left roots (all_spawned m these) a.0.start.place.thread (names (λ s. s.place.thread) opening.starts o.0 a.0.start (get_of opening.starts a.0.start o))
      | inr s ↦ Contains-append_right roots (all_spawned m these) a.0.start.place.thread (all_spawned-has m these s.acted.at s.thread a.0.start.place.thread s.acted.has (spawned_in-has (trace m s.thread) s.i s.entry s.place a.0.start s.acted.did s.acted.is))
    ] in
    (c.0, subst (λ l. slice_get (roots ++ all_spawned m these) c.0 ≡ Some l) a.2 (get_of (roots ++ all_spawned m these) a.0.start.place.thread c))) in
    let b = length-append roots (all_spawned m these) in
    let c = length-names (λ s. s.place.thread) opening.starts in
    let d = length-names (λ t. t.start.place.thread) these in
    let e = all_spawned_few m live these in
    omega (arith, all, b, c, d, e)

pub numbers_stay_low : NumbersStayLow
numbers_stay_low m opening s low opens these consistent =
    let law = acts_lawful m s.acts in
    let live = acts_live m s.acts.acts in
    record {
      done = λ k t has. let a = length_total m live these k t has in let b = (consistent.exact k t has).done in omega (arith, a, b);
      steps = λ k i t p has le at. let a = length_total m live these k t has in let b = step_count m law live opening low opens these consistent k t has i p le at in omega (arith, a, b, le);
      micros = λ k i t p has le at. low_place m law live opening low opens these consistent k i t p has le at;
      events = λ e h. low_event m law live opening low opens these consistent e h;
      records = records_low m live opening these consistent;
    }
