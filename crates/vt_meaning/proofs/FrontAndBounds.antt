-- What is computed of a store: its events, the first that are wanted, and where each thread goes on. Each is what the relations say.
use Rattle.std.proofs.Common.{◌≡◌, ℕ, ◌+◌, ◌<◌, List, [], ◌∷◌, length, refl, sym, ◌∙◌, ap, inl, inr, ◌⊎◌, arith, Bool, true, false, zero, suc, subst, Option, Some, None, get_or}
use Rattle.std.specs.Prelude.{slice_get, Contains, cond, ◌&&◌}
use Rattle.std.proofs.lemmas.List.Elements.{Contains-append_left, Contains-append_right, Contains-append_cases}
use Rattle.vt_event.specs.Event.{EventView}
use Rattle.vt_event.specs.declared.place.Place.{Place}
use Rattle.vt_run.specs.Standing.{Asks, Asleep, Over, Ready, Stance, Waits}
use Rattle.vt_run.specs.declared.action.Action.{Action}
use Rattle.vt_run.specs.declared.action.Action.TheVariants.{Emit, End, Read, Rest, Spawn, Wait}
use Rattle.vt_meaning.specs.Bounds.{IsBound, IsFront, place_of_front}
use Rattle.vt_meaning.specs.Happenings.{Emitted, Happened, IsFirst}
use Rattle.vt_meaning.specs.LookUps.{first_above, lower, meets_wants}
use Rattle.vt_meaning.specs.NextPlaces.{GoesOn, NoneSooner, IsFinished, place_in, sooner, soonest, woken_at}
use Rattle.vt_meaning.specs.Places.{Before, is_before, Upto}
use Rattle.vt_meaning.specs.Steps.{Due}
use Rattle.vt_meaning.specs.Steps.Due.{ReadDue, StepDue, WaitDue}
use Rattle.vt_meaning.specs.Theorems.{BoundsAreLeast, BoundsAreOne, FrontIsLeast, FrontsAreOne}
use Rattle.vt_meaning.specs.ThreadMeaning.{meets, patterns_of, ThreadMeaning, Wants, with_stop}
use Rattle.vt_meaning.specs.Traces.{Entry, stance_in, Thread, trace, waiting, wake}
use Rattle.vt_meaning.specs.World.{emitted_by, emitted_in, emitted_one, events_of, Opening}
use Rattle.vt_meaning.proofs.Writers.{final_quiet}
use Rattle.vt_meaning.proofs.Order.{before-cases, before-upto, not_both, upto-trans, before_upto, upto_same, is_before-true, true-is_before, before-wake, wake-upto, upto_split}
use Rattle.vt_meaning.proofs.Lists.{none_some}

-- of two places one is not above the other
pub upto_not : (place q : Place) → is_before q place ≡ false → Upto place q
upto_not place q h =
    elim (before-cases place q) [
      | inl lt ↦ before_upto place q lt
      | inr (inl e) ↦ upto_same place q e
      | inr (inr gt) ↦ absurd (let z : true ≡ false = sym (is_before-true q place gt) ∙ h in cc)
    ]

-- the list of the events has what happened, and no more
emitted_in-has : (entries : List Entry) (i : ℕ) (entry : Entry) (event : EventView) → slice_get entries i ≡ Some entry → entry.step.action ≡ Some (Emit event) → Contains (emitted_in entries) event
emitted_in-has [] i entry event d is = absurd (none_some d)
emitted_in-has (y ∷ ys) zero entry event d is =
    let same : y ≡ entry = cc in
    let here : Contains (emitted_one (Some (Emit event))) event = (0, omega arith, refl) in
    Contains-append_left (emitted_one y.step.action) (emitted_in ys) event (subst (λ o. Contains (emitted_one o) event) (sym (ap (λ w. w.step.action) same ∙ is)) here)
emitted_in-has (y ∷ ys) (suc i) entry event d is = Contains-append_right (emitted_one y.step.action) (emitted_in ys) event (emitted_in-has ys i entry event d is)

emitted_by-has : (m : ThreadMeaning) (these : List Thread) (k : ℕ) (thread : Thread) (event : EventView) → slice_get these k ≡ Some thread → Contains (emitted_in (trace m thread)) event → Contains (emitted_by m these) event
emitted_by-has m [] k thread event d h = absurd (none_some d)
emitted_by-has m (u ∷ those) zero thread event d h =
    let same : u ≡ thread = cc in
    Contains-append_left (emitted_in (trace m u)) (emitted_by m those) event (subst (λ w. Contains (emitted_in (trace m w)) event) (sym same) h)
emitted_by-has m (u ∷ those) (suc k) thread event d h = Contains-append_right (emitted_in (trace m u)) (emitted_by m those) event (emitted_by-has m those k thread event d h)

pub listed : (m : ThreadMeaning) (opening : Opening) (these : List Thread) (event : EventView) → Happened m opening these event → Contains (events_of m opening these) event
listed m opening these event (inl g) = Contains-append_left opening.given (emitted_by m these) event g
listed m opening these event (inr h) =
    Contains-append_right opening.given (emitted_by m these) event (emitted_by-has m these h.acted.at h.thread event h.acted.has (emitted_in-has (trace m h.thread) h.i h.entry event h.acted.did h.acted.is))

emitted_one-has : (o : Option Action) (event : EventView) → Contains (emitted_one o) event → o ≡ Some (Emit event)
emitted_one-has None event h = absurd (let z = h.1 in omega arith)
emitted_one-has (Some (Emit f)) event h = one h.0 h.1 h.2
  where
    one : (k : ℕ) → k < 1 → get_or (f ∷ []) k event ≡ event → Some (Emit f) ≡ Some (Emit event)
    one zero lt g = let z : f ≡ event = g in ap (λ w. Some (Emit w)) z
    one (suc k) lt g = absurd (omega arith)
emitted_one-has (Some (Rest p n)) event h = absurd (let z = h.1 in omega arith)
emitted_one-has (Some (Read p q)) event h = absurd (let z = h.1 in omega arith)
emitted_one-has (Some (Wait p q c)) event h = absurd (let z = h.1 in omega arith)
emitted_one-has (Some (Spawn p s)) event h = absurd (let z = h.1 in omega arith)
emitted_one-has (Some (End p reason)) event h = absurd (let z = h.1 in omega arith)

emitted_in-back : (entries : List Entry) (event : EventView) → Contains (emitted_in entries) event → (i : ℕ) × (entry : Entry) × (slice_get entries i ≡ Some entry) × (entry.step.action ≡ Some (Emit event))
emitted_in-back [] event entries = absurd (let z = entries.1 in omega arith)
emitted_in-back (y ∷ ys) event entries =
    elim (Contains-append_cases (emitted_one y.step.action) (emitted_in ys) event entries) [
      | inl l ↦ (0, y, refl, emitted_one-has y.step.action event l)
      | inr r ↦ (let n = emitted_in-back ys event r in (suc n.0, n.1, n.2, n.3))
    ]

emitted_by-back : (m : ThreadMeaning) (these : List Thread) (event : EventView) → Contains (emitted_by m these) event → Emitted m these event
emitted_by-back m [] event h = absurd (let z = h.1 in omega arith)
emitted_by-back m (t ∷ these) event h =
    elim (Contains-append_cases (emitted_in (trace m t)) (emitted_by m these) event h) [
      | inl l ↦
          (let n = emitted_in-back (trace m t) event l in
          record { thread = t; i = n.0; entry = n.1; acted = record { at = 0; has = refl; did = n.2; is = n.3 } })
      | inr r ↦
          (let n = emitted_by-back m these event r in
          record { thread = n.thread; i = n.i; entry = n.entry; acted = record { at = suc n.acted.at; has = n.acted.has; did = n.acted.did; is = n.acted.is } })
    ]

pub unlisted : (m : ThreadMeaning) (opening : Opening) (these : List Thread) (event : EventView) → Contains (events_of m opening these) event → Happened m opening these event
unlisted m opening these event h = elim (Contains-append_cases opening.given (emitted_by m these) event h) [ inl l ↦ inl l | inr r ↦ inr (emitted_by-back m these event r) ]

-- the first event that is wanted
pub record IsLeast (m : ThreadMeaning) (place : Place) (wants : Wants) (es : List EventView) (event : EventView) : Type 0 where
  pub has : Contains es event
  pub matches : meets wants event ≡ true
  pub above : Before place event.place
  pub least : (f : EventView) → Contains es f → meets wants f ≡ true → Before place f.place → Upto event.place f.place

abbrev pub FirstIs : ThreadMeaning → Place → Wants → List EventView → Option EventView → Type 0
FirstIs m p q es None = (event : EventView) → Contains es event → meets q event ≡ true → Before p event.place → ⊥
FirstIs m p q es (Some e) = IsLeast m p q es e

pub both_true : (a b : Bool) → (a && b) ≡ true → (a ≡ true) × (b ≡ true)
both_true true true h = (refl, refl)
both_true true false h = absurd (let z : false ≡ true = h in cc)
both_true false b h = absurd (let z : false ≡ true = h in cc)

pub contains_cons : {A : Type 0} (x : A) (xs : List A) (y : A) → Contains (x ∷ xs) y → (x ≡ y) ⊎ Contains xs y
contains_cons x xs y h = one h.0 h.1 h.2
  where
    one : (k : ℕ) → k < length (x ∷ xs) → get_or (x ∷ xs) k y ≡ y → (x ≡ y) ⊎ Contains xs y
    one zero lt g = inl g
    one (suc k) lt g = inr (k, (omega arith), g)

pub contains_here : {A : Type 0} (x : A) (xs : List A) → Contains (x ∷ xs) x
contains_here x xs = (0, omega arith, refl)

pub contains_there : {A : Type 0} (x : A) (xs : List A) (y : A) → Contains xs y → Contains (x ∷ xs) y
contains_there x xs y h = (suc h.0, (let l = h.1 in omega arith), h.2)

not_here : (m : ThreadMeaning) (place : Place) (wants : Wants) (event : EventView) → (is_before place event.place && meets_wants (patterns_of wants) event) ≡ false → meets wants event ≡ true → Before place event.place → ⊥
unfolding meets
not_here m place wants event c a b =
    let yes : (is_before place event.place && meets_wants (patterns_of wants) event) ≡ true = rw (is_before-true place event.place b, a) refl in
    let n : true ≡ false = sym yes ∙ c in cc

pub first_is : (m : ThreadMeaning) (place : Place) (wants : Wants) (es : List EventView) → FirstIs m place wants es (first_above es place (patterns_of wants))
unfolding meets
first_is m place wants [] = λ f h a b. let z = h.1 in absurd (omega arith)
first_is m place wants (e ∷ es) = go (is_before place e.place && meets_wants (patterns_of wants) e) refl (first_above es place (patterns_of wants)) (first_is m place wants es)
  where
    chosen : (event : EventView) → IsLeast m place wants es event → meets wants e ≡ true → Before place e.place → (d : Bool) → is_before event.place e.place ≡ d → IsLeast m place wants (e ∷ es) (cond d event e)
    chosen event h a b true lt =
        record {
          has = contains_there e es event h.has;
          matches = h.matches;
          above = h.above;
          least =
              λ f k s t.
              elim (contains_cons e es f k)
              [ inl z ↦ before_upto event.place f.place (subst (λ w. Before event.place w.place) z (true-is_before event.place e.place lt)) | inr k' ↦ h.least f k' s t ];
        }
    chosen event h a b false ge =
        record {
          has = contains_here e es;
          matches = a;
          above = b;
          least =
              λ f k s t.
              elim (contains_cons e es f k) [
                | inl z ↦ upto_same e.place f.place (ap (λ w. w.place) z)
                | inr k' ↦ upto-trans e.place event.place f.place (upto_not e.place event.place ge) (h.least f k' s t)
              ];
        }

    go : (c : Bool) → (is_before place e.place && meets_wants (patterns_of wants) e) ≡ c → (r : Option EventView) → FirstIs m place wants es r →
        FirstIs m place wants (e ∷ es) (cond c (Some (lower e r)) r)
    go false c None h =
        λ f k a b.
        elim (contains_cons e es f k)
        [ inl z ↦ not_here m place wants f (subst (λ w. (is_before place w.place && meets_wants (patterns_of wants) w) ≡ false) z c) a b | inr k' ↦ h f k' a b ]
    go false c (Some event) h =
        record {
          has = contains_there e es event h.has;
          matches = h.matches;
          above = h.above;
          least =
              λ f k a b.
              elim (contains_cons e es f k)
              [ inl z ↦ absurd (not_here m place wants f (subst (λ w. (is_before place w.place && meets_wants (patterns_of wants) w) ≡ false) z c) a b) | inr k' ↦ h.least f k' a b ];
        }
    go true c None h =
        let both = both_true (is_before place e.place) (meets_wants (patterns_of wants) e) c in
        record {
          has = contains_here e es;
          matches = both.1;
          above = true-is_before place e.place both.0;
          least =
              λ f k a b.
              elim (contains_cons e es f k)
              [ inl z ↦ upto_same e.place f.place (ap (λ w. w.place) z) | inr k' ↦ absurd (h f k' a b) ];
        }
    go true c (Some event) h =
        let both = both_true (is_before place e.place) (meets_wants (patterns_of wants) e) c in
        chosen event h both.1 (true-is_before place e.place both.0) (is_before event.place e.place) refl

-- the premise of it: one place, one event
abbrev pub IsApart : ThreadMeaning → Opening → List Thread → Type 0
IsApart m opening these = (event f : EventView) → Happened m opening these event → Happened m opening these f → event.place ≡ f.place → event ≡ f

pub first_found : (m : ThreadMeaning) (opening : Opening) (these : List Thread) (place : Place) (wants : Wants) (event : EventView) → IsApart m opening these → IsLeast m place wants (events_of m opening these) event → IsFirst m opening these place wants event
first_found m opening these place wants event apart h =
    record {
      found = record { happened = unlisted m opening these event h.has; matches = h.matches; above = h.above };
      least =
          λ f a.
          elim (upto_split event.place f.place (h.least f (listed m opening these f a.happened) a.matches a.above))
          [ inl z ↦ inl (apart f event a.happened (unlisted m opening these event h.has) (sym z)) | inr lt ↦ inr lt ];
    }

-- a thread goes on at the place that is computed, or nowhere
pub bound_is : (m : ThreadMeaning) (opening : Opening) (these : List Thread) (s : Stance) → IsBound m opening these s (place_in (events_of m opening these) s)
bound_is m opening these (Ready p) = (refl, λ c on. upto_same p c (sym on))
bound_is m opening these (Asks p q) = (refl, λ c on. upto_same p c (sym on))
bound_is m opening these (Asleep n) = λ c on. on
bound_is m opening these Over = λ c on. on
bound_is m opening these (Waits p c d) = go (first_above (events_of m opening these) p (with_stop c d)) (first_is m p q (events_of m opening these))
  where
    q : Wants
    q = record { pattern = c; stop = d }

    go : (r : Option EventView) → FirstIs m p q (events_of m opening these) r → IsBound m opening these (waiting p q) (woken_at p r)
    go None h = λ c on. h on.0 (listed m opening these on.0 on.1.happened) on.1.matches on.1.above
    go (Some e) h = (
      (e, record { happened = unlisted m opening these e h.has; matches = h.matches; above = h.above }, refl),
      λ c on. subst (Upto (wake e p)) (sym on.2) (wake-upto e on.0 p (h.least on.0 (listed m opening these on.0 on.1.happened) on.1.matches on.1.above)),
    )

-- the least place of some threads, by their numbers
SoonestIs : ThreadMeaning → Opening → List Thread → List Thread → Option (ℕ × Place) → ℕ → Type 0
SoonestIs m opening all these None k = (j : ℕ) (thread : Thread) (place : Place) → slice_get these j ≡ Some thread → GoesOn m opening all (stance_in m thread) place → ⊥
SoonestIs m opening all these (Some r) k =
    (j : ℕ) × (thread : Thread) × (r.0 ≡ k + j) × (slice_get these j ≡ Some thread) × (place_in (events_of m opening all) (stance_in m thread) ≡ Some r.1)
    × GoesOn m opening all (stance_in m thread) r.1
    × ((i : ℕ) (twin : Thread) (place : Place) → slice_get these i ≡ Some twin → GoesOn m opening all (stance_in m twin) place → Upto r.1 place)

soonest_is : (m : ThreadMeaning) (opening : Opening) (all these : List Thread) (k : ℕ) → SoonestIs m opening all these (soonest m (events_of m opening all) k these) k
unfolding SoonestIs
soonest_is m opening all [] k = λ j t place e on. none_some e
soonest_is m opening all (t ∷ these) k =
    go (place_in (events_of m opening all) (stance_in m t)) refl (bound_is m opening all (stance_in m t)) (soonest m (events_of m opening all) (k + 1) these) (soonest_is m opening all these (k + 1))
  where
    keep : (r : ℕ × Place) → SoonestIs m opening all these (Some r) (k + 1) → ((place : Place) → GoesOn m opening all (stance_in m t) place → Upto r.1 place) → SoonestIs m opening all (t ∷ these) (Some r) k
    keep r h low = (
      suc h.0,
      h.1,
      (let e = h.2 in omega arith),
      h.3,
      h.4,
      h.5,
      λ i thread place. elim i as (λ n. slice_get (t ∷ these) n ≡ Some thread → GoesOn m opening all (stance_in m thread) place → Upto r.1 place) [
        | zero ↦ λ e on. low place (subst (λ w. GoesOn m opening all (stance_in m w) place) (let z : t ≡ thread = cc e in sym z) on)
        | suc n ↦ λ e on. h.6 n thread place e on
      ],
    )

    mine : (p : Place) → place_in (events_of m opening all) (stance_in m t) ≡ Some p → IsBound m opening all (stance_in m t) (Some p) →
        ((i : ℕ) (thread : Thread) (place : Place) → slice_get these i ≡ Some thread → GoesOn m opening all (stance_in m thread) place → Upto p place) → SoonestIs m opening all (t ∷ these) (Some (k, p)) k
    mine p b h low = (
      0,
      t,
      omega arith,
      refl,
      b,
      h.0,
      λ i thread place. elim i as (λ n. slice_get (t ∷ these) n ≡ Some thread → GoesOn m opening all (stance_in m thread) place → Upto p place) [
        | zero ↦ λ e on. h.1 place (subst (λ w. GoesOn m opening all (stance_in m w) place) (let z : t ≡ thread = cc e in sym z) on)
        | suc n ↦ λ e on. low n thread place e on
      ],
    )

    go : (b : Option Place) → place_in (events_of m opening all) (stance_in m t) ≡ b → IsBound m opening all (stance_in m t) b → (r : Option (ℕ × Place)) → SoonestIs m opening all these r (k + 1) →
        SoonestIs m opening all (t ∷ these) (sooner k b r) k
    go None e h None s =
        λ j t' place. elim j as (λ n. slice_get (t ∷ these) n ≡ Some t' → GoesOn m opening all (stance_in m t') place → ⊥)
        [ zero ↦ λ d on. h place (subst (λ w. GoesOn m opening all (stance_in m w) place) (let z : t ≡ t' = cc d in sym z) on) | suc n ↦ λ d on. s n t' place d on ]
    go None e h (Some r) s = keep r s (λ place on. absurd (h place on))
    go (Some p) e h None s = mine p e h (λ i thread place d on. absurd (s i thread place d on))
    go (Some p) e h (Some r) s = pick (is_before r.1 p) refl
      where
        pick : (d : Bool) → is_before r.1 p ≡ d → SoonestIs m opening all (t ∷ these) (cond d (Some r) (Some (k, p))) k
        pick true lt = keep r s (λ place on. before_upto r.1 place (before-upto r.1 p place (true-is_before r.1 p lt) (h.1 place on)))
        pick false ge = mine p e h (λ i thread place d on. upto-trans p r.1 place (upto_not p r.1 ge) (s.6 i thread place d on))

-- the thread that has it
pub record Acts (m : ThreadMeaning) (opening : Opening) (these : List Thread) (k : ℕ) (place : Place) : Type 0 where
  pub thread : Thread
  pub has : slice_get these k ≡ Some thread
  pub bound : place_in (events_of m opening these) (stance_in m thread) ≡ Some place
  pub on : GoesOn m opening these (stance_in m thread) place
  pub final : NoneSooner m opening these place

pub soonest_some : (m : ThreadMeaning) (opening : Opening) (these : List Thread) (k : ℕ) (place : Place) → soonest m (events_of m opening these) 0 these ≡ Some (k, place) → Acts m opening these k place
unfolding SoonestIs
soonest_some m opening these k place e =
    let h : SoonestIs m opening these these (Some (k, place)) 0 = subst (λ r. SoonestIs m opening these these r 0) e (soonest_is m opening these these 0) in
    let z : h.0 ≡ k = (let q = h.2 in omega arith) in
    record { thread = h.1; has = subst (λ n. slice_get these n ≡ Some h.1) z h.3; bound = h.4; on = h.5; final = h.6 }

pub soonest_none : (m : ThreadMeaning) (opening : Opening) (these : List Thread) → soonest m (events_of m opening these) 0 these ≡ None → IsFinished m opening these
unfolding SoonestIs
soonest_none m opening these e =
    let h : SoonestIs m opening these these None 0 = subst (λ r. SoonestIs m opening these these r 0) e (soonest_is m opening these these 0) in
    λ k t b has on. h k t b has on

-- **the place that is computed is the bound of a thread, and the soonest one the front**
pub bounds_are_least : BoundsAreLeast
bounds_are_least m opening these stance = bound_is m opening these stance

pub front_is_least : FrontIsLeast
front_is_least m opening these = go (soonest m (events_of m opening these) 0 these) refl
  where
    go : (o : Option (ℕ × Place)) → soonest m (events_of m opening these) 0 these ≡ o → IsFront m opening these o
    go None e = soonest_none m opening these e
    go (Some r) e =
        let a = soonest_some m opening these r.0 r.1 e in
        (a.thread, a.has, subst (IsBound m opening these (stance_in m a.thread)) a.bound (bound_is m opening these (stance_in m a.thread)), a.final)

-- two places of which none is above the other are one
one_place : (place q : Place) → Upto place q → Upto q place → place ≡ q
one_place place q low high = elim (upto_split place q low) [ inl same ↦ same | inr lt ↦ absurd (not_both place q lt high) ]

pub bounds_are_one : BoundsAreOne
bounds_are_one m opening these stance = go
  where
    go : (one other : Option Place) → IsBound m opening these stance one → IsBound m opening these stance other → one ≡ other
    go None None h k = refl
    go None (Some b) h k = absurd (h b k.0)
    go (Some a) None h k = absurd (k a h.0)
    go (Some a) (Some b) h k = ap (λ (p : Place). Some p) (one_place a b (h.1 b k.0) (k.1 a h.0))

pub fronts_are_one : FrontsAreOne
fronts_are_one m opening these = go
  where
    go : (one other : Option (ℕ × Place)) → IsFront m opening these one → IsFront m opening these other → place_of_front one ≡ place_of_front other
    go None None h k = refl
    go None (Some b) h k = absurd (h b.0 k.0 b.1 k.1 k.2.0)
    go (Some a) None h k = absurd (k a.0 h.0 a.1 h.1 h.2.0)
    go (Some a) (Some b) h k = ap (λ (p : Place). Some p) (one_place a.1 b.1 (h.3 b.0 k.0 b.1 k.1 k.2.0) (k.3 a.0 h.0 a.1 h.1 h.2.0))

pub first_of_wait : (m : ThreadMeaning) (opening : Opening) (these : List Thread) (place : Place) (wants : Wants) (p : Place) → IsApart m opening these → woken_at place (first_above (events_of m opening these) place (patterns_of wants)) ≡ Some p →
    (event : EventView) × IsFirst m opening these place wants event × (wake event place ≡ p)
first_of_wait m opening these place wants p apart = go (first_above (events_of m opening these) place (patterns_of wants)) (first_is m place wants (events_of m opening these))
  where
    go : (o : Option EventView) → FirstIs m place wants (events_of m opening these) o → woken_at place o ≡ Some p → (event : EventView) × IsFirst m opening these place wants event × (wake event place ≡ p)
    go None h event = absurd (none_some event)
    go (Some f) h event = (f, first_found m opening these place wants f apart h, (let z : Some (wake f place) ≡ Some p = event in cc))

-- **as long as one thread goes on, there is something to do**
pub progress : (m : ThreadMeaning) (opening : Opening) (these : List Thread) → IsApart m opening these → (k : ℕ) (thread : Thread) (place : Place) → slice_get these k ≡ Some thread → GoesOn m opening these (stance_in m thread) place → Due m opening these
progress m opening these apart k thread place has on = go (soonest m (events_of m opening these) 0 these) refl
  where
    due : (j : ℕ) (p : Place) → (a : Acts m opening these j p) → (s : Stance) → stance_in m a.thread ≡ s → Due m opening these
    due j p a (Ready r) e = StepDue j a.thread r a.has e
    due j p a (Asks r q) e =
        let z : p ≡ r = subst (λ s. GoesOn m opening these s p) e a.on in
        ReadDue j a.thread r q a.has e (final_quiet m opening these r q (subst (NoneSooner m opening these) z a.final))
    due j p a (Waits r c d) e =
        let q : Wants = record { pattern = c; stop = d } in
        let w : woken_at r (first_above (events_of m opening these) r (patterns_of q)) ≡ Some p = subst (λ s. place_in (events_of m opening these) s ≡ Some p) e a.bound in
        let f = first_of_wait m opening these r q p apart w in
        WaitDue j a.thread r q f.0 a.has e f.1
        (λ n u c d o. before-upto f.0.place p c (subst (Before f.0.place) f.2 (before-wake f.0 r)) (a.final n u c d o))
    due j p a (Asleep n) e = absurd (subst (λ s. GoesOn m opening these s p) e a.on)
    due j p a Over e = absurd (subst (λ s. GoesOn m opening these s p) e a.on)

    go : (o : Option (ℕ × Place)) → soonest m (events_of m opening these) 0 these ≡ o → Due m opening these
    go None e = absurd (soonest_none m opening these e k thread place has on)
    go (Some r) e = let a = soonest_some m opening these r.0 r.1 e in due r.0 r.1 a (stance_in m a.thread) refl
