-- The meaning as a function and as a relation are one: each transition of the function is one of the relation, and it has transitions enough.
use Rattle.std.proofs.Common.{◌≡◌, ℕ, ◌+◌, ◌*◌, ◌<◌, ◌≤◌, List, [], ◌∷◌, ◌++◌, length, refl, sym, ◌∙◌, ap, inl, inr, arith, Bool, true, false, zero, suc, subst, Option, Some, None, length-append}
use Rattle.std.specs.Prelude.{slice_get, slice_set, Contains, cond, ◌&&◌, sum_by, nat_lt}
use Rattle.std.proofs.lemmas.Bool.Decides.{nat_tests}
use Rattle.std.proofs.lemmas.Option.{slice_get_within, get_or_from_slice_get}
use Rattle.std.proofs.lemmas.List.Sums.{sum_by-set, sum_by-append, sum_by-cons, count_by-le-length}
use Rattle.vt_event.specs.Event.{EventView}
use Rattle.vt_event.specs.declared.place.Place.{Place}
use Rattle.vt_path.specs.declared.pattern.Segment.{Segment}
use Rattle.vt_run.specs.Standing.{Asks, Asleep, Over, Ready, Stance, Waits}
use Rattle.vt_run.specs.declared.action.Action.{Action}
use Rattle.vt_run.specs.declared.action.Action.TheVariants.{Emit, End, Read, Rest, Spawn, Wait}
use Rattle.vt_run.specs.declared.action.Answer.TheVariants.{Found}
use Rattle.vt_meaning.specs.Consistent.{has_answer, IsConsistent, IsExact}
use Rattle.vt_meaning.specs.Happenings.{IsLast}
use Rattle.vt_meaning.specs.LookUps.{answer_of, first_above, higher, last_below, matches_event}
use Rattle.vt_meaning.specs.Meaning.{goes_on, transitions}
use Rattle.vt_meaning.specs.Meaning.Ending.{OverBudget}
use Rattle.vt_meaning.specs.Means.{Means, Transition}
use Rattle.vt_meaning.specs.Means.Means.{ends, goes, spends}
use Rattle.vt_meaning.specs.Means.Transition.{Reads, Steps, Wakes}
use Rattle.vt_meaning.specs.NextPlaces.{GoesOn, NoneSooner, place_in, soonest, woken_at}
use Rattle.vt_meaning.specs.Places.{Before, is_before, Upto}
use Rattle.vt_meaning.specs.Reach.{IsKnown}
use Rattle.vt_meaning.specs.Steps.{more}
use Rattle.vt_meaning.specs.ThreadLaws.{IsGivenApart, IsLawful, IsLive, IsOrderly}
use Rattle.vt_meaning.specs.ThreadMeaning.{patterns_of, ThreadMeaning, Wants}
use Rattle.vt_meaning.specs.Traces.{cost_in, Entry, stance_in, Thread, trace, waiting, wake}
use Rattle.vt_meaning.specs.Transitions.{action_at, transition_by, transition_of, woken_in}
use Rattle.vt_meaning.specs.World.{events_of, moved_on, one_more, Opening, started_by, told, total_of}
use Rattle.vt_meaning.proofs.Order.{upto-trans, before_upto, upto_same, is_before-true, true-is_before, upto_split}
use Rattle.vt_meaning.proofs.FrontAndBounds.{IsApart, listed, unlisted, Acts, soonest_some, soonest_none, upto_not, both_true, contains_cons, contains_here, contains_there, FirstIs, first_is, first_found}
use Rattle.vt_meaning.proofs.EventPlaces.{apart}
use Rattle.vt_meaning.proofs.KeptByTransitions.{transition_kept}
use Rattle.vt_meaning.proofs.Lists.{none_some}

-- what a look-up below a place answers
abbrev pub LastIs : Place → List Segment → List EventView → Option EventView → Type 0
LastIs p q es None = (event : EventView) → Contains es event → matches_event q event ≡ true → Before event.place p → ⊥
LastIs p q es (Some e) =
    Contains es e × (matches_event q e ≡ true) × Before e.place p
    × ((event : EventView) → Contains es event → matches_event q event ≡ true → Before event.place p → Upto event.place e.place)

not_here : (place : Place) (pattern : List Segment) (event : EventView) → (is_before event.place place && matches_event pattern event) ≡ false → matches_event pattern event ≡ true → Before event.place place → ⊥
not_here place pattern event c a b =
    let yes : (is_before event.place place && matches_event pattern event) ≡ true = rw (is_before-true event.place place b, a) refl in
    let n : true ≡ false = sym yes ∙ c in cc

pub last_is : (place : Place) (pattern : List Segment) (es : List EventView) → LastIs place pattern es (last_below es place pattern)
last_is place pattern [] = λ f h a b. let z = h.1 in absurd (omega arith)
last_is place pattern (e ∷ es) = go (is_before e.place place && matches_event pattern e) refl (last_below es place pattern) (last_is place pattern es)
  where
    chosen : (event : EventView) → LastIs place pattern es (Some event) → matches_event pattern e ≡ true → Before e.place place → (d : Bool) → is_before e.place event.place ≡ d → LastIs place pattern (e ∷ es) (Some (cond d event e))
    chosen event h a b true lt = (
      contains_there e es event h.0,
      h.1,
      h.2,
      λ f k s t.
          elim (contains_cons e es f k)
          [ inl z ↦ before_upto f.place event.place (subst (λ w. Before w.place event.place) z (true-is_before e.place event.place lt)) | inr k' ↦ h.3 f k' s t ],
    )
    chosen event h a b false ge = (
      contains_here e es,
      a,
      b,
      λ f k s t.
          elim (contains_cons e es f k) [
            | inl z ↦ upto_same f.place e.place (ap (λ w. w.place) (sym z))
            | inr k' ↦ upto-trans f.place event.place e.place (h.3 f k' s t) (upto_not event.place e.place ge)
          ],
    )

    go : (c : Bool) → (is_before e.place place && matches_event pattern e) ≡ c → (r : Option EventView) → LastIs place pattern es r → LastIs place pattern (e ∷ es) (cond c (Some (higher e r)) r)
    go false c None h =
        λ f k a b.
        elim (contains_cons e es f k)
        [ inl z ↦ not_here place pattern f (subst (λ w. (is_before w.place place && matches_event pattern w) ≡ false) z c) a b | inr k' ↦ h f k' a b ]
    go false c (Some event) h = (
      contains_there e es event h.0,
      h.1,
      h.2,
      λ f k a b.
          elim (contains_cons e es f k)
          [ inl z ↦ absurd (not_here place pattern f (subst (λ w. (is_before w.place place && matches_event pattern w) ≡ false) z c) a b) | inr k' ↦ h.3 f k' a b ],
    )
    go true c None h =
        let both = both_true (is_before e.place place) (matches_event pattern e) c in (
          contains_here e es,
          both.1,
          true-is_before e.place place both.0,
          λ f k a b.
              elim (contains_cons e es f k) [ inl z ↦ upto_same f.place e.place (ap (λ w. w.place) (sym z)) | inr k' ↦ absurd (h f k' a b) ],
        )
    go true c (Some event) h =
        let both = both_true (is_before e.place place) (matches_event pattern e) c in
        chosen event h both.1 (true-is_before e.place place both.0) (is_before e.place event.place) refl

pub last_found : (m : ThreadMeaning) (opening : Opening) (these : List Thread) (place : Place) (pattern : List Segment) → IsApart m opening these → (a : Option EventView) → LastIs place pattern (events_of m opening these) a → IsLast m opening these place pattern (answer_of a)
last_found m opening these place pattern far None h = λ f g. h f (listed m opening these f g.happened) g.matches g.below
last_found m opening these place pattern far (Some e) h = (
  record { happened = unlisted m opening these e h.0; matches = h.1; below = h.2 },
  λ f g.
      elim (upto_split f.place e.place (h.3 f (listed m opening these f g.happened) g.matches g.below))
      [ inl z ↦ inl (far f e g.happened (unlisted m opening these e h.0) z) | inr lt ↦ inr lt ],
)

action_at-last : (entries : List Entry) (entry : Entry) → action_at (entries ++ entry ∷ []) (length entries) ≡ entry.step.action
action_at-last [] entry = refl
action_at-last (y ∷ entries) entry = action_at-last entries entry

-- a transition that is computed is a transition
pub transition_is : (m : ThreadMeaning) (live : IsLive m) (opening : Opening) (these : List Thread) → IsConsistent m opening these → IsApart m opening these → (k : ℕ) (place : Place) → Acts m opening these k place →
    Transition m opening these (transition_of m opening these k (slice_get these k))
transition_is m live opening these consistent far k place a = subst (λ o. Transition m opening these (transition_of m opening these k o)) (sym a.has) (go (stance_in m a.thread) refl)
  where
    waits : (r : Place) (q : Wants) → stance_in m a.thread ≡ waiting r q → (o : Option EventView) → FirstIs m r q (events_of m opening these) o → woken_at r o ≡ Some place → Transition m opening these (woken_in these k a.thread o)
    waits r q e None h w = absurd (none_some w)
    waits r q e (Some f) h w =
        let z : wake f r ≡ place = cc w in
        Wakes k a.thread r q f a.has e (first_found m opening these r q f far h) (subst (NoneSooner m opening these) (sym z) a.final)

    go : (s : Stance) → stance_in m a.thread ≡ s → Transition m opening these (transition_by m opening these k a.thread s)
    go (Ready r) e =
        let z : place ≡ r = subst (λ s. GoesOn m opening these s place) e a.on in
        let g = live.grows a.thread r (consistent.exact k a.thread a.has) e in
        let x : action_at (trace m (one_more a.thread)) (length (trace m a.thread)) ≡ g.0.step.action =
        ap (λ l. action_at l (length (trace m a.thread))) g.1 ∙ action_at-last (trace m a.thread) g.0 in
        subst (λ o. Transition m opening these (moved_on these k (one_more a.thread) o)) (sym x)
        (Steps k a.thread r g.0 a.has e (subst (NoneSooner m opening these) z a.final) g.1)
    go (Asks r q) e =
        let z : place ≡ r = subst (λ s. GoesOn m opening these s place) e a.on in
        Reads k a.thread r q (answer_of (last_below (events_of m opening these) r q)) a.has e (subst (NoneSooner m opening these) z a.final)
        (last_found m opening these r q far (last_below (events_of m opening these) r q) (last_is r q (events_of m opening these)))
    go (Waits r c d) e =
        let q : Wants = record { pattern = c; stop = d } in
        waits r q e (first_above (events_of m opening these) r (patterns_of q)) (first_is m r q (events_of m opening these)) (subst (λ s. place_in (events_of m opening these) s ≡ Some place) e a.bound)
    go (Asleep n) e = absurd (subst (λ s. GoesOn m opening these s place) e a.on)
    go Over e = absurd (subst (λ s. GoesOn m opening these s place) e a.on)

-- how many steps were done and told
abbrev pub weight : Thread → ℕ
weight t = t.done + length t.answers

pub weigh : List Thread → ℕ
weigh these = sum_by weight these

weigh_children : (act : Option Action) → sum_by weight (started_by act) ≡ 0
weigh_children None = refl
weigh_children (Some (Emit _)) = refl
weigh_children (Some (Rest _ _)) = refl
weigh_children (Some (Read _ _)) = refl
weigh_children (Some (Wait _ _ _)) = refl
weigh_children (Some (End _ _)) = refl
weigh_children (Some (Spawn p s)) = refl

pub weigh_moved : (these : List Thread) (k : ℕ) (thread t' : Thread) (act : Option Action) → slice_get these k ≡ Some thread → weight t' ≡ weight thread + 1 → weigh (moved_on these k t' act) ≡ weigh these + 1
unfolding weigh
weigh_moved these k thread t' act has more =
    let a = sum_by-append weight (slice_set these k t') (started_by act) in
    let b = weigh_children act in
    let c = sum_by-set weight these k t' thread (slice_get_within these k thread has) in
    let d = ap weight (get_or_from_slice_get these k thread thread has) in
    omega (arith, a, b, c, d, more)

transition_weighs : (m : ThreadMeaning) (opening : Opening) (these those : List Thread) → Transition m opening these those → weigh those ≡ weigh these + 1
transition_weighs m opening these those (Steps i t p x has e final grown) = weigh_moved these i t (one_more t) x.step.action has (omega arith)
transition_weighs m opening these those (Reads i t p q a has e final last) =
    weigh_moved these i t (told a t) None has (let l = length-append t.answers (a ∷ []) in omega (arith, l))
transition_weighs m opening these those (Wakes i t p q e has s first final) =
    weigh_moved these i t (told (Found e) t) None has (let l = length-append t.answers (Found e ∷ []) in omega (arith, l))

pub costs_length : (entries : List Entry) → ((i : ℕ) (entry : Entry) → slice_get entries i ≡ Some entry → 1 ≤ entry.step.cost) → length entries ≤ sum_by (λ entry. entry.step.cost) entries
costs_length [] c = omega arith
costs_length (entry ∷ entries) c =
    let a = costs_length entries (λ i y d. c (suc i) y d) in
    let b = sum_by-cons (λ y. y.step.cost) entry entries in
    let d = c 0 entry refl in
    omega (arith, a, b, d)

weight_cost : (m : ThreadMeaning) (live : IsLive m) (thread : Thread) → IsExact m thread → weight thread ≤ 2 * cost_in m thread
unfolding cost_in
weight_cost m live thread e =
    let a = costs_length (trace m thread) (live.costs thread) in
    let b = count_by-le-length has_answer (trace m thread) in
    let c = e.done in
    let d = e.used in
    omega (arith, a, b, c, d)

pub weigh_total : (m : ThreadMeaning) (live : IsLive m) (these : List Thread) → ((k : ℕ) (thread : Thread) → slice_get these k ≡ Some thread → IsExact m thread) → weigh these ≤ 2 * total_of m these
unfolding weigh total_of
weigh_total m live [] ex = omega arith
weigh_total m live (thread ∷ these) ex =
    let a = weigh_total m live these (λ k u h. ex (suc k) u h) in
    let b = weight_cost m live thread (ex 0 thread refl) in
    let c = sum_by-cons weight thread these in
    let d = sum_by-cons (cost_in m) thread these in
    omega (arith, a, b, c, d)

pub over : {a b : ℕ} → nat_lt a b ≡ true → a < b
over {a} {b} e = grind (arith, nat_tests)

pub not_over : {a b : ℕ} → nat_lt a b ≡ false → b ≤ a
not_over {a} {b} e = grind (arith, nat_tests)

-- **with transitions enough the function ends as the relation does**
pub transitions_mean : (m : ThreadMeaning) (law : IsLawful m) (live : IsLive m) (opening : Opening) (knowns : IsKnown m opening) → IsOrderly opening → IsGivenApart opening → (n : ℕ) (these : List Thread) → IsConsistent m opening these →
    2 * opening.budget + 2 ≤ n + weigh these → Means m opening these (transitions m opening n these)
transitions_mean m law live opening knowns ok given zero these consistent enough =
    spends these (let w = weigh_total m live these consistent.exact in omega (arith, w))
transitions_mean m law live opening knowns ok given (suc n) these consistent enough =
    test (λ those those_hold w. transitions_mean m law live opening knowns ok given n those those_hold w) (nat_lt opening.budget (total_of m these)) refl
  where
    far : IsApart m opening these
    far = apart m law live opening knowns ok given these consistent

    next : ((those : List Thread) → IsConsistent m opening those → 2 * opening.budget + 2 ≤ n + weigh those → Means m opening those (transitions m opening n those)) →
        total_of m these ≤ opening.budget → (o : Option (ℕ × Place)) → soonest m (events_of m opening these) 0 these ≡ o → Means m opening these (goes_on (transitions m opening n) m opening these o)
    next rest le None e = ends these le (soonest_none m opening these e)
    next rest le (Some r) e =
        let a = soonest_some m opening these r.0 r.1 e in
        let t = transition_is m live opening these consistent far r.0 r.1 a in
        let those = transition_of m opening these r.0 (slice_get these r.0) in
        goes these those (transitions m opening n those) le t (rest those (transition_kept m law live opening knowns ok these those consistent t) (let w = transition_weighs m opening these those t in omega (arith, w)))

    test : ((those : List Thread) → IsConsistent m opening those → 2 * opening.budget + 2 ≤ n + weigh those → Means m opening those (transitions m opening n those)) →
        (c : Bool) → nat_lt opening.budget (total_of m these) ≡ c → Means m opening these (cond c OverBudget (goes_on (transitions m opening n) m opening these (soonest m (events_of m opening these) 0 these)))
    test rest true e = spends these (over e)
    test rest false e = next rest (not_over e) (soonest m (events_of m opening these) 0 these) refl
