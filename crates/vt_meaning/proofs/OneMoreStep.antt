-- One more step of a thread that is ready leaves a consistent set.
use Rattle.std.proofs.Common.{◌≡◌, ℕ, ◌+◌, ◌<◌, ◌≤◌, List, [], ◌∷◌, ◌++◌, length, take, refl, sym, ◌∙◌, ap, inl, inr, ◌⊎◌, arith, Bool, true, false, zero, suc, subst, Option, Some, None, length-append, add-zero}
use Rattle.std.specs.Prelude.{slice_get, count_by, cond, sum_by}
use Rattle.std.proofs.lemmas.List.Sums.{sum_by-take-le, sum_by-append, sum_by-cons}
use Rattle.vt_event.specs.declared.place.Place.{Place}
use Rattle.vt_frac.specs.Arithmetic.{sum_of}
use Rattle.vt_frac.specs.Fraction.{Fraction}
use Rattle.vt_run.specs.Actions.{is_past}
use Rattle.vt_run.specs.Standing.{action_place, next_step, Ready}
use Rattle.vt_run.specs.declared.action.Action.{Action}
use Rattle.vt_run.specs.declared.action.Action.TheVariants.{Emit, End, Read, Rest, Spawn, Wait}
use Rattle.vt_run.specs.declared.start.Start.{Start}
use Rattle.vt_meaning.specs.Bounds.{StandsBelow}
use Rattle.vt_meaning.specs.Consistent.{got, has_answer, IsConsistent, IsExact}
use Rattle.vt_meaning.specs.NextPlaces.{GoesOn}
use Rattle.vt_meaning.specs.Places.{Before, Upto}
use Rattle.vt_meaning.specs.Reach.{IsFed, IsKnown}
use Rattle.vt_meaning.specs.ThreadLaws.{is_spawn, IsLawful, IsLive, IsOrderly, starts_one}
use Rattle.vt_meaning.specs.ThreadMeaning.{ThreadMeaning}
use Rattle.vt_meaning.specs.Traces.{after_rest, after_step, Entry, MovesOn, rested, stance_in, standing, Thread, trace, wake}
use Rattle.vt_meaning.specs.World.{moved_on, one_more, Opening}
use Rattle.vt_meaning.proofs.Order.{before-trans, before-wake, before-next_step, before_upto, upto_same}
use Rattle.vt_meaning.proofs.Traces.{standing_more, stand_at}
use Rattle.vt_meaning.proofs.StoreSteps.{Allowed, IsNext, kept}
use Rattle.vt_meaning.proofs.FedThreads.{fed_at}
use Rattle.vt_meaning.proofs.MovedThreads.{GoesOver, next, next_answers}
use Rattle.vt_meaning.proofs.Lists.{get-append_cases, get-append_left, get-append_right, take_front, take_one_more}

pub snoc : {A : Type 0} (xs ys : List A) (a b : A) → xs ++ a ∷ [] ≡ ys ++ b ∷ [] → (xs ≡ ys) × (a ≡ b)
snoc [] [] a b h = (refl, (cc))
snoc [] (y ∷ []) a b h = absurd (let z : a ∷ [] ≡ y ∷ b ∷ [] = h in cc)
snoc [] (y ∷ z ∷ ys) a b h = absurd (let k : a ∷ [] ≡ y ∷ z ∷ (ys ++ b ∷ []) = h in cc)
snoc (x ∷ []) [] a b h = absurd (let z : x ∷ a ∷ [] ≡ b ∷ [] = h in cc)
snoc (x ∷ z ∷ xs) [] a b h = absurd (let k : x ∷ z ∷ (xs ++ a ∷ []) ≡ b ∷ [] = h in cc)
snoc (x ∷ xs) (y ∷ ys) a b h =
    let e : x ∷ (xs ++ a ∷ []) ≡ y ∷ (ys ++ b ∷ []) = h in
    let t : xs ++ a ∷ [] ≡ ys ++ b ∷ [] = cc in
    let r = snoc xs ys a b t in
    let p : xs ≡ ys = r.0 in
    let q : x ≡ y = cc in
    ((cc), r.1)

-- where a thread that went on from place may go on next
fronts_of : (m : ThreadMeaning) (opening : Opening) (those : List Thread) (u : Fraction) (place b : Place) (act : Option Action) →
    ((a : Action) → act ≡ Some a → action_place a ≡ place) → ((c : Place) (n : Fraction) → act ≡ Some (Rest c n) → MovesOn c n) → GoesOn m opening those (after_step u (Ready place) act None) b → Upto place b
fronts_of m opening those u place b None here rests on = upto_same place b (sym on)
fronts_of m opening those u place b (Some (Emit e)) here rests on =
    rw on (subst (λ w. Upto w (next_step e.place)) (here _ refl) (before_upto e.place (next_step e.place) (before-next_step e.place)))
fronts_of m opening those u place b (Some (Rest c n)) here rests on = rest (is_past u (sum_of c.time n)) on
  where
    rest : (v : Bool) → GoesOn m opening those (after_rest v c n) b → Upto place b
    rest false o = subst (λ w. Upto place w) (sym o) (subst (λ w. Upto w (rested c n)) (here _ refl) (before_upto c (rested c n) (rests c n refl).above))
    rest true o = absurd o
fronts_of m opening those u place b (Some (Read c q)) here rests on = upto_same place b (sym (here _ refl) ∙ sym on)
fronts_of m opening those u place b (Some (Wait c q d)) here rests on =
    let e = on.0 in
    let up : Before c (wake e c) = before-trans c e.place (wake e c) on.1.above (before-wake e c) in
    rw on.2 (subst (λ w. Upto w (wake e c)) (here _ refl) (before_upto c (wake e c) up))
fronts_of m opening those u place b (Some (Spawn c s)) here rests on =
    rw on (subst (λ w. Upto w (next_step c)) (here _ refl) (before_upto c (next_step c) (before-next_step c)))
fronts_of m opening those u place b (Some (End c reason)) here rests on = absurd on

-- and where it stands is at place or above
above_of : (u : Fraction) (place r : Place) (act : Option Action) → ((a : Action) → act ≡ Some a → action_place a ≡ place) → ((c : Place) (n : Fraction) → act ≡ Some (Rest c n) → MovesOn c n) → StandsBelow (after_step u (Ready place) act None) r → Before place r
above_of u place r None here rests b = b
above_of u place r (Some (Emit e)) here rests b = subst (λ w. Before w r) (here _ refl) (before-trans e.place (next_step e.place) r (before-next_step e.place) b)
above_of u place r (Some (Rest c n)) here rests b = rest (is_past u (sum_of c.time n)) b
  where
    rest : (v : Bool) → StandsBelow (after_rest v c n) r → Before place r
    rest false o = subst (λ w. Before w r) (here _ refl) (before-trans c (rested c n) r (rests c n refl).above o)
    rest true o = absurd o
above_of u place r (Some (Read c q)) here rests b = subst (λ w. Before w r) (here _ refl) b
above_of u place r (Some (Wait c q d)) here rests b = subst (λ v. Before v r) (here _ refl) b
above_of u place r (Some (Spawn c s)) here rests b = subst (λ w. Before w r) (here _ refl) (before-trans c (next_step c) r (before-next_step c) b)
above_of u place r (Some (End c reason)) here rests b = absurd b

-- no list of a thread is empty
pub long : (m : ThreadMeaning) (live : IsLive m) (opening : Opening) → IsOrderly opening → (these : List Thread) → IsConsistent m opening these →
    (k : ℕ) (thread : Thread) → slice_get these k ≡ Some thread → 1 ≤ length thread.start.place.thread
long m live opening ok these consistent k thread has =
    elim (consistent.rooted k thread has) [
      | inl o ↦ (let e = ok thread.start o in omega arith)
      | inr s ↦
          (let e = live.named s.thread s.i s.entry s.place thread.start s.acted.did s.acted.is in
          let f = ap length e in
          let g = length-append s.thread.start.place.thread (suc (count_by is_spawn (take s.i (trace m s.thread))) ∷ []) in
          omega (arith, f, g))
    ]

spawns_less : (entries : List Entry) (j : ℕ) (entry : Entry) (place : Place) (start : Start) → slice_get entries j ≡ Some entry → entry.step.action ≡ Some (Spawn place start) →
    count_by is_spawn (take j entries) < count_by is_spawn entries
spawns_less entries j entry place start did is =
    let c : Entry → ℕ = λ y. cond (is_spawn y) 1 0 in
    let a = ap (sum_by c) (take_one_more entries j entry did) ∙ sum_by-append c (take j entries) (entry ∷ []) in
    let b = sum_by-cons c entry [] in
    let one : c entry ≡ 1 = ap (λ o. cond (starts_one o) 1 0) is in
    let le = sum_by-take-le c entries (suc j) in
    omega (arith, a, b, one, le)

pub exact_more : (m : ThreadMeaning) (thread : Thread) (entry : Entry) → IsExact m thread → trace m (one_more thread) ≡ trace m thread ++ entry ∷ [] → entry.answer ≡ None → IsExact m (one_more thread)
exact_more m thread entry h grown none =
    let c : Entry → ℕ = λ y. cond (has_answer y) 1 0 in
    let e = ap length grown in
    let f = length-append (trace m thread) (entry ∷ []) in
    let d = h.done in
    let u = h.used in
    let a = ap (sum_by c) grown ∙ sum_by-append c (trace m thread) (entry ∷ []) in
    let b = sum_by-cons c entry [] in
    let z : c entry ≡ 0 = ap (λ o. cond (got o) 1 0) none in
    record { done = omega (arith, e, f, d); used = omega (arith, u, a, b, z) }

module _ (m : ThreadMeaning) (law : IsLawful m) (live : IsLive m) (opening : Opening) (knowns : IsKnown m opening) (ok : IsOrderly opening) (these : List Thread) (consistent : IsConsistent m opening these)
    (i : ℕ) (thread : Thread) (place : Place) (has : slice_get these i ≡ Some thread) (goes : stance_in m thread ≡ Ready place) where
  abbrev x : Entry
  x = (live.grows thread place (consistent.exact i thread has) goes).0

  grown : trace m (one_more thread) ≡ trace m thread ++ x ∷ []
  grown = (live.grows thread place (consistent.exact i thread has) goes).1

  before_x : take (length (trace m thread)) (trace m (one_more thread)) ≡ trace m thread
  before_x = ap (take (length (trace m thread))) grown ∙ take_front (trace m thread) (x ∷ [])

  new_did : slice_get (trace m (one_more thread)) (length (trace m thread) + 0) ≡ Some x
  new_did = subst (λ l. slice_get l (length (trace m thread) + 0) ≡ Some x) (sym grown) (get-append_right (trace m thread) (x ∷ []) 0 x refl)

  split_did : (j : ℕ) (entry : Entry) → slice_get (trace m (one_more thread)) j ≡ Some entry → (slice_get (trace m thread) j ≡ Some entry) ⊎ ((j ≡ length (trace m thread)) × (entry ≡ x))
  split_did j entry h =
      elim (get-append_cases (trace m thread) (x ∷ []) j entry (subst (λ l. slice_get l j ≡ Some entry) grown h)) [
        | inl l ↦ inl l
        | inr r ↦ inr (one r.0 r.1 r.2)
      ]
    where
      one : (n : ℕ) → j ≡ length (trace m thread) + n → slice_get (x ∷ []) n ≡ Some entry → (j ≡ length (trace m thread)) × (entry ≡ x)
      one zero e g = (e ∙ add-zero _, (let z : Some x ≡ Some entry = g in cc))
      one (suc n) e g = absurd (let z : ◌≡◌ {A = Option Entry} None (Some entry) = g in cc)

  place_x : (a : Action) → x.step.action ≡ Some a → action_place a ≡ place
  place_x a is =
      let d : slice_get (trace m (one_more thread)) (length (trace m thread)) ≡ Some x = subst (λ n. slice_get (trace m (one_more thread)) n ≡ Some x) (add-zero _) new_did in
      let h = law.placed (one_more thread) (length (trace m thread)) x d in
      let e : Ready place ≡ Ready h.0 = sym goes ∙ ap (standing m thread.start) (sym before_x) ∙ h.1 in
      let z : place ≡ h.0 = cc in
      h.2 a is ∙ sym z

  stand_x : stance_in m (one_more thread) ≡ after_step m.until (Ready place) x.step.action None
  stand_x =
      let d : slice_get (trace m (one_more thread)) (length (trace m thread)) ≡ Some x = subst (λ n. slice_get (trace m (one_more thread)) n ≡ Some x) (add-zero _) new_did in
      let n : length (trace m (one_more thread)) ≤ suc (length (trace m thread)) =
      (let e = ap length grown in let f = length-append (trace m thread) (x ∷ []) in omega (arith, e, f)) in
      stand_at m (one_more thread) (suc (length (trace m thread))) n
      ∙ standing_more m thread.start (trace m (one_more thread)) (length (trace m thread)) x d
      ∙ ap (λ start. after_step m.until start x.step.action x.answer) (ap (standing m thread.start) before_x ∙ goes)
      ∙ ap (λ o. after_step m.until (Ready place) x.step.action o) (live.grows thread place (consistent.exact i thread has) goes).2

  -- what the step starts has a list that no thread has
  alone_x : (r : Place) (start : Start) → x.step.action ≡ Some (Spawn r start) → (k : ℕ) (twin : Thread) → slice_get these k ≡ Some twin → twin.start.place.thread ≡ start.place.thread → ⊥
  alone_x r start is k twin whas same =
      elim (consistent.rooted k twin whas) [
        | inl o ↦
            (let one = ok twin.start o in
            let more = long m live opening ok these consistent i thread has in
            let e = ap length (same ∙ mine) in
            let f = length-append thread.start.place.thread (suc (count_by is_spawn (trace m thread)) ∷ []) in
            omega (arith, one, more, e, f))
        | inr h ↦
            (let theirs = live.named h.thread h.i h.entry h.place twin.start h.acted.did h.acted.is in
            let both = snoc _ _ _ _ (sym theirs ∙ same ∙ mine) in
            let at : h.acted.at ≡ i = consistent.apart h.acted.at i h.thread thread h.acted.has has both.0 in
            let z : Some h.thread ≡ Some thread = sym h.acted.has ∙ ap (slice_get these) at ∙ has in
            let same_t : h.thread ≡ thread = cc in
            let less = spawns_less (trace m h.thread) h.i h.entry h.place twin.start h.acted.did h.acted.is in
            let eq : count_by is_spawn (trace m h.thread) ≡ count_by is_spawn (trace m thread) = ap (λ v. count_by is_spawn (trace m v)) same_t in
            omega (arith, less, both.1, eq))
      ]
    where
      mine : start.place.thread ≡ thread.start.place.thread ++ suc (count_by is_spawn (trace m thread)) ∷ []
      mine =
          live.named (one_more thread) (length (trace m thread) + 0) x r start new_did is
          ∙ ap (λ l. thread.start.place.thread ++ suc (count_by is_spawn l) ∷ []) (ap (λ n. take n (trace m (one_more thread))) (add-zero _) ∙ before_x)

  fed_x : IsFed m (one_more thread) (length (trace m thread))
  fed_x =
      let f = fed_at m law opening knowns these consistent i (length (trace m thread)) thread place has (omega arith) (sym (stand_at m thread (length (trace m thread)) (omega arith)) ∙ goes) in
      record {
        begun = f.begun;
        told =
            λ j entry g lt did ans.
            elim (split_did j entry did) [ inl old ↦ f.told j entry g lt old ans | inr new ↦ absurd (let e = new.0 in omega (arith, lt, e)) ];
      }

  within_x : (a : Action) → x.step.action ≡ Some a → Allowed m thread.start a
  within_x (Emit e) is = λ q h. law.reach.writes (one_more thread) (length (trace m thread)) x e q fed_x (subst (λ n. slice_get (trace m (one_more thread)) n ≡ Some x) (add-zero _) new_did) is h
  within_x (Spawn r start) is = λ q h. law.reach.passes (one_more thread) (length (trace m thread)) x r start q fed_x (subst (λ n. slice_get (trace m (one_more thread)) n ≡ Some x) (add-zero _) new_did) is h
  within_x (Rest r n) is = law.reach.moves (one_more thread) (length (trace m thread)) x r n fed_x (subst (λ n. slice_get (trace m (one_more thread)) n ≡ Some x) (add-zero _) new_did) is
  within_x (Read _ _) is = tt
  within_x (Wait _ _ _) is = tt
  within_x (End _ _) is = tt

  rests_x : (c : Place) (n : Fraction) → x.step.action ≡ Some (Rest c n) → MovesOn c n
  rests_x c n is = within_x (Rest c n) is

  over : GoesOver m opening these (moved_on these i (one_more thread) x.step.action) thread (one_more thread) x.step.action place
  over =
      record {
        start = refl;
        exact = exact_more m thread x (consistent.exact i thread has) grown (live.grows thread place (consistent.exact i thread has) goes).2;
        bound = rw goes refl;
        on = λ j entry a did is. (entry, subst (λ l. slice_get l j ≡ Some entry) (sym grown) (get-append_left (trace m thread) (x ∷ []) j entry did), is);
        back =
            λ j entry a did is.
            elim (split_did j entry did) [
              | inl old ↦ inl (entry, old, is)
              | inr new ↦
                  (let e : x.step.action ≡ Some a = ap (λ twin. twin.step.action) (sym new.1) ∙ is in
                  inr (upto_same place (action_place a) (sym (place_x a e)), e))
            ];
        acts = λ a is. (length (trace m thread) + 0, x, new_did, is, upto_same place (action_place a) (sym (place_x a is)));
        child = λ r start is. (live.nothing start, law.later (one_more thread) (length (trace m thread) + 0) x r start new_did is);
        alone = alone_x;
        within = within_x;
        above = λ r b. above_of m.until place r x.step.action place_x rests_x (subst (λ start. StandsBelow start r) stand_x b);
        fronts = λ b on. fronts_of m opening (moved_on these i (one_more thread) x.step.action) m.until place b x.step.action place_x rests_x (subst (λ start. GoesOn m opening (moved_on these i (one_more thread) x.step.action) start b) stand_x on);
      }

  pub step_next : IsNext m opening these (moved_on these i (one_more thread) x.step.action) place
  step_next = next m law opening knowns these consistent i thread (one_more thread) x.step.action place has over

  -- **the step keeps the set consistent**
  pub step_kept : IsConsistent m opening (moved_on these i (one_more thread) x.step.action)
  step_kept =
      kept m law opening knowns these (moved_on these i (one_more thread) x.step.action) place
      step_next consistent
      (next_answers m law opening knowns these consistent i thread (one_more thread) x.step.action place has over
      (λ j entry a b did is ans.
      elim (split_did j entry did) [
        | inl old ↦ inl (entry, old, is, ans)
        | inr new ↦
            absurd
            (let z : None ≡ Some b = sym (live.grows thread place (consistent.exact i thread has) goes).2 ∙ ap (λ twin. twin.answer) (sym new.1) ∙ ans in cc)
      ]))
