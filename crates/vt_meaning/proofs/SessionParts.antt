-- A part of the texts with a nearer horizon, against the whole: below that horizon both do the same.
use Rattle.std.proofs.Common.{◌⊎◌, ◌≡◌, ℕ, ◌<◌, ◌≤◌, List, [], ◌∷◌, ◌++◌, take, refl, sym, ◌∙◌, ap, inl, inr, arith, Bool, true, false, zero, suc, subst, Option, Some, None}
use Rattle.std.specs.Prelude.{slice_get, Contains, cond, ◌↔◌}
use Rattle.std.proofs.lemmas.List.Elements.{Contains-append_cases}
use Rattle.std.proofs.lemmas.Option.{slice_get_within}
use Rattle.vt_event.specs.Event.{EventView}
use Rattle.vt_frac.specs.Arithmetic.{sum_of}
use Rattle.vt_frac.specs.Fraction.{Fraction, IsFraction}
use Rattle.vt_run.specs.Evaluation.{Step}
use Rattle.vt_run.specs.declared.action.Answer.{Answer}
use Rattle.vt_run.specs.declared.action.Answer.TheVariants.{Found}
use Rattle.vt_run.specs.declared.start.Start.{Start}
use Rattle.vt_meaning.specs.Causal.{ActsAlike, AgreeBelow, cut, IsPartOf, IsPrompt, IsWithin, lines_below, living, reaches, score, until_rest}
use Rattle.vt_meaning.specs.Disturbers.{sift}
use Rattle.vt_meaning.specs.Meaning.{ending_of}
use Rattle.vt_meaning.specs.Meaning.Ending.{Ends, OverBudget}
use Rattle.vt_meaning.specs.Places.{Earlier, is_earlier, NoLater}
use Rattle.vt_meaning.specs.Reach.{Fits, IsFedBy, IsFitBy, IsKnown, IsKnownBy}
use Rattle.vt_meaning.specs.ThreadLaws.{AreActs, IsActs, IsSession}
use Rattle.vt_meaning.specs.ThreadMeaning.{ThreadMeaning}
use Rattle.vt_meaning.specs.Traces.{Entry, Thread, trace}
use Rattle.vt_meaning.specs.World.{Opening, total_of}
use Rattle.vt_meaning.proofs.Pairing.{answers_of, one_answer}
use Rattle.vt_meaning.proofs.StepLaws.{based, based_exact, exact_answers}
use Rattle.vt_meaning.proofs.FrontAndBounds.{contains_cons}
use Rattle.vt_meaning.proofs.KeptByTransitions.{get_of, has_of}
use Rattle.vt_meaning.proofs.ListedDisturbers.{sift_from, sift_has}
use Rattle.vt_meaning.proofs.Horizon.{earlier_horizon, fraction_lowest, sum_lowest}
use Rattle.vt_meaning.proofs.Order.{earlier-no_later, is_earlier-true, no_later_same, true-is_earlier}
use Rattle.vt_meaning.proofs.EarlyEvents.{score_begins}
use Rattle.vt_meaning.proofs.CausalSessions.{nearer, left_out}
use Rattle.vt_meaning.proofs.Lists.{get-append_left, none_some}

empty_has : {A : Type 0} (x : A) → Contains [] x → ⊥
empty_has x h = let z = h.1 in omega arith

got_take : {A : Type 0} (xs : List A) (i j : ℕ) (x : A) → slice_get (take i xs) j ≡ Some x → (j < i) × (slice_get xs j ≡ Some x)
got_take [] zero j x h = absurd (none_some h)
got_take [] (suc i) j x h = absurd (none_some h)
got_take (y ∷ ys) zero j x h = absurd (none_some h)
got_take (y ∷ ys) (suc i) zero x h = (omega arith, h)
got_take (y ∷ ys) (suc i) (suc j) x h = let r = got_take ys i j x h in let lt = r.0 in (omega arith, r.1)

got_snoc : {A : Type 0} (xs : List A) (y : A) (j : ℕ) (x : A) → slice_get (xs ++ y ∷ []) j ≡ Some x → (slice_get xs j ≡ Some x) ⊎ (y ≡ x)
got_snoc [] y zero x h = inr (let z : Some y ≡ Some x = h in cc z)
got_snoc [] y (suc j) x h = absurd (none_some h)
got_snoc (v ∷ vs) y zero x h = inl h
got_snoc (v ∷ vs) y (suc j) x h = got_snoc vs y j x h

-- no answer is left over
answer_from : (entries : List Entry) (answer : Answer) → Contains (answers_of entries) answer → (j : ℕ) × (entry : Entry) × (slice_get entries j ≡ Some entry) × (entry.answer ≡ Some answer)
answer_from [] answer c = absurd (empty_has answer c)
answer_from (x ∷ entries) answer c =
    elim (Contains-append_cases (one_answer x.answer) (answers_of entries) answer c) [
      | inl k ↦ (0, x, refl, only x.answer k)
      | inr k ↦ (let r = answer_from entries answer k in (suc r.0, r.1, r.2, r.3))
    ]
  where
    only : (o : Option Answer) → Contains (one_answer o) answer → o ≡ Some answer
    only None k = absurd (empty_has answer k)
    only (Some b) k = elim (contains_cons b [] answer k) [ inl z ↦ ap Some z | inr e ↦ absurd (empty_has answer e) ]

-- **two lists of steps that are one as far as both go tell one next step**
pub same_by_acts : (fit : Start → Bool) (known : EventView → Bool) (m m' : ThreadMeaning) → AreActs m → AreActs m' → ActsAlike fit known m m' → (thread twin : Thread) (i : ℕ) (entry y : Entry) → thread.start ≡ twin.start → IsFedBy fit known m thread i →
    take i (trace m thread) ≡ take i (trace m' twin) → slice_get (trace m thread) i ≡ Some entry → slice_get (trace m' twin) i ≡ Some y → entry.step ≡ y.step
same_by_acts fit known m m' acts acts' alike thread twin i entry y start fed same xd yd =
    let cs = answers_of (take i (trace m thread)) in
    let c : Thread = record { start = thread.start; answers = cs; done = suc i } in
    let base = based_exact m acts thread i entry xd in
    let other : slice_get (m'.acts thread.start cs (suc i)) i ≡ Some y.step =
    ap (λ s. slice_get (m'.acts s cs (suc i)) i) start ∙ ap (λ h. slice_get (m'.acts twin.start (answers_of h) (suc i)) i) same ∙ based m' acts' twin i y yd in
    alike c i entry.step y.step base.1
    (record {
      begun = fed.begun;
      told = λ j v event lt vd ans. told j v event (omega arith) (subst (λ l. slice_get l j ≡ Some v) base.0 vd) ans;
    })
    (based m acts thread i entry xd) other
  where
    told : (j : ℕ) (v : Entry) (event : EventView) → j < suc i → slice_get (take i (trace m thread) ++ record { step = entry.step; answer = None } ∷ []) j ≡ Some v → v.answer ≡ Some (Found event) →
        IsKnownBy known event × Fits v.step.action event
    told j v event lt vd ans =
        elim (got_snoc (take i (trace m thread)) (record { step = entry.step; answer = None }) j v vd) [
          | inl h ↦ (let g = got_take (trace m thread) i j v h in fed.told j v event g.0 g.1 ans)
          | inr e ↦ absurd (none_some (ap (λ w. w.answer) e ∙ ans))
        ]

-- it is enough that one list begins the other
part_alike : (m m' : ThreadMeaning) → IsPartOf m m' → ActsAlike m.fit m.known m m'
part_alike m m' part a i x y exact fed xd yd =
    let more = part.acts a exact fed in
    let z : Some x ≡ Some y = sym (ap (λ l. slice_get l i) more.1 ∙ get-append_left (m.acts a.start a.answers a.done) more.0 i x xd) ∙ yd in
    cc z

-- **to be shown for starts and answers that the texts of the part can lead to**
pub known_is_part : (m m' : ThreadMeaning) → NoLater m.until m'.until → IsFraction m.until → IsFraction m'.until →
    ((start : Start) (bs : List Answer) (n : ℕ) → IsFitBy m.fit start → ((event : EventView) → Contains bs (Found event) → IsKnownBy m.known event) → (r : List Step) × (m'.acts start bs n ≡ m.acts start bs n ++ r)) → IsPartOf m m'
known_is_part m m' le near far law =
    record {
      until = le;
      near = near;
      far = far;
      acts =
          λ a exact fed.
          law a.start a.answers a.done fed.begun
          (λ event h.
          let r = answer_from (trace m a) (Found event) (subst (λ l. Contains l (Found event)) (exact_answers m a exact) h) in
          let w = slice_get_within (trace m a) r.0 r.1 r.2 in
          let d = exact.done in (fed.told r.0 r.1 event (omega (arith, w, d)) r.2 r.3).0);
    }

rest_begins : (u : Fraction) (xs : List Step) → (r : List Step) × (xs ≡ until_rest u xs ++ r)
rest_begins u [] = ([], refl)
rest_begins u (x ∷ xs) = go (reaches u x.action) (rest_begins u xs)
  where
    go : (c : Bool) → (r : List Step) × (xs ≡ until_rest u xs ++ r) → (r : List Step) × (x ∷ xs ≡ (x ∷ cond c [] (until_rest u xs)) ++ r)
    go true rest = (xs, refl)
    go false rest = (rest.0, ap (λ l. x ∷ l) rest.1)

-- **to be shown with a list that is cut where a rest reaches the horizon**
pub cut_is_part : (m m' : ThreadMeaning) → NoLater m.until m'.until → IsFraction m.until → IsFraction m'.until →
    ((start : Start) (bs : List Answer) (n : ℕ) → IsFitBy m.fit start → ((event : EventView) → Contains bs (Found event) → IsKnownBy m.known event) → m.acts start bs n ≡ until_rest m.until (m'.acts start bs n)) → IsPartOf m m'
cut_is_part m m' le near far is =
    known_is_part m m' le near far
    (λ start bs n fit known. let r = rest_begins m.until (m'.acts start bs n) in (r.0, r.1 ∙ ap (λ l. l ++ r.0) (sym (is start bs n fit known))))

pub part_agrees : (m m' : ThreadMeaning) (opening opening' : Opening) → IsActs m → IsActs m' → IsPartOf m m' → IsKnown m opening → ((start : Start) → Earlier start.place.time m.until → Contains opening.starts start ↔ Contains opening'.starts start) →
    ((event : EventView) → Earlier event.place.time m.until → Contains opening.given event ↔ Contains opening'.given event) → AgreeBelow m.until m.fit m.known m m' opening opening'
part_agrees m m' opening opening' acts acts' part knowns starts given =
    record {
      horizon =
          λ a b lt.
          earlier_horizon (sum_of a b) m.until (sum_lowest a b) (fraction_lowest m.until part.near) lt
          ∙ sym (earlier_horizon (sum_of a b) m'.until (sum_lowest a b) (fraction_lowest m'.until part.far) (earlier-no_later (sum_of a b) m.until m'.until lt part.until));
      starts = starts;
      given = given;
      early = λ start lt h. knowns.starts start h;
      heard = λ event lt h. knowns.given event h;
      same = λ a b i x y p st f al xd yd at lt. same_by_acts m.fit m.known m m' acts.acts acts'.acts (part_alike m m' part) a b i x y st f al xd yd;
      knows = λ a i x event q f d is lt matched. acts.reach.knows a i x event q f d is matched;
      breeds = λ a i x p start f d is lt. acts.reach.breeds a i x p start f d is;
    }

-- leaving some out leaves the others different
sift_apart : (f : Start → Bool) (xs : List Start) → ((k l : ℕ) (start beginning : Start) → slice_get xs k ≡ Some start → slice_get xs l ≡ Some beginning → start.place.thread ≡ beginning.place.thread → k ≡ l) →
    (k l : ℕ) (start beginning : Start) → slice_get (sift f xs) k ≡ Some start → slice_get (sift f xs) l ≡ Some beginning → start.place.thread ≡ beginning.place.thread → k ≡ l
sift_apart f [] apart k l start beginning a b e = absurd (none_some a)
sift_apart f (y ∷ ys) apart k l start beginning a b e = go (f y) (sift_apart f ys (λ i j p q c d g. let z = apart (suc i) (suc j) p q c d g in omega arith)) k l a b
  where
    not_head : (i : ℕ) (p : Start) → slice_get (sift f ys) i ≡ Some p → y.place.thread ≡ p.place.thread → ⊥
    not_head i p h g =
        let c = (sift_from f ys p (has_of (sift f ys) i p h)).0 in
        let z = apart 0 (suc c.0) y p refl (get_of ys p c) g in omega arith

    go : (c : Bool) → ((k l : ℕ) (start beginning : Start) → slice_get (sift f ys) k ≡ Some start → slice_get (sift f ys) l ≡ Some beginning → start.place.thread ≡ beginning.place.thread → k ≡ l) →
        (k l : ℕ) → slice_get (cond c (y ∷ sift f ys) (sift f ys)) k ≡ Some start → slice_get (cond c (y ∷ sift f ys) (sift f ys)) l ≡ Some beginning → k ≡ l
    go false rest k l a b = rest k l start beginning a b e
    go true rest zero zero a b = refl
    go true rest zero (suc l) a b = let z : Some y ≡ Some start = a in let h : y ≡ start = cc z in absurd (not_head l beginning b (ap (λ w. w.place.thread) h ∙ e))
    go true rest (suc k) zero a b = let z : Some y ≡ Some beginning = b in let h : y ≡ beginning = cc z in absurd (not_head k start a (ap (λ w. w.place.thread) h ∙ sym e))
    go true rest (suc k) (suc l) a b = ap suc (rest k l start beginning a b e)

pub session_cut : (m m' : ThreadMeaning) (opening : Opening) → IsActs m → IsKnown m (cut m.until opening) → IsSession m' opening → IsSession m (cut m.until opening)
session_cut m m' opening acts knowns s =
    record {
      acts = acts;
      orderly = λ r h. s.orderly r (sift_from (λ w. is_earlier w.place.time m.until) opening.starts r h).0;
      given =
          record {
            one = λ e h. s.given.one e (sift_from (λ w. is_earlier w.place.time m.until) opening.given e h).0;
            no_text = λ e r h k. s.given.no_text e r (sift_from (λ w. is_earlier w.place.time m.until) opening.given e h).0 (sift_from (λ w. is_earlier w.place.time m.until) opening.starts r k).0;
            apart = λ e f h k. s.given.apart e f (sift_from (λ w. is_earlier w.place.time m.until) opening.given e h).0 (sift_from (λ w. is_earlier w.place.time m.until) opening.given f k).0;
          };
      texts = sift_apart (λ w. is_earlier w.place.time m.until) opening.starts s.texts;
      known = knowns;
    }

pub within_cut : (m : ThreadMeaning) (opening : Opening) → IsFraction m.until → IsPrompt m → IsWithin m (cut m.until opening)
within_cut m opening good prompt =
    record {
      horizon = good;
      starts = λ r h. true-is_earlier r.place.time m.until (sift_from (λ w. is_earlier w.place.time m.until) opening.starts r h).1;
      given = λ e h. true-is_earlier e.place.time m.until (sift_from (λ w. is_earlier w.place.time m.until) opening.given e h).1;
      spawns = λ a i x p s d is lt. subst (λ n. Earlier n m.until) (sym (prompt a i x p s d is)) lt;
    }

pub cut_agrees : (m m' : ThreadMeaning) (opening : Opening) → IsActs m → IsActs m' → IsPartOf m m' → IsKnown m (cut m.until opening) → AgreeBelow m.until m.fit m.known m m' (cut m.until opening) opening
cut_agrees m m' opening acts acts' part knowns =
    part_agrees m m' (cut m.until opening) opening acts acts' part knowns
    (λ s lt. (λ h. (sift_from (λ w. is_earlier w.place.time m.until) opening.starts s h).0, λ h. sift_has (λ w. is_earlier w.place.time m.until) opening.starts s h (is_earlier-true s.place.time m.until lt)))
    (λ e lt. (λ h. (sift_from (λ w. is_earlier w.place.time m.until) opening.given e h).0, λ h. sift_has (λ w. is_earlier w.place.time m.until) opening.given e h (is_earlier-true e.place.time m.until lt)))

-- **a session without what begins too late, by a nearer horizon**
pub horizons : (m m' : ThreadMeaning) (opening : Opening) → IsActs m → IsPrompt m → IsKnown m (cut m.until opening) → IsSession m' opening → IsPartOf m m' → (ws' : List Thread) → ending_of m' opening ≡ Ends ws' →
    (ws : List Thread) × (ending_of m (cut m.until opening) ≡ Ends ws) × (total_of m ws ≤ total_of m' ws') × (score m (cut m.until opening) ws ≡ lines_below m.until (score m' opening ws'))
horizons m m' opening acts prompt knowns s' part ws' e' =
    nearer m.fit m.known m m' (cut m.until opening) opening (session_cut m m' opening acts knowns s') s' (within_cut m opening part.near prompt) (cut_agrees m m' opening acts s'.acts part knowns) (omega arith) ws' e'

-- **by one horizon nothing changes at all**
pub parts_same : (m m' : ThreadMeaning) (opening : Opening) → IsActs m → IsPrompt m → IsPrompt m' → IsKnown m (cut m.until opening) → IsSession m' (cut m'.until opening) → IsPartOf m m' → m.until ≡ m'.until →
    ((ending_of m (cut m.until opening) ≡ OverBudget) ↔ (ending_of m' (cut m'.until opening) ≡ OverBudget))
    × ((ws ws' : List Thread) → ending_of m (cut m.until opening) ≡ Ends ws → ending_of m' (cut m'.until opening) ≡ Ends ws' →
    (score m (cut m.until opening) ws ≡ score m' (cut m'.until opening) ws') × (living m ws ≡ living m' ws'))
parts_same m m' opening acts prompt prompt' knowns s' part u =
    let one : cut m'.until opening ≡ cut m.until opening = ap (λ n. cut n opening) (sym u) in
    left_out m.fit m.known m m' (cut m.until opening) (cut m'.until opening)
    (let r = subst (IsSession m') one s' in record { acts = acts; orderly = r.orderly; given = r.given; texts = r.texts; known = knowns })
    s' (within_cut m opening part.near prompt) (within_cut m' opening part.far prompt') u
    (part_agrees m m' (cut m.until opening) (cut m'.until opening) acts s'.acts part knowns
    (λ s lt. (λ h. subst (λ k. Contains k.starts s) (sym one) h, λ h. subst (λ k. Contains k.starts s) one h))
    (λ e lt. (λ h. subst (λ k. Contains k.given e) (sym one) h, λ h. subst (λ k. Contains k.given e) one h)))
    refl

-- **two sessions with one early part**
pub one_part : (m m1 m2 : ThreadMeaning) (key1 key2 : Opening) → IsActs m → IsPrompt m → IsKnown m (cut m.until key1) → IsSession m1 key1 → IsSession m2 key2 → IsPartOf m m1 → IsPartOf m m2 →
    cut m.until key1 ≡ cut m.until key2 → (ws1 ws2 : List Thread) → ending_of m1 key1 ≡ Ends ws1 → ending_of m2 key2 ≡ Ends ws2 →
    lines_below m.until (score m1 key1 ws1) ≡ lines_below m.until (score m2 key2 ws2)
one_part m m1 m2 key1 key2 acts prompt knowns s1 s2 p1 p2 one ws1 ws2 e1 e2 =
    let a = horizons m m1 key1 acts prompt knowns s1 p1 ws1 e1 in
    let b = horizons m m2 key2 acts prompt (subst (IsKnown m) one knowns) s2 p2 ws2 e2 in
    let z : Ends a.0 ≡ Ends b.0 = sym a.1 ∙ ap (ending_of m) one ∙ b.1 in
    let w : a.0 ≡ b.0 = cc z in
    sym a.3 ∙ ap (λ k. score m k a.0) one ∙ ap (score m (cut m.until key2)) w ∙ b.3

-- **scores of one session by further and further horizons each begin the next**
pub streams : (m1 m2 m' : ThreadMeaning) (opening : Opening) → IsActs m1 → IsActs m2 → IsPrompt m1 → IsPrompt m2 → IsKnown m1 (cut m1.until opening) → IsKnown m2 (cut m2.until opening) → IsSession m' opening → IsPartOf m1 m' → IsPartOf m2 m' →
    NoLater m1.until m2.until → (ws' : List Thread) → ending_of m' opening ≡ Ends ws' →
    (ws1 : List Thread) × (ws2 : List Thread) × (r : List EventView) × (q : List EventView) × (ending_of m1 (cut m1.until opening) ≡ Ends ws1) × (ending_of m2 (cut m2.until opening) ≡ Ends ws2)
    × (score m2 (cut m2.until opening) ws2 ≡ score m1 (cut m1.until opening) ws1 ++ r) × (score m' opening ws' ≡ score m2 (cut m2.until opening) ws2 ++ q)
streams m1 m2 m' opening a1 a2 p1 p2 k1 k2 s q1 q2 le ws' e =
    let h1 = horizons m1 m' opening a1 p1 k1 s q1 ws' e in
    let h2 = horizons m2 m' opening a2 p2 k2 s q2 ws' e in
    let one = (score_begins m1.until m2.until le m' opening ws').0 in
    let two = (score_begins m2.until m2.until (no_later_same m2.until m2.until refl) m' opening ws').1 in
    (h1.0, h2.0, one.0, two.0, h1.1, h2.1, h2.3 ∙ one.1 ∙ ap (λ l. l ++ one.0) (sym h1.3), two.1 ∙ ap (λ l. l ++ two.0) (sym h2.3))
