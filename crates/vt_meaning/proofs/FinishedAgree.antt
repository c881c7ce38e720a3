-- A finished set has all that another one of the same session has.
use Rattle.std.proofs.Common.{◌≡◌, ℕ, ◌≤◌, List, [], ◌∷◌, ◌++◌, length, take, refl, sym, ◌∙◌, ap, inl, inr, arith, zero, suc, subst, Option, Some, None}
use Rattle.std.specs.Prelude.{slice_get, sum_by}
use Rattle.std.specs.List.{remove}
use Rattle.std.proofs.lemmas.Option.{slice_get_within, get_or_from_slice_get}
use Rattle.std.proofs.lemmas.List.{take_all}
use Rattle.std.proofs.lemmas.List.Elements.{Contains-append_left, Contains-append_right}
use Rattle.std.proofs.lemmas.List.Sums.{sum_by-remove, sum_by-cons, sum_by-append, sum_by-take-le}
use Rattle.vt_event.specs.declared.place.Place.{Place}
use Rattle.vt_frac.specs.Fraction.{Fraction}
use Rattle.vt_run.specs.Standing.{action_place}
use Rattle.vt_run.specs.declared.action.Action.TheVariants.{Spawn}
use Rattle.vt_meaning.specs.Bounds.{Clear}
use Rattle.vt_meaning.specs.Consistent.{IsConsistent}
use Rattle.vt_meaning.specs.Happenings.{Begun}
use Rattle.vt_meaning.specs.NextPlaces.{IsFinished}
use Rattle.vt_meaning.specs.Reach.{IsKnown}
use Rattle.vt_meaning.specs.ThreadLaws.{IsLawful}
use Rattle.vt_meaning.specs.ThreadMeaning.{ThreadMeaning}
use Rattle.vt_meaning.specs.Traces.{cost_in, Entry, Thread, trace}
use Rattle.vt_meaning.specs.World.{Opening, total_of}
use Rattle.vt_meaning.proofs.Traces.{At, at_start}
use Rattle.vt_meaning.proofs.SharedSessions.{Shares, flip, itself}
use Rattle.vt_meaning.proofs.Agreement.{Did, did_act, clear_there, overlap}
use Rattle.vt_meaning.proofs.Ranks.{rank, all_places, covers}
use Rattle.vt_meaning.proofs.Lists.{entry_at, take_one_more}

-- **what stands below the front of one set is done in it, if it is done in the other**
pub agree_by : (Soon : Fraction → Type 0) (m m' : ThreadMeaning) (opening opening' : Opening) → Shares Soon m m' opening opening' → (these those : List Thread) → IsConsistent m opening these → IsConsistent m' opening' those →
    (k i : ℕ) (thread : Thread) (entry : Entry) (place : Place) → slice_get these k ≡ Some thread → slice_get (trace m thread) i ≡ Some entry → At m thread i place → Soon place.time → Clear m' opening' those place → Did m' m those thread i entry
agree_by Soon m m' opening opening' shared these those these_hold those_hold k i thread entry place has did at now clear =
    let places = all_places m' those ++ all_places m these in
    clear_there Soon places (suc (rank places place)) (overlap Soon places (suc (rank places place))) m' m opening' opening (flip Soon m m' opening opening' shared) those these those_hold these_hold
    (λ t' j y c h. Contains-append_left (all_places m' those) (all_places m these) (action_place c) (covers m' those t' j y c h))
    (λ t' j y c h. Contains-append_right (all_places m' those) (all_places m these) (action_place c) (covers m these t' j y c h))
    k i thread entry place has did at clear now (omega arith)

module _ (Soon : Fraction → Type 0) (m m' : ThreadMeaning) (opening opening' : Opening) (shared : Shares Soon m m' opening opening') (these those : List Thread) (these_hold : IsConsistent m opening these) (those_hold : IsConsistent m' opening' those) (finished : IsFinished m' opening' those)
    (all : (k i : ℕ) (thread : Thread) (place : Place) → slice_get these k ≡ Some thread → i ≤ length (trace m thread) → At m thread i place → Soon place.time) where
  agreed : (k i : ℕ) (thread : Thread) (entry : Entry) → slice_get these k ≡ Some thread → slice_get (trace m thread) i ≡ Some entry → Did m' m those thread i entry
  agreed k i thread entry has did =
      let here = shared.law.placed thread i entry did in
      let w = slice_get_within (trace m thread) i entry did in
      agree_by Soon m m' opening opening' shared these those these_hold those_hold k i thread entry here.0 has did here.1 (all k i thread here.0 has (omega (arith, w)) here.1) (λ j twin b uhas on. absurd (finished j twin b uhas on))

  -- each thread of these began in those
  pub begun_by : (k : ℕ) (thread : Thread) → slice_get these k ≡ Some thread → Begun those thread.start
  begun_by k thread has =
      elim (these_hold.rooted k thread has) [
        | inl o ↦ those_hold.opened thread.start (shared.starts thread.start (all k 0 thread thread.start.place has (omega arith) (at_start m thread)) o)
        | inr s ↦
            (let d = agreed s.acted.at s.i s.thread s.entry s.acted.has s.acted.did in
            those_hold.spawned thread.start (record { thread = d.thread; i = s.i; entry = d.entry; place = s.place; acted = did_act m' m those s.thread s.i s.entry (Spawn s.place thread.start) d s.acted.is }))
      ]

  -- and did there each step that it did in these, with the same answers before it
  pub did_by : (tat uat : ℕ) (thread twin : Thread) → slice_get these tat ≡ Some thread → slice_get those uat ≡ Some twin → thread.start ≡ twin.start →
      (k : ℕ) (entry : Entry) → slice_get (trace m thread) k ≡ Some entry →
      (take k (trace m thread) ≡ take k (trace m' twin)) × ((y : Entry) × (slice_get (trace m' twin) k ≡ Some y) × (entry.step ≡ y.step))
  did_by tat uat thread twin thas uhas start k entry did =
      let d = agreed tat k thread entry thas did in
      let at : d.at ≡ uat = those_hold.apart d.at uat d.thread twin d.has uhas (ap (λ s. s.place.thread) (sym d.start ∙ start)) in
      let z : Some d.thread ≡ Some twin = sym d.has ∙ ap (slice_get those) at ∙ uhas in
      let e : d.thread ≡ twin = cc z in
      (d.before ∙ ap (λ v. take k (trace m' v)) e, (d.entry, subst (λ v. slice_get (trace m' v) k ≡ Some d.entry) e d.did, d.step))

  -- so its cost is no less
  cost_by : (tat uat : ℕ) (thread twin : Thread) → slice_get these tat ≡ Some thread → slice_get those uat ≡ Some twin → thread.start ≡ twin.start → cost_in m thread ≤ cost_in m' twin
  unfolding cost_in
  cost_by tat uat thread twin thas uhas start = go (length (trace m thread)) refl
    where
      go : (n : ℕ) → length (trace m thread) ≡ n → sum_by (λ entry. entry.step.cost) (trace m thread) ≤ sum_by (λ entry. entry.step.cost) (trace m' twin)
      go zero e =
          let none : trace m thread ≡ [] = sym (take_all 0 (trace m thread) (omega arith)) in
          rw none (omega arith)
      go (suc k) e =
          let c : Entry → ℕ = λ entry. entry.step.cost in
          let entry = entry_at (trace m thread) k (omega arith) in
          let d = did_by tat uat thread twin thas uhas start k entry.0 entry.1 in
          let y = d.1 in
          let mine : trace m thread ≡ take k (trace m thread) ++ entry.0 ∷ [] = sym (take_all (suc k) (trace m thread) (omega arith)) ∙ take_one_more (trace m thread) k entry.0 entry.1 in
          let other : take (suc k) (trace m' twin) ≡ take k (trace m' twin) ++ y.0 ∷ [] = take_one_more (trace m' twin) k y.0 y.1 in
          let a = ap (sum_by c) mine ∙ sum_by-append c (take k (trace m thread)) (entry.0 ∷ []) in
          let b = ap (sum_by c) other ∙ sum_by-append c (take k (trace m' twin)) (y.0 ∷ []) in
          let same = ap (sum_by c) d.0 in
          let one = ap (λ s. s.cost) y.2 in
          let le = sum_by-take-le c (trace m' twin) (suc k) in
          let xone = sum_by-cons c entry.0 [] in
          let yone = sum_by-cons c y.0 [] in
          omega (arith, a, b, same, one, le, xone, yone)

pub remove-keeps : {A : Type 0} (xs : List A) (k l : ℕ) (x : A) → slice_get xs l ≡ Some x → (l ≡ k → ⊥) → (j : ℕ) × (slice_get (remove xs k) j ≡ Some x)
remove-keeps [] k l x e ne = absurd (let z : ◌≡◌ {A = Option _} None (Some x) = e in cc)
remove-keeps (y ∷ ys) zero zero x e ne = absurd (ne refl)
remove-keeps (y ∷ ys) zero (suc l) x e ne = (l, e)
remove-keeps (y ∷ ys) (suc k) zero x e ne = (0, e)
remove-keeps (y ∷ ys) (suc k) (suc l) x e ne = let r = remove-keeps ys k l x e (λ s. ne (ap suc s)) in (suc r.0, r.1)

total-le : (m m' : ThreadMeaning) (these those : List Thread) →
    ((k l : ℕ) (thread twin : Thread) → slice_get these k ≡ Some thread → slice_get these l ≡ Some twin → thread.start ≡ twin.start → k ≡ l) →
    ((k : ℕ) (thread : Thread) → slice_get these k ≡ Some thread → (j : ℕ) × (twin : Thread) × (slice_get those j ≡ Some twin) × (twin.start ≡ thread.start) × (cost_in m thread ≤ cost_in m' twin)) →
    sum_by (cost_in m) these ≤ sum_by (cost_in m') those
total-le m m' [] those apart pick = omega arith
total-le m m' (thread ∷ these) those apart pick =
    let c = pick 0 thread refl in
    let le = total-le m m' these (remove those c.0)
    (λ k l a b p q s. let z = apart (suc k) (suc l) a b p q s in omega arith)
    (λ k a has.
    let d = pick (suc k) a has in
    let ne : d.0 ≡ c.0 → ⊥ =
    λ e.
    let same : d.1 ≡ c.1 = (let z : Some d.1 ≡ Some c.1 = sym d.2 ∙ ap (slice_get those) e ∙ c.2 in cc) in
    let starts : a.start ≡ thread.start = sym d.3 ∙ ap (λ w. w.start) same ∙ c.3 in
    let n = apart (suc k) 0 a thread has refl starts in omega arith in
    let r = remove-keeps those c.0 d.0 d.1 d.2 ne in
    (r.0, d.1, r.1, d.3, d.4)) in
    let a = sum_by-cons (cost_in m) thread these in
    let within = slice_get_within those c.0 c.1 c.2 in
    let r = sum_by-remove (cost_in m') those c.0 c.1 within in
    let g = ap (cost_in m') (get_or_from_slice_get those c.0 c.1 c.1 c.2) in
    omega (arith, le, a, r, g, c.4)

-- **the finished set costs the most, of those that stand at times in question alone**
pub total_by : (Soon : Fraction → Type 0) (m m' : ThreadMeaning) (opening opening' : Opening) → Shares Soon m m' opening opening' → (these those : List Thread) → IsConsistent m opening these → IsConsistent m' opening' those → IsFinished m' opening' those →
    ((k i : ℕ) (thread : Thread) (place : Place) → slice_get these k ≡ Some thread → i ≤ length (trace m thread) → At m thread i place → Soon place.time) → total_of m these ≤ total_of m' those
unfolding total_of
total_by Soon m m' opening opening' shared these those these_hold those_hold finished all =
    total-le m m' these those
    (λ k l thread u a b s. these_hold.apart k l thread u a b (ap (λ w. w.place.thread) s))
    (λ k thread has.
    let b = begun_by Soon m m' opening opening' shared these those these_hold those_hold finished all k thread has in
    (b.at, b.thread, b.has, b.start, cost_by Soon m m' opening opening' shared these those these_hold those_hold finished all k b.at thread b.thread has b.has (sym b.start)))

-- for one session all times are in question
pub agree : (m : ThreadMeaning) (law : IsLawful m) (opening : Opening) (knowns : IsKnown m opening) (these those : List Thread) → IsConsistent m opening these → IsConsistent m opening those →
    (k i : ℕ) (thread : Thread) (entry : Entry) (place : Place) → slice_get these k ≡ Some thread → slice_get (trace m thread) i ≡ Some entry → At m thread i place → Clear m opening those place → Did m m those thread i entry
agree m law opening knowns these those these_hold those_hold k i thread entry place has did at clear = agree_by (λ n. Unit {0}) m m opening opening (itself m law opening knowns) these those these_hold those_hold k i thread entry place has did at tt clear

module _ (m : ThreadMeaning) (law : IsLawful m) (opening : Opening) (knowns : IsKnown m opening) (these those : List Thread) (these_hold : IsConsistent m opening these) (those_hold : IsConsistent m opening those) (finished : IsFinished m opening those) where
  pub begun_there : (k : ℕ) (thread : Thread) → slice_get these k ≡ Some thread → Begun those thread.start
  begun_there k thread has = begun_by (λ n. Unit {0}) m m opening opening (itself m law opening knowns) these those these_hold those_hold finished (λ k' i t' p h l a. tt) k thread has

  pub did_there : (tat uat : ℕ) (thread twin : Thread) → slice_get these tat ≡ Some thread → slice_get those uat ≡ Some twin → thread.start ≡ twin.start →
      (k : ℕ) (entry : Entry) → slice_get (trace m thread) k ≡ Some entry →
      (take k (trace m thread) ≡ take k (trace m twin)) × ((other : Entry) × (slice_get (trace m twin) k ≡ Some other) × (entry.step ≡ other.step))
  did_there tat uat thread twin thas uhas start k entry did = did_by (λ n. Unit {0}) m m opening opening (itself m law opening knowns) these those these_hold those_hold finished (λ k' i t' p h l a. tt) tat uat thread twin thas uhas start k entry did

  pub total_there : total_of m these ≤ total_of m those
  total_there = total_by (λ n. Unit {0}) m m opening opening (itself m law opening knowns) these those these_hold those_hold finished (λ k' i t' p h l a. tt)
