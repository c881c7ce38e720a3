-- The rank of a place: how many places at which a thread acted are below it. It is finite, and grows with the place.
use Rattle.std.proofs.Common.{◌≡◌, ℕ, ◌<◌, ◌≤◌, List, [], ◌∷◌, ◌++◌, refl, sym, ◌∙◌, ap, inl, inr, arith, Bool, true, false, zero, suc, subst, Option, Some, None}
use Rattle.std.specs.Prelude.{slice_get, Contains, count_by, cond}
use Rattle.std.proofs.lemmas.List.Sums.{sum_by-remove, sum_by-le-sum_by}
use Rattle.std.proofs.lemmas.List.Elements.{Contains-append_left, Contains-append_right}
use Rattle.std.proofs.Common.{get_or}
use Rattle.std.specs.List.{remove}
use Rattle.vt_event.specs.declared.place.Place.{Place}
use Rattle.vt_run.specs.Standing.{action_place}
use Rattle.vt_run.specs.declared.action.Action.{Action}
use Rattle.vt_meaning.specs.Bounds.{Clear}
use Rattle.vt_meaning.specs.Consistent.{IsConsistent}
use Rattle.vt_meaning.specs.Happenings.{Acted}
use Rattle.vt_meaning.specs.Places.{Before, is_before, Upto}
use Rattle.vt_meaning.specs.ThreadLaws.{IsLawful}
use Rattle.vt_meaning.specs.ThreadMeaning.{ThreadMeaning}
use Rattle.vt_meaning.specs.Traces.{Entry, Thread, trace}
use Rattle.vt_meaning.specs.World.{Opening}
use Rattle.vt_meaning.proofs.Order.{before-trans, upto_split, is_before-true, true-is_before, is_before-irrefl}
use Rattle.vt_meaning.proofs.Traces.{At, IsSane}

-- the number of places of a list below a place
unfoldable pub rank : List Place → Place → ℕ
rank places p = count_by (λ r. is_before r p) places

count_step : (place r s : Place) → Before place r → cond (is_before s place) 1 0 ≤ cond (is_before s r) 1 0
count_step place r s lt = go (is_before s place) refl
  where
    go : (c : Bool) → is_before s place ≡ c → cond c 1 0 ≤ cond (is_before s r) 1 0
    go false e = omega arith
    go true e = rw (is_before-true s r (before-trans s place r (true-is_before s place e) lt)) (omega arith)

pub rank-less : (places : List Place) (place r : Place) → Contains places place → Before place r → rank places place < rank places r
unfolding rank
rank-less places place r has lt =
    let k = has.0 in
    let f : Place → ℕ = λ s. cond (is_before s place) 1 0 in
    let g : Place → ℕ = λ s. cond (is_before s r) 1 0 in
    let a = sum_by-remove f places k place has.1 in
    let b = sum_by-remove g places k place has.1 in
    let c = sum_by-le-sum_by f g (remove places k) (λ s. count_step place r s lt) in
    let d : f (get_or places k place) ≡ 0 = ap f has.2 ∙ ap (λ w. cond w 1 0) (is_before-irrefl place) in
    let e : g (get_or places k place) ≡ 1 = ap g has.2 ∙ ap (λ w. cond w 1 0) (is_before-true place r lt) in
    omega (arith, a, b, c, d, e)

pub rank-upto : (places : List Place) (place r : Place) → Upto place r → rank places place ≤ rank places r
unfolding rank
rank-upto places place r up =
    elim (upto_split place r up) [
      | inl e ↦ (let z : count_by (λ s. is_before s place) places ≡ count_by (λ s. is_before s r) places = ap (λ w. count_by (λ s. is_before s w) places) e in omega (arith, z))
      | inr lt ↦ sum_by-le-sum_by (λ s. cond (is_before s place) 1 0) (λ s. cond (is_before s r) 1 0) places (λ s. count_step place r s lt)
    ]

-- a list of places has all at which one of the threads acted
abbrev pub Covers : ThreadMeaning → List Thread → List Place → Type 0
Covers m these places = (thread : Thread) (i : ℕ) (entry : Entry) (a : Action) → Acted m these thread i entry a → Contains places (action_place a)

abbrev pub one_place : Option Action → List Place
one_place None = []
one_place (Some a) = action_place a ∷ []

-- where the actions of some entries stand
abbrev pub acted_places : List Entry → List Place
acted_places [] = []
acted_places (x ∷ xs) = one_place x.step.action ++ acted_places xs

abbrev pub all_places : ThreadMeaning → List Thread → List Place
all_places m [] = []
all_places m (t ∷ these) = acted_places (trace m t) ++ all_places m these

acted_places-has : (entries : List Entry) (i : ℕ) (entry : Entry) (a : Action) → slice_get entries i ≡ Some entry → entry.step.action ≡ Some a → Contains (acted_places entries) (action_place a)
acted_places-has [] i entry a e is = absurd (let z : ◌≡◌ {A = Option Entry} None (Some entry) = e in cc)
acted_places-has (y ∷ ys) zero entry a e is =
    let same : y ≡ entry = cc in
    let eq : y.step.action ≡ Some a = ap (λ w. w.step.action) same ∙ is in
    let here : Contains (one_place (Some a)) (action_place a) = (0, omega arith, refl) in
    Contains-append_left (one_place y.step.action) (acted_places ys) (action_place a) (subst (λ o. Contains (one_place o) (action_place a)) (sym eq) here)
acted_places-has (y ∷ ys) (suc i) entry a e is =
    Contains-append_right (one_place y.step.action) (acted_places ys) (action_place a) (acted_places-has ys i entry a e is)

all_places-has : (m : ThreadMeaning) (these : List Thread) (k : ℕ) (thread : Thread) (place : Place) → slice_get these k ≡ Some thread → Contains (acted_places (trace m thread)) place → Contains (all_places m these) place
all_places-has m [] k thread place e h = absurd (let z : ◌≡◌ {A = Option Thread} None (Some thread) = e in cc)
all_places-has m (u ∷ those) zero thread place e h =
    let same : u ≡ thread = cc in
    Contains-append_left (acted_places (trace m u)) (all_places m those) place (subst (λ w. Contains (acted_places (trace m w)) place) (sym same) h)
all_places-has m (u ∷ those) (suc k) thread place e h =
    Contains-append_right (acted_places (trace m u)) (all_places m those) place (all_places-has m those k thread place e h)

pub covers : (m : ThreadMeaning) (these : List Thread) → Covers m these (all_places m these)
covers m these t i x a acted = all_places-has m these acted.at t (action_place a) acted.has (acted_places-has (trace m t) i x a acted.did acted.is)

pub sane : (m : ThreadMeaning) (opening : Opening) (these : List Thread) → IsConsistent m opening these → (k : ℕ) (thread : Thread) → slice_get these k ≡ Some thread → IsSane m thread
sane m opening these consistent k thread has =
    record {
      woken =
          λ i x p q a did is ans.
          let w = consistent.waits thread i x p q a (record { at = k; has = has; did = did; is = is }) ans in
          (w.0, w.1, w.2.found.above);
      rests = λ i x p n did is. consistent.moves thread i x p n (record { at = k; has = has; did = did; is = is });
    }

-- what the front has passed, it passed with all below
pub clear_below : (m : ThreadMeaning) (opening : Opening) (these : List Thread) (place r : Place) → Before place r → Clear m opening these r → Clear m opening these place
clear_below m opening these place r h clear k t b has on = before-trans place r b h (clear k t b has on)

pub acted_at : (m : ThreadMeaning) (law : IsLawful m) (thread : Thread) (i : ℕ) (entry : Entry) (a : Action) → slice_get (trace m thread) i ≡ Some entry → entry.step.action ≡ Some a → At m thread i (action_place a)
acted_at m law thread i entry a did is = let here = law.placed thread i entry did in subst (λ p. At m thread i p) (sym (here.2 a is)) here.1
