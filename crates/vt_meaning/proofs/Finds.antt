-- The look-ups find what the time state says.
use Rattle.std.proofs.Common.{◌≡◌, ℕ, ◌<◌, List, [], ◌∷◌, length, get_or, refl, sym, ◌∙◌, ap, inl, inr, ◌⊎◌, arith, Bool, true, false, zero, suc, subst, true≢false, ◌&&◌, ◌||◌, cond, not, Option, Some, None, slice_get}
use Rattle.std.specs.Prelude.{Contains, Decides, IsSomeAnd, MatchOption}
use Rattle.std.proofs.lemmas.Bool.Decides.{Decides-and, Decides-like, Decides-not, Decides-or}
use Rattle.vt_path.specs.declared.pattern.Segment.{Segment}
use Rattle.vt_path.specs.Match.{Matches}
use Rattle.vt_event.specs.declared.kind.Kind.{Kind}
use Rattle.vt_event.specs.declared.kind.Kind.TheVariants.{Took}
use Rattle.vt_event.specs.declared.place.Place.{Place}
use Rattle.vt_event.specs.Event.{EventView}
use Rattle.vt_event.specs.Order.{IsBefore, place_order}
use Rattle.vt_event.specs.OrderLaws.{place_total}
use Rattle.vt_event.proofs.Order.{compared}
use Rattle.vt_state.specs.LookUps.{HaveOwnPlaces, IsFirstAbove, IsLastBelow, MatchesEvent, MeetsWants, NoneAbove, NoneBelow}
use Rattle.vt_state.proofs.OwnPlaces.{index_of}
use Rattle.vt_state.proofs.ScanLemmas.{is_less}
use Rattle.vt_meaning.specs.Laws.{LookUpsAreRight}
use Rattle.vt_meaning.specs.LookUps.{first_above, higher, is_took, last_below, lower, matches_event, matches_some, meets_wants}
use Rattle.vt_meaning.specs.Places.{is_before}
use Rattle.vt_meaning.proofs.Matching.{match_test_is_right}

none_some : {A : Type 0} {x : A} → ◌≡◌ {A = Option A} None (Some x) → ⊥
none_some h = cc

before_right : (p q : Place) → Decides (is_before p q) (IsBefore p q)
unfolding is_before
before_right p q = is_less (place_order p q)

took_right : (kind : Kind) → Decides (is_took kind) (kind ≡ Took)
took_right kind = (forth kind, λ h. ap is_took h)
  where
    forth : (kind : Kind) → is_took kind ≡ true → kind ≡ Took
    forth Took e = refl
    forth _ e = absurd (true≢false (sym e))

some_right : (pattern : List Segment) (path : Option (List (List ℕ))) → Decides (matches_some pattern path) (IsSomeAnd path (λ p. Matches pattern p))
some_right pattern None = (λ e. absurd (true≢false (sym e)), λ h. absurd h)
some_right pattern (Some path) = match_test_is_right pattern path

matches_right : (pattern : List Segment) (event : EventView) → Decides (matches_event pattern event) (MatchesEvent pattern event)
unfolding matches_event
matches_right pattern event =
    Decides-like (not (is_took event.kind) && matches_some pattern event.path)
    (λ h. record { not_took = h.0; matched = h.1 })
    (λ h. (h.not_took, h.matched))
    (Decides-and (not (is_took event.kind)) (matches_some pattern event.path) (Decides-not (is_took event.kind) (took_right event.kind)) (some_right pattern event.path))

wanted_cons : (x : List Segment) (xs : List (List Segment)) (y : List Segment) → Contains (x ∷ xs) y → (x ≡ y) ⊎ Contains xs y
wanted_cons x xs y h = one h.0 h.1 h.2
  where
    one : (k : ℕ) → k < length (x ∷ xs) → get_or (x ∷ xs) k y ≡ y → (x ≡ y) ⊎ Contains xs y
    one zero lt g = inl g
    one (suc k) lt g = inr (k, (omega arith), g)

meets_right : (wants : List (List Segment)) (event : EventView) → Decides (meets_wants wants event) (MeetsWants wants event)
meets_right [] event = (λ e. absurd (true≢false (sym e)), λ h. absurd (let lt = h.wanted.1 in omega arith))
meets_right (pattern ∷ wants) event =
    Decides-like (matches_event pattern event || meets_wants wants event) forth back
    (Decides-or (matches_event pattern event) (meets_wants wants event) (matches_right pattern event) (meets_right wants event))
  where
    forth : MatchesEvent pattern event ⊎ MeetsWants wants event → MeetsWants (pattern ∷ wants) event
    forth (inl h) = record { pattern = pattern; wanted = (0, omega arith, refl); matched = h }
    forth (inr h) = record { pattern = h.pattern; wanted = (suc h.wanted.0, (let l = h.wanted.1 in omega arith), h.wanted.2); matched = h.matched }

    back : MeetsWants (pattern ∷ wants) event → MatchesEvent pattern event ⊎ MeetsWants wants event
    back h =
        elim (wanted_cons pattern wants h.pattern h.wanted) [
          | inl same ↦ inl (subst (λ p. MatchesEvent p event) (sym same) h.matched)
          | inr there ↦ inr (record { pattern = h.pattern; wanted = there; matched = h.matched })
        ]

event_cons : (x : EventView) (xs : List EventView) (y : EventView) → Contains (x ∷ xs) y → (x ≡ y) ⊎ Contains xs y
event_cons x xs y h = one h.0 h.1 h.2
  where
    one : (k : ℕ) → k < length (x ∷ xs) → get_or (x ∷ xs) k y ≡ y → (x ≡ y) ⊎ Contains xs y
    one zero lt g = inl g
    one (suc k) lt g = inr (k, (omega arith), g)

event_here : (x : EventView) (xs : List EventView) → Contains (x ∷ xs) x
event_here x xs = (0, omega arith, refl)

event_there : (x : EventView) (xs : List EventView) (y : EventView) → Contains xs y → Contains (x ∷ xs) y
event_there x xs y h = (suc h.0, (let l = h.1 in omega arith), h.2)

own_same : (events : List EventView) (a b : EventView) → HaveOwnPlaces events → Contains events a → Contains events b → a.place ≡ b.place → a ≡ b
own_same events a b own ha hb same =
    let i = index_of events a ha in
    let j = index_of events b hb in
    let at : i.0 ≡ j.0 = own i.0 j.0 a b i.1 j.1 same in
    let both : Some a ≡ Some b = sym i.1 ∙ ap (λ k. slice_get events k) at ∙ j.1 in cc

-- of the events that fit the one that is furthest by an order of places
module _ (Fits : EventView → Type 0) (Ahead : Place → Place → Type 0) (ahead_trans : (p q r : Place) → Ahead p q → Ahead q r → Ahead p r) (ahead_total : (p q : Place) → Ahead p q ⊎ (p ≡ q) ⊎ Ahead q p) where
  abbrev AtMost : EventView → EventView → Type 0
  AtMost event other = (other.place ≡ event.place) ⊎ Ahead event.place other.place

  abbrev IsFurthest : List EventView → Option EventView → Type 0
  IsFurthest events None = (other : EventView) → Contains events other → Fits other → ⊥
  IsFurthest events (Some event) = Contains events event × Fits event × ((other : EventView) → Contains events other → Fits other → AtMost event other)

  passed : (x : EventView) (xs : List EventView) (found : Option EventView) → (Fits x → ⊥) → IsFurthest xs found → IsFurthest (x ∷ xs) found
  passed x xs None unfit h = λ other c f. elim (event_cons x xs other c) [ inl same ↦ unfit (subst Fits (sym same) f) | inr there ↦ h other there f ]
  passed x xs (Some event) unfit h = (
    event_there x xs event h.0,
    h.1,
    λ other c f. elim (event_cons x xs other c) [ inl same ↦ absurd (unfit (subst Fits (sym same) f)) | inr there ↦ h.2 other there f ],
  )

  itself : (x other : EventView) → x ≡ other → AtMost x other
  itself x other same = inl (ap (λ e. e.place) (sym same))

  first_found : (x : EventView) (xs : List EventView) → Fits x → IsFurthest xs None → IsFurthest (x ∷ xs) (Some x)
  first_found x xs fits h = (
    event_here x xs,
    fits,
    λ other c f. elim (event_cons x xs other c) [ inl same ↦ itself x other same | inr there ↦ absurd (h other there f) ],
  )

  kept : (x event : EventView) (xs : List EventView) → Ahead event.place x.place → IsFurthest xs (Some event) → IsFurthest (x ∷ xs) (Some event)
  kept x event xs ahead h = (
    event_there x xs event h.0,
    h.1,
    λ other c f. elim (event_cons x xs other c) [ inl same ↦ inr (subst (λ e. Ahead event.place e.place) same ahead) | inr there ↦ h.2 other there f ],
  )

  over : (x event other : EventView) → (Ahead event.place x.place → ⊥) → AtMost event other → AtMost x other
  over x event other behind at = go (ahead_total event.place x.place) at
    where
      go : Ahead event.place x.place ⊎ (event.place ≡ x.place) ⊎ Ahead x.place event.place → AtMost event other → AtMost x other
      go (inl ahead) at = absurd (behind ahead)
      go (inr (inl same)) (inl e) = inl (e ∙ same)
      go (inr (inl same)) (inr a) = inr (subst (λ p. Ahead p other.place) same a)
      go (inr (inr ahead)) (inl e) = inr (subst (λ p. Ahead x.place p) (sym e) ahead)
      go (inr (inr ahead)) (inr a) = inr (ahead_trans x.place event.place other.place ahead a)

  replaced : (x event : EventView) (xs : List EventView) → Fits x → (Ahead event.place x.place → ⊥) → IsFurthest xs (Some event) → IsFurthest (x ∷ xs) (Some x)
  replaced x event xs fits behind h = (
    event_here x xs,
    fits,
    λ other c f. elim (event_cons x xs other c) [ inl same ↦ itself x other same | inr there ↦ over x event other behind (h.2 other there f) ],
  )

not_true : {P : Type 0} (b : Bool) → Decides b P → b ≡ false → P → ⊥
not_true b d e p = true≢false (sym (d.1 p) ∙ e)

abbrev Later : Place → Place → Type 0
Later p q = IsBefore q p

later_trans : (p q r : Place) → Later p q → Later q r → Later p r
later_trans p q r h k = place_total.trans r q p k h

later_total : (p q : Place) → Later p q ⊎ (p ≡ q) ⊎ Later q p
later_total p q = elim (compared p q) [ inl lt ↦ inr (inr lt) | inr (inl e) ↦ inr (inl e) | inr (inr gt) ↦ inl gt ]

abbrev FitsBelow : Place → List Segment → EventView → Type 0
FitsBelow place pattern event = IsBefore event.place place × MatchesEvent pattern event

below_right : (place : Place) (pattern : List Segment) (event : EventView) → Decides (is_before event.place place && matches_event pattern event) (FitsBelow place pattern event)
below_right place pattern event = Decides-and (is_before event.place place) (matches_event pattern event) (before_right event.place place) (matches_right pattern event)

module _ (place : Place) (pattern : List Segment) where
  abbrev IsLast : List EventView → Option EventView → Type 0
  IsLast events found = IsFurthest (FitsBelow place pattern) Later later_trans later_total events found

  last_is : (events : List EventView) → IsLast events (last_below events place pattern)
  last_is [] = λ other c f. let lt = c.1 in omega arith
  last_is (x ∷ xs) = go (is_before x.place place && matches_event pattern x) (below_right place pattern x) (last_below xs place pattern) (last_is xs)
    where
      pick : (event : EventView) (b : Bool) → is_before x.place event.place ≡ b → FitsBelow place pattern x → IsLast xs (Some event) → IsLast (x ∷ xs) (Some (cond b event x))
      pick event true e fits h = kept (FitsBelow place pattern) Later later_trans later_total x event xs ((before_right x.place event.place).0 e) h
      pick event false e fits h = replaced (FitsBelow place pattern) Later later_trans later_total x event xs fits (not_true (is_before x.place event.place) (before_right x.place event.place) e) h

      take : (found : Option EventView) → FitsBelow place pattern x → IsLast xs found → IsLast (x ∷ xs) (Some (higher x found))
      take None fits h = first_found (FitsBelow place pattern) Later later_trans later_total x xs fits h
      take (Some event) fits h = pick event (is_before x.place event.place) refl fits h

      go : (b : Bool) → Decides b (FitsBelow place pattern x) → (found : Option EventView) → IsLast xs found → IsLast (x ∷ xs) (cond b (Some (higher x found)) found)
      go true d found h = take found (d.0 refl) h
      go false d found h = passed (FitsBelow place pattern) Later later_trans later_total x xs found (λ f. true≢false (sym (d.1 f))) h

  last_found : (events : List EventView) (found : Option EventView) → HaveOwnPlaces events → IsLast events found →
      MatchOption found (NoneBelow events place pattern) (λ event. IsLastBelow events place pattern event)
  last_found events None own h = λ event b. h event b.listed (b.below, b.matched)
  last_found events (Some event) own h = record {
    found = record { listed = h.0; below = h.1.0; matched = h.1.1 };
    last = λ other b. elim (h.2 other b.listed (b.below, b.matched)) [ inl same ↦ inl (own_same events other event own b.listed h.0 same) | inr lt ↦ inr lt ];
  }

abbrev Earlier : Place → Place → Type 0
Earlier p q = IsBefore p q

earlier_trans : (p q r : Place) → Earlier p q → Earlier q r → Earlier p r
earlier_trans p q r h k = place_total.trans p q r h k

earlier_total : (p q : Place) → Earlier p q ⊎ (p ≡ q) ⊎ Earlier q p
earlier_total p q = compared p q

abbrev FitsAbove : Place → List (List Segment) → EventView → Type 0
FitsAbove place wants event = IsBefore place event.place × MeetsWants wants event

above_right : (place : Place) (wants : List (List Segment)) (event : EventView) → Decides (is_before place event.place && meets_wants wants event) (FitsAbove place wants event)
above_right place wants event = Decides-and (is_before place event.place) (meets_wants wants event) (before_right place event.place) (meets_right wants event)

module _ (place : Place) (wants : List (List Segment)) where
  abbrev IsFirst : List EventView → Option EventView → Type 0
  IsFirst events found = IsFurthest (FitsAbove place wants) Earlier earlier_trans earlier_total events found

  first_is : (events : List EventView) → IsFirst events (first_above events place wants)
  first_is [] = λ other c f. let lt = c.1 in omega arith
  first_is (x ∷ xs) = go (is_before place x.place && meets_wants wants x) (above_right place wants x) (first_above xs place wants) (first_is xs)
    where
      pick : (event : EventView) (b : Bool) → is_before event.place x.place ≡ b → FitsAbove place wants x → IsFirst xs (Some event) → IsFirst (x ∷ xs) (Some (cond b event x))
      pick event true e fits h = kept (FitsAbove place wants) Earlier earlier_trans earlier_total x event xs ((before_right event.place x.place).0 e) h
      pick event false e fits h = replaced (FitsAbove place wants) Earlier earlier_trans earlier_total x event xs fits (not_true (is_before event.place x.place) (before_right event.place x.place) e) h

      take : (found : Option EventView) → FitsAbove place wants x → IsFirst xs found → IsFirst (x ∷ xs) (Some (lower x found))
      take None fits h = first_found (FitsAbove place wants) Earlier earlier_trans earlier_total x xs fits h
      take (Some event) fits h = pick event (is_before event.place x.place) refl fits h

      go : (b : Bool) → Decides b (FitsAbove place wants x) → (found : Option EventView) → IsFirst xs found → IsFirst (x ∷ xs) (cond b (Some (lower x found)) found)
      go true d found h = take found (d.0 refl) h
      go false d found h = passed (FitsAbove place wants) Earlier earlier_trans earlier_total x xs found (λ f. true≢false (sym (d.1 f))) h

  above_found : (events : List EventView) (found : Option EventView) → HaveOwnPlaces events → IsFirst events found →
      MatchOption found (NoneAbove events place wants) (λ event. IsFirstAbove events place wants event)
  above_found events None own h = λ event b. h event b.listed (b.above, b.met)
  above_found events (Some event) own h = record {
    found = record { listed = h.0; above = h.1.0; met = h.1.1 };
    first = λ other b. elim (h.2 other b.listed (b.above, b.met)) [ inl same ↦ inl (own_same events other event own b.listed h.0 same) | inr lt ↦ inr lt ];
  }

pub look_ups_are_right : LookUpsAreRight
look_ups_are_right = record {
  last = λ events place pattern own. last_found place pattern events (last_below events place pattern) own (last_is place pattern events);
  first = λ events place wants own. above_found place wants events (first_above events place wants) own (first_is place wants events);
}
