-- Rows that are searched by halves.
use Rattle.std.proofs.Common.{◌≡◌, ℕ, ◌+◌, ◌-◌, ◌/◌, ◌<◌, ◌≤◌, Bool, true, false, List, length, Some, ◌⊎◌, inl, inr, slice_get, sym, ap, ◌∙◌, subst, arith}
use Rattle.std.specs.Bool.{MatchBool, OnTrue}
use Rattle.std.proofs.lemmas.Bool.{cases_lt}
use Rattle.std.proofs.lemmas.Option.{same_Some, slice_get_within}
use Rattle.vt_event.specs.declared.place.Place.{Place}
use Rattle.vt_event.specs.Event.{EventView}
use Rattle.vt_event.specs.Order.{IsBefore}
use Rattle.vt_event.specs.OrderLaws.{place_total}
use Rattle.vt_state.proofs.OwnPlaces.{contains_at, index_of}
use Rattle.vt_index.specs.declared.side.Side.{Side}
use Rattle.vt_index.specs.declared.side.Side.TheVariants.{Below, Above}
use Rattle.vt_index.specs.private.Nearest.{AreInFront, IsBehind, IsCut, IsEventAt, IsInFront, IsNearest, NoneLies, StandsIn}
use Rattle.vt_index.specs.private.Rows.{IsRising}
use Rattle.vt_index.proofs.PositionLemmas.{rising_at}

-- what is before an event in front is in front
front_before : (side : Side) (place : Place) (event later : EventView) → IsBefore event.place later.place → IsInFront side place later → IsInFront side place event
front_before Below place event later before front = place_total.trans event.place later.place place before front
front_before Above place event later before front = λ above. front (place_total.trans place event.place later.place above before)

-- what is after an event behind is behind
behind_after : (side : Side) (place : Place) (event later : EventView) → IsBefore event.place later.place → IsBehind side place event → IsBehind side place later
behind_after Below place event later before behind = λ below. behind (place_total.trans event.place later.place place before below)
behind_after Above place event later before behind = place_total.trans place event.place later.place behind before

-- one position leads to one event
one_event : (events : List EventView) (at : List ℕ) (k i j : ℕ) (event other : EventView) → slice_get at k ≡ Some i → slice_get events i ≡ Some event → slice_get at k ≡ Some j →
    slice_get events j ≡ Some other → event ≡ other
one_event events at k i j event other e f e' f' =
    let same : i ≡ j = same_Some i j (sym e ∙ e') in
    same_Some event other (sym f ∙ (ap (λ (p : ℕ). slice_get events p) same ∙ f'))

-- all up to the middle are in front, where it is
pub front_up_to : (events : List EventView) (at : List ℕ) (side : Side) (place : Place) (middle position : ℕ) (event : EventView) → IsRising events at →
    slice_get at middle ≡ Some position → slice_get events position ≡ Some event → IsInFront side place event →
    (k i : ℕ) (other : EventView) → k < middle + 1 → slice_get at k ≡ Some i → slice_get events i ≡ Some other → IsInFront side place other
front_up_to events at side place middle position event rising e f front k i other less e' f' = go (cases_lt k middle)
  where
    go : (k < middle) ⊎ (middle ≤ k) → IsInFront side place other
    go (inl before) = front_before side place other event (rising_at events at k middle i position rising before e' e other event f' f) front
    go (inr not_before) =
        let same : k ≡ middle = omega arith in
        subst (IsInFront side place) (one_event events at middle position i event other e f (subst (λ (n : ℕ). slice_get at n ≡ Some i) same e') f') front

-- all from the middle on are behind, where it is
pub behind_from : (events : List EventView) (at : List ℕ) (side : Side) (place : Place) (middle position : ℕ) (event : EventView) → IsRising events at →
    slice_get at middle ≡ Some position → slice_get events position ≡ Some event → IsBehind side place event →
    (k i : ℕ) (other : EventView) → middle ≤ k → slice_get at k ≡ Some i → slice_get events i ≡ Some other → IsBehind side place other
behind_from events at side place middle position event rising e f behind k i other more e' f' = go (cases_lt middle k)
  where
    go : (middle < k) ⊎ (k ≤ middle) → IsBehind side place other
    go (inl after) = behind_after side place event other (rising_at events at middle k position i rising after e e' event other f f') behind
    go (inr not_after) =
        let same : k ≡ middle = omega arith in
        subst (IsBehind side place) (one_event events at middle position i event other e f (subst (λ (n : ℕ). slice_get at n ≡ Some i) same e') f') behind

-- the last of the row is in front: all are
pub all_in_front : (events : List EventView) (at : List ℕ) (place : Place) (last position : ℕ) (event : EventView) → IsRising events at → last + 1 ≡ length at →
    slice_get at last ≡ Some position → slice_get events position ≡ Some event → IsBefore event.place place → AreInFront events at place
all_in_front events at place last position event rising end e f front = λ k i other e' f'.
    let within : k < length at = slice_get_within at k i e' in
    front_up_to events at Below place last position event rising e f front k i other (omega arith) e' f'

pub cut_at_end : (events : List EventView) (at : List ℕ) (place : Place) → AreInFront events at place → IsCut events at Below place (length at)
cut_at_end events at place front = record {
  within = omega arith;
  front = λ k position event less e f. front k position event e f;
  behind = λ k position event more e f. let within : k < length at = slice_get_within at k position e in absurd (omega arith);
}

-- the search ends where nothing is left
pub cut_found : (events : List EventView) (at : List ℕ) (side : Side) (place : Place) (low high : ℕ) → high ≤ low → high ≤ length at → low ≤ high →
    ((k i : ℕ) (event : EventView) → k < low → slice_get at k ≡ Some i → slice_get events i ≡ Some event → IsInFront side place event) →
    ((k i : ℕ) (event : EventView) → high ≤ k → slice_get at k ≡ Some i → slice_get events i ≡ Some event → IsBehind side place event) → IsCut events at side place low
cut_found events at side place low high done within order front behind = record {
  within = omega arith;
  front = front;
  behind = λ k i event more e f. behind k i event (omega arith) e f;
}

-- nothing is in front: a search below finds nothing
pub none_below : (events : List EventView) (at : List ℕ) (place : Place) (count : ℕ) → IsCut events at Below place count → count ≡ 0 → NoneLies (StandsIn events at) Below place
none_below events at place count cut none = λ event fits lies.
    let h = index_of at fits.0 fits.1 in
    cut.behind h.0 fits.0 event (omega arith) h.1 fits.2 lies

-- else it finds the last event in front
pub found_below : (events : List EventView) (at : List ℕ) (place : Place) (count last position : ℕ) (event : EventView) → IsRising events at → IsCut events at Below place count →
    last + 1 ≡ count → slice_get at last ≡ Some position → slice_get events position ≡ Some event → IsNearest (StandsIn events at) Below place event
found_below events at place count last position event rising cut end e f = record {
  fits = (position, contains_at at last position e, f);
  lies = cut.front last position event (omega arith) e f;
  nearest = λ other fits lies. let h = index_of at fits.0 fits.1 in go other fits.0 h.0 h.1 fits.2 lies (cases_lt h.0 last);
}
  where
    go : (other : EventView) (i k : ℕ) → slice_get at k ≡ Some i → slice_get events i ≡ Some other → IsBefore other.place place → (k < last) ⊎ (last ≤ k) →
        (other.place ≡ event.place) ⊎ IsBefore other.place event.place
    go other i k e' f' lies (inl before) = inr (rising_at events at k last i position rising before e' e other event f' f)
    go other i k e' f' lies (inr not_before) = by (cases_lt last k)
      where
        by : (last < k) ⊎ (k ≤ last) → (other.place ≡ event.place) ⊎ IsBefore other.place event.place
        by (inl after) = absurd (cut.behind k i other (omega arith) e' f' lies)
        by (inr not_after) =
            let same : k ≡ last = omega arith in
            inl (ap (λ (x : EventView). x.place) (one_event events at last i position other event (subst (λ (n : ℕ). slice_get at n ≡ Some i) same e') f' e f))

-- all are in front: a search above finds nothing
pub none_above : (events : List EventView) (at : List ℕ) (place : Place) (count : ℕ) → IsCut events at Above place count → count ≡ length at → NoneLies (StandsIn events at) Above place
none_above events at place count cut all = λ event fits lies.
    let h = index_of at fits.0 fits.1 in
    let within : h.0 < length at = slice_get_within at h.0 fits.0 h.1 in
    cut.front h.0 fits.0 event (omega arith) h.1 fits.2 lies

-- else it finds the first event behind
pub found_above : (events : List EventView) (at : List ℕ) (place : Place) (count position : ℕ) (event : EventView) → IsRising events at → IsCut events at Above place count →
    slice_get at count ≡ Some position → slice_get events position ≡ Some event → IsNearest (StandsIn events at) Above place event
found_above events at place count position event rising cut e f = record {
  fits = (position, contains_at at count position e, f);
  lies = cut.behind count position event (omega arith) e f;
  nearest = λ other fits lies. let h = index_of at fits.0 fits.1 in go other fits.0 h.0 h.1 fits.2 lies (cases_lt count h.0);
}
  where
    go : (other : EventView) (i k : ℕ) → slice_get at k ≡ Some i → slice_get events i ≡ Some other → IsBefore place other.place → (count < k) ⊎ (k ≤ count) →
        (other.place ≡ event.place) ⊎ IsBefore event.place other.place
    go other i k e' f' lies (inl after) = inr (rising_at events at count k position i rising after e e' event other f f')
    go other i k e' f' lies (inr not_after) = by (cases_lt k count)
      where
        by : (k < count) ⊎ (count ≤ k) → (other.place ≡ event.place) ⊎ IsBefore event.place other.place
        by (inl before) = absurd (cut.front k i other before e' f' lies)
        by (inr not_before) =
            let same : k ≡ count = omega arith in
            inl (ap (λ (x : EventView). x.place) (one_event events at count i position other event (subst (λ (n : ℕ). slice_get at n ≡ Some i) same e') f' e f))

-- the same where the side is told by an equation
pub none_below_at : (events : List EventView) (at : List ℕ) (side : Side) (place : Place) (count : ℕ) → side ≡ Below → IsCut events at side place count → count ≡ 0 → NoneLies (StandsIn events at) side place
none_below_at events at side place count is cut none =
    subst (λ (s : Side). NoneLies (StandsIn events at) s place) (sym is) (none_below events at place count (subst (λ (s : Side). IsCut events at s place count) is cut) none)

pub found_below_at : (events : List EventView) (at : List ℕ) (side : Side) (place : Place) (count last : ℕ) (event : EventView) → side ≡ Below → IsRising events at → IsCut events at side place count →
    last + 1 ≡ count → IsEventAt events at last event → IsNearest (StandsIn events at) side place event
found_below_at events at side place count last event is rising cut end h =
    subst (λ (s : Side). IsNearest (StandsIn events at) s place event) (sym is)
    (found_below events at place count last h.position event rising (subst (λ (s : Side). IsCut events at s place count) is cut) end h.leads h.stands)

pub none_above_at : (events : List EventView) (at : List ℕ) (side : Side) (place : Place) (count : ℕ) → side ≡ Above → IsCut events at side place count → count ≡ length at → NoneLies (StandsIn events at) side place
none_above_at events at side place count is cut all =
    subst (λ (s : Side). NoneLies (StandsIn events at) s place) (sym is) (none_above events at place count (subst (λ (s : Side). IsCut events at s place count) is cut) all)

pub found_above_at : (events : List EventView) (at : List ℕ) (side : Side) (place : Place) (count : ℕ) (event : EventView) → side ≡ Above → IsRising events at → IsCut events at side place count →
    IsEventAt events at count event → IsNearest (StandsIn events at) side place event
found_above_at events at side place count event is rising cut h =
    subst (λ (s : Side). IsNearest (StandsIn events at) s place event) (sym is)
    (found_above events at place count h.position event rising (subst (λ (s : Side). IsCut events at s place count) is cut) h.leads h.stands)

-- what follows where a test holds
pub told : (r : Bool) (P Q R : Type 0) → MatchBool r P Q → (P → R) → OnTrue r R
told true P Q R h then = then h
told false P Q R h then = tt

-- the middle lies between the ends
pub middle_below : (low high : ℕ) → low < high → low + (high - low) / 2 < high
middle_below low high less = omega arith
