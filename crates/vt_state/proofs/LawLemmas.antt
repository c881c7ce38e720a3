-- The laws of what a read and a wait find.
use Rattle.std.proofs.Common.{◌≡◌, List, ◌++◌, ◌⊎◌, inl, inr, sym, subst}
use Rattle.std.specs.List.{Contains}
use Rattle.std.proofs.lemmas.List.Elements.{Contains-append_cases, Contains-append_left, Contains-append_right}
use Rattle.vt_path.specs.declared.pattern.Segment.{Segment}
use Rattle.vt_event.specs.declared.place.Place.{Place}
use Rattle.vt_event.specs.Event.{EventView}
use Rattle.vt_event.specs.Order.{IsBefore}
use Rattle.vt_event.specs.OrderLaws.{place_total}
use Rattle.vt_event.proofs.Order.{before-not_after}
use Rattle.vt_state.specs.LookUps.{IsAbove, IsBelow, IsFirstAbove, IsLastBelow, MeetsWants, NoneAbove, NoneBelow}
use Rattle.vt_state.specs.Laws.{HaveSameEvents}

pub one_last : (events : List EventView) (place : Place) (pattern : List Segment) (event other : EventView) →
    IsLastBelow events place pattern event → IsLastBelow events place pattern other → event ≡ other
one_last events place pattern event other a b = go (a.last other b.found) (b.last event a.found)
  where
    go : (other ≡ event) ⊎ IsBefore other.place event.place → (event ≡ other) ⊎ IsBefore event.place other.place → event ≡ other
    go (inl same) r = sym same
    go (inr before) (inl same) = same
    go (inr before) (inr after) = absurd (before-not_after other.place event.place before after)

pub one_first : (events : List EventView) (place : Place) (wants : List (List Segment)) (event other : EventView) →
    IsFirstAbove events place wants event → IsFirstAbove events place wants other → event ≡ other
one_first events place wants event other a b = go (a.first other b.found) (b.first event a.found)
  where
    go : (other ≡ event) ⊎ IsBefore event.place other.place → (event ≡ other) ⊎ IsBefore other.place event.place → event ≡ other
    go (inl same) r = sym same
    go (inr before) (inl same) = same
    go (inr before) (inr after) = absurd (before-not_after event.place other.place before after)

-- what meets some wants meets them and more
wants_left : (wants more : List (List Segment)) (event : EventView) → MeetsWants wants event → MeetsWants (wants ++ more) event
wants_left wants more event m = record { pattern = m.pattern; wanted = Contains-append_left wants more m.pattern m.wanted; matched = m.matched }

wants_right : (wants more : List (List Segment)) (event : EventView) → MeetsWants more event → MeetsWants (wants ++ more) event
wants_right wants more event m = record { pattern = m.pattern; wanted = Contains-append_right wants more m.pattern m.wanted; matched = m.matched }

either_wants : (events : List EventView) (place : Place) (wants more : List (List Segment)) (event : EventView) → IsAbove events place (wants ++ more) event →
    IsAbove events place wants event ⊎ IsAbove events place more event
either_wants events place wants more event o = go (Contains-append_cases wants more o.met.pattern o.met.wanted)
  where
    go : Contains wants o.met.pattern ⊎ Contains more o.met.pattern → IsAbove events place wants event ⊎ IsAbove events place more event
    go (inl left) = inl (record { listed = o.listed; above = o.above; met = record { pattern = o.met.pattern; wanted = left; matched = o.met.matched } })
    go (inr right) = inr (record { listed = o.listed; above = o.above; met = record { pattern = o.met.pattern; wanted = right; matched = o.met.matched } })

above_left : (events : List EventView) (place : Place) (wants more : List (List Segment)) (event : EventView) → IsAbove events place wants event → IsAbove events place (wants ++ more) event
above_left events place wants more event o = record { listed = o.listed; above = o.above; met = wants_left wants more event o.met }

above_right : (events : List EventView) (place : Place) (wants more : List (List Segment)) (event : EventView) → IsAbove events place more event → IsAbove events place (wants ++ more) event
above_right events place wants more event o = record { listed = o.listed; above = o.above; met = wants_right wants more event o.met }

-- an event that is behind one that is behind another, or is the other
behind_both : (event other third : EventView) → (event ≡ other) ⊎ IsBefore event.place other.place → (third ≡ other) ⊎ IsBefore other.place third.place →
    (third ≡ event) ⊎ IsBefore event.place third.place
behind_both event other third (inl same) r = subst (λ e. (third ≡ e) ⊎ IsBefore e.place third.place) (sym same) r
behind_both event other third (inr before) (inl same) = inr (subst (λ e. IsBefore event.place e.place) (sym same) before)
behind_both event other third (inr before) (inr after) = inr (place_total.trans event.place other.place third.place before after)

pub lesser : (events : List EventView) (place : Place) (wants more : List (List Segment)) (event other : EventView) →
    IsFirstAbove events place wants event → IsFirstAbove events place more other → (event ≡ other) ⊎ IsBefore event.place other.place →
    IsFirstAbove events place (wants ++ more) event
lesser events place wants more event other a b least = record {
  found = above_left events place wants more event a.found;
  first = λ third o. go third (either_wants events place wants more third o);
}
  where
    go : (third : EventView) → IsAbove events place wants third ⊎ IsAbove events place more third → (third ≡ event) ⊎ IsBefore event.place third.place
    go third (inl o) = a.first third o
    go third (inr o) = behind_both event other third least (b.first third o)

pub lesser_of_more : (events : List EventView) (place : Place) (wants more : List (List Segment)) (event other : EventView) →
    IsFirstAbove events place wants event → IsFirstAbove events place more other → IsBefore other.place event.place →
    IsFirstAbove events place (wants ++ more) other
lesser_of_more events place wants more event other a b least = record {
  found = above_right events place wants more other b.found;
  first = λ third o. go third (either_wants events place wants more third o);
}
  where
    go : (third : EventView) → IsAbove events place wants third ⊎ IsAbove events place more third → (third ≡ other) ⊎ IsBefore other.place third.place
    go third (inl o) = behind_both other event third (inr least) (a.first third o)
    go third (inr o) = b.first third o

pub first_alone : (events : List EventView) (place : Place) (wants more : List (List Segment)) (event : EventView) →
    IsFirstAbove events place wants event → NoneAbove events place more → IsFirstAbove events place (wants ++ more) event
first_alone events place wants more event a nothing = record {
  found = above_left events place wants more event a.found;
  first = λ third o. go third (either_wants events place wants more third o);
}
  where
    go : (third : EventView) → IsAbove events place wants third ⊎ IsAbove events place more third → (third ≡ event) ⊎ IsBefore event.place third.place
    go third (inl o) = a.first third o
    go third (inr o) = absurd (nothing third o)

pub more_alone : (events : List EventView) (place : Place) (wants more : List (List Segment)) (other : EventView) →
    NoneAbove events place wants → IsFirstAbove events place more other → IsFirstAbove events place (wants ++ more) other
more_alone events place wants more other nothing b = record {
  found = above_right events place wants more other b.found;
  first = λ third o. go third (either_wants events place wants more third o);
}
  where
    go : (third : EventView) → IsAbove events place wants third ⊎ IsAbove events place more third → (third ≡ other) ⊎ IsBefore other.place third.place
    go third (inl o) = absurd (nothing third o)
    go third (inr o) = b.first third o

pub neither : (events : List EventView) (place : Place) (wants more : List (List Segment)) →
    NoneAbove events place wants → NoneAbove events place more → NoneAbove events place (wants ++ more)
neither events place wants more nothing nothing' event o = go (either_wants events place wants more event o)
  where
    go : IsAbove events place wants event ⊎ IsAbove events place more event → ⊥
    go (inl h) = nothing event h
    go (inr h) = nothing' event h

-- the same events in another order
below_in : (events others : List EventView) (place : Place) (pattern : List Segment) (event : EventView) → (Contains events event → Contains others event) → IsBelow events place pattern event → IsBelow others place pattern event
below_in events others place pattern event moved o = record { listed = moved o.listed; below = o.below; matched = o.matched }

above_in : (events others : List EventView) (place : Place) (wants : List (List Segment)) (event : EventView) → (Contains events event → Contains others event) → IsAbove events place wants event → IsAbove others place wants event
above_in events others place wants event moved o = record { listed = moved o.listed; above = o.above; met = o.met }

pub last_of_same : (events others : List EventView) (place : Place) (pattern : List Segment) (event : EventView) →
    HaveSameEvents events others → IsLastBelow events place pattern event → IsLastBelow others place pattern event
last_of_same events others place pattern event same a = record {
  found = below_in events others place pattern event (same event).0 a.found;
  last = λ other o. a.last other (below_in others events place pattern other (same other).1 o);
}

pub none_below_of_same : (events others : List EventView) (place : Place) (pattern : List Segment) →
    HaveSameEvents events others → NoneBelow events place pattern → NoneBelow others place pattern
none_below_of_same events others place pattern same nothing event o = nothing event (below_in others events place pattern event (same event).1 o)

pub first_of_same : (events others : List EventView) (place : Place) (wants : List (List Segment)) (event : EventView) →
    HaveSameEvents events others → IsFirstAbove events place wants event → IsFirstAbove others place wants event
first_of_same events others place wants event same a = record {
  found = above_in events others place wants event (same event).0 a.found;
  first = λ other o. a.first other (above_in others events place wants other (same other).1 o);
}

pub none_above_of_same : (events others : List EventView) (place : Place) (wants : List (List Segment)) →
    HaveSameEvents events others → NoneAbove events place wants → NoneAbove others place wants
none_above_of_same events others place wants same nothing event o = nothing event (above_in others events place wants event (same event).1 o)
