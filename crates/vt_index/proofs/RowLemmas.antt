-- A row with one event more, and a row that is cut back.
use Rattle.std.proofs.Common.{◌≡◌, ℕ, ◌+◌, ◌<◌, ◌≤◌, List, Some, ◌⊎◌, inl, inr, insert, slice_get, sym, ◌∙◌, subst, arith}
use Rattle.std.specs.Prelude.{nat_lt}
use Rattle.std.specs.List.{Contains}
use Rattle.std.proofs.lemmas.Bool.{ltb-true, lt-ltb}
use Rattle.std.proofs.lemmas.Option.{same_Some}
use Rattle.vt_event.specs.Event.{EventView}
use Rattle.vt_event.specs.Order.{IsBefore}
use Rattle.vt_event.proofs.Order.{compared}
use Rattle.vt_state.specs.LookUps.{HaveOwnPlaces}
use Rattle.vt_state.proofs.OwnPlaces.{contains_at}
use Rattle.vt_index.specs.declared.row.Row.{Row}
use Rattle.vt_index.specs.declared.side.Side.TheVariants.{Below}
use Rattle.vt_index.specs.private.Nearest.{IsCut}
use Rattle.vt_index.specs.private.Rows.{AreInOrder, AreWithin, IsAdded, IsCutTo, IsRising, IsRow, IsSameRow, LeadsTo, StandsAt}
use Rattle.vt_index.proofs.PositionLemmas.{filter_from, filter_rising, filter_to, insert_cases, insert_has, insert_keeps, insert_rising}

-- a row's positions are below n
pub row_within : (events : List EventView) (n : ℕ) (row : Row) → IsRow events n row → AreWithin n row.at.items
row_within events n row h position listed = (h.each position listed).below

-- and so below a larger number
pub row_within_more : (events : List EventView) (n m : ℕ) (row : Row) → n ≤ m → IsRow events n row → AreWithin m row.at.items
row_within_more events n m row less h position listed = let k : position < n = (h.each position listed).below in omega arith

pub row_of_more : (events : List EventView) (n m : ℕ) (row : Row) → n ≤ m → IsRow events n row → IsRow events m row
row_of_more events n m row less h = record {
  each = λ position listed. let l = h.each position listed in record { below = (let k : position < n = l.below in omega arith); stands = l.stands };
  rising = h.rising;
}

pub same_row : (events : List EventView) (n : ℕ) (before after : Row) → IsSameRow before after → IsRow events n before → IsRow events n after
same_row events n before after same h = record {
  each = λ position listed. let l = h.each position (subst (λ (at : List ℕ). Contains at position) same.positions listed) in
      record { below = l.below; stands = subst (λ (path : List (List ℕ)). StandsAt events path position) (sym same.same) l.stands };
  rising = subst (IsRising events) (sym same.positions) h.rising;
}

-- an event of the row that is in front of the new one is in order with it; one behind comes after it
in_order : (events : List EventView) (i position : ℕ) (event : EventView) → slice_get events position ≡ Some event →
    ((other : EventView) → slice_get events i ≡ Some other → IsBefore other.place event.place) → AreInOrder events i position
in_order events i position event e front other later f g = subst (λ (x : EventView). IsBefore other.place x.place) (same_Some event later (sym e ∙ g)) (front other f)

behind_it : (events : List EventView) (i position : ℕ) (event : EventView) → slice_get events position ≡ Some event → HaveOwnPlaces events → i < position →
    ((other : EventView) → slice_get events i ≡ Some other → IsBefore other.place event.place → ⊥) → AreInOrder events position i
behind_it events i position event e apart less behind later other g f =
    subst (λ (x : EventView). IsBefore x.place other.place) (same_Some event later (sym e ∙ g)) (go (compared other.place event.place))
  where
    go : IsBefore other.place event.place ⊎ (other.place ≡ event.place) ⊎ IsBefore event.place other.place → IsBefore event.place other.place
    go (inl before) = absurd (behind other f before)
    go (inr (inl same)) = let k : i ≡ position = apart i position other event f e same in absurd (omega arith)
    go (inr (inr after)) = after

-- the row with the event added where it was cut
pub row_added : (events : List EventView) (position index : ℕ) (event : EventView) (before after : Row) → HaveOwnPlaces events → slice_get events position ≡ Some event →
    StandsAt events before.path position → IsRow events position before → IsCut events before.at.items Below event.place index → after.path ≡ before.path →
    after.at.items ≡ insert before.at.items index position → IsAdded events position before after
row_added events position index event before after apart e stands h cut same grown = record {
  same = same;
  row = record {
    each = λ other listed. each other (insert_cases before.at.items index position other (subst (λ (at : List ℕ). Contains at other) grown listed));
    rising = subst (IsRising events) (sym grown) rising;
  };
  keeps = λ other listed. subst (λ (at : List ℕ). Contains at other) (sym grown) (insert_keeps before.at.items index position other listed);
  has = subst (λ (at : List ℕ). Contains at position) (sym grown) (insert_has before.at.items index position);
}
  where
    moved : (i : ℕ) → StandsAt events before.path i → StandsAt events after.path i
    moved i s = subst (λ (path : List (List ℕ)). StandsAt events path i) (sym same) s

    each : (other : ℕ) → Contains before.at.items other ⊎ (position ≡ other) → LeadsTo events (position + 1) after.path other
    each other (inl old) = let l = h.each other old in record { below = (let k : other < position = l.below in omega arith); stands = moved other l.stands }
    each other (inr new) = record { below = omega arith; stands = subst (StandsAt events after.path) new (moved position stands) }

    rising : IsRising events (insert before.at.items index position)
    rising =
        insert_rising events before.at.items index position h.rising
        (λ k i less at. in_order events i position event e (λ other f. cut.front k i other less at f))
        (λ k i more at. behind_it events i position event e apart (row_within events position before h i (contains_at before.at.items k i at)) (λ other f. cut.behind k i other more at f))

-- a row that is cut back
pub row_cut : (events : List EventView) (n from : ℕ) (before after : Row) → IsRow events n before → IsCutTo from before after → IsRow events from after
row_cut events n from before after h cut = record {
  each = λ position listed.
      let kept = filter_from (λ position. nat_lt position from) before.at.items position (subst (λ (at : List ℕ). Contains at position) cut.positions listed) in
      record { below = ltb-true position from kept.1; stands = subst (λ (path : List (List ℕ)). StandsAt events path position) (sym cut.same) (h.each position kept.0).stands };
  rising = subst (IsRising events) (sym cut.positions) (filter_rising events (λ position. nat_lt position from) before.at.items h.rising);
}

pub cut_keeps : (from : ℕ) (before after : Row) → IsCutTo from before after → (position : ℕ) → position < from → Contains before.at.items position → Contains after.at.items position
cut_keeps from before after cut position less listed =
    subst (λ (at : List ℕ). Contains at position) (sym cut.positions) (filter_to (λ position. nat_lt position from) before.at.items position listed (lt-ltb position from less))
