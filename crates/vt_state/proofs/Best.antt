-- The best by some order of those events of a list that fit, with one event more.
use Rattle.std.proofs.Common.{◌≡◌, List, [], ◌∷◌, ◌++◌, ◌⊎◌, inl, inr, sym, subst}
use Rattle.std.specs.List.{Contains}
use Rattle.std.proofs.lemmas.List.Elements.{Contains-append_left, Contains-push, Contains-push_cases}
use Rattle.vt_event.specs.Event.{EventView}

-- the event is one of the list that fits, and beats every other one
pub record IsBest (events : List EventView) (Wanted : EventView → Type 0) (Beats : EventView → EventView → Type 0) (event : EventView) : Type 0 where
  pub listed : Contains events event
  pub fits : Wanted event
  pub best : (other : EventView) → Contains events other → Wanted other → (other ≡ event) ⊎ Beats event other

abbrev pub NoneFits : List EventView → (EventView → Type 0) → Type 0
NoneFits events Wanted = (event : EventView) → Contains events event → Wanted event → ⊥

-- one more that does not fit
pub none_more : (events : List EventView) (Wanted : EventView → Type 0) (last : EventView) → NoneFits events Wanted → (Wanted last → ⊥) → NoneFits (events ++ last ∷ []) Wanted
none_more events Wanted last nothing unfit event listed fits = go (Contains-push_cases events last event listed)
  where
    go : Contains events event ⊎ (last ≡ event) → ⊥
    go (inl before) = nothing event before fits
    go (inr same) = unfit (subst Wanted (sym same) fits)

-- one more that fits only where it is beaten
pub best_kept : (events : List EventView) (Wanted : EventView → Type 0) (Beats : EventView → EventView → Type 0) (last event : EventView) →
    IsBest events Wanted Beats event → (Wanted last → Beats event last) → IsBest (events ++ last ∷ []) Wanted Beats event
best_kept events Wanted Beats last event b beaten = record {
  listed = Contains-append_left events (last ∷ []) event b.listed;
  fits = b.fits;
  best = λ other listed fits. go other fits (Contains-push_cases events last other listed);
}
  where
    go : (other : EventView) → Wanted other → Contains events other ⊎ (last ≡ other) → (other ≡ event) ⊎ Beats event other
    go other fits (inl before) = b.best other before fits
    go other fits (inr same) = inr (subst (Beats event) same (beaten (subst Wanted (sym same) fits)))

-- one more that fits, where none did
pub best_at_last : (events : List EventView) (Wanted : EventView → Type 0) (Beats : EventView → EventView → Type 0) (last : EventView) →
    NoneFits events Wanted → Wanted last → IsBest (events ++ last ∷ []) Wanted Beats last
best_at_last events Wanted Beats last nothing fits = record {
  listed = Contains-push events last;
  fits = fits;
  best = λ other listed fits'. go other fits' (Contains-push_cases events last other listed);
}
  where
    go : (other : EventView) → Wanted other → Contains events other ⊎ (last ≡ other) → (other ≡ last) ⊎ Beats last other
    go other fits' (inl before) = absurd (nothing other before fits')
    go other fits' (inr same) = inl (sym same)

-- one more that fits and beats the best so far
pub best_replaced : (events : List EventView) (Wanted : EventView → Type 0) (Beats : EventView → EventView → Type 0) (last event : EventView) →
    ((a b c : EventView) → Beats a b → Beats b c → Beats a c) → IsBest events Wanted Beats event → Wanted last → Beats last event →
    IsBest (events ++ last ∷ []) Wanted Beats last
best_replaced events Wanted Beats last event trans b fits beats = record {
  listed = Contains-push events last;
  fits = fits;
  best = λ other listed fits'. go other fits' (Contains-push_cases events last other listed);
}
  where
    further : (other : EventView) → (other ≡ event) ⊎ Beats event other → (other ≡ last) ⊎ Beats last other
    further other (inl same) = inr (subst (Beats last) (sym same) beats)
    further other (inr worse) = inr (trans last event other beats worse)

    go : (other : EventView) → Wanted other → Contains events other ⊎ (last ≡ other) → (other ≡ last) ⊎ Beats last other
    go other fits' (inl before) = further other (b.best other before fits')
    go other fits' (inr same) = inl (sym same)
