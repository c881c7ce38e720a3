-- What is last below a place, and first above one, with one event more.
use Rattle.std.proofs.Common.{◌≡◌, ◌↔◌, ℕ, zero, suc, ◌<◌, ◌≤◌, ◌+◌, List, [], ◌∷◌, ◌++◌, true, true≢false, ◌⊎◌, inl, inr, Option, Some, None, MatchOption, Bor, take, length, get_or, refl, sym, ap, ◌∙◌, subst, arith}
use Rattle.std.specs.List.{Contains}
use Rattle.std.specs.declared.cmp.Ordering.{Ordering}
use Rattle.std.specs.declared.cmp.Ordering.TheVariants.{Less, Equal, Greater}
use Rattle.std.specs.Ordering.{is_lt}
use Rattle.std.proofs.lemmas.List.{take_all, take_more}
use Rattle.vt_path.specs.declared.pattern.Segment.{Segment}
use Rattle.vt_event.specs.declared.place.Place.{Place}
use Rattle.vt_event.specs.Event.{EventView}
use Rattle.vt_event.specs.Order.{IsBefore}
use Rattle.vt_event.specs.OrderLaws.{place_total}
use Rattle.vt_event.proofs.Order.{compared}
use Rattle.vt_state.specs.LookUps.{HaveOwnPlaces, IsFirstAbove, IsLastBelow, MatchesEvent, MeetsWants, NoneAbove, NoneBelow}
use Rattle.vt_state.proofs.Best.{IsBest, NoneFits, best_at_last, best_kept, best_replaced, none_more}
use Rattle.vt_state.proofs.OwnPlaces.{last_apart, own_take}

-- the order's answer as a test
pub is_less : (o : Ordering) → (is_lt o ≡ true) ↔ (o ≡ Less)
is_less Less = (λ _. refl, λ _. refl)
is_less Equal = (λ h. absurd (true≢false (sym h)), λ h. absurd (let z : Equal ≡ Less = h in cc))
is_less Greater = (λ h. absurd (true≢false (sym h)), λ h. absurd (let z : Greater ≡ Less = h in cc))

-- the wants of one pattern
pub one_want : (pattern : List Segment) (event : EventView) → MeetsWants (pattern ∷ []) event ↔ MatchesEvent pattern event
one_want pattern event = (λ m. go m.pattern m.wanted m.matched, λ h. record { pattern = pattern; wanted = (0, omega arith, refl); matched = h })
  where
    go : (want : List Segment) → Contains (pattern ∷ []) want → MatchesEvent want event → MatchesEvent pattern event
    go want (zero, within, is) h = subst (λ w. MatchesEvent w event) (sym is) h
    go want (suc k, within, is) h = absurd (omega arith)

-- below a place, and later
abbrev FitsBelow : Place → List Segment → EventView → Type 0
FitsBelow place pattern event = IsBefore event.place place × MatchesEvent pattern event

abbrev IsLater : EventView → EventView → Type 0
IsLater event other = IsBefore other.place event.place

best_below : (events : List EventView) (place : Place) (pattern : List Segment) (event : EventView) →
    IsLastBelow events place pattern event ↔ IsBest events (FitsBelow place pattern) IsLater event
best_below events place pattern event = (
  λ l. record {
    listed = l.found.listed;
    fits = (l.found.below, l.found.matched);
    best = λ other listed fits. l.last other (record { listed = listed; below = fits.0; matched = fits.1 });
  },
  λ b. record {
    found = record { listed = b.listed; below = b.fits.0; matched = b.fits.1 };
    last = λ other o. b.best other o.listed (o.below, o.matched);
  },
)

none_below : (events : List EventView) (place : Place) (pattern : List Segment) → NoneBelow events place pattern ↔ NoneFits events (FitsBelow place pattern)
none_below events place pattern = (
  λ nothing event listed fits. nothing event (record { listed = listed; below = fits.0; matched = fits.1 }),
  λ nothing event o. nothing event o.listed (o.below, o.matched),
)

later_trans : (a b c : EventView) → IsLater a b → IsLater b c → IsLater a c
later_trans a b c h k = place_total.trans c.place b.place a.place k h

-- above a place, and earlier
abbrev FitsAbove : Place → List (List Segment) → EventView → Type 0
FitsAbove place wants event = IsBefore place event.place × MeetsWants wants event

abbrev IsEarlier : EventView → EventView → Type 0
IsEarlier event other = IsBefore event.place other.place

best_above : (events : List EventView) (place : Place) (wants : List (List Segment)) (event : EventView) →
    IsFirstAbove events place wants event ↔ IsBest events (FitsAbove place wants) IsEarlier event
best_above events place wants event = (
  λ l. record {
    listed = l.found.listed;
    fits = (l.found.above, l.found.met);
    best = λ other listed fits. l.first other (record { listed = listed; above = fits.0; met = fits.1 });
  },
  λ b. record {
    found = record { listed = b.listed; above = b.fits.0; met = b.fits.1 };
    first = λ other o. b.best other o.listed (o.above, o.met);
  },
)

none_above : (events : List EventView) (place : Place) (wants : List (List Segment)) → NoneAbove events place wants ↔ NoneFits events (FitsAbove place wants)
none_above events place wants = (
  λ nothing event listed fits. nothing event (record { listed = listed; above = fits.0; met = fits.1 }),
  λ nothing event o. nothing event o.listed (o.above, o.met),
)

earlier_trans : (a b c : EventView) → IsEarlier a b → IsEarlier b c → IsEarlier a c
earlier_trans a b c h k = place_total.trans a.place b.place c.place h k

-- what a scan holds
abbrev pub LastSoFar : List EventView → Place → List Segment → Option (Bor EventView) → Type 0
LastSoFar events place pattern found = MatchOption found (NoneBelow events place pattern) (λ event. IsLastBelow events place pattern event.now)

abbrev pub FirstSoFar : List EventView → Place → List (List Segment) → Option (Bor EventView) → Type 0
FirstSoFar events place wants found = MatchOption found (NoneAbove events place wants) (λ event. IsFirstAbove events place wants event.now)

-- the event takes the place of what is found
abbrev pub GoesBehind : Place → List Segment → Option (Bor EventView) → EventView → Type 0
GoesBehind place pattern found event = IsBefore event.place place × MatchesEvent pattern event × MatchOption found (Unit {0}) (λ other. IsBefore other.now.place event.place)

abbrev pub GoesInFront : Place → List Segment → Option (Bor EventView) → EventView → Type 0
GoesInFront place pattern found event = IsBefore place event.place × MatchesEvent pattern event × MatchOption found (Unit {0}) (λ other. IsBefore event.place other.now.place)

pub last_taken : (events : List EventView) (place : Place) (pattern : List Segment) (found : Option (Bor EventView)) (event : EventView) →
    GoesBehind place pattern found event → LastSoFar events place pattern found → IsLastBelow (events ++ event ∷ []) place pattern event
last_taken events place pattern None event (below, matched, behind) nothing =
    (best_below (events ++ event ∷ []) place pattern event).1
    (best_at_last events (FitsBelow place pattern) IsLater event ((none_below events place pattern).0 nothing) (below, matched))
last_taken events place pattern (Some other) event (below, matched, behind) last =
    (best_below (events ++ event ∷ []) place pattern event).1
    (best_replaced events (FitsBelow place pattern) IsLater event other.now later_trans ((best_below events place pattern other.now).0 last) (below, matched) behind)

pub last_kept : (events : List EventView) (place : Place) (pattern : List Segment) (found : Option (Bor EventView)) (event : EventView) →
    HaveOwnPlaces (events ++ event ∷ []) → (GoesBehind place pattern found event → ⊥) → LastSoFar events place pattern found → LastSoFar (events ++ event ∷ []) place pattern found
last_kept events place pattern None event own stays nothing =
    (none_below (events ++ event ∷ []) place pattern).1
    (none_more events (FitsBelow place pattern) event ((none_below events place pattern).0 nothing) (λ fits. stays (fits.0, fits.1, tt)))
last_kept events place pattern (Some other) event own stays last =
    (best_below (events ++ event ∷ []) place pattern other.now).1
    (best_kept events (FitsBelow place pattern) IsLater event other.now ((best_below events place pattern other.now).0 last) (λ fits. go fits (compared other.now.place event.place)))
  where
    go : FitsBelow place pattern event → IsBefore other.now.place event.place ⊎ (other.now.place ≡ event.place) ⊎ IsBefore event.place other.now.place → IsLater other.now event
    go fits (inl behind) = absurd (stays (fits.0, fits.1, behind))
    go fits (inr (inl same)) = absurd (last_apart events event other.now own last.found.listed same)
    go fits (inr (inr before)) = before

pub first_taken : (events : List EventView) (place : Place) (pattern : List Segment) (found : Option (Bor EventView)) (event : EventView) →
    GoesInFront place pattern found event → FirstSoFar events place (pattern ∷ []) found → IsFirstAbove (events ++ event ∷ []) place (pattern ∷ []) event
first_taken events place pattern None event (above, matched, before) nothing =
    (best_above (events ++ event ∷ []) place (pattern ∷ []) event).1
    (best_at_last events (FitsAbove place (pattern ∷ [])) IsEarlier event ((none_above events place (pattern ∷ [])).0 nothing) (above, (one_want pattern event).1 matched))
first_taken events place pattern (Some other) event (above, matched, before) first =
    (best_above (events ++ event ∷ []) place (pattern ∷ []) event).1
    (best_replaced events (FitsAbove place (pattern ∷ [])) IsEarlier event other.now earlier_trans ((best_above events place (pattern ∷ []) other.now).0 first)
    (above, (one_want pattern event).1 matched) before)

pub first_kept : (events : List EventView) (place : Place) (pattern : List Segment) (found : Option (Bor EventView)) (event : EventView) →
    HaveOwnPlaces (events ++ event ∷ []) → (GoesInFront place pattern found event → ⊥) → FirstSoFar events place (pattern ∷ []) found →
    FirstSoFar (events ++ event ∷ []) place (pattern ∷ []) found
first_kept events place pattern None event own stays nothing =
    (none_above (events ++ event ∷ []) place (pattern ∷ [])).1
    (none_more events (FitsAbove place (pattern ∷ [])) event ((none_above events place (pattern ∷ [])).0 nothing) (λ fits. stays (fits.0, (one_want pattern event).0 fits.1, tt)))
first_kept events place pattern (Some other) event own stays first =
    (best_above (events ++ event ∷ []) place (pattern ∷ []) other.now).1
    (best_kept events (FitsAbove place (pattern ∷ [])) IsEarlier event other.now ((best_above events place (pattern ∷ []) other.now).0 first)
    (λ fits. go fits (compared other.now.place event.place)))
  where
    go : FitsAbove place (pattern ∷ []) event → IsBefore other.now.place event.place ⊎ (other.now.place ≡ event.place) ⊎ IsBefore event.place other.now.place → IsEarlier other.now event
    go fits (inl behind) = behind
    go fits (inr (inl same)) = absurd (last_apart events event other.now own first.found.listed same)
    go fits (inr (inr before)) = absurd (stays (fits.0, (one_want pattern event).0 fits.1, before))

-- no events: nothing is found
pub none_below_start : (place : Place) (pattern : List Segment) → NoneBelow [] place pattern
none_below_start place pattern event found = go found.listed
  where
    go : Contains [] event → ⊥
    go (k, within, is) = absurd (omega arith)

pub none_above_start : (place : Place) (wants : List (List Segment)) → NoneAbove [] place wants
none_above_start place wants event found = go found.listed
  where
    go : Contains [] event → ⊥
    go (k, within, is) = absurd (omega arith)

-- the events that a scan has seen, with the next one
seen_more : (events : List EventView) (k : ℕ) (event : EventView) → k < length events → event ≡ get_or events k event → take k events ++ event ∷ [] ≡ take (k + 1) events
seen_more events k event within is = ap (λ e. take k events ++ e ∷ []) is ∙ sym (take_more events k event within)

seen_apart : (events : List EventView) (k : ℕ) (event : EventView) → HaveOwnPlaces events → k < length events → event ≡ get_or events k event → HaveOwnPlaces (take k events ++ event ∷ [])
seen_apart events k event own within is = subst HaveOwnPlaces (sym (seen_more events k event within is)) (own_take (k + 1) events own)

pub last_step : (events : List EventView) (place : Place) (pattern : List Segment) (k : ℕ) (event : EventView) (found next : Option (Bor EventView)) →
    HaveOwnPlaces events → k < length events → event ≡ get_or events k event → LastSoFar (take k events) place pattern found →
    ((seen : List EventView) → HaveOwnPlaces (seen ++ event ∷ []) → LastSoFar seen place pattern found → LastSoFar (seen ++ event ∷ []) place pattern next) →
    LastSoFar (take (k + 1) events) place pattern next
last_step events place pattern k event found next own within is so_far step =
    subst (λ seen. LastSoFar seen place pattern next) (seen_more events k event within is) (step (take k events) (seen_apart events k event own within is) so_far)

pub first_step : (events : List EventView) (place : Place) (wants : List (List Segment)) (k : ℕ) (event : EventView) (found next : Option (Bor EventView)) →
    HaveOwnPlaces events → k < length events → event ≡ get_or events k event → FirstSoFar (take k events) place wants found →
    ((seen : List EventView) → HaveOwnPlaces (seen ++ event ∷ []) → FirstSoFar seen place wants found → FirstSoFar (seen ++ event ∷ []) place wants next) →
    FirstSoFar (take (k + 1) events) place wants next
first_step events place wants k event found next own within is so_far step =
    subst (λ seen. FirstSoFar seen place wants next) (seen_more events k event within is) (step (take k events) (seen_apart events k event own within is) so_far)

-- all events are seen
pub last_of_all : (events : List EventView) (place : Place) (pattern : List Segment) (k : ℕ) (found : Option (Bor EventView)) → length events ≤ k →
    LastSoFar (take k events) place pattern found → LastSoFar events place pattern found
last_of_all events place pattern k found all so_far = subst (λ seen. LastSoFar seen place pattern found) (take_all k events all) so_far

pub first_of_all : (events : List EventView) (place : Place) (wants : List (List Segment)) (k : ℕ) (found : Option (Bor EventView)) → length events ≤ k →
    FirstSoFar (take k events) place wants found → FirstSoFar events place wants found
first_of_all events place wants k found all so_far = subst (λ seen. FirstSoFar seen place wants found) (take_all k events all) so_far
