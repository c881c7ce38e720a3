-- Lists whose events stand each at a place of its own.
use Rattle.std.proofs.Common.{◌≡◌, ℕ, zero, suc, ◌+◌, ◌<◌, List, [], ◌∷◌, ◌++◌, length, Some, None, ◌⊎◌, inl, inr, take, slice_get, refl, sym, ap, ◌∙◌, subst, arith}
use Rattle.std.specs.List.{Contains}
use Rattle.std.proofs.lemmas.Option.{get_or_from_slice_get, slice_get-get_or, slice_get_within}
use Rattle.vt_event.specs.Event.{EventView}
use Rattle.vt_state.specs.LookUps.{HaveOwnPlaces, ShareNoPlace}

-- an element has an index, and what stands at an index is an element
pub index_of : {X : Type 0} (xs : List X) (x : X) → Contains xs x → (k : ℕ) × (slice_get xs k ≡ Some x)
index_of xs x (k, within, is) = (k, slice_get-get_or xs k x within ∙ ap (λ y. Some y) is)

pub contains_at : {X : Type 0} (xs : List X) (k : ℕ) (x : X) → slice_get xs k ≡ Some x → Contains xs x
contains_at xs k x e = (k, slice_get_within xs k x e, get_or_from_slice_get xs k x x e)

at_left : {X : Type 0} (xs ys : List X) (k : ℕ) (x : X) → slice_get xs k ≡ Some x → slice_get (xs ++ ys) k ≡ Some x
at_left [] ys k x e = absurd (let z : None ≡ Some x = e in cc)
at_left (y ∷ xs) ys zero x e = e
at_left (y ∷ xs) ys (suc k) x e = at_left xs ys k x e

at_seam : {X : Type 0} (xs ys : List X) (x : X) → slice_get (xs ++ x ∷ ys) (length xs) ≡ Some x
at_seam [] ys x = refl
at_seam (y ∷ xs) ys x = at_seam xs ys x

at_either : {X : Type 0} (xs ys : List X) (k : ℕ) (x : X) → slice_get (xs ++ ys) k ≡ Some x →
    (slice_get xs k ≡ Some x) ⊎ ((j : ℕ) × (k ≡ length xs + j) × (slice_get ys j ≡ Some x))
at_either [] ys k x e = inr (k, omega arith, e)
at_either (y ∷ xs) ys zero x e = inl e
at_either (y ∷ xs) ys (suc k) x e = go (at_either xs ys k x e)
  where
    go : (slice_get xs k ≡ Some x) ⊎ ((j : ℕ) × (k ≡ length xs + j) × (slice_get ys j ≡ Some x)) →
        (slice_get xs k ≡ Some x) ⊎ ((j : ℕ) × (suc k ≡ suc (length xs) + j) × (slice_get ys j ≡ Some x))
    go (inl left) = inl left
    go (inr (j, at, right)) = inr (j, omega arith, right)

at_take : {X : Type 0} (n : ℕ) (xs : List X) (k : ℕ) (x : X) → slice_get (take n xs) k ≡ Some x → slice_get xs k ≡ Some x
at_take zero xs k x e = absurd (let z : None ≡ Some x = e in cc)
at_take (suc n) [] k x e = absurd (let z : None ≡ Some x = e in cc)
at_take (suc n) (y ∷ xs) zero x e = e
at_take (suc n) (y ∷ xs) (suc k) x e = at_take n xs k x e

pub own_take : (n : ℕ) (events : List EventView) → HaveOwnPlaces events → HaveOwnPlaces (take n events)
own_take n events own i j event other at at' same = own i j event other (at_take n events i event at) (at_take n events j other at') same

pub own_append : (events others : List EventView) → HaveOwnPlaces events → HaveOwnPlaces others → ShareNoPlace events others → HaveOwnPlaces (events ++ others)
own_append events others own own' apart i j event other at at' same = go (at_either events others i event at) (at_either events others j other at')
  where
    go : (slice_get events i ≡ Some event) ⊎ ((k : ℕ) × (i ≡ length events + k) × (slice_get others k ≡ Some event)) →
        (slice_get events j ≡ Some other) ⊎ ((k : ℕ) × (j ≡ length events + k) × (slice_get others k ≡ Some other)) → i ≡ j
    go (inl left) (inl left') = own i j event other left left' same
    go (inl left) (inr (l, is, right)) = absurd (apart event other (contains_at events i event left) (contains_at others l other right) same)
    go (inr (k, is, right)) (inl left) = absurd (apart other event (contains_at events j other left) (contains_at others k event right) (sym same))
    go (inr (k, is, right)) (inr (l, is', right')) = let e : k ≡ l = own' k l event other right right' same in omega arith

-- no event before the last one stands at its place
pub last_apart : (events : List EventView) (last event : EventView) → HaveOwnPlaces (events ++ last ∷ []) → Contains events event → event.place ≡ last.place → ⊥
last_apart events last event own listed same = go (index_of events event listed)
  where
    go : (k : ℕ) × (slice_get events k ≡ Some event) → ⊥
    go (k, at) =
        let within : k < length events = slice_get_within events k event at in
        let e : k ≡ length events = own k (length events) event last (at_left events (last ∷ []) k event at) (at_seam events [] last) same in
        absurd (omega arith)

-- `seen` is what contracts see of the list before, `added` what is added at its end
pub put_keeps : (before seen added events after : List EventView) → seen ≡ before → added ≡ events → after ≡ before ++ added →
    HaveOwnPlaces before → HaveOwnPlaces events → ShareNoPlace seen events → HaveOwnPlaces after
put_keeps before seen added events after is same grown own own' apart =
    subst HaveOwnPlaces (sym (grown ∙ ap (λ (xs : List EventView). before ++ xs) same))
    (own_append before events own own' (subst (λ (xs : List EventView). ShareNoPlace xs events) is apart))
