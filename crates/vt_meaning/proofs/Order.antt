-- The order of places and times, as the theory of stores takes it.
use Rattle.std.proofs.Common.{◌≡◌, ℕ, ◌+◌, ◌<◌, ◌≤◌, List, [], ◌∷◌, refl, sym, ◌∙◌, ap, inl, inr, ◌⊎◌, arith, true, false, zero, suc, subst}
use Rattle.std.specs.declared.cmp.Ordering.{Ordering}
use Rattle.std.specs.declared.cmp.Ordering.TheVariants.{Less, Equal, Greater}
use Rattle.std.specs.Ordering.{int_cmp, nat_cmp, is_lt, ordering_then, ordering_reverse}
use Rattle.std.proofs.lemmas.Bool.Decides.{nat_tests}
use Rattle.std.proofs.lemmas.Cmp.{int_ranked, tied_itself, ranked}
use Rattle.vt_frac.specs.Fraction.{Fraction}
use Rattle.vt_frac.specs.Order.{order_of, value_order}
use Rattle.vt_frac.specs.OrderLaws.{order_total, same_parts}
use Rattle.vt_event.specs.declared.place.Place.{Place}
use Rattle.vt_event.specs.Event.{EventView}
use Rattle.vt_event.specs.Order.{IsBefore, IsLexicographicallyBefore, place_order, thread_order}
use Rattle.vt_event.specs.OrderLaws.{place_total}
use Rattle.vt_event.proofs.Order.{before-place, compared, place-before, place-equal}
use Rattle.vt_run.specs.Standing.{next_step}
use Rattle.vt_meaning.specs.Places.{Before, Earlier, NoLater, Upto, is_before, is_earlier}
use Rattle.vt_meaning.specs.Traces.{wake}

pub before-trans : (place q r : Place) → Before place q → Before q r → Before place r
unfolding Before
before-trans place q r h k = place_total.trans place q r h k

pub before-irrefl : (place : Place) → Before place place → ⊥
unfolding Before
before-irrefl place h = let e : place_order place place ≡ Equal = tied_itself place_total place in cc

pub before-is : (place q : Place) → IsBefore place q → Before place q
unfolding Before
before-is place q h = h

pub is-before : (place q : Place) → Before place q → IsBefore place q
unfolding Before
is-before place q h = h

pub before-by_time : (place q : Place) → Earlier place.time q.time → Before place q
unfolding Before Earlier
before-by_time place q h = before-place place q (inl h)

pub before-by_micro : (place q : Place) → place.time ≡ q.time → place.micro < q.micro → Before place q
unfolding Before
before-by_micro place q e h = before-place place q (inr (e, inl h))

pub before-by_step : (place q : Place) → place.time ≡ q.time → place.micro ≡ q.micro → place.thread ≡ q.thread → place.step < q.step → Before place q
unfolding Before
before-by_step place q e f g h = before-place place q (inr (e, inr (f, inr (g, h))))

pub before-next_step : (place : Place) → Before place (next_step place)
before-next_step place = before-by_step place (next_step place) refl refl refl (omega arith)

-- one is woken above the event that wakes it
pub before-wake : (event : EventView) (place : Place) → Before event.place (wake event place)
before-wake event place = before-by_micro event.place (wake event place) refl (omega arith)

pub before-cases : (place q : Place) → Before place q ⊎ (place ≡ q) ⊎ Before q place
unfolding Before
before-cases place q = compared place q

pub upto-before : (place q r : Place) → Upto place q → Before q r → Before place r
unfolding Upto
upto-before place q r (inl e) k = subst (λ w. Before w r) (sym e) k
upto-before place q r (inr h) k = before-trans place q r h k

pub before-upto : (place q r : Place) → Before place q → Upto q r → Before place r
unfolding Upto
before-upto place q r h (inl e) = subst (λ w. Before place w) e h
before-upto place q r h (inr k) = before-trans place q r h k

pub before_upto : (place q : Place) → Before place q → Upto place q
unfolding Upto
before_upto place q h = inr h

pub upto_same : (place q : Place) → place ≡ q → Upto place q
unfolding Upto
upto_same place q e = inl e

pub upto-trans : (place q r : Place) → Upto place q → Upto q r → Upto place r
unfolding Upto
upto-trans place q r (inl e) k = subst (λ w. (w ≡ r) ⊎ Before w r) (sym e) k
upto-trans place q r (inr h) k = inr (before-upto place q r h k)

pub not_both : (place q : Place) → Before place q → Upto q place → ⊥
not_both place q h k = before-irrefl place (before-upto place q place h k)

pub is_before-true : (place q : Place) → Before place q → is_before place q ≡ true
unfolding Before is_before
is_before-true place q h = ap is_lt h

lt_less : (o : Ordering) → is_lt o ≡ true → o ≡ Less
lt_less Less e = refl
lt_less Equal e = absurd (let z : false ≡ true = e in cc)
lt_less Greater e = absurd (let z : false ≡ true = e in cc)

pub true-is_before : (place q : Place) → is_before place q ≡ true → Before place q
unfolding Before is_before
true-is_before place q h = lt_less (place_order place q) h

pub is_before-irrefl : (place : Place) → is_before place place ≡ false
unfolding is_before
is_before-irrefl place = ap is_lt (tied_itself place_total place)

pub upto_split : (place q : Place) → Upto place q → (place ≡ q) ⊎ Before place q
unfolding Upto
upto_split place q h = h

pub three : (a b : ℕ) → (a < b) ⊎ (a ≡ b) ⊎ (b < a)
three zero zero = inr (inl refl)
three zero (suc b) = inl (omega arith)
three (suc a) zero = inr (inr (omega arith))
three (suc a) (suc b) = elim (three a b) [ inl l ↦ inl (omega arith) | inr (inl e) ↦ inr (inl (omega arith)) | inr (inr g) ↦ inr (inr (omega arith)) ]

less_number : (a b : ℕ) → a < b → nat_cmp a b ≡ Less
less_number a b h = grind (arith, nat_tests)

same_number : (a b : ℕ) → a ≡ b → nat_cmp a b ≡ Equal
same_number a b h = grind (arith, nat_tests)

at_most : (o a b : Ordering) → ordering_then o a ≡ Less → (a ≡ Less → (b ≡ Less) ⊎ (b ≡ Equal)) → (ordering_then o b ≡ Less) ⊎ (ordering_then o b ≡ Equal)
at_most Less a b h k = inl refl
at_most Equal a b h k = k h
at_most Greater a b h k = absurd (let z : Greater ≡ Less = h in cc)

step_at_most : (a b : ℕ) → nat_cmp a (b + 1) ≡ Less → (nat_cmp a b ≡ Less) ⊎ (nat_cmp a b ≡ Equal)
step_at_most a b h =
    let lt : a < b + 1 = ranked a (b + 1) Less (sym h) in
    elim (three a b) [ inl l ↦ inl (less_number a b l) | inr (inl e) ↦ inr (same_number a b e) | inr (inr g) ↦ absurd (omega (arith, lt)) ]

-- the next step of a thread is the next place
pub before-next_inv : (place q : Place) → Before place (next_step q) → Upto place q
unfolding Before Upto
before-next_inv place q h =
    let t = order_of place.time q.time in
    let m = nat_cmp place.micro q.micro in
    let l = thread_order place.thread q.thread in
    let s = nat_cmp place.step q.step in
    let n = nat_cmp place.step (q.step + 1) in
    elim (at_most t (ordering_then m (ordering_then l n)) (ordering_then m (ordering_then l s)) h
    (λ a. at_most m (ordering_then l n) (ordering_then l s) a (λ b. at_most l n s b (λ c. step_at_most place.step q.step c)))) [
      | inl lt ↦ inr lt
      | inr e ↦ inl (place-equal place q e)
    ]

-- what the order says of times and micro steps
before-inv : (place q : Place) → Before place q → Earlier place.time q.time ⊎ ((place.time ≡ q.time) × (place.micro ≤ q.micro))
unfolding Before Earlier
before-inv place q h = go (place-before place q h)
  where
    go : IsLexicographicallyBefore place q → (order_of place.time q.time ≡ Less) ⊎ ((place.time ≡ q.time) × (place.micro ≤ q.micro))
    go (inl t) = inl t
    go (inr (e, inl lt)) = inr (e, omega arith)
    go (inr (e, inr (f, rest))) = inr (e, omega arith)

pub earlier-trans : (a b c : Fraction) → Earlier a b → Earlier b c → Earlier a c
unfolding Earlier
earlier-trans a b c h k = order_total.trans a b c h k

pub earlier-irrefl : (a : Fraction) → Earlier a a → ⊥
unfolding Earlier
earlier-irrefl a h = let e : order_of a a ≡ Equal = tied_itself order_total a in cc

pub no_later-earlier : (a b c : Fraction) → NoLater a b → Earlier b c → Earlier a c
unfolding NoLater
no_later-earlier a b c (inl e) k = subst (λ w. Earlier w c) (sym e) k
no_later-earlier a b c (inr h) k = earlier-trans a b c h k

pub earlier-no_later : (a b c : Fraction) → Earlier a b → NoLater b c → Earlier a c
unfolding NoLater
earlier-no_later a b c h (inl e) = subst (λ w. Earlier a w) e h
earlier-no_later a b c h (inr k) = earlier-trans a b c h k

pub no_later-trans : (a b c : Fraction) → NoLater a b → NoLater b c → NoLater a c
unfolding NoLater
no_later-trans a b c (inl e) k = subst (λ w. (w ≡ c) ⊎ Earlier w c) (sym e) k
no_later-trans a b c (inr h) k = inr (earlier-no_later a b c h k)

pub no_later_same : (a b : Fraction) → a ≡ b → NoLater a b
unfolding NoLater
no_later_same a b e = inl e

pub earlier_no_later : (a b : Fraction) → Earlier a b → NoLater a b
unfolding NoLater
earlier_no_later a b h = inr h

pub no_later_split : (a b : Fraction) → NoLater a b → (a ≡ b) ⊎ Earlier a b
unfolding NoLater
no_later_split a b h = h

pub is_earlier-true : (a b : Fraction) → Earlier a b → is_earlier a b ≡ true
unfolding Earlier is_earlier
is_earlier-true a b h = ap is_lt h

pub true-is_earlier : (a b : Fraction) → is_earlier a b ≡ true → Earlier a b
unfolding Earlier is_earlier
true-is_earlier a b h = lt_less (order_of a b) h

-- a lower place is at no later time
pub upto_time : (place q : Place) → Upto place q → NoLater place.time q.time
upto_time place q up =
    elim (upto_split place q up) [
      | inl e ↦ no_later_same place.time q.time (ap (λ w. w.time) e)
      | inr lt ↦ elim (before-inv place q lt) [ inl l ↦ earlier_no_later place.time q.time l | inr r ↦ no_later_same place.time q.time r.0 ]
    ]

-- and wakes no later
pub wake-upto : (event f : EventView) (place : Place) → Upto event.place f.place → Upto (wake event place) (wake f place)
unfolding Upto
wake-upto event f place (inl z) = inl (ap (λ w. record { time = w.time; micro = w.micro + 1; thread = place.thread; step = place.step + 1 }) z)
wake-upto event f place (inr lt) =
    elim (before-inv event.place f.place lt) [
      | inl t ↦ inr (before-by_time (wake event place) (wake f place) t)
      | inr r ↦
          (elim (three event.place.micro f.place.micro) [
            | inl lt' ↦ inr (before-by_micro (wake event place) (wake f place) r.0 (omega arith))
            | inr (inl g) ↦ inl (same_wake r.0 g)
            | inr (inr gt) ↦ absurd (let le = r.1 in omega arith)
          ])
    ]
  where
    same_wake : event.place.time ≡ f.place.time → event.place.micro ≡ f.place.micro → wake event place ≡ wake f place
    same_wake t m = λ i. record { time = t i; micro = m i + 1; thread = place.thread; step = place.step + 1 }

both_equal : (o r : Ordering) → ordering_then o r ≡ Equal → (o ≡ Equal) × (r ≡ Equal)
both_equal Less r h = absurd (let z : Less ≡ Equal = h in cc)
both_equal Equal r h = (refl, h)
both_equal Greater r h = absurd (let z : Greater ≡ Equal = h in cc)

-- lists that tie are the same
pub thread-equal : (xs ys : List ℕ) → thread_order xs ys ≡ Equal → xs ≡ ys
thread-equal [] [] h = refl
thread-equal [] (y ∷ ys) h = absurd (let z : Less ≡ Equal = h in cc)
thread-equal (x ∷ xs) [] h = absurd (let z : Greater ≡ Equal = h in cc)
thread-equal (x ∷ xs) (y ∷ ys) h =
    let k = both_equal (nat_cmp x y) (thread_order xs ys) h in
    let f : x ≡ y = ranked x y Equal (sym k.0) in
    let g : xs ≡ ys = thread-equal xs ys k.1 in
    cc

-- times that tie are the same
time-equal : (a b : Fraction) → order_of a b ≡ Equal → a ≡ b
unfolding order_of
time-equal a b h =
    let parts = both_equal (value_order a b) (ordering_then (int_cmp a.numer b.numer) (nat_cmp a.denom b.denom)) h in
    let more = both_equal (int_cmp a.numer b.numer) (nat_cmp a.denom b.denom) parts.1 in
    same_parts a b (int_ranked a.numer b.numer Equal (sym more.0)) (ranked a.denom b.denom Equal (sym more.1))

-- of two times one is earlier, or they are the same
pub earlier-cases : (a b : Fraction) → Earlier a b ⊎ (a ≡ b) ⊎ Earlier b a
unfolding Earlier
earlier-cases a b = go (order_of a b) refl
  where
    go : (o : Ordering) → order_of a b ≡ o → (order_of a b ≡ Less) ⊎ (a ≡ b) ⊎ (order_of b a ≡ Less)
    go Less e = inl e
    go Equal e = inr (inl (time-equal a b e))
    go Greater e = inr (inr (order_total.antisymm b a ∙ ap ordering_reverse e))
