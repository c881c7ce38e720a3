-- The laws of the order of places.
use Rattle.std.proofs.Common.{◌≡◌, ℕ, ◌<◌, List, [], ◌∷◌, ◌++◌, ◌⊎◌, inl, inr, refl, sym, ◌∙◌, ap, arith, subst, true, true≢false, ℤ, ◌<ℤ◌}
use Rattle.std.specs.Prelude.{◌==◌}
use Rattle.std.specs.declared.cmp.Ordering.{Ordering}
use Rattle.std.specs.declared.cmp.Ordering.TheVariants.{Less, Equal, Greater}
use Rattle.std.specs.Ordering.{nat_cmp, int_cmp, int_eq, is_eq, ordering_then, ordering_reverse}
use Rattle.std.proofs.lemmas.Bool.Decides.{nat_tests}
use Rattle.std.proofs.lemmas.Bool.{eqb-true}
use Rattle.std.proofs.lemmas.Cmp.{ranked, by_ranked, int_ranked, tied_itself, nat_cmp_total}
use Rattle.vt_frac.specs.Fraction.{Fraction}
use Rattle.vt_frac.specs.Order.{order_of}
use Rattle.vt_frac.specs.OrderLaws.{order_total, order_ties, same_parts}
use Rattle.vt_frac.proofs.DecimalLemmas.{both_true}
use Rattle.vt_event.specs.declared.place.Place.{Place}
use Rattle.vt_event.specs.Order.{place_order, thread_order, IsBefore, IsThreadBefore, IsLexicographicallyBefore}
use Rattle.vt_event.specs.OrderLaws.{place_total, thread_total}

less-number : (a b : ℕ) → a < b → nat_cmp a b ≡ Less
less-number a b h = grind (arith, nat_tests)

number-less : (a b : ℕ) → nat_cmp a b ≡ Less → a < b
number-less a b h = ranked a b Less (sym h)

number-equal : (a b : ℕ) → nat_cmp a b ≡ Equal → a ≡ b
number-equal a b h = ranked a b Equal (sym h)

-- a tie is a tie in each part
both_equal : (o r : Ordering) → ordering_then o r ≡ Equal → (o ≡ Equal) × (r ≡ Equal)
both_equal Less r h = absurd (let z : Less ≡ Equal = h in cc)
both_equal Equal r h = (refl, h)
both_equal Greater r h = absurd (let z : Greater ≡ Equal = h in cc)

whole-equal : (m n : ℤ) → int_eq m n ≡ true → m ≡ n
whole-equal m n h = by_ranked (m <ℤ n) (m ≡ n) (n <ℤ m) (int_cmp m n) (int_ranked m n (int_cmp m n) refl) (λ e _. absurd (true≢false (sym h ∙ ap is_eq e))) (λ _ p. p) (λ e _. absurd (true≢false (sym h ∙ ap is_eq e)))

-- times that tie are the same
time-equal : (f g : Fraction) → order_of f g ≡ Equal → f ≡ g
time-equal f g h =
    let parts = both_true (int_eq f.numer g.numer) (f.denom == g.denom) (order_ties f g ∙ ap is_eq h) in
    same_parts f g (whole-equal f.numer g.numer parts.0) (eqb-true f.denom g.denom parts.1)

-- lists that tie are the same
thread-equal : (xs ys : List ℕ) → thread_order xs ys ≡ Equal → xs ≡ ys
thread-equal [] [] h = refl
thread-equal [] (y ∷ ys) h = absurd (let z : Less ≡ Equal = h in cc)
thread-equal (x ∷ xs) [] h = absurd (let z : Greater ≡ Equal = h in cc)
thread-equal (x ∷ xs) (y ∷ ys) h =
    let k = both_equal (nat_cmp x y) (thread_order xs ys) h in
    let f : x ≡ y = number-equal x y k.0 in
    let g : xs ≡ ys = thread-equal xs ys k.1 in
    cc

-- places that tie are the same
pub place-equal : (p q : Place) → place_order p q ≡ Equal → p ≡ q
place-equal p q h =
    let a = both_equal _ _ h in
    let b = both_equal _ _ a.1 in
    let c = both_equal _ _ b.1 in
    let t : p.time ≡ q.time = time-equal p.time q.time a.0 in
    let m : p.micro ≡ q.micro = number-equal p.micro q.micro b.0 in
    let l : p.thread ≡ q.thread = thread-equal p.thread q.thread c.0 in
    let s : p.step ≡ q.step = number-equal p.step q.step c.1 in
    ap (λ (x : Fraction). record p { time = x }) t
    ∙ ap (λ (x : ℕ). record p { time = q.time; micro = x }) m
    ∙ ap (λ (x : List ℕ). record p { time = q.time; micro = q.micro; thread = x }) l
    ∙ ap (λ (x : ℕ). record q { step = x }) s

pub equal-place : (p q : Place) → p ≡ q → place_order p q ≡ Equal
equal-place p q h = subst (λ (r : Place). place_order p r ≡ Equal) h (tied_itself place_total p)

-- what stands behind an answer
turned : (o : Ordering) → ordering_reverse o ≡ Less → o ≡ Greater
turned Less h = absurd (let z : Greater ≡ Less = h in cc)
turned Equal h = absurd (let z : Equal ≡ Less = h in cc)
turned Greater h = refl

pub before-not_after : (p q : Place) → IsBefore p q → IsBefore q p → ⊥
before-not_after p q h k =
    let z : Less ≡ Greater = sym h ∙ turned (place_order p q) (sym (place_total.antisymm q p) ∙ k) in absurd cc

pub compared : (p q : Place) → IsBefore p q ⊎ (p ≡ q) ⊎ IsBefore q p
compared p q = go (place_order p q) refl
  where
    go : (o : Ordering) → place_order p q ≡ o → IsBefore p q ⊎ (p ≡ q) ⊎ IsBefore q p
    go Less e = inl e
    go Equal e = inr (inl (place-equal p q e))
    go Greater e = inr (inr (place_total.antisymm q p ∙ ap ordering_reverse e))

-- the first part that differs decides
then-less : (o r : Ordering) → ordering_then o r ≡ Less → (o ≡ Less) ⊎ ((o ≡ Equal) × (r ≡ Less))
then-less Less r h = inl refl
then-less Equal r h = inr (refl, h)
then-less Greater r h = absurd (let z : Greater ≡ Less = h in cc)

less-first : (o r : Ordering) → o ≡ Less → ordering_then o r ≡ Less
less-first o r h = ap (λ (x : Ordering). ordering_then x r) h

less-second : (o r : Ordering) → o ≡ Equal → r ≡ Less → ordering_then o r ≡ Less
less-second o r h k = ap (λ (x : Ordering). ordering_then x r) h ∙ k

-- a common first number
longer : (x : ℕ) (xs ys : List ℕ) → IsThreadBefore xs ys → IsThreadBefore (x ∷ xs) (x ∷ ys)
longer x xs ys (inl p) = inl (record { next = p.next; rest = p.rest; whole = ap (λ (l : List ℕ). x ∷ l) p.whole })
longer x xs ys (inr p) = inr (record {
  prefix = x ∷ p.prefix;
  lesser = p.lesser;
  greater = p.greater;
  rest_of_lesser = p.rest_of_lesser;
  rest_of_greater = p.rest_of_greater;
  lower = p.lower;
  first = ap (λ (l : List ℕ). x ∷ l) p.first;
  second = ap (λ (l : List ℕ). x ∷ l) p.second;
})

pub thread-before : (xs ys : List ℕ) → thread_order xs ys ≡ Less → IsThreadBefore xs ys
thread-before [] [] h = absurd (let z : Equal ≡ Less = h in cc)
thread-before [] (y ∷ ys) h = inl (record { next = y; rest = ys; whole = refl })
thread-before (x ∷ xs) [] h = absurd (let z : Greater ≡ Less = h in cc)
thread-before (x ∷ xs) (y ∷ ys) h = go (then-less (nat_cmp x y) (thread_order xs ys) h) (thread-before xs ys)
  where
    go : (nat_cmp x y ≡ Less) ⊎ ((nat_cmp x y ≡ Equal) × (thread_order xs ys ≡ Less)) → (thread_order xs ys ≡ Less → IsThreadBefore xs ys) → IsThreadBefore (x ∷ xs) (y ∷ ys)
    go (inl e) ih = inr (record { prefix = []; lesser = x; greater = y; rest_of_lesser = xs; rest_of_greater = ys; lower = number-less x y e; first = refl; second = refl })
    go (inr e) ih = subst (λ (n : ℕ). IsThreadBefore (x ∷ xs) (n ∷ ys)) (number-equal x y e.0) (longer x xs ys (ih e.1))

prefix-before : (xs : List ℕ) (next : ℕ) (rest : List ℕ) → thread_order xs (xs ++ next ∷ rest) ≡ Less
prefix-before [] next rest = refl
prefix-before (x ∷ xs) next rest = less-second (nat_cmp x x) (thread_order xs (xs ++ next ∷ rest)) (tied_itself nat_cmp_total x) (prefix-before xs next rest)

lower-before : (prefix : List ℕ) (m n : ℕ) (ms ns : List ℕ) → m < n → thread_order (prefix ++ m ∷ ms) (prefix ++ n ∷ ns) ≡ Less
lower-before [] m n ms ns h = less-first (nat_cmp m n) (thread_order ms ns) (less-number m n h)
lower-before (x ∷ prefix) m n ms ns h = less-second (nat_cmp x x) (thread_order (prefix ++ m ∷ ms) (prefix ++ n ∷ ns)) (tied_itself nat_cmp_total x) (lower-before prefix m n ms ns h)

pub before-thread : (xs ys : List ℕ) → IsThreadBefore xs ys → thread_order xs ys ≡ Less
before-thread xs ys (inl p) = ap (thread_order xs) p.whole ∙ prefix-before xs p.next p.rest
before-thread xs ys (inr p) =
    ap (λ (l : List ℕ). thread_order l ys) p.first ∙ ap (thread_order (p.prefix ++ p.lesser ∷ p.rest_of_lesser)) p.second
    ∙ lower-before p.prefix p.lesser p.greater p.rest_of_lesser p.rest_of_greater p.lower

pub place-before : (p q : Place) → IsBefore p q → IsLexicographicallyBefore p q
place-before p q h = by_time (then-less _ _ h)
  where
    by_step : ordering_then (thread_order p.thread q.thread) (nat_cmp p.step q.step) ≡ Less
        → IsThreadBefore p.thread q.thread ⊎ ((p.thread ≡ q.thread) × (p.step < q.step))
    by_step e = go (then-less _ _ e)
      where
        go : (thread_order p.thread q.thread ≡ Less) ⊎ ((thread_order p.thread q.thread ≡ Equal) × (nat_cmp p.step q.step ≡ Less)) → IsThreadBefore p.thread q.thread ⊎ ((p.thread ≡ q.thread) × (p.step < q.step))
        go (inl k) = inl (thread-before p.thread q.thread k)
        go (inr k) = inr (thread-equal p.thread q.thread k.0, number-less p.step q.step k.1)

    by_micro : (nat_cmp p.micro q.micro ≡ Less) ⊎ ((nat_cmp p.micro q.micro ≡ Equal) × (ordering_then (thread_order p.thread q.thread) (nat_cmp p.step q.step) ≡ Less))
        → (p.micro < q.micro) ⊎ ((p.micro ≡ q.micro) × (IsThreadBefore p.thread q.thread ⊎ ((p.thread ≡ q.thread) × (p.step < q.step))))
    by_micro (inl k) = inl (number-less p.micro q.micro k)
    by_micro (inr k) = inr (number-equal p.micro q.micro k.0, by_step k.1)

    by_time : (order_of p.time q.time ≡ Less) ⊎ ((order_of p.time q.time ≡ Equal) × (ordering_then (nat_cmp p.micro q.micro) (ordering_then (thread_order p.thread q.thread) (nat_cmp p.step q.step)) ≡ Less))
        → IsLexicographicallyBefore p q
    by_time (inl k) = inl k
    by_time (inr k) = inr (time-equal p.time q.time k.0, by_micro (then-less _ _ k.1))

time-same : (f g : Fraction) → f ≡ g → order_of f g ≡ Equal
time-same f g h = subst (λ (x : Fraction). order_of f x ≡ Equal) h (tied_itself order_total f)

number-same : (m n : ℕ) → m ≡ n → nat_cmp m n ≡ Equal
number-same m n h = subst (λ (x : ℕ). nat_cmp m x ≡ Equal) h (tied_itself nat_cmp_total m)

thread-same : (xs ys : List ℕ) → xs ≡ ys → thread_order xs ys ≡ Equal
thread-same xs ys h = subst (λ (x : List ℕ). thread_order xs x ≡ Equal) h (tied_itself thread_total xs)

pub before-place : (p q : Place) → IsLexicographicallyBefore p q → IsBefore p q
before-place p q (inl k) = less-first _ _ k
before-place p q (inr (t, inl k)) = less-second _ _ (time-same p.time q.time t) (less-first _ _ (less-number p.micro q.micro k))
before-place p q (inr (t, inr (m, inl k))) =
    less-second _ _ (time-same p.time q.time t) (less-second _ _ (number-same p.micro q.micro m) (less-first _ _ (before-thread p.thread q.thread k)))
before-place p q (inr (t, inr (m, inr (l, k)))) =
    less-second _ _ (time-same p.time q.time t) (less-second _ _ (number-same p.micro q.micro m) (less-second _ _ (thread-same p.thread q.thread l) (less-number p.step q.step k)))
