-- The order of the values is total. The laws of `Ord` cite this.
use Rattle.std.proofs.Common.{◌≡◌, ℕ, zero, suc, ◌+◌, ◌*◌, ◌<◌, max, ℤ, pos, negsuc, refl, sym, ap, ◌∙◌, arith, true, false, Bool, true≢false}
use Rattle.std.specs.Prelude.{neg_ℤ, ◌*ℤ◌, ◌<ℤ◌, ◌==◌, ◌&&◌}
use Rattle.std.proofs.lemmas.Bool.Decides.{nat_tests}
use Rattle.std.proofs.lemmas.Bool.{eqb-true}
use Rattle.std.specs.declared.cmp.Ordering.{Ordering}
use Rattle.std.specs.declared.cmp.Ordering.TheVariants.{Less, Equal, Greater}
use Rattle.std.specs.Ordering.{int_cmp, nat_cmp, int_eq, is_eq, ordering_then}
use Rattle.std.specs.Cmp.{IsTotalOrder}
use Rattle.std.proofs.Math.Nat.{mul-lt-mul_of_pos_right, lt_of_mul-lt-mul_right, eq_of_mul-eq-mul_right}
use Rattle.std.proofs.lemmas.Int.{ints}
use Rattle.std.proofs.lemmas.Cmp.{by_ranked, int_ranked, int_cmp_total, nat_cmp_total, on_total, then_total, tied_itself}
use borrow.Author.Differences.{up, down, lt_out, below_in, same_in, same_out}
use Rattle.vt_frac.specs.Fraction.{Fraction}
use Rattle.vt_frac.specs.Order.{value_order, order_of}

-- the two parts of a whole number times a natural
negated : (m : ℕ) → (up (neg_ℤ (pos m)) ≡ 0) × (down (neg_ℤ (pos m)) ≡ m)
negated zero = (refl, refl)
negated (suc m) = (refl, refl)

pub up-times : (z : ℤ) (d : ℕ) → up (z *ℤ pos d) ≡ up z * d
up-times (pos n) d = refl
up-times (negsuc n) d = (negated (suc n * d)).0 ∙ omega arith

pub down-times : (z : ℤ) (d : ℕ) → down (z *ℤ pos d) ≡ down z * d
down-times (pos n) d = omega arith
down-times (negsuc n) d = (negated (suc n * d)).1

-- For a/p, b/q and c/r, each the difference of two naturals: what three comparisons have to do with one another
crossed : (a a' b b' c c' p q r : ℕ) → (a * q + b' * p) * r + (b * r + c' * q) * p + (c * p + a' * r) * q ≡ (b * p + a' * q) * r + (c * q + b' * r) * p + (a * r + c' * p) * q
crossed a a' b b' c c' p q r = omega arith

less_less : (s t u v w x p q r : ℕ) → s * r + u * p + x * q ≡ t * r + v * p + w * q → 0 < p → 0 < r → s < t → u < v → w < x
less_less s t u v w x p q r e hp hr h k =
    lt_of_mul-lt-mul_right q (omega (arith, mul-lt-mul_of_pos_right h hr, mul-lt-mul_of_pos_right k hp))

same_less : (s t u v w x p q r : ℕ) → s * r + u * p + x * q ≡ t * r + v * p + w * q → 0 < p → s ≡ t → u < v → w < x
same_less s t u v w x p q r e hp h k =
    lt_of_mul-lt-mul_right q (omega (arith, ap (λ n. n * r) h, mul-lt-mul_of_pos_right k hp))

same_same : (s t u v w x p q r : ℕ) → s * r + u * p + x * q ≡ t * r + v * p + w * q → 0 < q → s ≡ t → u ≡ v → w ≡ x
same_same s t u v w x p q r e hq h k =
    eq_of_mul-eq-mul_right q hq w x (omega (arith, ap (λ n. n * r) h, ap (λ n. n * p) k))

same_greater : (s t u v w x p q r : ℕ) → s * r + u * p + x * q ≡ t * r + v * p + w * q → 0 < p → s ≡ t → v < u → x < w
same_greater s t u v w x p q r e hp h k =
    lt_of_mul-lt-mul_right q (omega (arith, ap (λ n. n * r) h, mul-lt-mul_of_pos_right k hp))

-- what the answer of a comparison says, the other way
pub less_from : (x y : ℤ) → x <ℤ y → int_cmp x y ≡ Less
less_from x y h = by_ranked (x <ℤ y) (x ≡ y) (y <ℤ x) (int_cmp x y) (int_ranked x y (int_cmp x y) refl) (λ e _. e) (λ _ p. absurd (omega (arith, ints))) (λ _ p. absurd (omega (arith, ints)))

greater_from : (x y : ℤ) → y <ℤ x → int_cmp x y ≡ Greater
greater_from x y h = by_ranked (x <ℤ y) (x ≡ y) (y <ℤ x) (int_cmp x y) (int_ranked x y (int_cmp x y) refl) (λ _ p. absurd (omega (arith, ints))) (λ _ p. absurd (omega (arith, ints))) (λ e _. e)

equal_from : (x y : ℤ) → x ≡ y → int_cmp x y ≡ Equal
equal_from x y h = by_ranked (x <ℤ y) (x ≡ y) (y <ℤ x) (int_cmp x y) (int_ranked x y (int_cmp x y) refl) (λ _ p. absurd (omega (arith, ints))) (λ e _. e) (λ _ p. absurd (omega (arith, ints)))

-- the products of a comparison in natural numbers
products : (a b : ℤ) (p q : ℕ) → (up (a *ℤ pos q) + down (b *ℤ pos p) ≡ up a * q + down b * p) × (up (b *ℤ pos p) + down (a *ℤ pos q) ≡ up b * p + down a * q)
products a b p q = (rw (up-times a q, down-times b p) refl, rw (up-times b p, down-times a q) refl)

less_out : (a b : ℤ) (p q : ℕ) → (a *ℤ pos q) <ℤ (b *ℤ pos p) → up a * q + down b * p < up b * p + down a * q
less_out a b p q h = omega (arith, lt_out (a *ℤ pos q) (b *ℤ pos p) h, (products a b p q).0, (products a b p q).1)

pub less_in : (a b : ℤ) (p q : ℕ) → up a * q + down b * p < up b * p + down a * q → (a *ℤ pos q) <ℤ (b *ℤ pos p)
less_in a b p q h = below_in (a *ℤ pos q) (b *ℤ pos p) (omega (arith, (products a b p q).0, (products a b p q).1))

equal_out : (a b : ℤ) (p q : ℕ) → a *ℤ pos q ≡ b *ℤ pos p → up a * q + down b * p ≡ up b * p + down a * q
equal_out a b p q h = omega (arith, same_out (a *ℤ pos q) (b *ℤ pos p) h, (products a b p q).0, (products a b p q).1)

equal_in : (a b : ℤ) (p q : ℕ) → up a * q + down b * p ≡ up b * p + down a * q → a *ℤ pos q ≡ b *ℤ pos p
equal_in a b p q h = same_in (a *ℤ pos q) (b *ℤ pos p) (omega (arith, (products a b p q).0, (products a b p q).1))

-- two steps of the order of a/p, b/q and c/r
cross_less : (a b c : ℤ) (p q r : ℕ) → 0 < p → 0 < r → (a *ℤ pos q) <ℤ (b *ℤ pos p) → (b *ℤ pos r) <ℤ (c *ℤ pos q) → (a *ℤ pos r) <ℤ (c *ℤ pos p)
cross_less a b c p q r hp hr h k =
    less_in a c p r (less_less _ _ _ _ _ _ p q r (crossed (up a) (down a) (up b) (down b) (up c) (down c) p q r) hp hr (less_out a b p q h) (less_out b c q r k))

cross_congr : (a b c : ℤ) (p q r : ℕ) → 0 < p → 0 < q → a *ℤ pos q ≡ b *ℤ pos p → int_cmp (a *ℤ pos r) (c *ℤ pos p) ≡ int_cmp (b *ℤ pos r) (c *ℤ pos q)
cross_congr a b c p q r hp hq h =
    let same = equal_out a b p q h in
    let identity = crossed (up a) (down a) (up b) (down b) (up c) (down c) p q r in
    by_ranked ((b *ℤ pos r) <ℤ (c *ℤ pos q)) (b *ℤ pos r ≡ c *ℤ pos q) ((c *ℤ pos q) <ℤ (b *ℤ pos r)) (int_cmp (b *ℤ pos r) (c *ℤ pos q)) (int_ranked (b *ℤ pos r) (c *ℤ pos q) (int_cmp (b *ℤ pos r) (c *ℤ pos q)) refl)
    (λ e k. less_from _ _ (less_in a c p r (same_less _ _ _ _ _ _ p q r identity hp same (less_out b c q r k))) ∙ sym e)
    (λ e k. equal_from _ _ (equal_in a c p r (same_same _ _ _ _ _ _ p q r identity hq same (equal_out b c q r k))) ∙ sym e)
    (λ e k. greater_from _ _ (less_in c a r p (omega (arith, same_greater _ _ _ _ _ _ p q r identity hp same (omega (arith, less_out c b r q k))))) ∙ sym e)

above_zero : (d : ℕ) → 0 < max 1 d
above_zero d = omega arith

pub value_total : IsTotalOrder value_order
unfolding value_order
value_total = record {
  antisymm = λ a b. int_cmp_total.antisymm (a.numer *ℤ pos (max 1 b.denom)) (b.numer *ℤ pos (max 1 a.denom));
  trans = λ a b c h k. less_from _ _ (cross_less a.numer b.numer c.numer (max 1 a.denom) (max 1 b.denom) (max 1 c.denom) (above_zero a.denom) (above_zero c.denom) (int_ranked _ _ Less (sym h)) (int_ranked _ _ Less (sym k)));
  congr = λ a b c h. cross_congr a.numer b.numer c.numer (max 1 a.denom) (max 1 b.denom) (max 1 c.denom) (above_zero a.denom) (above_zero b.denom) (int_ranked _ _ Equal (sym h));
}

-- the order that `Ord` has is total
pub order_total : IsTotalOrder order_of
unfolding order_of
order_total = then_total value_total (then_total (on_total (λ (f : Fraction). f.numer) int_cmp_total) (on_total (λ (f : Fraction). f.denom) nat_cmp_total))

-- a tie in both parts
then_ties : (r s : Ordering) → is_eq (ordering_then r s) ≡ (is_eq r && is_eq s)
then_ties Less s = refl
then_ties Equal s = refl
then_ties Greater s = refl

nat_ties : (x y : ℕ) → is_eq (nat_cmp x y) ≡ (x == y)
nat_ties x y = grind (arith, nat_tests)

int_same : (x y : ℤ) → is_eq (int_cmp x y) ≡ true → x ≡ y
int_same x y h = by_ranked (x <ℤ y) (x ≡ y) (y <ℤ x) (int_cmp x y) (int_ranked x y (int_cmp x y) refl) (λ e _. absurd (true≢false (sym h ∙ ap is_eq e))) (λ _ p. p) (λ e _. absurd (true≢false (sym h ∙ ap is_eq e)))

both_true : (b c : Bool) → (b && c) ≡ true → (b ≡ true) × (c ≡ true)
both_true true true h = (refl, refl)
both_true true false h = absurd (true≢false (sym h))
both_true false c h = absurd (true≢false (sym h))

pub same_parts : (f g : Fraction) → f.numer ≡ g.numer → f.denom ≡ g.denom → f ≡ g
same_parts f g p q = ap (λ (n : ℤ). record { numer = n; denom = f.denom }) p ∙ ap (λ (d : ℕ). record { numer = g.numer; denom = d }) q

-- `==` holds exactly where the order answers Equal
pub order_ties : (f g : Fraction) → (int_eq f.numer g.numer && (f.denom == g.denom)) ≡ is_eq (order_of f g)
unfolding order_of
order_ties f g =
    let below : is_eq (ordering_then (int_cmp f.numer g.numer) (nat_cmp f.denom g.denom)) ≡ (int_eq f.numer g.numer && (f.denom == g.denom)) = then_ties (int_cmp f.numer g.numer) (nat_cmp f.denom g.denom) ∙ ap (λ (b : Bool). int_eq f.numer g.numer && b) (nat_ties f.denom g.denom) in
    let all : is_eq (order_of f g) ≡ (is_eq (value_order f g) && (int_eq f.numer g.numer && (f.denom == g.denom))) = then_ties (value_order f g) (ordering_then (int_cmp f.numer g.numer) (nat_cmp f.denom g.denom)) ∙ ap (λ (b : Bool). is_eq (value_order f g) && b) below in
    sym (all ∙ absorbed (is_eq (value_order f g)) (int_eq f.numer g.numer && (f.denom == g.denom)) tied)
  where
    absorbed : (b c : Bool) → (c ≡ true → b ≡ true) → (b && c) ≡ c
    absorbed true c h = refl
    absorbed false true h = h refl
    absorbed false false h = refl

    tied : (int_eq f.numer g.numer && (f.denom == g.denom)) ≡ true → is_eq (value_order f g) ≡ true
    tied h =
        let parts = both_true (int_eq f.numer g.numer) (f.denom == g.denom) h in
        let same : f ≡ g = same_parts f g (int_same f.numer g.numer parts.0) (eqb-true f.denom g.denom parts.1) in
        ap is_eq (ap (value_order f) (sym same) ∙ tied_itself value_total f)
