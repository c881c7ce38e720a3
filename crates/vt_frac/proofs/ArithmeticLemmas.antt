-- The results that the code computes, and the floor of a quotient.
use Rattle.std.proofs.Common.{◌≡◌, ℕ, zero, suc, ◌+◌, ◌*◌, ◌/◌, ◌%◌, ◌<◌, ℤ, pos, negsuc, refl, sym, ap, subst, ◌∙◌, arith}
use Rattle.std.specs.Prelude.{neg_ℤ, ◌-ℤ◌, ◌*ℤ◌, ◌<ℤ◌, unsigned_abs, Result}
use Rattle.std.specs.Int.{int_div_euclid, int_rem_euclid}
use Rattle.std.proofs.Math.Nat.{mod-lt, eq_of_mul-eq-mul_right, mul-pos, mul-div-mul_right, div-eq_of_lt-le, div-div-eq-div-mul, mul_comm}
use Rattle.std.proofs.lemmas.Nat.{div-add-mod'}
use Rattle.std.proofs.lemmas.Int.{ints, unsigned_abs-mul}
use lib.IntN.{*ℤ-negsuc}
use borrow.Author.Differences.{up, down, same_in, same_out, sum_is_lem, neg_is, product_is}
use Rattle.vt_frac.specs.declared.fault.FracFault.{FracFault}
use Rattle.vt_frac.specs.Divisor.{gcd}
use Rattle.vt_frac.specs.Fraction.{Fraction, over, reduced, whole, unless_zero, fitted}
use Rattle.vt_frac.specs.OrderLaws.{up-times, down-times}
use Rattle.vt_frac.specs.Arithmetic.{difference_of, product_of, quotient_of, floor_of, remainder_of}
use Rattle.vt_frac.proofs.GcdLemmas.{gcd-pos, gcd-parts}
use Rattle.vt_frac.proofs.FractionLemmas.{over_is, over-value, over-positive, over_same}

pub difference_is : (a b : Fraction) (left right difference : ℤ) (d : ℕ) → left ≡ a.numer *ℤ pos b.denom → right ≡ b.numer *ℤ pos a.denom → difference ≡ left -ℤ right → d ≡ a.denom * b.denom → over difference d ≡ difference_of a b
unfolding difference_of
difference_is a b left right difference d l r s e = rw (s, l, r, e) refl

pub product_made : (a b : Fraction) (product : ℤ) (d : ℕ) → product ≡ a.numer *ℤ b.numer → d ≡ a.denom * b.denom → over product d ≡ product_of a b
unfolding product_of
product_made a b product d p e = rw (p, e) refl

-- a numerator is 0 exactly where its product with a denominator is
pub zero_from_product : (n : ℤ) (d : ℕ) → 0 < d → n *ℤ pos d ≡ pos 0 → n ≡ pos 0
zero_from_product n d h e =
    let sizes : unsigned_abs n * d ≡ 0 * d = sym (unsigned_abs-mul n (pos d)) ∙ ap unsigned_abs e ∙ omega arith in
    none n (eq_of_mul-eq-mul_right d h (unsigned_abs n) 0 sizes)
  where
    none : (n : ℤ) → unsigned_abs n ≡ 0 → n ≡ pos 0
    none (pos n) e = ap pos e
    none (negsuc n) e = absurd (omega arith)

nonzero_answers : (n : ℤ) (answer : Result Fraction FracFault) → (n ≡ pos 0 → ⊥) → unless_zero n answer ≡ answer
nonzero_answers (pos zero) answer h = absurd (h refl)
nonzero_answers (pos (suc n)) answer h = refl
nonzero_answers (negsuc n) answer h = refl

pub unless_zero-product : (n : ℤ) (d : ℕ) (answer : Result Fraction FracFault) → 0 < d → unless_zero (n *ℤ pos d) answer ≡ unless_zero n answer
unless_zero-product (pos zero) d answer h = let none : 0 * d ≡ 0 = omega arith in rw none refl
unless_zero-product (pos (suc n)) d answer h =
    nonzero_answers (pos (suc n * d)) answer (λ e. let z : pos (suc n) ≡ pos 0 = zero_from_product (pos (suc n)) d h e in cc)
unless_zero-product (negsuc n) d answer h =
    nonzero_answers (negsuc n *ℤ pos d) answer (λ e. let z : negsuc n ≡ pos 0 = zero_from_product (negsuc n) d h e in cc)

-- ---- the floor

-- both parts over a common divisor
quotient_same : (n d g p q : ℕ) → p * g ≡ n → q * g ≡ d → 0 < g → p / q ≡ n / d
quotient_same n d g p q e f h = sym (mul-div-mul_right p q h) ∙ rw (e, f) refl

below_same : (n d g s q : ℕ) → suc s * g ≡ suc n → q * g ≡ d → 0 < g → s / q ≡ n / d
below_same n d g s q e f h =
    let first : n / g ≡ s = div-eq_of_lt-le g {m = n} (omega (arith, e)) (omega (arith, e)) in
    ap (λ k. k / q) (sym first) ∙ div-div-eq-div-mul n g q ∙ ap (λ k. n / k) (mul_comm g q ∙ f)

-- lowest terms do not change the floor
pub floor-over : (n : ℤ) (d : ℕ) → 0 < d → floor_of (over n d) ≡ int_div_euclid n (pos d)
unfolding floor_of
floor-over (pos n) d h = rw (over_is (pos n) d h) (ap pos (quotient_same n d (gcd n d) (n / gcd n d) (d / gcd n d) (gcd-parts n d).0 (gcd-parts n d).1 (gcd-pos n d h)))
floor-over (negsuc n) d h =
    rw (over_is (negsuc n) d h) (lowered (suc n / gcd (suc n) d) (gcd-parts (suc n) d).0)
  where
    lowered : (s : ℕ) → s * gcd (suc n) d ≡ suc n → int_div_euclid (neg_ℤ (pos s)) (pos (d / gcd (suc n) d)) ≡ negsuc (n / d)
    lowered zero e = absurd (omega arith)
    lowered (suc s) e = ap negsuc (below_same n d (gcd (suc n) d) s (d / gcd (suc n) d) e (gcd-parts (suc n) d).1 (gcd-pos (suc n) d h))

-- what is left
pub rest_is : (n : ℤ) (d : ℕ) → 0 < d → int_rem_euclid n (pos d) ≡ n -ℤ int_div_euclid n (pos d) *ℤ pos d
rest_is (pos n) d h = omega (arith, ints, div-add-mod' n d)
rest_is (negsuc n) d h = let small : n % d < d = mod-lt n h in omega (arith, ints, div-add-mod' n d)

pub rest-above : (n d : ℤ) → pos 0 <ℤ d → int_rem_euclid n d ≡ n -ℤ floor_of (reduced n d) *ℤ d
unfolding reduced
rest-above n (pos d) h = rw (floor-over n d (omega (arith, ints))) (rest_is n d (omega (arith, ints)))
rest-above n (negsuc d) h = absurd (omega (arith, ints))

pub rest-below : (n d : ℤ) → d <ℤ pos 0 → neg_ℤ (int_rem_euclid (neg_ℤ n) (neg_ℤ d)) ≡ n -ℤ floor_of (reduced n d) *ℤ d
unfolding reduced
rest-below n (pos d) h = absurd (omega (arith, ints))
rest-below n (negsuc d) h =
    rw (floor-over (neg_ℤ n) (suc d) (omega arith), rest_is (neg_ℤ n) (suc d) (omega arith), *ℤ-negsuc)
    (turned n (int_div_euclid (neg_ℤ n) (pos (suc d)) *ℤ pos (suc d)))
  where
    turned : (n t : ℤ) → neg_ℤ (neg_ℤ n -ℤ t) ≡ n -ℤ neg_ℤ t
    turned n t = omega (arith, ints)

-- ---- the remainder

cross_differences : (s t u v n m p p' w w' a d c : ℕ) → s + m * c + p * a ≡ t + n * c + p' * a → u + m * d + w * a ≡ v + n * d + w' * a → p * d ≡ w * c → p' * d ≡ w' * c → s * (a * d) + v * (a * c) ≡ u * (a * c) + t * (a * d)
cross_differences s t u v n m p p' w w' a d c e f g h =
    omega (arith, ap (λ x. x * (a * d)) e, ap (λ x. x * (a * c)) f, ap (λ x. x * (a * a)) g, ap (λ x. x * (a * a)) h)

-- a difference by its parts
difference_out : (z x y : ℤ) → z ≡ x -ℤ y → up z + down x + up y ≡ down z + up x + down y
difference_out z x y e = omega (arith, same_out z (x -ℤ y) e, sum_is_lem x (neg_ℤ y), (neg_is y).0, (neg_is y).1)

-- x - w over d, where w/d is given as p/c in other terms
other_terms : (x p w z rest : ℤ) (a d c : ℕ) → p *ℤ pos d ≡ w *ℤ pos c → z ≡ x *ℤ pos c -ℤ p *ℤ pos a → rest ≡ x *ℤ pos d -ℤ w *ℤ pos a → z *ℤ pos (a * d) ≡ rest *ℤ pos (a * c)
other_terms x p w z rest a d c same e f =
    let above : up p * d ≡ up w * c = sym (up-times p d) ∙ ap up same ∙ up-times w c in
    let below : down p * d ≡ down w * c = sym (down-times p d) ∙ ap down same ∙ down-times w c in
    let first : up z + down x * c + up p * a ≡ down z + up x * c + down p * a = omega (arith, difference_out z (x *ℤ pos c) (p *ℤ pos a) e, up-times x c, down-times x c, up-times p a, down-times p a) in
    let second : up rest + down x * d + up w * a ≡ down rest + up x * d + down w * a = omega (arith, difference_out rest (x *ℤ pos d) (w *ℤ pos a) f, up-times x d, down-times x d, up-times w a, down-times w a) in
    same_in (z *ℤ pos (a * d)) (rest *ℤ pos (a * c)) (rw (up-times, down-times, up-times, down-times)
    (cross_differences (up z) (down z) (up rest) (down rest) (up x) (down x) (up p) (down p) (up w) (down w) a d c first second above below))

-- the factors of a product in another order
turned : (q b : ℤ) (k : ℕ) → q *ℤ (b *ℤ pos k) ≡ (b *ℤ q) *ℤ pos k
turned q b k =
    same_in (q *ℤ (b *ℤ pos k)) ((b *ℤ q) *ℤ pos k)
    (omega (arith, whole.0, whole.1, up-times (b *ℤ q) k, down-times (b *ℤ q) k, ap (λ n. n * k) (product_is b q).0, ap (λ n. n * k) (product_is b q).1))
  where
    whole : (up (q *ℤ (b *ℤ pos k)) ≡ up q * (up b * k) + down q * (down b * k)) × (down (q *ℤ (b *ℤ pos k)) ≡ up q * (down b * k) + down q * (up b * k))
    whole = (
      (product_is q (b *ℤ pos k)).0 ∙ rw (up-times b k, down-times b k) refl,
      (product_is q (b *ℤ pos k)).1 ∙ rw (up-times b k, down-times b k) refl,
    )

-- the quotient of the code's two products
pub quotient_made : (a b : Fraction) (left right : ℤ) → 0 < a.denom → left ≡ a.numer *ℤ pos b.denom → right ≡ b.numer *ℤ pos a.denom → unless_zero right (fitted (reduced left right)) ≡ unless_zero b.numer (fitted (quotient_of a b))
unfolding quotient_of
quotient_made a b left right h l r =
    rw (l, r) (unless_zero-product b.numer a.denom (fitted (reduced (a.numer *ℤ pos b.denom) (b.numer *ℤ pos a.denom))) h)

remainder_at : (a b : Fraction) (q rest : ℤ) (d : ℕ) → 0 < a.denom → 0 < b.denom → rest ≡ a.numer *ℤ pos b.denom -ℤ q *ℤ (b.numer *ℤ pos a.denom) → d ≡ a.denom * b.denom → over rest d ≡ difference_of a (product_of b (whole q))
unfolding difference_of product_of
remainder_at a b q rest d ha hb e f =
    let one : b.denom * 1 ≡ b.denom = omega arith in
    let times : Fraction = over (b.numer *ℤ q) (b.denom * 1) in
    let some : 0 < (over (b.numer *ℤ q) (b.denom * 1)).denom = over-positive (b.numer *ℤ q) (b.denom * 1) (omega (arith, hb)) in
    let value : (over (b.numer *ℤ q) (b.denom * 1)).numer *ℤ pos b.denom ≡ (b.numer *ℤ q) *ℤ pos (over (b.numer *ℤ q) (b.denom * 1)).denom = subst (λ k. (over (b.numer *ℤ q) (b.denom * 1)).numer *ℤ pos k ≡ (b.numer *ℤ q) *ℤ pos (over (b.numer *ℤ q) (b.denom * 1)).denom) one (over-value (b.numer *ℤ q) (b.denom * 1) (omega (arith, hb))) in
    let left : rest ≡ a.numer *ℤ pos b.denom -ℤ (b.numer *ℤ q) *ℤ pos a.denom = e ∙ ap (λ (z : ℤ). a.numer *ℤ pos b.denom -ℤ z) (turned q b.numer a.denom) in
    let crossed = other_terms a.numer (over (b.numer *ℤ q) (b.denom * 1)).numer (b.numer *ℤ q) (a.numer *ℤ pos (over (b.numer *ℤ q) (b.denom * 1)).denom -ℤ (over (b.numer *ℤ q) (b.denom * 1)).numer *ℤ pos a.denom) rest a.denom b.denom (over (b.numer *ℤ q) (b.denom * 1)).denom value refl left in
    over_same rest _ d (a.denom * (over (b.numer *ℤ q) (b.denom * 1)).denom) (rw f (mul-pos ha hb)) (mul-pos ha some) (rw f (sym crossed))

-- the remainder that the code computes
pub remainder_is : (a b : Fraction) (left right rest : ℤ) (d : ℕ) → 0 < a.denom → 0 < b.denom → left ≡ a.numer *ℤ pos b.denom → right ≡ b.numer *ℤ pos a.denom → rest ≡ left -ℤ floor_of (reduced left right) *ℤ right → d ≡ a.denom * b.denom → over rest d ≡ remainder_of a b
unfolding remainder_of quotient_of
remainder_is a b left right rest d ha hb l r e f =
    remainder_at a b (floor_of (reduced (a.numer *ℤ pos b.denom) (b.numer *ℤ pos a.denom))) rest d ha hb (e ∙ rw (l, r) refl) f

pub nonzero_from_product : (n product : ℤ) (d : ℕ) → product ≡ n *ℤ pos d → (product ≡ pos 0 → ⊥) → n ≡ pos 0 → ⊥
nonzero_from_product n product d e h z =
    let none : 0 * d ≡ 0 = omega arith in
    h (e ∙ rw z (ap pos none))

pub divided : (n product : ℤ) (d : ℕ) (answer : Result Fraction FracFault) → product ≡ n *ℤ pos d → (product ≡ pos 0 → ⊥) → answer ≡ unless_zero n answer
divided n product d answer e h = sym (nonzero_answers n answer (nonzero_from_product n product d e h))
