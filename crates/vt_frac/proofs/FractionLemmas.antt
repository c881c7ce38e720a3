-- Lowest terms at whole numbers with a sign: what `over` and `reduced` give, and that fractions of one value are one.
use Rattle.std.proofs.Common.{◌≡◌, ℕ, zero, suc, ◌*◌, ◌/◌, ◌^◌, ◌<◌, ◌≤◌, ℤ, pos, negsuc, refl, sym, ap, subst, ◌∙◌, arith, true, false, Ok, Err, inl, inr, Bool, cond, ◌⊎◌}
use Rattle.std.proofs.lemmas.Bool.Decides.{nat_tests}
use Rattle.std.specs.Prelude.{neg_ℤ, ◌+ℤ◌, ◌*ℤ◌, ◌<ℤ◌, ◌≤ℤ◌, unsigned_abs}
use Rattle.std.proofs.Math.Nat.{eq-one_of_dvd-one, div-one, mul-pos}
use Rattle.std.proofs.lemmas.Int.{ints, unsigned_abs-mul}
use lib.IntN.{*ℤ-negsuc, neg_ℤ-neg_ℤ}
use Rattle.vt_frac.specs.declared.fault.FracFault.TheVariants.{Zero, Overflow}
use Rattle.vt_frac.specs.Arithmetic.{sum_of}
use Rattle.std.specs.Int.{◌∣◌}
use Rattle.vt_frac.specs.Divisor.{gcd}
use Rattle.vt_frac.specs.Fraction.{Fraction, over, reduced, fits, fitted, with_sign, IsFraction, unless_zero, ReducedIsLowest, ReducedKeepsTheValue}
use Rattle.vt_frac.specs.OrderLaws.{same_parts}
use Rattle.vt_frac.proofs.GcdLemmas.{gcd-IsGcd, gcd-parts, gcd-lowest, same_lowest}

-- n over d, where d is not 0
pub over_is : (n : ℤ) (d : ℕ) → 0 < d → over n d ≡ record { numer = with_sign n (unsigned_abs n / gcd (unsigned_abs n) d); denom = d / gcd (unsigned_abs n) d }
unfolding over
over_is n zero h = absurd (omega arith)
over_is n (suc d) h = refl

pub size-with_sign : (n : ℤ) (size : ℕ) → unsigned_abs (with_sign n size) ≡ size
size-with_sign (pos n) size = refl
size-with_sign (negsuc n) zero = refl
size-with_sign (negsuc n) (suc size) = refl

-- which fractions fit
pub fitted_ok : (f : Fraction) → unsigned_abs f.numer < 2 ^ 63 → f.denom < 2 ^ 63 → fitted f ≡ Ok f
unfolding fitted fits
fitted_ok f p q = grind (arith, nat_tests)

pub fitted_overflow : (f : Fraction) → (2 ^ 63 ≤ unsigned_abs f.numer) ⊎ (2 ^ 63 ≤ f.denom) → fitted f ≡ Err Overflow
unfolding fitted fits
fitted_overflow f (inl p) = grind (arith, nat_tests)
fitted_overflow f (inr q) = grind (arith, nat_tests)

-- The parts that the code computes: `size` is that of n, and `divisor` the greatest common divisor
parts_are : (n numer : ℤ) (d size divisor : ℕ) → 0 < d → size ≡ unsigned_abs n → divisor ≡ gcd size d → numer ≡ with_sign n (size / divisor) → over n d ≡ record { numer = numer; denom = d / divisor }
parts_are n numer d size divisor h e f m = rw (m, f, e) (over_is n d h)

pub over_fits : (n numer : ℤ) (d size divisor : ℕ) → 0 < d → size ≡ unsigned_abs n → divisor ≡ gcd size d → numer ≡ with_sign n (size / divisor) → size / divisor < 2 ^ 63 → d / divisor < 2 ^ 63 → Ok (record { numer = numer; denom = d / divisor }) ≡ fitted (over n d)
over_fits n numer d size divisor h e f m p q =
    let small : unsigned_abs numer < 2 ^ 63 = subst (λ k. k < 2 ^ 63) (sym (ap unsigned_abs m ∙ size-with_sign n (size / divisor))) p in
    sym (ap fitted (parts_are n numer d size divisor h e f m) ∙ fitted_ok (record { numer = numer; denom = d / divisor }) small q)

pub over_overflows : (n : ℤ) (d size divisor : ℕ) → 0 < d → size ≡ unsigned_abs n → divisor ≡ gcd size d → (2 ^ 63 ≤ size / divisor) ⊎ (2 ^ 63 ≤ d / divisor) → Err Overflow ≡ fitted (over n d)
over_overflows n d size divisor h e f p =
    let numer : ℤ = with_sign n (size / divisor) in
    let large : (2 ^ 63 ≤ unsigned_abs (with_sign n (size / divisor))) ⊎ (2 ^ 63 ≤ d / divisor) = subst (λ k. (2 ^ 63 ≤ k) ⊎ (2 ^ 63 ≤ d / divisor)) (sym (size-with_sign n (size / divisor))) p in
    sym (ap fitted (parts_are n (with_sign n (size / divisor)) d size divisor h e f refl) ∙ fitted_overflow (record { numer = with_sign n (size / divisor); denom = d / divisor }) large)

quotient_pos : (q g b : ℕ) → q * g ≡ b → 0 < b → 0 < q
quotient_pos zero g b e h = absurd (omega arith)
quotient_pos (suc q) g b e h = omega arith

-- they are a fraction
pub over_IsFraction : (n numer : ℤ) (d size divisor : ℕ) → 0 < d → size ≡ unsigned_abs n → divisor ≡ gcd size d → numer ≡ with_sign n (size / divisor) → size / divisor < 2 ^ 63 → d / divisor < 2 ^ 63 → IsFraction (record { numer = numer; denom = d / divisor })
over_IsFraction n numer d size divisor h e f m p q =
    let size_is : unsigned_abs numer ≡ size / divisor = ap unsigned_abs m ∙ size-with_sign n (size / divisor) in
    let coprime : gcd (size / divisor) (d / divisor) ≡ 1 = rw f (gcd-lowest size d h) in
    let whole : d / divisor * divisor ≡ d = rw f (gcd-parts size d).1 in
    record {
      lowest = ap (λ k. gcd k (d / divisor)) size_is ∙ coprime;
      positive = quotient_pos (d / divisor) divisor d whole h;
      numer_fits = subst (λ k. k < 2 ^ 63) (sym size_is) p;
      denom_fits = q;
    }

-- the sign goes above the line
pub reduced-below : (n d above : ℤ) (size : ℕ) → d <ℤ pos 0 → above ≡ neg_ℤ n → size ≡ unsigned_abs d → fitted (over above size) ≡ unless_zero d (fitted (reduced n d))
unfolding reduced
reduced-below n (pos d) above size h a e = absurd (omega (arith, ints))
reduced-below n (negsuc d) above size h a e = rw (a, e) refl

pub reduced-above : (n d above : ℤ) (size : ℕ) → pos 0 ≤ℤ d → (d ≡ pos 0 → ⊥) → above ≡ n → size ≡ unsigned_abs d → fitted (over above size) ≡ unless_zero d (fitted (reduced n d))
unfolding reduced
reduced-above n (pos zero) above size h ne a e = absurd (ne refl)
reduced-above n (pos (suc d)) above size h ne a e = rw (a, e) refl
reduced-above n (negsuc d) above size h ne a e = absurd (omega (arith, ints))

pub fitted-not_zero : (f : Fraction) → fitted f ≡ Err Zero → ⊥
unfolding fitted
fitted-not_zero f e = by_test (fits f) e
  where
    by_test : (b : Bool) → cond b (Ok f) (Err Overflow) ≡ Err Zero → ⊥
    by_test true e = cc
    by_test false e = cc

-- the sum that the code computes
pub sum_is : (a b : Fraction) (left right sum : ℤ) (d : ℕ) → left ≡ a.numer *ℤ pos b.denom → right ≡ b.numer *ℤ pos a.denom → sum ≡ left +ℤ right → d ≡ a.denom * b.denom → over sum d ≡ sum_of a b
unfolding sum_of
sum_is a b left right sum d l r s e = rw (s, l, r, e) refl

-- ---- the two laws

negated-times : (n d : ℕ) → neg_ℤ (pos n) *ℤ pos d ≡ neg_ℤ (pos (n * d))
negated-times zero d = let none : 0 * d ≡ 0 = omega arith in rw none refl
negated-times (suc n) d = refl

turned-times : (n : ℤ) (d : ℕ) → neg_ℤ n *ℤ pos d ≡ neg_ℤ (n *ℤ pos d)
turned-times (pos n) d = negated-times n d
turned-times (negsuc n) d = sym (neg_ℤ-neg_ℤ (pos (suc n * d)))

parts_crossed : (a d : ℕ) → a / gcd a d * d ≡ a * (d / gcd a d)
parts_crossed a d = crossed (gcd a d) (a / gcd a d) (d / gcd a d) a d (gcd-parts a d).0 (gcd-parts a d).1
  where
    crossed : (g m n a d : ℕ) → m * g ≡ a → n * g ≡ d → m * d ≡ a * n
    crossed g m n a d e f = omega (arith, ap (λ x. m * x) f, ap (λ x. x * n) e)

-- the cross products agree
pub over-value : (n : ℤ) (d : ℕ) → 0 < d → (over n d).numer *ℤ pos d ≡ n *ℤ pos (over n d).denom
over-value (pos n) d h = rw (over_is (pos n) d h) (ap pos (parts_crossed n d))
over-value (negsuc n) d h = rw (over_is (negsuc n) d h) (negated-times (suc n / gcd (suc n) d) d ∙ ap (λ k. neg_ℤ (pos k)) (parts_crossed (suc n) d))

-- no common divisor is left
pub over-lowest : (n : ℤ) (d : ℕ) → 0 < d → gcd (unsigned_abs (over n d).numer) (over n d).denom ≡ 1
over-lowest n d h = rw (over_is n d h, size-with_sign) (gcd-lowest (unsigned_abs n) d h)

pub over-positive : (n : ℤ) (d : ℕ) → 0 < d → 0 < (over n d).denom
over-positive n d h = rw (over_is n d h) (quotient_pos (d / gcd (unsigned_abs n) d) (gcd (unsigned_abs n) d) d (gcd-parts (unsigned_abs n) d).1 h)

only_one : (a b k : ℕ) → gcd a b ≡ 1 → k ∣ a → k ∣ b → k ≡ 1
only_one a b k e p q = eq-one_of_dvd-one (subst (λ g. k ∣ g) e ((gcd-IsGcd a b).2 k p q))

pub reduced_is_lowest : ReducedIsLowest
unfolding reduced over
reduced_is_lowest n (pos zero) = (omega arith, λ k p q. eq-one_of_dvd-one q)
reduced_is_lowest n (pos (suc d)) = (over-positive n (suc d) (omega arith), λ k. only_one _ _ k (over-lowest n (suc d) (omega arith)))
reduced_is_lowest n (negsuc d) = (over-positive (neg_ℤ n) (suc d) (omega arith), λ k. only_one _ _ k (over-lowest (neg_ℤ n) (suc d) (omega arith)))

pub reduced_keeps_the_value : ReducedKeepsTheValue
unfolding reduced
reduced_keeps_the_value n (pos zero) h = absurd (h refl)
reduced_keeps_the_value n (pos (suc d)) h = over-value n (suc d) (omega arith)
reduced_keeps_the_value n (negsuc d) h =
    *ℤ-negsuc (over (neg_ℤ n) (suc d)).numer d
    ∙ ap neg_ℤ (over-value (neg_ℤ n) (suc d) (omega arith) ∙ turned-times n (over (neg_ℤ n) (suc d)).denom)
    ∙ neg_ℤ-neg_ℤ (n *ℤ pos (over (neg_ℤ n) (suc d)).denom)

-- ---- fractions of one value are one

sized-times : (n : ℤ) (d : ℕ) → unsigned_abs (n *ℤ pos d) ≡ unsigned_abs n * d
sized-times n d = unsigned_abs-mul n (pos d)

opposed : (x y : ℕ) → 0 < y → pos x ≡ neg_ℤ (pos y) → ⊥
opposed x zero p h = omega arith
opposed x (suc y) p h = cc

pub over_same : (m n : ℤ) (d e : ℕ) → 0 < d → 0 < e → m *ℤ pos e ≡ n *ℤ pos d → over m d ≡ over n e
over_same m n d e p q h =
    let sizes : unsigned_abs m * e ≡ unsigned_abs n * d = sym (sized-times m e) ∙ ap unsigned_abs h ∙ sized-times n d in
    let parts = same_lowest (unsigned_abs m) d (unsigned_abs n) e p q sizes in
    over_is m d p ∙ same_parts _ _ (signs m n d e p q h _ _ parts.0) parts.1 ∙ sym (over_is n e q)
  where
    signs : (m n : ℤ) (d e : ℕ) → 0 < d → 0 < e → m *ℤ pos e ≡ n *ℤ pos d → (s t : ℕ) → s ≡ t → with_sign m s ≡ with_sign n t
    signs (pos a) (pos c) d e p q h s t k = ap pos k
    signs (pos a) (negsuc c) d e p q h s t k = absurd (opposed (a * e) (suc c * d) (mul-pos (omega arith) p) h)
    signs (negsuc a) (pos c) d e p q h s t k = absurd (opposed (c * d) (suc a * e) (mul-pos (omega arith) q) (sym h))
    signs (negsuc a) (negsuc c) d e p q h s t k = ap (λ x. neg_ℤ (pos x)) k

with_sign_self : (n : ℤ) → with_sign n (unsigned_abs n) ≡ n
with_sign_self (pos n) = refl
with_sign_self (negsuc n) = refl

pub over-self : (f : Fraction) → IsFraction f → over f.numer f.denom ≡ f
over-self f h =
    over_is f.numer f.denom h.positive
    ∙ same_parts _ _ (rw (h.lowest, div-one) (with_sign_self f.numer)) (rw (h.lowest, div-one) refl)

-- two fractions in lowest terms with one value are the same
pub same_from_value : (f g : Fraction) → IsFraction f → IsFraction g → f.numer *ℤ pos g.denom ≡ g.numer *ℤ pos f.denom → f ≡ g
same_from_value f g p q h =
    sym (over-self f p) ∙ over_same f.numer g.numer f.denom g.denom p.positive q.positive h ∙ over-self g q
