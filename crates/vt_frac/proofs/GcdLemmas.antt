-- What Euclid's rule gives: a greatest common divisor, one step at a time, and of multiples the multiple.
use Rattle.std.proofs.Common.{◌≡◌, ℕ, zero, suc, ◌+◌, ◌*◌, ◌/◌, ◌%◌, ◌<◌, ◌≤◌, refl, sym, ap, subst, ◌∙◌, arith}
use Rattle.std.proofs.Math.Nat.{mod-lt, mul-lt-mul_of_pos_right, div-mul_cancel, eq_of_mul-eq-mul_right, pos_of_dvd_of_pos, mul_comm, mul-pos}
use Rattle.std.proofs.lemmas.Nat.{mod-mul-add, div-add-mod'}
use Rattle.std.proofs.lemmas.Nat.Gcd.{IsGcd-from_zero, IsGcd-from_mod}
use Rattle.std.specs.Int.{IsGcd}
use Rattle.vt_frac.specs.Divisor.{gcd_within, gcd}

-- more steps than the second number change nothing
pub within_enough : (f g a b : ℕ) → b ≤ f → b ≤ g → gcd_within f a b ≡ gcd_within g a b
within_enough zero zero a b p q = refl
within_enough zero (suc g) a zero p q = refl
within_enough zero (suc g) a (suc b) p q = absurd (omega arith)
within_enough (suc f) zero a zero p q = refl
within_enough (suc f) zero a (suc b) p q = absurd (omega arith)
within_enough (suc f) (suc g) a zero p q = refl
within_enough (suc f) (suc g) a (suc b) p q =
    let small : a % suc b < suc b = mod-lt a (omega arith) in
    within_enough f g (suc b) (a % suc b) (omega arith) (omega arith)

pub gcd-zero : (a : ℕ) → gcd a 0 ≡ a
unfolding gcd
gcd-zero a = refl

pub gcd-step : (a b : ℕ) → 0 < b → gcd a b ≡ gcd b (a % b)
unfolding gcd
gcd-step a zero h = absurd (omega arith)
gcd-step a (suc b) h =
    let small : a % suc b < suc b = mod-lt a (omega arith) in
    within_enough b (a % suc b) (suc b) (a % suc b) (omega arith) (omega arith)

within_IsGcd : (f a b : ℕ) → b ≤ f → IsGcd a b (gcd a b)
within_IsGcd f a zero p = subst (IsGcd a 0) (sym (gcd-zero a)) (IsGcd-from_zero a 0 refl)
within_IsGcd zero a (suc b) p = absurd (omega arith)
within_IsGcd (suc f) a (suc b) p =
    let small : a % suc b < suc b = mod-lt a (omega arith) in
    subst (IsGcd a (suc b)) (sym (gcd-step a (suc b) (omega arith))) (IsGcd-from_mod a (suc b) _ (within_IsGcd f (suc b) (a % suc b) (omega arith)))

pub gcd-IsGcd : (a b : ℕ) → IsGcd a b (gcd a b)
gcd-IsGcd a b = within_IsGcd b a b (omega arith)

pub gcd-pos : (a b : ℕ) → 0 < b → 0 < gcd a b
gcd-pos a b h = pos_of_dvd_of_pos ((gcd-IsGcd a b).1) h

-- a multiple's remainder
pub mod-multiples : (a b k : ℕ) → 0 < b → 0 < k → (a * k) % (b * k) ≡ (a % b) * k
mod-multiples a b k p q =
    let small : (a % b) * k < b * k = mul-lt-mul_of_pos_right (mod-lt a p) q in
    let whole : a * k ≡ (a / b) * (b * k) + (a % b) * k = omega (arith, ap (λ n. n * k) (div-add-mod' a b)) in
    ap (λ n. n % (b * k)) whole ∙ mod-mul-add (a / b) (b * k) ((a % b) * k) small

within_multiples : (f a b k : ℕ) → 0 < k → b ≤ f → gcd (a * k) (b * k) ≡ gcd a b * k
within_multiples f a zero k q p = ap (gcd (a * k)) (omega arith) ∙ gcd-zero (a * k) ∙ ap (λ n. n * k) (sym (gcd-zero a))
within_multiples zero a (suc b) k q p = absurd (omega arith)
within_multiples (suc f) a (suc b) k q p =
    let small : a % suc b < suc b = mod-lt a (omega arith) in
    let positive : 0 < suc b = omega arith in
    gcd-step (a * k) (suc b * k) (mul-pos positive q)
    ∙ ap (gcd (suc b * k)) (mod-multiples a (suc b) k positive q)
    ∙ within_multiples f (suc b) (a % suc b) k q (omega arith)
    ∙ ap (λ n. n * k) (sym (gcd-step a (suc b) positive))

-- the greatest common divisor of multiples
pub gcd-multiples : (a b k : ℕ) → 0 < k → gcd (a * k) (b * k) ≡ gcd a b * k
gcd-multiples a b k q = within_multiples b a b k q (omega arith)

-- both numbers are multiples of it
pub gcd-parts : (a b : ℕ) → (a / gcd a b * gcd a b ≡ a) × (b / gcd a b * gcd a b ≡ b)
gcd-parts a b = (div-mul_cancel _ ((gcd-IsGcd a b).0), div-mul_cancel _ ((gcd-IsGcd a b).1))

-- divided by it, they have no common divisor
pub gcd-lowest : (a b : ℕ) → 0 < b → gcd (a / gcd a b) (b / gcd a b) ≡ 1
gcd-lowest a b h =
    let g = gcd a b in
    let some : 0 < g = gcd-pos a b h in
    let parts = gcd-parts a b in
    let scaled = gcd-multiples (a / g) (b / g) g some in
    let same : gcd (a / g * g) (b / g * g) ≡ gcd a b = rw (parts.0, parts.1) refl in
    eq_of_mul-eq-mul_right g some _ _ (sym scaled ∙ same ∙ omega arith)

quotients : (g h m n s t a b c d : ℕ) → m * g ≡ a → n * g ≡ b → s * h ≡ c → t * h ≡ d → 0 < g → 0 < h → 0 < d → g * d ≡ h * b → a * d ≡ c * b → (m ≡ s) × (n ≡ t)
quotients g h m n s t a b c d ea eb ec ed gp hp dp crossed e =
    let some : 0 < h * g = mul-pos hp gp in
    let many : 0 < g * d = mul-pos gp dp in
    let below : n * (h * g) ≡ t * (h * g) = omega (arith, ap (λ x. x * g) ed, ap (λ x. x * h) eb, crossed) in
    let above : m * (g * d) ≡ s * (g * d) = omega (arith, ap (λ x. x * d) ea, ap (λ x. x * b) ec, ap (λ x. s * x) crossed, e) in
    (eq_of_mul-eq-mul_right (g * d) many m s above, eq_of_mul-eq-mul_right (h * g) some n t below)

-- two fractions of one value have the same lowest terms
pub same_lowest : (a b c d : ℕ) → 0 < b → 0 < d → a * d ≡ c * b → (a / gcd a b ≡ c / gcd c d) × (b / gcd a b ≡ d / gcd c d)
same_lowest a b c d p q e =
    let over_d : gcd (a * d) (b * d) ≡ gcd a b * d = gcd-multiples a b d q in
    let over_b : gcd (c * b) (d * b) ≡ gcd c d * b = gcd-multiples c d b p in
    let crossed : gcd a b * d ≡ gcd c d * b = sym over_d ∙ ap (λ n. gcd n (b * d)) e ∙ ap (gcd (c * b)) (mul_comm b d) ∙ over_b in
    quotients (gcd a b) (gcd c d) (a / gcd a b) (b / gcd a b) (c / gcd c d) (d / gcd c d) a b c d (gcd-parts a b).0 (gcd-parts a b).1 (gcd-parts c d).0 (gcd-parts c d).1 (gcd-pos a b p) (gcd-pos c d q) q crossed e
