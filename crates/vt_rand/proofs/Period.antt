-- The steps of the generator come back to where they began after 2^64 of them.
use Rattle.std.proofs.Common.{◌≡◌, ℕ, zero, suc, ◌+◌, ◌*◌, ◌%◌, ◌^◌, ◌<◌, refl, sym, ap, ◌∙◌, arith}
use Rattle.std.proofs.lemmas.Nat.{mul-mod_first, mul-mod_second}
use Rattle.std.proofs.Math.Nat.{add-mod-mod, two-pow-succ, zero-mul, one-mul}
use Rattle.rand_pcg.specs.Lcg.{next_state, state_after}
use Rattle.rand_pcg.specs.Pcg.{multiplier_64}
use Rattle.rand_pcg.proofs.LcgLemmas.{state_after_double}

-- the multiplier after j doublings of the step
abbrev pub squared : ℕ → ℕ → ℕ
squared zero m = m
squared (suc j) m = squared j (m * m % 2 ^ 64)

-- by what j doublings of the step have multiplied the increment, on top of f
abbrev pub factor : ℕ → ℕ → ℕ → ℕ
factor zero m f = f
factor (suc j) m f = factor j (m * m % 2 ^ 64) ((m + 1) % 2 ^ 64 * f % 2 ^ 64)

-- the increment counts only modulo 2^64
state_after-reduced : (m p n s : ℕ) → state_after 64 m (p % 2 ^ 64) n s ≡ state_after 64 m p n s
unfolding state_after
state_after-reduced m p zero s = refl
state_after-reduced m p (suc n) s =
    ap (state_after 64 m (p % 2 ^ 64) n) (add-mod-mod (s * m % 2 ^ 64) p (2 ^ 64))
    ∙ state_after-reduced m p n (next_state 64 m p s)

-- one doubling more
factor_more : (a f p : ℕ) → a * (f * p % 2 ^ 64) % 2 ^ 64 ≡ a * f % 2 ^ 64 * p % 2 ^ 64
factor_more a f p =
    let grouped : a * (f * p) ≡ a * f * p = omega arith in
    mul-mod_second a (f * p) (2 ^ 64) ∙ ap (λ x. x % 2 ^ 64) grouped ∙ sym (mul-mod_first (a * f) p (2 ^ 64))

-- 2^j steps are one step with other constants
doublings : (j m f p s : ℕ) → state_after 64 m (f * p % 2 ^ 64) (2 ^ j) s ≡ state_after 64 (squared j m) (factor j m f * p % 2 ^ 64) 1 s
doublings zero m f p s = refl
doublings (suc j) m f p s =
    ap (λ n. state_after 64 m (f * p % 2 ^ 64) n s) (two-pow-succ j)
    ∙ sym (state_after_double 64 m (f * p % 2 ^ 64) (2 ^ j) s)
    ∙ ap (λ q. state_after 64 (m * m % 2 ^ 64) q (2 ^ j) s) (factor_more ((m + 1) % 2 ^ 64) f p)
    ∙ doublings j (m * m % 2 ^ 64) ((m + 1) % 2 ^ 64 * f % 2 ^ 64) p s

-- 64 doublings leave the multiplier 1 and the increment 0
squared_to_one : squared 64 multiplier_64 ≡ 1
squared_to_one = refl

factor_to_zero : factor 64 multiplier_64 1 ≡ 0
factor_to_zero = refl

idle_step : (m f p s : ℕ) → m ≡ 1 → f ≡ 0 → s < 2 ^ 64 → state_after 64 m (f * p % 2 ^ 64) 1 s ≡ s
unfolding state_after
idle_step m f p s is_one is_zero small =
    rw (is_one, is_zero, zero-mul) (omega arith)

-- the state after 2^64 steps
pub state_after-period : (p s : ℕ) → s < 2 ^ 64 → state_after 64 multiplier_64 p (2 ^ 64) s ≡ s
state_after-period p s small =
    sym (state_after-reduced multiplier_64 p (2 ^ 64) s)
    ∙ ap (λ q. state_after 64 multiplier_64 (q % 2 ^ 64) (2 ^ 64) s) (sym (one-mul p))
    ∙ doublings 64 multiplier_64 1 p s
    ∙ idle_step (squared 64 multiplier_64) (factor 64 multiplier_64 1) p s squared_to_one factor_to_zero small
