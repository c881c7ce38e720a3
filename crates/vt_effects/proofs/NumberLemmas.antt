-- Negative fractions and tempos.
use Rattle.std.proofs.Common.{◌≡◌, ◌≢◌, ◌<◌, ◌^◌, ◌/◌, ◌∙◌, ℕ, zero, suc, ℤ, pos, negsuc, List, Result, Ok, true, refl, sym, ap, subst, arith, unsigned_abs}
use Rattle.std.specs.Prelude.{neg_ℤ, int_lt, IsTrue}
use Rattle.std.proofs.lemmas.Bool.{lt-ltb, false≢true}
use Rattle.vt_frac.specs.Divisor.{gcd}
use Rattle.vt_frac.specs.Fraction.{Fraction, fits, fitted, over, reduced, unless_zero, whole, with_sign}
use Rattle.vt_ring.specs.Answers.{and_then}
use Rattle.vt_ring.specs.Arguments.{between}
use Rattle.vt_ring.specs.Exact.{exact_product}
use Rattle.vt_ring.specs.Signatures.{a_whole}
use Rattle.vt_value.specs.declared.fault.FaultKind.{FaultKind}
use Rattle.vt_value.specs.declared.value.Value.{Value}
use Rattle.vt_run.specs.calls.Arguments.{Given, all_args}
use Rattle.vt_run.specs.calls.LoopCalls.{density_of}
use Rattle.vt_run.specs.Tempo.{is_tempo}

undivided : (n : ℕ) → n / 1 ≡ n
undivided n = omega arith

signed : (z : ℤ) → with_sign z (unsigned_abs z) ≡ z
signed (pos n) = refl
signed (negsuc n) = refl

over_lowest : (z : ℤ) (d : ℕ) → gcd (unsigned_abs z) (suc d) ≡ 1 → over z (suc d) ≡ record { numer = with_sign z (unsigned_abs z); denom = suc d }
unfolding over
over_lowest z d h = rw h (rw (undivided (unsigned_abs z), undivided (suc d)) refl)

fits_here : (z : ℤ) (d : ℕ) → unsigned_abs z < 2 ^ 63 → d < 2 ^ 63 → fitted (record { numer = z; denom = d }) ≡ Ok (record { numer = z; denom = d })
unfolding fitted fits
fits_here z d low high = rw (lt-ltb (unsigned_abs z) (2 ^ 63) low, lt-ltb d (2 ^ 63) high) refl

lowest_is : (z : ℤ) (d : ℕ) → gcd (unsigned_abs z) d ≡ 1 → 0 < d → unsigned_abs z < 2 ^ 63 → d < 2 ^ 63 → unless_zero (pos d) (fitted (reduced z (pos d))) ≡ Ok (record { numer = z; denom = d })
unfolding reduced
lowest_is z zero h positive low high = absurd (omega arith)
lowest_is z (suc d) h positive low high =
    ap (λ (f : Fraction). fitted f) (over_lowest z d h ∙ ap (λ n. record { numer = n; denom = suc d }) (signed z)) ∙ fits_here z (suc d) low high

same_size : (z : ℤ) → unsigned_abs (neg_ℤ z) ≡ unsigned_abs z
same_size (pos zero) = refl
same_size (pos (suc n)) = refl
same_size (negsuc n) = refl

-- the negative of a fraction in lowest terms is one too
pub negated_is : (z : ℤ) (d : ℕ) → gcd (unsigned_abs z) d ≡ 1 → 0 < d → unsigned_abs z < 2 ^ 63 → d < 2 ^ 63 → unless_zero (pos d) (fitted (reduced (neg_ℤ z) (pos d))) ≡ Ok (record { numer = neg_ℤ z; denom = d })
negated_is z d h positive low high =
    lowest_is (neg_ℤ z) d (ap (λ n. gcd n d) (same_size z) ∙ h) positive (subst (λ n. n < 2 ^ 63) (sym (same_size z)) low) high

pub sixty_not_zero : (f : Fraction) → f ≡ whole (pos 60) → f.numer ≢ pos 0
sixty_not_zero f is e = absurd (omega (arith, size)) where
  size : ◌≡◌ {A = ℕ} 60 0
  size = ap unsigned_abs (sym (ap (λ (f : Fraction). f.numer) is) ∙ e)

-- a density by its steps
pub density_is : (given : Given) (args : List Value) (number : ℤ) (bpm times faster : Fraction) (n : ℕ) → args ≡ all_args given → Ok number ≡ a_whole args → Ok n ≡ between 1 64 number →
    times ≡ whole (pos n) → Ok faster ≡ exact_product bpm times → density_of given bpm ≡ Ok (n, faster)
density_is given args number bpm times faster n is a b t p =
    ap (λ (answer : Result ℤ FaultKind). and_then answer (λ number. and_then (between 1 64 number) (λ n. and_then (exact_product bpm (whole (pos n))) (λ faster. Ok (n, faster))))) (ap a_whole (sym is) ∙ sym a)
    ∙ ap (λ (answer : Result ℕ FaultKind). and_then answer (λ n. and_then (exact_product bpm (whole (pos n))) (λ faster. Ok (n, faster)))) (sym b)
    ∙ ap (λ (answer : Result Fraction FaultKind). and_then answer (λ faster. Ok (n, faster))) (ap (exact_product bpm) (sym t) ∙ sym p)
