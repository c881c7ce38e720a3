use Rattle.std.proofs.Common.{◌≡◌, ◌<◌, ◌^◌, ◌/◌, ◌∙◌, ℕ, zero, suc, ℤ, pos, negsuc, ◌-ℤ◌, Ok, Err, true, refl, sym, ap, arith, to_z, of_z, w64, unsigned_abs}
use Rattle.std.specs.Prelude.{neg_ℤ, int_lt}
use Rattle.std.proofs.lemmas.Bool.{lt-ltb, le-ltb, false≢true}
use Rattle.std.proofs.lemmas.Int.{ints}
use Rattle.vt_frac.specs.Divisor.{gcd}
use Rattle.vt_frac.specs.Fraction.{fits, fitted, over, reduced, unless_zero}
use Rattle.vt_ring.specs.Exact.{absolute_of}
use Rattle.vt_ring.proofs.exact.negated.Goals as goal

undivided : (n : ℕ) → n / 1 ≡ n
undivided n = omega arith

over-lowest : (n d : ℕ) → gcd n (suc d) ≡ 1 → over (pos n) (suc d) ≡ record { numer = pos n; denom = suc d }
unfolding over
over-lowest n d h = rw h (rw (undivided n, undivided (suc d)) refl)

lowest : (n d : ℕ) → gcd n (suc d) ≡ 1 → n < 2 ^ 63 → suc d < 2 ^ 63 → fitted (over (pos n) (suc d)) ≡ Ok (record { numer = pos n; denom = suc d })
unfolding fitted fits
lowest n d h low high = rw (over-lowest n d h) (rw (lt-ltb n (2 ^ 63) low, lt-ltb (suc d) (2 ^ 63) high) refl)

negative : (n : ℤ) (d : ℕ) → int_lt n (pos 0) ≡ true → gcd (unsigned_abs n) d ≡ 1 → 0 < d → unsigned_abs n < 2 ^ 63 → d < 2 ^ 63 → unless_zero (pos d) (fitted (reduced (neg_ℤ n) (pos d))) ≡ Ok (record { numer = pos (unsigned_abs n); denom = d })
unfolding reduced
negative n zero below h positive low high = absurd (omega arith)
negative (pos n) (suc d) below h positive low high = absurd (false≢true (sym (le-ltb n 0 (omega arith)) ∙ below))
negative (negsuc n) (suc d) below h positive low high = lowest (suc n) d h low high

pub unreachable-requires : goal.unreachable-requires
unreachable-requires c =
    let f = c.numer.ensures.fraction in
    let top : to_z w64 (of_z w64 (pos 0 -ℤ to_z w64 (of_z w64 c.numer.result))) ≡ neg_ℤ c.args.f.numer = omega (arith, ints, c.numer.ensures.value, f.numer_fits) in
    let under : to_z w64 (of_z w64 c.denom.result) ≡ pos c.args.f.denom = omega (arith, ints, c.denom.ensures.value, f.denom_fits) in
    let made : Err c.in-Err.field-0 ≡ Ok (absolute_of c.args.f) =
    sym c.in-Err.is ∙ c.new.ensures.value
    ∙ ap (λ z. unless_zero z (fitted (reduced (to_z w64 (of_z w64 (pos 0 -ℤ to_z w64 (of_z w64 c.numer.result)))) z))) under
    ∙ ap (λ z. unless_zero (pos c.args.f.denom) (fitted (reduced z (pos c.args.f.denom)))) top
    ∙ negative c.args.f.numer c.args.f.denom c.requires f.lowest f.positive f.numer_fits f.denom_fits in
    cc

pub returns : goal.returns
returns c =
    let f = c.numer.ensures.fraction in
    let top : to_z w64 (of_z w64 (pos 0 -ℤ to_z w64 (of_z w64 c.numer.result))) ≡ neg_ℤ c.args.f.numer = omega (arith, ints, c.numer.ensures.value, f.numer_fits) in
    let under : to_z w64 (of_z w64 c.denom.result) ≡ pos c.args.f.denom = omega (arith, ints, c.denom.ensures.value, f.denom_fits) in
    let made : Ok c.in-Ok.size ≡ Ok (absolute_of c.args.f) =
    sym c.in-Ok.is ∙ c.new.ensures.value
    ∙ ap (λ z. unless_zero z (fitted (reduced (to_z w64 (of_z w64 (pos 0 -ℤ to_z w64 (of_z w64 c.numer.result)))) z))) under
    ∙ ap (λ z. unless_zero (pos c.args.f.denom) (fitted (reduced z (pos c.args.f.denom)))) top
    ∙ negative c.args.f.numer c.args.f.denom c.requires f.lowest f.positive f.numer_fits f.denom_fits in
    cc
