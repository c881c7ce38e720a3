-- What the draws make of their words.
use Rattle.std.proofs.Common.{◌≡◌, ℕ, ◌+◌, ◌*◌, ◌/◌, ◌%◌, ◌^◌, ◌<◌, ℤ, pos, Result, Ok, bit_or, sym, ap, subst, ◌∙◌, arith, lit<}
use Rattle.std.proofs.Math.Nat.{div-le_self, lt_of_le_of_lt}
use Rattle.std.proofs.lemmas.Nat.{or_shifted}
use Rattle.vt_frac.specs.declared.fault.FracFault.{FracFault}
use Rattle.vt_frac.specs.Divisor.{gcd}
use Rattle.vt_frac.specs.Fraction.{Fraction, fitted, over, reduced}
use Rattle.vt_frac.proofs.FractionLemmas.{fitted_ok, over_is}
use Rattle.vt_rand.specs.Draw.{RandomStream, after_draws, child_seed_of}
use Rattle.vt_rand.specs.Word.{word}
use Rattle.vt_rand.proofs.WordLemmas.{word-mod, word_fits}

-- k/65536 fits
part_fits : (k : ℕ) → k < 65536 → fitted (over (pos k) 65536) ≡ Ok (over (pos k) 65536)
part_fits k small =
    let divisor = gcd k 65536 in
    let f : Fraction = record { numer = pos (k / divisor); denom = 65536 / divisor } in
    let is : over (pos k) 65536 ≡ f = over_is (pos k) 65536 (lit< tt) in
    let above : k / divisor < 2 ^ 63 = lt_of_le_of_lt (div-le_self k divisor) (omega arith) in
    let below : 65536 / divisor < 2 ^ 63 = lt_of_le_of_lt (div-le_self 65536 divisor) (lit< tt) in
    subst (λ g. fitted g ≡ Ok g) (sym is) (fitted_ok f above below)

-- what the division answers
pub part_is : (z : ℤ) (k : ℕ) (r : Result Fraction FracFault) → z ≡ pos k → k < 65536 → r ≡ fitted (reduced z (pos 65536)) → r ≡ Ok (over (pos k) 65536)
unfolding reduced
part_is z k r whole small given = given ∙ ap (λ n. fitted (reduced n (pos 65536))) whole ∙ part_fits k small

-- the second of two words
pub second_word : (s t : RandomStream) (w : ℕ) → t ≡ after_draws 1 s → w ≡ word t.seed t.drawn → w ≡ word s.seed (s.drawn + 1)
second_word s t w moved given =
    given ∙ ap (λ (r : RandomStream). word r.seed r.drawn) moved ∙ word-mod s.seed (s.drawn + 1)

-- two words side by side
pub joined_is : (seed j k a b : ℕ) → a ≡ word seed j → b ≡ word seed k → bit_or (a * 2 ^ 32 % 2 ^ 64) b ≡ child_seed_of (word seed j) (word seed k)
unfolding child_seed_of
joined_is seed j k a b first second =
    rw (first, second) (side_by_side (word seed j) (word seed k) (word_fits seed j) (word_fits seed k))
  where
    side_by_side : (a b : ℕ) → a < 2 ^ 32 → b < 2 ^ 32 → bit_or (a * 2 ^ 32 % 2 ^ 64) b ≡ a * 2 ^ 32 + b
    side_by_side a b h i =
        let whole : a * 2 ^ 32 % 2 ^ 64 ≡ a * 2 ^ 32 = omega arith in
        rw whole (or_shifted a 32 b i)
