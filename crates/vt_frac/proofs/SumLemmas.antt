-- A sum with more than nothing is greater.
use Rattle.std.proofs.Common.{◌≡◌, ℕ, ◌+◌, ◌*◌, ◌<◌, ℤ, pos, refl, sym, ap, ◌∙◌, arith}
use Rattle.std.specs.Prelude.{◌+ℤ◌, ◌*ℤ◌, ◌<ℤ◌}
use Rattle.std.specs.declared.cmp.Ordering.TheVariants.{Less}
use Rattle.std.proofs.Math.Nat.{mul-lt-mul_of_pos_right, lt_of_mul-lt-mul_right, mul-pos}
use borrow.Author.Differences.{up, down, lt_out, same_out, sum_is_lem}
use Rattle.vt_frac.specs.Arithmetic.{sum_of}
use Rattle.vt_frac.specs.Fraction.{Fraction, over}
use Rattle.vt_frac.specs.Order.{value_order, order_of}
use Rattle.vt_frac.specs.OrderLaws.{up-times, down-times, less_in, less_from}
use Rattle.vt_frac.proofs.OrderLemmas.{max_is}
use Rattle.vt_frac.proofs.FractionLemmas.{over-value, over-positive}

rises : (s t u v n m y z a b c : ℕ) → s * (a * b) ≡ u * c → t * (a * b) ≡ v * c → u + m * b + z * a ≡ v + n * b + y * a → z < y → 0 < a → 0 < c → n * c + t * a < s * a + m * c
rises s t u v n m y z a b c e f g h ha hc =
    lt_of_mul-lt-mul_right b (omega (arith, e, f, ap (λ x. x * c) g, mul-lt-mul_of_pos_right h (mul-pos ha hc)))

below_sum : (a s b : Fraction) (n : ℤ) → 0 < a.denom → 0 < s.denom → s.numer *ℤ pos (a.denom * b.denom) ≡ n *ℤ pos s.denom → n ≡ a.numer *ℤ pos b.denom +ℤ b.numer *ℤ pos a.denom → pos 0 <ℤ b.numer → value_order a s ≡ Less
unfolding value_order
below_sum a s b n ha hs value e h =
    let above : up s.numer * (a.denom * b.denom) ≡ up n * s.denom = sym (up-times s.numer (a.denom * b.denom)) ∙ ap up value ∙ up-times n s.denom in
    let below : down s.numer * (a.denom * b.denom) ≡ down n * s.denom = sym (down-times s.numer (a.denom * b.denom)) ∙ ap down value ∙ down-times n s.denom in
    let parts : up n + down a.numer * b.denom + down b.numer * a.denom ≡ down n + up a.numer * b.denom + up b.numer * a.denom =
    omega (arith, same_out n (a.numer *ℤ pos b.denom +ℤ b.numer *ℤ pos a.denom) e, sum_is_lem (a.numer *ℤ pos b.denom) (b.numer *ℤ pos a.denom), up-times a.numer b.denom, down-times a.numer b.denom, up-times b.numer a.denom, down-times b.numer a.denom) in
    let more : down b.numer < up b.numer = omega (arith, lt_out (pos 0) b.numer h) in
    rw (max_is s.denom hs, max_is a.denom ha)
    (less_from _ _ (less_in a.numer s.numer a.denom s.denom (rises (up s.numer) (down s.numer) (up n) (down n) (up a.numer) (down a.numer) (up b.numer) (down b.numer) a.denom b.denom s.denom above below parts more ha hs)))

pub sum-rises : (a b : Fraction) → 0 < a.denom → 0 < b.denom → pos 0 <ℤ b.numer → order_of a (sum_of a b) ≡ Less
unfolding order_of sum_of
sum-rises a b p q h =
    let some : 0 < a.denom * b.denom = mul-pos p q in
    let rises_to = below_sum a (over (a.numer *ℤ pos b.denom +ℤ b.numer *ℤ pos a.denom) (a.denom * b.denom)) b _ p (over-positive _ (a.denom * b.denom) some) (over-value (a.numer *ℤ pos b.denom +ℤ b.numer *ℤ pos a.denom) (a.denom * b.denom) some) refl h in
    rw rises_to refl
