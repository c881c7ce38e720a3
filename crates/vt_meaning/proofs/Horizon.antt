-- Times against a horizon: what the test of a rest says of the order of times.
use Rattle.std.proofs.Common.{◌≡◌, ℕ, ◌*◌, ◌<◌, zero, suc, refl, sym, ◌∙◌, ap, arith, subst, true, false, ℤ, pos}
use Rattle.std.specs.Prelude.{◌*ℤ◌, ◌+ℤ◌}
use Rattle.std.specs.declared.cmp.Ordering.{Ordering}
use Rattle.std.specs.declared.cmp.Ordering.TheVariants.{Less, Equal, Greater}
use Rattle.std.specs.Ordering.{int_cmp, nat_cmp, ordering_then}
use Rattle.std.proofs.lemmas.Cmp.{int_ranked}
use Rattle.vt_frac.specs.Arithmetic.{sum_of}
use Rattle.vt_frac.specs.Fraction.{Fraction, IsFraction, over}
use Rattle.vt_frac.specs.Order.{order_of, value_order}
use Rattle.vt_frac.proofs.FractionLemmas.{over-positive, over-self, over-value, over_same}
use Rattle.vt_frac.proofs.GcdLemmas.{gcd-step, gcd-zero}
use Rattle.vt_frac.proofs.OrderLemmas.{max_is}
use Rattle.vt_value.specs.declared.comparison.OrderOp.TheVariants.{Ge}
use Rattle.vt_value.specs.Comparison.{holds, value_cmp}
use Rattle.vt_run.specs.Actions.{is_past}
use Rattle.vt_meaning.specs.Places.{Earlier}
use Rattle.vt_meaning.proofs.Order.{earlier-irrefl}

-- in lowest terms: it is what its own parts give
pub record IsLowest (f : Fraction) : Type 0 where
  pub positive : 0 < f.denom
  pub itself : over f.numer f.denom ≡ f

pub fraction_lowest : (f : Fraction) → IsFraction f → IsLowest f
fraction_lowest f h = record { positive = h.positive; itself = over-self f h }

nothing_fraction : IsFraction (record { numer = pos 0; denom = 1 })
nothing_fraction = record { lowest = gcd-step 0 1 (omega arith) ∙ gcd-zero 1; positive = omega arith; numer_fits = omega arith; denom_fits = omega arith }

nothing_lowest : (n : ℤ) → IsLowest (over n 0)
unfolding over
nothing_lowest n = record { positive = omega arith; itself = over-self (record { numer = pos 0; denom = 1 }) nothing_fraction }

over_lowest : (n : ℤ) (d : ℕ) → IsLowest (over n d)
over_lowest n zero = nothing_lowest n
over_lowest n (suc d) =
    record {
      positive = over-positive n (suc d) (omega arith);
      itself = over_same (over n (suc d)).numer n (over n (suc d)).denom (suc d) (over-positive n (suc d) (omega arith)) (omega arith) (over-value n (suc d) (omega arith));
    }

pub sum_lowest : (a b : Fraction) → IsLowest (sum_of a b)
unfolding sum_of
sum_lowest a b = over_lowest (a.numer *ℤ pos b.denom +ℤ b.numer *ℤ pos a.denom) (a.denom * b.denom)

not_least : (o : Ordering) → holds Ge o ≡ false → o ≡ Less
not_least Less h = refl
not_least Equal h = absurd (let z : true ≡ false = h in cc)
not_least Greater h = absurd (let z : true ≡ false = h in cc)

-- **a time that is not past the horizon is earlier**
pub before_horizon : (n u : Fraction) → IsLowest n → IsLowest u → is_past u n ≡ false → Earlier n u
unfolding Earlier order_of value_order
before_horizon n u low up h =
    let less : int_cmp (n.numer *ℤ pos u.denom) (u.numer *ℤ pos n.denom) ≡ Less = not_least (value_cmp n u) h in
    rw (max_is u.denom up.positive, max_is n.denom low.positive, less) refl

ordered : (n u : Fraction) → IsLowest n → IsLowest u → (o : Ordering) → value_cmp n u ≡ o → value_order n u ≡ o
unfolding value_order
ordered n u low up o e = rw (max_is u.denom up.positive, max_is n.denom low.positive) e

not_greater : (n u : Fraction) → value_order n u ≡ Greater → Earlier n u → ⊥
unfolding Earlier order_of
not_greater n u e k = let z : Greater ≡ Less = sym (ap (λ w. ordering_then w (ordering_then (int_cmp n.numer u.numer) (nat_cmp n.denom u.denom))) e) ∙ k in cc

-- **and the other way**
pub earlier_horizon : (n u : Fraction) → IsLowest n → IsLowest u → Earlier n u → is_past u n ≡ false
earlier_horizon n u low up h = go (value_cmp n u) refl
  where
    same : value_cmp n u ≡ Equal → n ≡ u
    same e =
        sym low.itself
        ∙ over_same n.numer u.numer n.denom u.denom low.positive up.positive (int_ranked (n.numer *ℤ pos u.denom) (u.numer *ℤ pos n.denom) Equal (sym e))
        ∙ up.itself

    go : (o : Ordering) → value_cmp n u ≡ o → holds Ge (value_cmp n u) ≡ false
    go Less e = ap (holds Ge) e
    go Equal e = absurd (earlier-irrefl u (subst (λ w. Earlier w u) (same e) h))
    go Greater e = absurd (not_greater n u (ordered n u low up Greater e) h)
