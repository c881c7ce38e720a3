use Rattle.std.proofs.Common.{◌≡◌, ◌∙◌, ℕ, ◌<◌, ◌^◌, Option, Some, None, Result, Ok, Err, Bool, false, cond, refl, sym, ap, arith, rules, ℤ, unsigned_abs, FitsSigned, to_z, of_z, w64, ◌*ℤ◌}
use Rattle.std.specs.Prelude.{nat_lt}
use Rattle.std.specs.Option.{SomeIff}
use Rattle.std.proofs.lemmas.Int.{ints}
use Rattle.std.proofs.lemmas.Bool.Decides.{nat_tests}
use Rattle.vt_value.specs.declared.fault.FaultKind.{FaultKind}
use Rattle.vt_value.specs.declared.fault.FaultKind.TheVariants.{Overflow}
use Rattle.vt_value.specs.Arithmetic.{fitting}
use Rattle.vt_value.proofs.arithmetic.whole_arith.Goals as goal

below : (z : ℤ) → unsigned_abs z < 2 ^ 63 → FitsSigned w64 z
below z h = search (rules)

not_below : (n : ℕ) → (n < 2 ^ 63 → ⊥) → nat_lt n (2 ^ 63) ≡ false
not_below n h = grind (arith, nat_tests)

-- what a checked operation gives, in range or not
checked : (r : Option ℤ) (z : ℤ) (answer : Result ℤ FaultKind) → SomeIff r (FitsSigned w64 z) z → ((w : ℤ) → r ≡ Some w → answer ≡ fitting w) → (r ≡ None → answer ≡ Err Overflow) → answer ≡ fitting z
checked (Some w) z answer h some none = some w refl ∙ ap fitting h.1
checked None z answer h some none = none refl ∙ sym (ap (λ (b : Bool). cond b (Ok z) (Err Overflow)) (not_below (unsigned_abs z) (λ fits. h (below z fits))))

pub returns-in-Mul : goal.returns-in-Mul
returns-in-Mul c =
    let m : to_z w64 (of_z w64 c.get-in-Mul.result) ≡ c.args.m = omega (arith, ints, c.get-in-Mul.ensures.value) in
    let n : to_z w64 (of_z w64 c.get-in-Mul-2.result) ≡ c.args.n = omega (arith, ints, c.get-in-Mul-2.ensures.value) in
    rw c.in-Mul.is (checked c.checked_mul.result (to_z w64 (of_z w64 c.get-in-Mul.result) *ℤ to_z w64 (of_z w64 c.get-in-Mul-2.result)) c.fitting-in-Mul.result c.checked_mul.ensures c.fitting-in-Mul.ensures.some c.fitting-in-Mul.ensures.none
    ∙ ap (λ (z : ℤ). fitting (z *ℤ to_z w64 (of_z w64 c.get-in-Mul-2.result))) m ∙ ap (λ (z : ℤ). fitting (c.args.m *ℤ z)) n)
