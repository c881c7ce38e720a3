use Rattle.std.proofs.Common.{◌≡◌, ◌∙◌, ◌≤◌, ◌+◌, ◌-◌, ◌^◌, ℕ, min, length, ◌++◌, Bool, true, ◌&&◌, sym, ap, arith, length-append}
use Rattle.std.specs.Prelude.{nat_le, nat_lt}
use Rattle.std.proofs.lemmas.Bool.Decides.{nat_tests}
use Rattle.vt_value.specs.Sizes.{sizes_of}
use Rattle.vt_value.proofs.Layers.{sizes-append}
use Rattle.vt_value.proofs.join.is_within.Goals as goal

at_most : (n : ℕ) → n ≤ 4096 → nat_le n 4096 ≡ true
at_most n h = grind (arith, nat_tests)

capped : (sum a b : ℕ) → sum ≡ min (min (2 ^ 64 - 1) a + min (2 ^ 64 - 1) b) (2 ^ 64 - 1) → nat_lt sum 65536 ≡ nat_le (1 + (a + b)) 65536
capped sum a b h = grind (arith, nat_tests)

pub returns : goal.returns
returns c =
    let first = c.args.first.now in
    let second = c.args.second.now in
    let few : nat_le (length (first ++ second)) 4096 ≡ true = at_most (length (first ++ second)) (omega (arith, length-append first second)) in
    let sum : c.saturating_add.result ≡ min (min (2 ^ 64 - 1) (sizes_of first) + min (2 ^ 64 - 1) (sizes_of second)) (2 ^ 64 - 1) = omega (arith, c.saturating_add.ensures, c.sizes.ensures, c.sizes-2.ensures) in
    capped c.saturating_add.result (sizes_of first) (sizes_of second) sum ∙ sym (ap (λ (b : Bool). b && nat_le (1 + sizes_of (first ++ second)) 65536) few ∙ ap (λ (n : ℕ). nat_le (1 + n) 65536) (sizes-append first second))
