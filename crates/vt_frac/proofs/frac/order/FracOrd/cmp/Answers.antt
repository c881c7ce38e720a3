use Rattle.std.proofs.Common.{rules, ◌≡◌, ◌∙◌, sym, pos}
use Rattle.std.specs.Prelude.{◌*ℤ◌}
use Rattle.std.specs.Ordering.{int_cmp}
use Rattle.vt_frac.proofs.OrderLemmas.{order_is, equal_values, tied_to_itself}
use Rattle.vt_frac.proofs.frac.order.FracOrd.cmp.Goals as goal

pub returns-clause-order : goal.returns-clause-order
returns-clause-order c =
    let values : c.cmp.result ≡ int_cmp (c.args.self.now.numer *ℤ pos c.args.other.now.denom) (c.args.other.now.numer *ℤ pos c.args.self.now.denom) = search rules in
    values ∙ order_is _ _ c.cross.ensures.fractions.0 c.cross.ensures.fractions.1

pub returns-clause-same : goal.returns-clause-same
returns-clause-same c =
    let values : c.cmp.result ≡ int_cmp (c.args.self.now.numer *ℤ pos c.args.other.now.denom) (c.args.other.now.numer *ℤ pos c.args.self.now.denom) = search rules in
    let a = c.cross.ensures.fractions.0 in
    let b = c.cross.ensures.fractions.1 in
    (λ h. equal_values _ _ a b (sym values ∙ h), λ h. values ∙ order_is _ _ a b ∙ tied_to_itself _ _ h)
