use Rattle.std.proofs.Common.{◌∙◌, ap, arith, pos, ℕ}
use Rattle.vt_frac.specs.Fraction.{over}
use Rattle.vt_frac.specs.Decimal.{fitted_decimal}
use Rattle.vt_frac.proofs.DecimalLemmas.{whole-long, whole-worth}
use Rattle.vt_frac.proofs.frac.decimal.read_whole.Goals as goal

pub returns-then-digits-gt-MOST_WHOLE : goal.returns-then-digits-gt-MOST_WHOLE
returns-then-digits-gt-MOST_WHOLE c = whole-long c.args.digits.now (omega arith)

pub returns : goal.returns
returns c =
    c.lowest_decimal.ensures ∙ ap (λ (n : ℕ). fitted_decimal (over (pos n) 1)) (c.from.ensures ∙ c.number.ensures.value) ∙ whole-worth c.args.digits.now (omega arith)
