use Rattle.std.proofs.Common.{◌≡◌, ◌∙◌, ◌^◌, ◌*◌, ◌+◌, pos, length, sym, arith, inl, inr, refl, true}
use Rattle.vt_frac.specs.Fraction.{over}
use Rattle.vt_frac.specs.Decimal.{fitted_decimal, are_digits, digits_value}
use Rattle.vt_frac.proofs.DecimalLemmas.{pointed-long, pointed-worth}
use Rattle.vt_frac.proofs.frac.decimal.read_pointed.Goals as goal
use Rattle.vt_frac.proofs.frac.decimal.read_pointed.Goals.{then-before-gt-MOST_ON_A_SIDE-via-then-before-gt-MOST_ON_A_SIDE, then-before-gt-MOST_ON_A_SIDE-via-else-before-gt-MOST_ON_A_SIDE+then-after-gt-MOST_ON_A_SIDE}

pub returns-then-before-gt-MOST_ON_A_SIDE : goal.returns-then-before-gt-MOST_ON_A_SIDE
returns-then-before-gt-MOST_ON_A_SIDE c =
    let before : are_digits c.args.before.now ≡ true = sym c.are_digits.ensures ∙ c.if-not-are_digits.false in
    let after : are_digits c.args.after.now ≡ true = sym c.are_digits-else-not-are_digits.ensures ∙ c.if-not-are_digits-2.false in
    rw (before, after) (pointed-long c.args.before.now c.args.after.now (elim c.then-before-gt-MOST_ON_A_SIDE.branch [
      | then-before-gt-MOST_ON_A_SIDE-via-then-before-gt-MOST_ON_A_SIDE w ↦ inl (omega (arith, w.if-before-gt-MOST_ON_A_SIDE.true))
      | then-before-gt-MOST_ON_A_SIDE-via-else-before-gt-MOST_ON_A_SIDE+then-after-gt-MOST_ON_A_SIDE w ↦ inr (omega (arith, w.if-after-gt-MOST_ON_A_SIDE.true))
    ]))

pub returns : goal.returns
returns c =
    let before : are_digits c.args.before.now ≡ true = sym c.are_digits.ensures ∙ c.if-not-are_digits.false in
    let after : are_digits c.args.after.now ≡ true = sym c.are_digits-else-not-are_digits.ensures ∙ c.if-not-are_digits-2.false in
    let parts : c.from-parts.result ≡ 10 ^ length c.args.after.now = c.from-parts.ensures ∙ c.pow.ensures in
    let whole : c.from-whole.result ≡ digits_value c.args.before.now = c.from-whole.ensures ∙ c.number.ensures.value in
    let rest : c.from.result ≡ digits_value c.args.after.now = c.from.ensures ∙ c.number-2.ensures.value in
    let worth : fitted_decimal (over (pos (c.from-whole.result * c.from-parts.result + c.from.result)) c.from-parts.result) ≡ fitted_decimal (over (pos (digits_value c.args.before.now * 10 ^ length c.args.after.now + digits_value c.args.after.now)) (10 ^ length c.args.after.now)) = rw (parts, whole, rest) refl in
    rw (before, after) (c.lowest_decimal.ensures ∙ worth ∙ pointed-worth c.args.before.now c.args.after.now (omega arith) (omega arith))
