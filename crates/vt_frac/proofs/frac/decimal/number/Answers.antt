use Rattle.std.proofs.Common.{◌≡◌, ◌∙◌, ◌+◌, ◌*◌, ◌^◌, ◌<◌, length, take, get_or, ap, sym, subst, arith, ℕ}
use Rattle.std.proofs.lemmas.List.{take_all}
use Rattle.vt_frac.specs.Decimal.{digits_value}
use Rattle.vt_frac.proofs.DecimalLemmas.{all_of, digit_at, digit_small, prefix_small, prefix_more, tens_small}
use Rattle.vt_frac.proofs.frac.decimal.number.Goals as goal

pub overflow_mul-number : goal.overflow_mul-number
overflow_mul-number c =
    let all = all_of c.args.digits.now c.requires.digits in
    let small = prefix_small c.args.digits.now c.loop-digit.digit-index all (omega arith) in
    let most = tens_small c.loop-digit.digit-index (omega (arith, c.requires.few)) in
    omega (arith, c.loop-digit.invariant, small, most)

pub overflow_add-number : goal.overflow_add-number
overflow_add-number c =
    let all = all_of c.args.digits.now c.requires.digits in
    let small = prefix_small c.args.digits.now c.loop-digit.digit-index all (omega arith) in
    let most = tens_small c.loop-digit.digit-index (omega (arith, c.requires.few)) in
    let digit = digit_small (get_or c.args.digits.now c.loop-digit.digit-index 0) (digit_at c.args.digits.now c.loop-digit.digit-index all c.loop-digit-test.true) in
    omega (arith, c.loop-digit.invariant, c.from.ensures, small, most, digit.0, digit.1)

pub loop-digit-preserved : goal.loop-digit-preserved
loop-digit-preserved c =
    let all = all_of c.args.digits.now c.requires.digits in
    ap (λ (n : ℕ). n * 10 + c.from.result) c.loop-digit.invariant
    ∙ ap (λ (d : ℕ). digits_value (take c.loop-digit.digit-index c.args.digits.now) * 10 + d) c.from.ensures
    ∙ sym (prefix_more c.args.digits.now c.loop-digit.digit-index all c.loop-digit-test.true)

pub returns : goal.returns
returns c =
    let all = all_of c.args.digits.now c.requires.digits in
    let whole = take_all c.loop-digit.digit-index c.args.digits.now (omega arith) in
    let value = c.loop-digit.invariant ∙ ap digits_value whole in
    let end : c.loop-digit.digit-index ≡ length c.args.digits.now = omega arith in
    record {
      value = value;
      below = subst (λ n. c.loop-digit.number < 10 ^ n) end (subst (λ n. n < 10 ^ c.loop-digit.digit-index) (sym c.loop-digit.invariant) (prefix_small c.args.digits.now c.loop-digit.digit-index all (omega arith)));
    }
