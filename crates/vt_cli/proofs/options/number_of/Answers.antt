use Rattle.std.proofs.Common.{◌∙◌, ◌+◌, ◌*◌, take, get_or, ap, sym, arith, ℕ}
use Rattle.std.proofs.lemmas.List.{take_all}
use Rattle.vt_frac.specs.Decimal.{digits_value}
use Rattle.vt_frac.proofs.DecimalLemmas.{all_of, digit_at, digit_small, prefix_small, prefix_more}
use Rattle.vt_cli.proofs.CommandLemmas.{tens-few}
use Rattle.vt_cli.proofs.options.number_of.Goals as goal

pub overflow_mul-number : goal.overflow_mul-number
overflow_mul-number c =
    let all = all_of c.args.digits.now c.requires.digits in
    let small = prefix_small c.args.digits.now c.loop-digit.digit-index all (omega arith) in
    let most = tens-few c.loop-digit.digit-index (omega (arith, c.requires.few)) in
    omega (arith, c.loop-digit.invariant, small, most)

pub overflow_add-number : goal.overflow_add-number
overflow_add-number c =
    let all = all_of c.args.digits.now c.requires.digits in
    let small = prefix_small c.args.digits.now c.loop-digit.digit-index all (omega arith) in
    let most = tens-few c.loop-digit.digit-index (omega (arith, c.requires.few)) in
    let digit = digit_small (get_or c.args.digits.now c.loop-digit.digit-index 0) (digit_at c.args.digits.now c.loop-digit.digit-index all c.loop-digit-test.true) in
    omega (arith, c.loop-digit.invariant, c.from.ensures, small, most, digit.0, digit.1)

pub loop-digit-preserved : goal.loop-digit-preserved
loop-digit-preserved c =
    let all = all_of c.args.digits.now c.requires.digits in
    ap (λ (n : ℕ). n * 10 + c.from.result) c.loop-digit.invariant
    ∙ ap (λ (d : ℕ). digits_value (take c.loop-digit.digit-index c.args.digits.now) * 10 + d) c.from.ensures
    ∙ sym (prefix_more c.args.digits.now c.loop-digit.digit-index all c.loop-digit-test.true)

pub returns : goal.returns
returns c = c.loop-digit.invariant ∙ ap digits_value (take_all c.loop-digit.digit-index c.args.digits.now (omega arith))
