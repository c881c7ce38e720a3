use Rattle.std.proofs.Common.{arith}
use Rattle.vt_lex.proofs.Digits.{byte_below, digit_byte, value_small, value_more}
use Rattle.vt_lex.proofs.numbers.value_of_digits.Goals as goal

pub overflow_mul-value : goal.overflow_mul-value
overflow_mul-value c =
    omega (arith, value_small c.args.digits.now c.loop-digit.digit-index c.requires.digits c.loop-digit-test.true _ c.loop-digit.invariant c.requires.few)

pub overflow_sub-value : goal.overflow_sub-value
overflow_sub-value c =
    let byte = byte_below c.args.digits.now c.loop-digit.digit-index (omega (arith, c.type_inv.digits c.loop-digit.digit-index)) in
    (digit_byte c.args.digits.now c.loop-digit.digit-index c.requires.digits c.loop-digit-test.true byte).0

pub overflow_add-value : goal.overflow_add-value
overflow_add-value c =
    omega
    (arith, value_small c.args.digits.now c.loop-digit.digit-index c.requires.digits c.loop-digit-test.true _ c.loop-digit.invariant c.requires.few, c.type_inv.digits c.loop-digit.digit-index)

pub loop-digit-preserved : goal.loop-digit-preserved
loop-digit-preserved c =
    let byte = byte_below c.args.digits.now c.loop-digit.digit-index (omega (arith, c.type_inv.digits c.loop-digit.digit-index)) in
    value_more c.args.digits.now c.loop-digit.digit-index c.requires.digits c.loop-digit-test.true _ c.loop-digit.invariant byte
