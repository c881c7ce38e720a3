use Rattle.std.proofs.Common.{arith}
use Rattle.vt_build.proofs.Digits.{first_fits}
use Rattle.vt_build.proofs.literals.+number_after.Goals as goal

pub overflow_mul-number : goal.overflow_mul-number
overflow_mul-number t c = omega (arith, first_fits c.args.number c.args.digits.now c.requires.digits c.in-len1-up.len_at_least (omega (arith, c.type_inv.digits 0)) c.requires.fits)

pub overflow_add-number : goal.overflow_add-number
overflow_add-number t c =
    omega (arith, first_fits c.args.number c.args.digits.now c.requires.digits c.in-len1-up.len_at_least (omega (arith, c.type_inv.digits 0)) c.requires.fits, c.from.ensures)
