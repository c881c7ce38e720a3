use Rattle.std.proofs.Common.{◌≡◌, take}
use Rattle.vt_frac.specs.Decimal.{digits_value}
use Rattle.vt_frac.proofs.frac.decimal.number.Given as goal

abbrev pub invariant-loop-digit : goal.invariant-loop-digit
invariant-loop-digit l = l.number ≡ digits_value (take l.digit-index l.digits)
