use Rattle.std.proofs.Common.{◌≡◌, take}
use Rattle.vt_frac.specs.Decimal.{digits_value}
use Rattle.vt_cli.proofs.options.number_of.Given as goal

abbrev pub invariant-loop-digit : goal.invariant-loop-digit
invariant-loop-digit l = l.number ≡ digits_value (take l.digit-index l.digits)
