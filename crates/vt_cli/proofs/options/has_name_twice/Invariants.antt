use Rattle.std.proofs.Common.{◌≡◌, drop}
use Rattle.vt_check.specs.Written.{has_twice}
use Rattle.vt_cli.specs.private.Pairs.{written}
use Rattle.vt_cli.proofs.options.has_name_twice.Given as goal

abbrev pub invariant-loop-i : goal.invariant-loop-i
invariant-loop-i l = has_twice (λ option. option.0) (written (drop l.i l.options)) ≡ has_twice (λ option. option.0) (written l.options)
