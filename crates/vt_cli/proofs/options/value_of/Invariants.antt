use Rattle.std.proofs.Common.{◌≡◌, drop}
use Rattle.vt_cli.specs.Options.{value_of}
use Rattle.vt_cli.specs.private.Pairs.{written}
use Rattle.vt_cli.proofs.options.value_of.Given as goal

abbrev pub invariant-loop-option : goal.invariant-loop-option
invariant-loop-option l = value_of l.name (written (drop l.option-index l.options)) ≡ value_of l.name (written l.options)
