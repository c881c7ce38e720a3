use Rattle.std.proofs.Common.{◌≡◌, bytes_eq, drop}
use Rattle.std.specs.List.{list_any}
use Rattle.vt_cli.specs.private.Pairs.{written}
use Rattle.vt_cli.proofs.options.has_name.Given as goal

abbrev pub invariant-loop-other : goal.invariant-loop-other
invariant-loop-other l = list_any (λ other. bytes_eq l.name other.0) (written (drop l.other-index l.options)) ≡ list_any (λ other. bytes_eq l.name other.0) (written l.options)
