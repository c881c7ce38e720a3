use Rattle.std.proofs.Common.{◌≡◌, drop}
use Rattle.vt_check.specs.Written.{has_twice}
use Rattle.vt_check.proofs.written.has_name_twice.Given as goal

abbrev pub invariant-loop-i : goal.invariant-loop-i
invariant-loop-i l = has_twice (λ name. name) (drop l.i l.names) ≡ has_twice (λ name. name) l.names
