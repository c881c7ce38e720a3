use Rattle.std.proofs.Common.{◌≡◌, take}
use Rattle.vt_reach.specs.Reach.{rows_from}
use Rattle.vt_reach.proofs.reach.rows_from.Given as goal

abbrev pub invariant-loop-block : goal.invariant-loop-block
invariant-loop-block l = l.rows.items ≡ rows_from l.text 0 (take l.block l.uses)
