use Rattle.std.proofs.Common.{◌≡◌, Some}
use Rattle.std.specs.Prelude.{slice_get}
use Rattle.vt_reach.specs.declared.found.Row.{Row}
use Rattle.vt_reach.specs.private.Bodies.{AreBodies, AreWritings}
use Rattle.vt_reach.proofs.Places.{Fills}
use Rattle.vt_reach.proofs.bodies.writings_of.Given as goal

abbrev pub invariant-loop-row : goal.invariant-loop-row
invariant-loop-row l = Fills (λ at list. (block : Row) → slice_get l.rows at ≡ Some block → AreWritings block.mentions list) l.row-index l.all
