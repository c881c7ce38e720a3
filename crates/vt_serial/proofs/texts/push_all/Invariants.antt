use Rattle.std.proofs.Common.{◌≡◌, ◌++◌, All, length}
use Rattle.vt_session.specs.Sessions.{IsTextPart}
use Rattle.vt_serial.specs.Prepared.{all_prepared}
use Rattle.vt_serial.proofs.texts.push_all.Given as goal

abbrev pub invariant-parts : goal.invariant-parts
invariant-parts l = (l.texts ++ all_prepared l.left ≡ l.initial.texts ++ all_prepared l.parts) × All IsTextPart l.left

abbrev pub decreases-parts : goal.decreases-parts
decreases-parts l = length l.left
