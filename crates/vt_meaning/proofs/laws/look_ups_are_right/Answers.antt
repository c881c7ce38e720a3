use Rattle.vt_meaning.proofs.Finds.{look_ups_are_right}
use Rattle.vt_meaning.proofs.laws.look_ups_are_right.Goals as goal

pub returns : goal.returns
returns c = look_ups_are_right
