use Rattle.vt_meaning.proofs.Totality.{transitions_end}
use Rattle.vt_meaning.proofs.laws.transitions_come_to_an_end.Goals as goal

pub returns : goal.returns
returns c = transitions_end
