use Rattle.vt_meaning.proofs.Totality.{transitions_end_once}
use Rattle.vt_meaning.proofs.laws.transitions_come_to_one_end.Goals as goal

pub returns : goal.returns
returns c = transitions_end_once
