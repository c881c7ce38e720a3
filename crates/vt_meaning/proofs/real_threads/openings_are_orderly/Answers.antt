use Rattle.vt_meaning.proofs.RealOpening.{openings_are_orderly}
use Rattle.vt_meaning.proofs.real_threads.openings_are_orderly.Goals as goal

pub returns : goal.returns
returns c = openings_are_orderly c.texts_start_within_limits.ensures c.refusals_stand_first.ensures c.inputs_are_within_limits.ensures
