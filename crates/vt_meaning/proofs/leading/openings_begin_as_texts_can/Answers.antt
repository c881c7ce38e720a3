use Rattle.vt_meaning.proofs.RealLeading.{openings_fit}
use Rattle.vt_meaning.proofs.leading.openings_begin_as_texts_can.Goals as goal

pub returns : goal.returns
returns c = openings_fit c.texts_start_within_limits.ensures c.refusals_stand_first.ensures c.inputs_are_within_limits.ensures c.openings_are_orderly.ensures
