use Rattle.vt_meaning.proofs.Totality.{meaning_is_one}
use Rattle.vt_meaning.proofs.laws.meaning_is_one.Goals as goal

pub returns : goal.returns
returns c = meaning_is_one c.meaning_is_total.ensures
