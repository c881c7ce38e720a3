use Rattle.vt_meaning.proofs.SessionParts.{cut_is_part, known_is_part, same_by_acts}
use Rattle.vt_meaning.proofs.causality.parts_are_found_by_steps.Goals as goal

pub returns : goal.returns
returns c =
    record {
      steps = λ fit known m m' acts acts' alike a b i x y st f al xd yd. same_by_acts fit known m m' acts.acts acts'.acts alike a b i x y st f al xd yd;
      known = λ m m' le near far law. known_is_part m m' le near far law;
      cut = λ m m' le near far is. cut_is_part m m' le near far is;
    }
