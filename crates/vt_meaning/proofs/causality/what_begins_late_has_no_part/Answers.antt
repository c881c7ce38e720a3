use Rattle.vt_meaning.proofs.CausalSessions.{left_out}
use Rattle.vt_meaning.proofs.SessionParts.{parts_same}
use Rattle.vt_meaning.proofs.causality.what_begins_late_has_no_part.Goals as goal

pub returns : goal.returns
returns c =
    record {
      shared = λ fit known m m' opening opening' s s' w w' u g bud. left_out fit known m m' opening opening' s s' w w' u g bud;
      part = λ m m' opening acts prompt prompt' knowns s' part u. parts_same m m' opening acts prompt prompt' knowns s' part u;
    }
