use Rattle.vt_meaning.proofs.CausalSessions.{nearer}
use Rattle.vt_meaning.proofs.SessionParts.{horizons}
use Rattle.vt_meaning.proofs.causality.nearer_horizons_change_nothing.Goals as goal

pub returns : goal.returns
returns c =
    record {
      shared = λ fit known m m' opening opening' s s' w g le ws' e'. nearer fit known m m' opening opening' s s' w g le ws' e';
      part = λ m m' opening acts prompt knowns s' part ws' e'. horizons m m' opening acts prompt knowns s' part ws' e';
    }
