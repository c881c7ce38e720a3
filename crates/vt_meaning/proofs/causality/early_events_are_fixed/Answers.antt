use Rattle.vt_meaning.proofs.CausalSessions.{causal}
use Rattle.vt_meaning.proofs.SessionParts.{one_part}
use Rattle.vt_meaning.proofs.causality.early_events_are_fixed.Goals as goal

pub returns : goal.returns
returns c =
    record {
      shared = λ t fit known m m' opening opening' s s' g ws ws' e e'. causal t fit known m m' opening opening' s s' g ws ws' e e';
      part = λ m m1 m2 key1 key2 acts prompt knowns s1 s2 p1 p2 one ws1 ws2 e1 e2. one_part m m1 m2 key1 key2 acts prompt knowns s1 s2 p1 p2 one ws1 ws2 e1 e2;
    }
