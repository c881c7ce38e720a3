use Rattle.vt_reach.proofs.PathLemmas.{set_segment}
use Rattle.vt_reach.proofs.calls.sends_set.Goals as goal

pub sends-requires : goal.sends-requires
sends-requires c = set_segment
