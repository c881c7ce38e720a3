use Rattle.vt_reach.proofs.PathLemmas.{cue_segment}
use Rattle.vt_reach.proofs.calls.sends_cue.Goals as goal

pub sends-requires : goal.sends-requires
sends-requires c = cue_segment
