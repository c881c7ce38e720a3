use Rattle.vt_reach.proofs.PathLemmas.{live_loop_segment}
use Rattle.vt_reach.proofs.paths.turn_path.Goals as goal

pub path_under-requires-clause-word : goal.path_under-requires-clause-word
path_under-requires-clause-word c = live_loop_segment
