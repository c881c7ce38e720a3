use Rattle.vt_run.proofs.facts.NameFacts.{cue_segment}
use Rattle.vt_effects.proofs.messages.cue.Goals as goal

pub path_argument-requires : goal.path_argument-requires
path_argument-requires c = cue_segment
