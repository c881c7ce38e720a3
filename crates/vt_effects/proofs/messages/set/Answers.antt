use Rattle.vt_run.proofs.facts.NameFacts.{set_segment}
use Rattle.vt_effects.proofs.messages.set.Goals as goal

pub path_argument-requires : goal.path_argument-requires
path_argument-requires c = set_segment
