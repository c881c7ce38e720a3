use Rattle.vt_run.proofs.facts.NameFacts.{live_loop_segment}
use Rattle.vt_effects.proofs.announcements.turn_event.Goals as goal

pub named_path-requires-clause-word : goal.named_path-requires-clause-word
named_path-requires-clause-word c = live_loop_segment
