use Rattle.std.proofs.Common.{◌≡◌, ◌++◌, take}
use Rattle.vt_text.specs.ScoreText.{event_lines}
use Rattle.vt_text.proofs.score.write_events.Given as goal

abbrev pub invariant-loop-event : goal.invariant-loop-event
invariant-loop-event l = l.out.items ≡ l.initial.out.items ++ event_lines (take l.event-index l.events)
