use Rattle.std.proofs.Common.{◌≡◌, ◌≤◌, length, take}
use Rattle.vt_text.specs.ScoreText.{shown}
use Rattle.vt_text.proofs.score.count_shown.Given as goal

abbrev pub invariant-loop-event : goal.invariant-loop-event
invariant-loop-event l = record {
  counted : l.count ≡ length (shown (take l.event-index l.events));
  few : l.count ≤ l.event-index;
}
