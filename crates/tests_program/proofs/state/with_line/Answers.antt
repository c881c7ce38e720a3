use Rattle.std.proofs.Common.{length, ap, ◌∙◌}
use Rattle.tests_program.proofs.state.with_line.Goals as goal

pub returns-in-Ok : goal.returns-in-Ok
returns-in-Ok c = (c.in_ok-event.event, c.in-Ok.ensures.ok, c.in_ok-event.ensures ∙ ap length c.as_slice-count.ensures)
