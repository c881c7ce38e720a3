use Rattle.vt_meaning.proofs.LogChanges.{steps_are_changes, steps_leave_final}
use Rattle.vt_meaning.proofs.logs.steps_leave_what_is_final.Goals as goal

pub returns : goal.returns
returns c = record { changes = steps_are_changes; stays = steps_leave_final c.front_never_falls.ensures c.final_answers_stay.ensures }
