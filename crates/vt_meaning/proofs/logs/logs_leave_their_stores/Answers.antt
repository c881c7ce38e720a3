use Rattle.vt_meaning.proofs.LogSteps.{logs_leave}
use Rattle.vt_meaning.proofs.logs.logs_leave_their_stores.Goals as goal

pub returns : goal.returns
returns c = logs_leave c.opening_store_is_consistent.ensures c.steps_keep_stores_consistent.ensures.piece c.answers_keep_stores_consistent.ensures.read c.answers_keep_stores_consistent.ensures.wait c.disturbers_are_listed.ensures c.front_is_tested.ensures c.look_ups_find_what_is_there.ensures
