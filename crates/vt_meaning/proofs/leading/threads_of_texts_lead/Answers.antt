use Rattle.vt_meaning.proofs.RealLeading.{texts_lead}
use Rattle.vt_meaning.proofs.leading.threads_of_texts_lead.Goals as goal

pub returns : goal.returns
returns c = texts_lead c.threads_of_texts_act.ensures c.actions_are_within_limits.ensures c.steps_are_led.ensures c.match_test_is_right.ensures
