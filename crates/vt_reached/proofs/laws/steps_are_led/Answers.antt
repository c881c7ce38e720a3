use Rattle.vt_reached.proofs.LedThreads.{steps_led}
use Rattle.vt_reached.proofs.laws.steps_are_led.Goals as goal

pub returns : goal.returns
returns c = steps_led
