use Rattle.std.proofs.Common.{sym}
use Rattle.vt_value.proofs.Layers.{size-text, size-other}
use Rattle.vt_value.proofs.size.own_size.Goals as goal

pub returns-in-Some : goal.returns-in-Some
returns-in-Some c = λ _. sym (size-text c.args.value.now c.in-Some.bytes.now c.in-Some.ensures)

pub returns-in-None : goal.returns-in-None
returns-in-None c = λ empty. sym (size-other c.args.value.now c.in-None.ensures empty)
