use Rattle.std.proofs.Common.{arith}
use Rattle.std.proofs.lemmas.List.{nil_from_length}
use Rattle.vt_value.proofs.heaviest.heaviest.Goals as goal

pub returns : goal.returns
returns c = λ past. nil_from_length c.args.items.now (omega (arith, c.loop-i.invariant))
