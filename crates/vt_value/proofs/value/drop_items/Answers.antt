use Rattle.std.proofs.Common.{arith, ap}
use Rattle.vt_value.specs.private.Weights.{weights_of}
use Rattle.vt_value.proofs.Layers.{weights-append}
use Rattle.vt_value.proofs.value.drop_items.Goals as goal

pub loop-value-smaller : goal.loop-value-smaller
loop-value-smaller c = omega (arith, ap weights_of c.in-Some.ensures.items, weights-append, c.drop_one-items.ensures)
