use Rattle.std.proofs.Common.{arith, ap}
use Rattle.vt_value.specs.private.Weights.{weights_of}
use Rattle.vt_value.proofs.Layers.{weight-ring_of}
use Rattle.vt_value.proofs.value.drop_one.Goals as goal

pub loop-ring-smaller : goal.loop-ring-smaller
loop-ring-smaller c =
    omega (arith, weight-ring_of c.loop-ring.value c.in-Some.ring c.in-Some.ensures, ap weights_of c.into_vec-inner.ensures, c.exchange-value.ensures.part)

pub loop-ring-preserved : goal.loop-ring-preserved
loop-ring-preserved c =
    omega (arith, weight-ring_of c.loop-ring.value c.in-Some.ring c.in-Some.ensures, ap weights_of c.into_vec-inner.ensures, c.exchange-value.ensures.no_more, c.loop-ring.invariant)
