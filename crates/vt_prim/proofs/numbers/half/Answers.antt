use Rattle.vt_prim.proofs.ExactLemmas.{half_fits}
use Rattle.vt_prim.proofs.numbers.half.Goals as goal

pub unreachable-requires : goal.unreachable-requires
unreachable-requires c = cc (half_fits, c.new.ensures.value, c.in-Err.is)

pub returns : goal.returns
returns c = cc (half_fits, c.new.ensures.value, c.in-Ok.is)
