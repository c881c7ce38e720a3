use Rattle.vt_effects.proofs.NumberLemmas.{sixty_not_zero}
use Rattle.vt_effects.proofs.time.rt.Goals as goal

pub exact_quotient-requires : goal.exact_quotient-requires
exact_quotient-requires c = sixty_not_zero c.whole.result c.whole.ensures
