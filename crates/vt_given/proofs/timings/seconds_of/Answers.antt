use Rattle.std.proofs.Common.{sym, subst}
use Rattle.std.specs.Prelude.{IsTrue}
use Rattle.vt_frac.specs.Fraction.{Fraction}
use Rattle.vt_run.specs.Tempo.{is_tempo}
use Rattle.vt_given.proofs.RoundLemmas.{tempo_not_zero}
use Rattle.vt_given.proofs.timings.seconds_of.Goals as goal

pub exact_quotient-requires : goal.exact_quotient-requires
exact_quotient-requires c = tempo_not_zero c.get.result (subst (λ (bpm : Fraction). IsTrue (is_tempo bpm)) (sym c.get.ensures.value) c.get.ensures.above)
