use Rattle.std.proofs.Common.{sym, subst}
use Rattle.std.specs.Prelude.{IsTrue}
use Rattle.std.proofs.lemmas.Bool.{false≢true}
use Rattle.vt_frac.specs.Fraction.{Fraction}
use Rattle.vt_run.specs.Tempo.{is_tempo}
use Rattle.vt_run.proofs.facts.TimedFacts.{density_fact}
use Rattle.vt_effects.proofs.NumberLemmas.{density_is}
use Rattle.vt_effects.proofs.turns.density_of.Goals as goal

pub unreachable-requires : goal.unreachable-requires
unreachable-requires c =
    let given = c.args.given.now in
    let bpm = c.get-beats.result in
    let tempo = subst (λ (bpm : Fraction). IsTrue (is_tempo bpm)) (sym c.get-beats.ensures.value) c.get-beats.ensures.above in
    let here = density_is given c.all_args.result.now c.in_ok-a_whole.field-0 bpm c.whole.result c.in_ok-faster.faster c.in_ok-n.n c.all_args.ensures c.in_ok-a_whole.ensures c.in_ok-n.ensures c.whole.ensures c.in_ok-faster.ensures in
    let above = density_fact given bpm c.in_ok-n.n c.in_ok-faster.faster here c.keep_fraction.ensures tempo in
    absurd (false≢true (c.in-None.ensures.some.1 above.1.1))
