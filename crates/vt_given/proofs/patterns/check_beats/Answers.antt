use Rattle.std.proofs.Common.{IsOk, arith, length, map, sym, subst, ◌∙◌}
use Rattle.std.proofs.lemmas.Bool.{eqb-false, eqb-true}
use Rattle.std.proofs.lemmas.Result.{err_from_is_err_and}
use Rattle.vt_ring.specs.Answers.{all_of}
use Rattle.vt_ring.specs.Items.{indices}
use Rattle.vt_ring.proofs.SeriesLemmas.{index_good, index_fault}
use Rattle.vt_given.specs.private.Rounds.{beat_of}
use Rattle.vt_given.proofs.PatternLemmas.{beats_empty, beats_fault, beats_good, empty_is, some_is}
use Rattle.vt_given.proofs.patterns.check_beats.Goals as goal

pub returns-then-is_empty : goal.returns-then-is_empty
returns-then-is_empty c =
    let times = c.args.times.now in
    beats_empty times c.args.n (empty_is times (eqb-true (length times) 0 (sym c.is_empty.ensures ∙ c.if-is_empty.true)))

pub returns-in_err-beat_of : goal.returns-in_err-beat_of
returns-in_err-beat_of c =
    let p = err_from_is_err_and c.from_residual.result c.from_residual.ensures.1 in
    let times = c.args.times.now in
    rw (p.1, p.2) (beats_fault times c.args.n c.in_err-beat_of.field-0.0 (some_is times (eqb-false (length times) 0 (sym c.is_empty.ensures ∙ c.if-is_empty.false)))
    (index_fault (beat_of times) c.loop-i.i c.args.n c.in_err-beat_of.field-0.0 c.loop-i-test.true c.loop-i.invariant (sym c.in_err-beat_of.ensures)))

pub loop-i-preserved : goal.loop-i-preserved
loop-i-preserved c = index_good (beat_of c.args.times.now) c.loop-i.i c.in_ok-beat_of.field-0 c.loop-i.invariant (sym c.in_ok-beat_of.ensures)

pub returns : goal.returns
returns c =
    let times = c.args.times.now in
    beats_good times c.args.n (some_is times (eqb-false (length times) 0 (sym c.is_empty.ensures ∙ c.if-is_empty.false)))
    (subst (λ i. IsOk (all_of (map (beat_of times) (indices i)))) (omega (arith, c.loop-i-test.false, c.loop-i.auto.i-end)) c.loop-i.invariant)
