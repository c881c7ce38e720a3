use Rattle.std.proofs.Common.{[], IsOk, map, sym, subst, ◌∙◌}
use Rattle.std.proofs.lemmas.List.{take_all}
use Rattle.std.proofs.lemmas.Result.{err_from_is_err_and}
use Rattle.vt_ring.specs.Answers.{all_of}
use Rattle.vt_ring.proofs.SeriesLemmas.{item_fault}
use Rattle.vt_run.specs.calls.PlayCalls.{notes_asked}
use Rattle.vt_given.proofs.PatternLemmas.{kinds_asked, kinds_known}
use Rattle.vt_given.proofs.RoundLemmas.{good_all}
use Rattle.vt_given.proofs.patterns.check_all_kinds.Goals as goal

pub returns-in_err-check_kinds : goal.returns-in_err-check_kinds
returns-in_err-check_kinds c =
    let p = err_from_is_err_and c.from_residual.result c.from_residual.ensures.1 in
    rw (p.1, p.2) (item_fault notes_asked c.args.values.now c.loop-value.value-index c.value-item.result c.in_err-check_kinds.field-0.0 c.loop-value-test.true c.value-item.is c.loop-value.invariant
    (kinds_asked c.value-item.result c.each_of.result.now c.each_of.ensures ∙ c.in_err-check_kinds.ensures))

pub loop-value-preserved : goal.loop-value-preserved
loop-value-preserved c =
    kinds_known c.args.values.now c.loop-value.value-index c.value-item.result c.loop-value-test.true c.value-item.is c.loop-value.invariant
    (subst (λ answer. IsOk answer) (sym (kinds_asked c.value-item.result c.each_of.result.now c.each_of.ensures)) c.in_ok-check_kinds.ensures)

pub returns : goal.returns
returns c =
    good_all notes_asked [] c.args.values.now
    (subst (λ values. IsOk (all_of (map notes_asked values))) (take_all c.loop-value.value-index c.args.values.now c.loop-value-test.false) c.loop-value.invariant)
