use Rattle.std.proofs.Common.{IsOk, map, sym, subst, ap, ◌∙◌}
use Rattle.std.proofs.lemmas.List.{take_all}
use Rattle.std.proofs.lemmas.Result.{err_from_is_err_and}
use Rattle.vt_ring.specs.Answers.{all_of}
use Rattle.vt_ring.proofs.SeriesLemmas.{item_fault}
use Rattle.vt_given.proofs.PatternLemmas.{names_asked, names_good, names_known, names_of, names_same}
use Rattle.vt_given.proofs.patterns.check_all_names.Goals as goal

pub returns-in_err-check_names : goal.returns-in_err-check_names
returns-in_err-check_names c =
    let p = err_from_is_err_and c.from_residual.result c.from_residual.ensures.1 in
    rw (p.1, p.2) (ap all_of (sym (names_same c.args.values.now c.requires))
    ∙ item_fault names_of c.args.values.now c.loop-value.value-index c.value-item.result c.in_err-check_names.field-0.0 c.loop-value-test.true c.value-item.is c.loop-value.invariant
    (names_asked c.value-item.result c.each_of.result.now c.each_of.ensures ∙ c.in_err-check_names.ensures))

pub loop-value-preserved : goal.loop-value-preserved
loop-value-preserved c =
    names_known c.args.values.now c.loop-value.value-index c.value-item.result c.loop-value-test.true c.value-item.is c.loop-value.invariant
    (subst (λ answer. IsOk answer) (sym (names_asked c.value-item.result c.each_of.result.now c.each_of.ensures)) c.in_ok-check_names.ensures)

pub returns : goal.returns
returns c =
    names_good c.args.values.now c.requires
    (subst (λ values. IsOk (all_of (map names_of values))) (take_all c.loop-value.value-index c.args.values.now c.loop-value-test.false) c.loop-value.invariant)
