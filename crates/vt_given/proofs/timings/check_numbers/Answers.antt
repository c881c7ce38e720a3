use Rattle.std.proofs.Common.{IsOk, map, pos, sym, subst}
use Rattle.std.proofs.lemmas.List.{take_all}
use Rattle.std.proofs.lemmas.Result.{err_from_is_err_and}
use Rattle.vt_frac.specs.Fraction.{whole}
use Rattle.vt_ring.specs.Answers.{all_of}
use Rattle.vt_ring.specs.Signatures.{number_argument}
use Rattle.vt_ring.proofs.SeriesLemmas.{item_good, item_fault}
use Rattle.vt_given.proofs.RoundLemmas.{good_all}
use Rattle.vt_given.proofs.timings.check_numbers.Goals as goal

pub returns-in_err-number_argument : goal.returns-in_err-number_argument
returns-in_err-number_argument c =
    let p = err_from_is_err_and c.from_residual.result c.from_residual.ensures.1 in
    rw (p.1, p.2) (item_fault number_argument c.args.values.now c.loop-value.value-index c.value-item.result c.in_err-number_argument.field-0.0 c.loop-value-test.true c.value-item.is c.loop-value.invariant (sym c.in_err-number_argument.ensures))

pub loop-value-preserved : goal.loop-value-preserved
loop-value-preserved c = item_good number_argument c.args.values.now c.loop-value.value-index c.value-item.result c.in_ok-number_argument.field-0 c.loop-value-test.true c.value-item.is c.loop-value.invariant (sym c.in_ok-number_argument.ensures)

pub returns : goal.returns
returns c =
    good_all number_argument (whole (pos 0)) c.args.values.now
    (subst (λ values. IsOk (all_of (map number_argument values))) (take_all c.loop-value.value-index c.args.values.now c.loop-value-test.false) c.loop-value.invariant)
