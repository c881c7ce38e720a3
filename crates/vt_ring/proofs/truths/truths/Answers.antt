use Rattle.std.proofs.Common.{◌++◌, ◌∷◌, [], map, take, Ok, sym, ap, ◌∙◌}
use Rattle.std.proofs.lemmas.Result.{err_from_is_err_and}
use Rattle.vt_ring.specs.Answers.{all_of, and_then}
use Rattle.vt_ring.specs.Arguments.{whole_argument}
use Rattle.vt_ring.specs.Building.{bool_of_number}
use Rattle.vt_ring.proofs.AnswerLemmas.{mapped_good}
use Rattle.vt_ring.proofs.SeriesLemmas.{item_mapped, item_fault}
use Rattle.vt_ring.proofs.truths.truths.Goals as goal

pub returns-in_err-n : goal.returns-in_err-n
returns-in_err-n c =
    let p = err_from_is_err_and c.from_residual.result c.from_residual.ensures.1 in
    let args = c.args.args.now in
    rw (p.1, p.2) (ap (λ answer. and_then answer (λ numbers. Ok (map bool_of_number numbers)))
    (item_fault whole_argument args c.loop-arg.arg-index c.arg-item.result c.in_err-n.field-0.0 c.loop-arg-test.true c.arg-item.is (mapped_good bool_of_number (all_of (map whole_argument (take c.loop-arg.arg-index args))) c.loop-arg.items c.loop-arg.invariant) (sym c.in_err-n.ensures)))

pub loop-arg-preserved : goal.loop-arg-preserved
loop-arg-preserved c =
    item_mapped bool_of_number whole_argument c.args.args.now c.loop-arg.arg-index c.arg-item.result c.loop-arg.items c.in_ok-n.n c.loop-arg-test.true c.arg-item.is c.loop-arg.invariant (sym c.in_ok-n.ensures)
    ∙ ap (λ items. Ok items) (ap (λ value. c.loop-arg.items ++ value ∷ []) (sym c.truth.ensures) ∙ sym c.in_ok-push.ensures.ok)
