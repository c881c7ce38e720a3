use Rattle.std.proofs.lemmas.Result.{err_from_is_err_and}
use Rattle.vt_given.proofs.SoundingLemmas.{value_fault, value_sounding}
use Rattle.vt_given.proofs.notes.notes_to_play.Goals as goal

pub returns-in_err-check_names : goal.returns-in_err-check_names
returns-in_err-check_names c =
    let p = err_from_is_err_and c.from_residual-in_err-check_names.result c.from_residual-in_err-check_names.ensures.1 in
    rw (p.1, p.2) (value_fault c.args.value.now c.each_of-values.result.now c.in_err-check_names.field-0.0 c.each_of-values.ensures c.in_ok-check_kinds.ensures c.in_err-check_names.ensures)

pub returns : goal.returns
returns c =
    value_sounding c.args.value.now c.each_of-values.result.now c.sounding_of.result c.each_of-values.ensures c.in_ok-check_kinds.ensures c.in_ok-check_names.ensures c.sounding_of.ensures
