use Rattle.std.proofs.Common.{◌≡◌, ◌∙◌, Err, Result, List, sym, ap, rules}
use Rattle.vt_value.specs.Answers.{Gives}
use Rattle.vt_value.specs.declared.fault.ValueFault.TheVariants.{Fault}
use Rattle.vt_value.specs.declared.value.Value.{Value}
use Rattle.vt_prim.specs.private.Climbing.{behind}
use Rattle.vt_ring.specs.NoteCalls.{steps_up, times}
use Rattle.vt_prim.specs.private.Adding.{value_of}
use Rattle.vt_prim.proofs.ClimbLemmas.{behind-none, gives_err, way-err, way-ok}
use Rattle.vt_prim.proofs.climbing.notes_up.Goals as goal

pub returns-in_err-climbed_times : goal.returns-in_err-climbed_times
returns-in_err-climbed_times c =
    let fault = way-err (value_of c.args.note.now) c.in_err-climbed_times.field-0.0 (times c.args.count c.args.steps.now) (sym c.in_err-climbed_times.ensures) in
    search (rules, fault)

pub returns-in_err-last : goal.returns-in_err-last
returns-in_err-last c =
    let all = steps_up (value_of c.args.note.now) (times c.args.count c.args.steps.now) in
    let ok = way-ok (value_of c.args.note.now) (value_of c.in_ok-climbed_times.field-0) (times c.args.count c.args.steps.now) (sym c.in_ok-climbed_times.ensures) in
    let given = gives_err all c.in_err-last.field-0.0 ok (λ kind e. sym (behind-none all) ∙ ap (λ (made : List Value). behind made all) (sym c.new-notes.ensures) ∙ c.in_err-last.ensures.err kind e) in
    search (rules, given)
