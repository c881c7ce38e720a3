use Rattle.std.proofs.Common.{◌≡◌, Err, rules, arith}
use Rattle.vt_value.specs.declared.fault.FaultKind.{FaultKind}
use Rattle.vt_value.specs.declared.fault.ValueFault.TheVariants.{Fault}
use Rattle.vt_ring.specs.NoteCalls.{steps_up, times}
use Rattle.vt_prim.specs.private.Climbing.{behind}
use Rattle.vt_prim.specs.private.Adding.{value_of}
use Rattle.vt_prim.proofs.ClimbLemmas.{times_err}
use Rattle.vt_prim.proofs.climbing.push_times.Goals as goal

pub returns-in_err-top-clause-err : goal.returns-in_err-top-clause-err
returns-in_err-top-clause-err c =
    let each : (kind : FaultKind) → c.in_err-top.field-0.0 ≡ Fault kind → behind c.args.notes.now (steps_up (value_of c.args.note.now) (times c.args.count c.args.steps.now)) ≡ Err kind =
    λ kind e. times_err c.loop-left.notes _ (value_of c.loop-left.top) kind c.loop-left.left c.args.steps.now (omega arith) (c.in_err-top.ensures.err kind e) c.loop-left.invariant in
    search (rules, each)
