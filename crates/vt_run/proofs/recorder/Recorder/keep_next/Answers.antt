use Rattle.std.proofs.Common.{ap, ◌∙◌}
use Rattle.vt_run.specs.Evaluation.{Step}
use Rattle.vt_run.specs.Notes.{Notes, note}
use Rattle.vt_run.proofs.notes.Leads.{kept_open, next_here, note_kept}
use Rattle.vt_run.proofs.recorder.Recorder.keep_next.Goals as goal

pub returns-clause-value : goal.returns-clause-value
returns-clause-value c =
    let s : Step = record { cost = c.args.cost; action = c.args.action } in
    note_kept _ s c.keep.new.actions c.saturating_add-cost.result c.stop_after-stop.result
    (next_here c.self.view_is c.requires.next).goes_on (next_here c.self.view_is c.requires.next).no_stop (next_here c.self.view_is c.requires.next).none_done
    c.in_ok-keep.ensures.ok c.saturating_add-cost.ensures c.stop_after-stop.ensures
    ∙ ap (λ (notes : Notes). note notes s) c.self.view_is

pub invariant_of-self-2 : goal.invariant_of-self-2
invariant_of-self-2 c =
    let s : Step = record { cost = c.args.cost; action = c.args.action } in
    kept_open _ s c.keep.new.actions c.saturating_add-cost.result c.stop_after-stop.result
    c.self.invariant (next_here c.self.view_is c.requires.next).no_stop c.requires.costs
    c.saturating_add-cost.ensures c.stop_after-stop.ensures
