use Rattle.std.proofs.Common.{◌∙◌, ◌∷◌, ◌+◌, [], ap, sym, refl}
use Rattle.vt_event.specs.EventsByKind.{fault_event}
use Rattle.vt_value.specs.declared.fault.FaultKind.TheVariants.{Overflow}
use Rattle.vt_cli.specs.declared.line.Line.TheVariants.{Nothing, Refused}
use Rattle.vt_cli.specs.Piece.{ended, preceded}
use Rattle.vt_cli.proofs.Pieces.{if-ok, played-all, played-none, played-note, played-unfit, played-past, played-rest, played-silent, there}
use Rattle.vt_cli.proofs.piece.play_lines.Goals as goal
use Rattle.vt_cli.proofs.piece.play_lines.Goals.{in-Nothing, in-Refused, in-Play+in_ok-event-in-Play+in_ok-push-in-Play, in-Sleep+in-Before}

pub play-init : goal.play-init
play-init c = rw (c.new-events.ensures, c.zero-time.ensures) (played-none c.args.lines.now)

pub returns-in-Unfit : goal.returns-in-Unfit
returns-in-Unfit c =
    if-ok c.faulted.result
    (λ score made. made
    ∙ ap (λ fault. preceded c.play.events (preceded (fault ∷ []) ended)) (c.in_ok-fault-in-Unfit.ensures
    ∙ ap (λ place. fault_event place Overflow (c.play.index + 1)) c.place-here.ensures)
    ∙ sym (played-unfit _ _ _ _ _ _ c.play-test.true (there c.args.lines.now c.play.index _ _ c.index-lines-index.is c.in-Sleep.is) (sym c.next_time_of.ensures ∙ c.in-Unfit.is) c.play.invariant))
    c.faulted.ensures

pub returns-in-AtOrPast : goal.returns-in-AtOrPast
returns-in-AtOrPast c =
    if-ok c.asleep.result
    (λ score made. made
    ∙ sym (played-past _ _ _ _ _ _ _ c.play-test.true (there c.args.lines.now c.play.index _ _ c.index-lines-index.is c.in-Sleep.is) (sym c.next_time_of.ensures ∙ c.in-AtOrPast.is) c.play.invariant))
    c.asleep.ensures

pub returns : goal.returns
returns c = c.ended.ensures ∙ sym (played-all _ _ _ _ _ c.play-test.false c.play.invariant)

pub play-preserved : goal.play-preserved
play-preserved c =
    elim c.match-line.branch [
      | in-Nothing w ↦ rw (w.events-is, w.time-is, w.step-is)
          (played-silent _ _ _ _ _ Nothing c.play-test.true (there c.args.lines.now c.play.index _ _ c.index-lines-index.is w.in-Nothing.is) refl refl (λ _ _. refl) c.play.invariant)
      | in-Refused w ↦ rw (w.events-is, w.time-is, w.step-is)
          (played-silent _ _ _ _ _ Refused c.play-test.true (there c.args.lines.now c.play.index _ _ c.index-lines-index.is w.in-Refused.is) refl refl (λ _ _. refl) c.play.invariant)
      | in-Play+in_ok-event-in-Play+in_ok-push-in-Play w ↦ rw (w.events-is, w.time-is, w.step-is, w.in_ok-push-in-Play.ensures.ok, w.in_ok-event-in-Play.ensures, w.place.ensures)
          (played-note _ _ _ _ _ _ c.play-test.true (there c.args.lines.now c.play.index _ _ c.index-lines-index.is w.in-Play.is) c.play.invariant)
      | in-Sleep+in-Before w ↦ rw (w.events-is, w.time-is, w.step-is)
          (played-rest _ _ _ _ _ _ _ c.play-test.true (there c.args.lines.now c.play.index _ _ c.index-lines-index.is w.in-Sleep.is) (sym w.next_time_of.ensures ∙ w.in-Before.is) c.play.invariant)
    ]
