use Rattle.std.proofs.Common.{◌∙◌, subst}
use Rattle.vt_session.specs.Lines.{lines_of}
use Rattle.vt_session.specs.Sessions.{IsRefusal}
use Rattle.vt_session.proofs.FormLemmas.{if_ok}
use Rattle.vt_cli.proofs.CheckLemmas.{check-read, check-refused}
use Rattle.vt_cli.proofs.answer.check.Goals as goal

pub returns-in-Ok : goal.returns-in-Ok
returns-in-Ok c = if_ok c.checked.result _ _ c.checked.ensures (λ answer e. e ∙ check-read c.args.input.now c.in-Ok.session c.in-Ok.ensures.session)

pub returns-in-Err-BadSession : goal.returns-in-Err-BadSession
returns-in-Err-BadSession c =
    let bad = subst (IsRefusal (lines_of c.args.input.now)) c.in-Err-BadSession.field-0-is c.in-Err-BadSession.ensures.refused in
    if_ok c.bad_session.result _ _ c.bad_session.ensures (λ answer e. e ∙ check-refused c.args.input.now c.in-Err-BadSession.line bad)
