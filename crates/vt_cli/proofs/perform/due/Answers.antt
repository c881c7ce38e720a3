use Rattle.std.proofs.Common.{◌∙◌, ap, map, string_bytes, subst, sym}
use Rattle.vt_cli.specs.Ending.{IsDecided}
use Rattle.vt_cli.specs.Outcome.{AnswerView, outcome_of}
use Rattle.vt_cli.proofs.Outcomes.{outcome-decided, outcome-usage, told, some-input}
use Rattle.vt_cli.proofs.perform.due.Goals as goal

pub returns-clause-answer : goal.returns-clause-answer
returns-clause-answer g c =
    told (map string_bytes c.args.words.now) _ (g.S.Source.left c.args.src.now) _ _ c.in_ok-command.ensures.command c.in_ok-input.ensures.bytes
    (c.in_ok-answer_of.ensures ∙ ap (outcome_of c.in_ok-command.command) c.deref.ensures.value)

pub returns-clause-some_input : goal.returns-clause-some_input
returns-clause-some_input g c =
    some-input (map string_bytes c.args.words.now) _ _ _ c.in_ok-command.ensures.command c.in_ok-input.ensures.heard
    (c.in_ok-answer_of.ensures ∙ ap (outcome_of c.in_ok-command.command) c.deref.ensures.value)

pub returns-clause-decided : goal.returns-clause-decided
returns-clause-decided g c =
    subst (λ (a : AnswerView). IsDecided a.status) (sym c.in_ok-answer_of.ensures) (outcome-decided c.in_ok-command.command c.deref.result.now)

pub returns-clause-usage_only : goal.returns-clause-usage_only
returns-clause-usage_only g c = λ e.
    sym c.in_ok-command.ensures.command ∙ outcome-usage c.in_ok-command.command c.deref.result.now (sym (ap (λ (a : AnswerView). a.status) c.in_ok-answer_of.ensures) ∙ e)
