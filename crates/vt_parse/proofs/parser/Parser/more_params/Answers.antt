use Rattle.std.proofs.Common.{◌≡◌, [], ◌∷◌, ◌++◌, refl, sym, ap, ◌∙◌}
use Rattle.vt_grammar.specs.Marks.{Mark}
use Rattle.vt_grammar.proofs.Rules.{next_param_rule}
use Rattle.vt_grammar.proofs.Exact.{next_param_exact}
use Rattle.vt_parse.proofs.Gathering.{gathers_one, gathers_ok, gathers_err, more_names_step}
use Rattle.vt_parse.proofs.Rules.{exit, shorter}
use Rattle.vt_parse.proofs.parser.Parser.more_params.Goals as goal

pub returns-in_err-param : goal.returns-in_err-param
returns-in_err-param c =
    exit _ _ _ _ _ _ _ c.from_residual.ensures.1 (λ h. gathers_err next_param_rule refl next_param_exact c.more.invariant (sym c.at.ensures ∙ c.more-test.true) h) c.in_err-param.ensures

pub more-smaller : goal.more-smaller
more-smaller c =
    shorter next_param_rule.solid c.in_ok-param.ensures

pub more-preserved : goal.more-preserved
more-preserved c =
    let grown : c.push.new.self ≡ c.more.all ++ c.in_ok-name.name ∷ [] = c.in_ok-push.ensures.ok in
    let spelled : c.in_ok-name.name ≡ c.in_ok-param.param.bytes = c.in_ok-name.ensures ∙ ap (λ (m : Mark). m.bytes) c.param.view_is in
    rw (grown, spelled) (gathers_one next_param_rule refl _ (λ vs e. more_names_step _ vs c.in_ok-param.param _ e) c.more.invariant c.in_ok-param.ensures)

pub returns : goal.returns
returns c =
    gathers_ok next_param_rule refl c.more.invariant (sym c.at.ensures ∙ c.more-test.false)
