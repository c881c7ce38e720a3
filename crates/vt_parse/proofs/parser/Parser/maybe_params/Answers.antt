use Rattle.std.proofs.Common.{sym, ◌∙◌}
use Rattle.vt_grammar.specs.declared.terminals.Terminal.TheVariants as terminals
use Rattle.vt_grammar.specs.private.Sets.{just}
use Rattle.vt_grammar.proofs.TerminalSets.{included}
use Rattle.vt_grammar.proofs.Rules.{params_rule}
use Rattle.vt_grammar.proofs.Exact.{params_exact}
use Rattle.vt_parse.proofs.Rules.{exit, moved_on, some_ok, some_err, none_ok}
use Rattle.vt_parse.proofs.parser.Parser.maybe_params.Goals as goal

pub returns-in_err-names : goal.returns-in_err-names
returns-in_err-names c =
    exit _ _ _ _ _ _ _ c.from_residual.ensures.1 (λ h. some_err params_rule (moved_on params_exact (sym c.at.ensures ∙ c.if-at.true) h) h) c.in_err-names.ensures

pub returns-then-at : goal.returns-then-at
returns-then-at c =
    some_ok params_rule c.in_ok-names.ensures

pub returns : goal.returns
returns c =
    none_ok params_rule (just terminals.Bar) (included (just terminals.Bar)) (sym c.at.ensures ∙ c.if-at.false)
