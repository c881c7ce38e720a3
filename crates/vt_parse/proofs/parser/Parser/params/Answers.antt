use Rattle.std.proofs.Common.{◌++◌, refl, ap, ◌∙◌}
use Rattle.vt_grammar.specs.declared.terminals.Terminal.TheVariants as terminals
use Rattle.vt_grammar.specs.Grammar.{names_of, params}
use Rattle.vt_grammar.proofs.MarkLaws.{terminal_rule}
use Rattle.vt_grammar.proofs.Rules.{next_params_maybe, params_end, params_rest}
use Rattle.vt_parse.proofs.Rules.{exit, valued, both_read, second_stuck, first_stuck, map_read, map_stuck, unmap_read, unmap_stuck}
use Rattle.vt_parse.proofs.parser.Parser.params.Goals as goal

pub returns-in_err-expect : goal.returns-in_err-expect
unfolding params
returns-in_err-expect c =
    exit _ _ _ _ _ _ _ c.from_residual.ensures.1 (λ h. map_stuck (first_stuck (terminal_rule terminals.Bar).law params_rest.law refl h)) c.in_err-expect.ensures

pub returns-in_err-first : goal.returns-in_err-first
unfolding params
returns-in_err-first c =
    exit _ _ _ _ _ _ _ c.from_residual-in_err-first.ensures.1 (λ h. map_stuck (second_stuck (terminal_rule terminals.Bar).law params_rest.law refl c.in_ok-expect.ensures (first_stuck (terminal_rule terminals.Name).law params_end.law refl h))) c.in_err-first.ensures

pub returns-in_err-names : goal.returns-in_err-names
unfolding params
returns-in_err-names c =
    exit _ _ _ _ _ _ _ c.from_residual-in_err-names.ensures.1 (λ h. map_stuck (second_stuck (terminal_rule terminals.Bar).law params_rest.law refl c.in_ok-expect.ensures (second_stuck (terminal_rule terminals.Name).law params_end.law refl c.in_ok-first.ensures (first_stuck next_params_maybe (terminal_rule terminals.Bar).law refl (unmap_stuck h))))) c.in_err-names.ensures

pub returns-in_err-expect-2 : goal.returns-in_err-expect-2
unfolding params
returns-in_err-expect-2 c =
    exit _ _ _ _ _ _ _ c.from_residual-in_err-expect-2.ensures.1 (λ h. map_stuck (second_stuck (terminal_rule terminals.Bar).law params_rest.law refl c.in_ok-expect.ensures (second_stuck (terminal_rule terminals.Name).law params_end.law refl c.in_ok-first.ensures (second_stuck next_params_maybe (terminal_rule terminals.Bar).law refl (unmap_read c.in_ok-names.ensures).1 h)))) c.in_err-expect-2.ensures

pub returns : goal.returns
unfolding params
returns c =
    let g = unmap_read c.in_ok-names.ensures in
    valued (g.2 ∙ ap (λ z. z ++ names_of g.0) c.in_ok-found.ensures) (map_read (both_read (terminal_rule terminals.Bar).law params_rest.law refl c.in_ok-expect.ensures (both_read (terminal_rule terminals.Name).law params_end.law refl (valued c.first.view_is c.in_ok-first.ensures) (both_read next_params_maybe (terminal_rule terminals.Bar).law refl g.1 c.in_ok-expect-2.ensures))))
