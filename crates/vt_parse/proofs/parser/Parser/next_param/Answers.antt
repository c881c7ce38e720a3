use Rattle.std.proofs.Common.{refl}
use Rattle.vt_grammar.specs.declared.terminals.Terminal.TheVariants as terminals
use Rattle.vt_grammar.specs.Grammar.{next_param}
use Rattle.vt_grammar.proofs.MarkLaws.{terminal_rule}
use Rattle.vt_parse.proofs.Rules.{exit, tail, both_read, second_stuck, first_stuck, map_read, map_stuck}
use Rattle.vt_parse.proofs.parser.Parser.next_param.Goals as goal

pub returns-in_err-expect : goal.returns-in_err-expect
unfolding next_param
returns-in_err-expect c =
    exit _ _ _ _ _ _ _ c.from_residual.ensures.1 (λ h. map_stuck (first_stuck (terminal_rule terminals.Comma).law (terminal_rule terminals.Name).law refl (h))) c.in_err-expect.ensures

pub returns : goal.returns
unfolding next_param
returns c =
    tail _ _ _ _ _ _ (λ v h. map_read (both_read (terminal_rule terminals.Comma).law (terminal_rule terminals.Name).law refl c.in_ok-expect.ensures (h))) (λ h. map_stuck (second_stuck (terminal_rule terminals.Comma).law (terminal_rule terminals.Name).law refl c.in_ok-expect.ensures (h))) c.expect-2.ensures
