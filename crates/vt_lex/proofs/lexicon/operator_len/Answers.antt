use Rattle.std.proofs.Common.{ap, ◌∙◌}
use Rattle.vt_lex.specs.declared.lexicon.TheConstants.{JOINING_OPERATORS, PLAIN_OPERATORS}
use Rattle.vt_lex.specs.Lexicon.{first_start}
use Rattle.vt_lex.proofs.Lists.{found_first, found_later}
use Rattle.vt_lex.proofs.Tables.{texts_of, operators_are}
use Rattle.vt_lex.proofs.lexicon.operator_len.Goals as goal

pub returns-in-Some : goal.returns-in-Some
returns-in-Some c =
    found_first (texts_of JOINING_OPERATORS) (texts_of PLAIN_OPERATORS) c.args.bytes.now c.in-Some.len c.in-Some.ensures
    ∙ ap (λ forms. first_start forms c.args.bytes.now) operators_are

pub returns-in-None : goal.returns-in-None
returns-in-None c =
    c.first_start-in-None.ensures
    ∙ (found_later (texts_of JOINING_OPERATORS) (texts_of PLAIN_OPERATORS) c.args.bytes.now c.in-None.ensures
    ∙ ap (λ forms. first_start forms c.args.bytes.now) operators_are)
