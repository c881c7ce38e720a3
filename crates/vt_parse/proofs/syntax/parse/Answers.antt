use Rattle.std.proofs.Common.{sym, ◌∙◌}
use Rattle.vt_parse.proofs.Ends.{text_ok, text_more, text_stuck, text_ends, stuck_of}
use Rattle.vt_parse.proofs.Rules.{read_from}
use Rattle.vt_parse.proofs.syntax.parse.Goals as goal

pub returns-in-None-clause-tree : goal.returns-in-None-clause-tree
returns-in-None-clause-tree c =
    rw c.make_block.ensures (text_ok c.args.text.now c.args.tokens.now _ _ (read_from c.new-parser.ensures c.in-Ok.ensures) (sym c.line_here.ensures ∙ c.in-None.is))

pub returns-in-Some-clause-refused : goal.returns-in-Some-clause-refused
returns-in-Some-clause-refused c =
    text_more c.args.text.now c.args.tokens.now _ _ _ (read_from c.new-parser.ensures c.in-Ok.ensures) (sym c.line_here.ensures ∙ c.in-Some.is)

pub returns-in-Some-line_here-clause-refused : goal.returns-in-Some-line_here-clause-refused
returns-in-Some-line_here-clause-refused c =
    text_stuck c.args.text.now c.args.tokens.now _ _ (stuck_of _ _ _ _ c.in-Err-Here.field-0-is c.new-parser.ensures c.in-Err-Here.ensures)
    (sym c.line_here-in-Err-Here.ensures ∙ c.in-Some-line_here.is)

pub returns-in-None-line_here-clause-refused : goal.returns-in-None-line_here-clause-refused
returns-in-None-line_here-clause-refused c =
    text_ends c.args.text.now c.args.tokens.now _ _ (stuck_of _ _ _ _ c.in-Err-Here.field-0-is c.new-parser.ensures c.in-Err-Here.ensures)
    (sym c.line_here-in-Err-Here.ensures ∙ c.in-None-line_here.is) c.last_line.ensures
