use Rattle.std.proofs.Common.{◌∙◌, sym}
use Rattle.vt_cli.proofs.LineWords.{line-of-none, line-of-one, line-of-three, line-of-two}
use Rattle.vt_cli.proofs.line.line_of.Goals as goal

pub returns-then-is_empty : goal.returns-then-is_empty
returns-then-is_empty c = line-of-none _ _ _ c.cut_word.ensures (sym c.is_empty.ensures ∙ c.if-is_empty.true)

pub returns-then-is_empty-2 : goal.returns-then-is_empty-2
returns-then-is_empty-2 c =
    line-of-one _ _ _ _ _ c.cut_word.ensures (sym c.is_empty.ensures ∙ c.if-is_empty.false)
    c.cut_word-2.ensures (sym c.is_empty-2.ensures ∙ c.if-is_empty-2.true)

pub returns-then-is_empty-3 : goal.returns-then-is_empty-3
returns-then-is_empty-3 c =
    c.said.ensures
    ∙ line-of-two _ _ _ _ _ _ _ c.cut_word.ensures (sym c.is_empty.ensures ∙ c.if-is_empty.false)
    c.cut_word-2.ensures (sym c.is_empty-2.ensures ∙ c.if-is_empty-2.false)
    c.cut_word-3.ensures (sym c.is_empty-3.ensures ∙ c.if-is_empty-3.true)

pub returns : goal.returns
returns c =
    line-of-three _ _ _ _ _ _ _ c.cut_word.ensures (sym c.is_empty.ensures ∙ c.if-is_empty.false)
    c.cut_word-2.ensures (sym c.is_empty-2.ensures ∙ c.if-is_empty-2.false)
    c.cut_word-3.ensures (sym c.is_empty-3.ensures ∙ c.if-is_empty-3.false)
