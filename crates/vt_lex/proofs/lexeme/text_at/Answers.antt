use Rattle.std.proofs.Common.{slice_index, sym, ◌∙◌, ap}
use Rattle.std.proofs.lemmas.List.{take_rest}
use Rattle.vt_lex.specs.Texts.{body_of}
use Rattle.vt_lex.specs.Lexemes.{text_lexeme, text_of}
use Rattle.vt_lex.proofs.Bodies.{text_within, text_beyond}
use Rattle.vt_lex.proofs.lexeme.text_at.Goals as goal

pub returns-then-text-le-MAX_TEXT : goal.returns-then-text-le-MAX_TEXT
unfolding text_lexeme
returns-then-text-le-MAX_TEXT c = c.token.ensures ∙ (sym (text_within _ _ c.in-Some.ensures.lengths c.if-text-le-MAX_TEXT.true) ∙ ap (λ bs. text_of (body_of (slice_index c.args.bytes.now 0) bs)) (take_rest c.args.bytes.now 1))

pub returns-else-text-le-MAX_TEXT : goal.returns-else-text-le-MAX_TEXT
unfolding text_lexeme
returns-else-text-le-MAX_TEXT c = sym (text_beyond _ _ c.in-Some.ensures.lengths c.if-text-le-MAX_TEXT.false) ∙ ap (λ bs. text_of (body_of (slice_index c.args.bytes.now 0) bs)) (take_rest c.args.bytes.now 1)
