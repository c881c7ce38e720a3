use Rattle.std.proofs.Common.{ap, ◌∙◌}
use Rattle.vt_frac.specs.Names.{is_among}
use Rattle.vt_lex.specs.declared.lexicon.TheConstants.{PLAIN_KEYWORDS, JOINING_KEYWORDS}
use Rattle.vt_lex.proofs.Lists.{among_first, among_later}
use Rattle.vt_lex.proofs.Tables.{texts_of, keywords_are}
use Rattle.vt_lex.proofs.lexicon.is_keyword.Goals as goal

pub returns-then-is_among : goal.returns-then-is_among
returns-then-is_among c =
    among_first (texts_of PLAIN_KEYWORDS) (texts_of JOINING_KEYWORDS) c.args.word.now _ c.is_among.ensures c.if-is_among.true
    ∙ ap (λ words. is_among words c.args.word.now) keywords_are

pub returns-else-is_among : goal.returns-else-is_among
returns-else-is_among c =
    among_later (texts_of PLAIN_KEYWORDS) (texts_of JOINING_KEYWORDS) c.args.word.now _ _ c.is_among.ensures c.if-is_among.false c.is_among-else-is_among.ensures
    ∙ ap (λ words. is_among words c.args.word.now) keywords_are
