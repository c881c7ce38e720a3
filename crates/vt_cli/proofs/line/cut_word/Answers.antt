use Rattle.std.proofs.Common.{◌∙◌, ◌+◌, ap, sym, take}
use Rattle.vt_cli.specs.Line.{words_of}
use Rattle.vt_cli.specs.private.FirstPart.{word_and_more}
use Rattle.vt_cli.proofs.FirstParts.{tail-whole, words-cut, words-last}
use Rattle.vt_cli.proofs.line.cut_word.Goals as goal

pub returns-in-Some : goal.returns-in-Some
returns-in-Some c =
    sym c.skip_blanks-line.ensures.words
    ∙ words-cut c.in-Some.end c.skip_blanks-line.result.now c.skip_blanks-line.ensures.begins (sym c.first_blank.ensures ∙ c.in-Some.is)
    ∙ ap (λ more. word_and_more (take c.in-Some.end c.skip_blanks-line.result.now) (words_of more))
    (sym (tail-whole (c.in-Some.end + 1) c.skip_blanks-line.result.now))

pub returns-in-None : goal.returns-in-None
returns-in-None c = sym c.skip_blanks-line.ensures.words ∙ words-last c.skip_blanks-line.result.now (sym c.first_blank.ensures ∙ c.in-None.is)
