use Rattle.std.proofs.Common.{◌∙◌, ap, sym, subst}
use Rattle.vt_cli.specs.Line.{words_of}
use Rattle.vt_cli.specs.private.FirstPart.{BeginsLineWord}
use Rattle.vt_cli.proofs.FirstParts.{tail-whole, words-begin, words-none, words-skip}
use Rattle.vt_cli.proofs.line.skip_blanks.Goals as goal

pub returns-in-Some-clause-words : goal.returns-in-Some-clause-words
returns-in-Some-clause-words c =
    ap words_of (tail-whole c.in-Some.start c.args.line.now) ∙ words-skip c.args.line.now c.in-Some.start (sym c.first_filled.ensures ∙ c.in-Some.is)

pub returns-in-Some-clause-begins : goal.returns-in-Some-clause-begins
returns-in-Some-clause-begins c =
    subst BeginsLineWord (sym (tail-whole c.in-Some.start c.args.line.now)) (words-begin c.args.line.now c.in-Some.start (sym c.first_filled.ensures ∙ c.in-Some.is))

pub returns-in-None-clause-words : goal.returns-in-None-clause-words
returns-in-None-clause-words c = sym (words-none c.args.line.now (sym c.first_filled.ensures ∙ c.in-None.is))
