use Rattle.std.proofs.Common.{◌∙◌, ◌∷◌, ◌+◌, ap, sym, take}
use Rattle.vt_cli.specs.Line.{is_newline, lines_of}
use Rattle.vt_cli.proofs.FirstParts.{split-at, split-none, tail-whole}
use Rattle.vt_cli.proofs.line.cut_line.Goals as goal

pub returns-in-Some-clause-lines : goal.returns-in-Some-clause-lines
returns-in-Some-clause-lines c =
    split-at is_newline c.args.text.now c.in-Some.end (sym c.first_newline.ensures ∙ c.in-Some.is)
    ∙ ap (λ more. take c.in-Some.end c.args.text.now ∷ lines_of more) (sym (tail-whole (c.in-Some.end + 1) c.args.text.now))

pub returns-in-None-clause-lines : goal.returns-in-None-clause-lines
returns-in-None-clause-lines c = split-none is_newline c.args.text.now (sym c.first_newline.ensures ∙ c.in-None.is)
