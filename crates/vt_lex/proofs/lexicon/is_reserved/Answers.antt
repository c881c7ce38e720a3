use Rattle.std.proofs.Common.{ap, ◌∙◌}
use Rattle.vt_frac.specs.Names.{is_among}
use Rattle.vt_lex.proofs.Tables.{reserved_are}
use Rattle.vt_lex.proofs.lexicon.is_reserved.Goals as goal

pub returns : goal.returns
returns c = c.is_among.ensures ∙ ap (λ words. is_among words c.args.word.now) reserved_are
