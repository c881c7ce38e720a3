use Rattle.std.proofs.Common.{◌≡◌, drop}
use Rattle.vt_frac.specs.Names.{is_among}
use Rattle.vt_lex.specs.private.Spelled.{spelled}
use Rattle.vt_lex.proofs.lexicon.is_among.Given as goal

abbrev pub invariant-loop-other : goal.invariant-loop-other
invariant-loop-other l = is_among (spelled (drop l.other-index l.words)) l.word ≡ is_among (spelled l.words) l.word
