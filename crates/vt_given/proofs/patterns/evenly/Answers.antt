use Rattle.std.proofs.Common.{sym}
use Rattle.vt_given.proofs.PatternLemmas.{even_from}
use Rattle.vt_given.proofs.patterns.evenly.Goals as goal

pub returns : goal.returns
returns c = sym (even_from 0 c.args.values.now)
