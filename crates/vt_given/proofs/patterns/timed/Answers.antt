use Rattle.std.proofs.Common.{sym}
use Rattle.vt_given.proofs.PatternLemmas.{timed_all}
use Rattle.vt_given.proofs.patterns.timed.Goals as goal

pub returns : goal.returns
returns c = sym (timed_all c.args.values.now c.args.times.now c.requires)
