use Rattle.std.proofs.Common.{sym}
use Rattle.std.specs.Option.{option_copied}
use Rattle.vt_given.proofs.RoundLemmas.{zip_values}
use Rattle.vt_given.proofs.timings.timings_from.Goals as goal

pub returns : goal.returns
returns c = sym (zip_values c.args.bpm.now (option_copied c.args.items) c.args.times.now c.requires.forward c.requires.some)
