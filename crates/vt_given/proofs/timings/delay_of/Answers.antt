use Rattle.std.proofs.Common.{sym, ◌∙◌}
use Rattle.std.proofs.lemmas.Bool.{false≢true}
use Rattle.vt_given.proofs.RoundLemmas.{seconds_delay}
use Rattle.vt_given.proofs.timings.delay_of.Goals as goal

pub unreachable-requires : goal.unreachable-requires
unreachable-requires c =
    let here = seconds_delay c.args.beats c.args.bpm.now c.in-Ok.seconds (sym c.seconds_of.ensures ∙ c.in-Ok.is) c.requires c.keep_tempo.ensures in
    absurd (false≢true (c.in-None.ensures.some.1 here))
