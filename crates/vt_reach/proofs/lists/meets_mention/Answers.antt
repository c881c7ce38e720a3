use Rattle.std.proofs.Common.{sym}
use Rattle.vt_reach.specs.private.Lists.{MeetsMention}
use Rattle.vt_reach.proofs.ReachLemmas.{meets_here, meets_nothing, no_mention}
use Rattle.vt_reach.proofs.lists.meets_mention.Goals as goal

pub returns-in-None : goal.returns-in-None
returns-in-None c =
    meets_nothing (MeetsMention c.args.mentions.now c.args.place c.args.pattern.now) (no_mention c.args.mentions.now c.args.place c.args.pattern.now (sym c.in-None.ensures))

pub returns-in-Some : goal.returns-in-Some
returns-in-Some c =
    meets_here c.args.mentions.now c.args.place c.in-Some.mention.now c.args.pattern.now c.is_met.result (sym c.in-Some.ensures) c.is_met.ensures
