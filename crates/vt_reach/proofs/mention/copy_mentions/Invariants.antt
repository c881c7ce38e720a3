use Rattle.std.proofs.Common.{◌≡◌, take}
use Rattle.vt_reach.proofs.mention.copy_mentions.Given as goal

abbrev pub invariant-loop-mention : goal.invariant-loop-mention
invariant-loop-mention l = l.copies ≡ take l.mention-index l.mentions
