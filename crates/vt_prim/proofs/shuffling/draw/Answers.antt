use Rattle.std.proofs.Common.{◌≡◌, ◌∙◌, ap}
use Rattle.vt_ring.specs.Streams.{moved_on}
use Rattle.vt_prim.proofs.WordLists.{moved_more}
use Rattle.vt_prim.proofs.shuffling.draw.Goals as goal

pub loop-k-preserved : goal.loop-k-preserved
loop-k-preserved c = c.next_word.ensures.drawn ∙ ap (moved_on 1) c.loop-k.invariant ∙ moved_more c.loop-k._k c.args.stream.now
