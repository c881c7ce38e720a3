use Rattle.std.proofs.Common.{IsOk, map}
use Rattle.vt_ring.specs.Answers.{all_of}
use Rattle.vt_ring.specs.Items.{indices}
use Rattle.vt_given.specs.private.Rounds.{beat_of}
use Rattle.vt_given.proofs.patterns.check_beats.Given as goal

abbrev pub invariant-loop-i : goal.invariant-loop-i
invariant-loop-i l = IsOk (all_of (map (beat_of l.times) (indices l.i)))
