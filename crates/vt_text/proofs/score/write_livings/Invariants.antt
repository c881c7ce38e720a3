use Rattle.std.proofs.Common.{◌≡◌, ◌++◌, take}
use Rattle.vt_text.specs.ScoreText.{living_lines}
use Rattle.vt_text.proofs.score.write_livings.Given as goal

abbrev pub invariant-loop-living : goal.invariant-loop-living
invariant-loop-living l = l.out.items ≡ l.initial.out.items ++ living_lines (take l.living-index l.livings)
