use Rattle.std.proofs.Common.{◌≡◌, ◌++◌, take}
use Rattle.std.specs.List.{flat_map}
use Rattle.vt_text.specs.ScoreText.{after_blank}
use Rattle.vt_text.proofs.parts.write_after_blanks.Given as goal

abbrev pub invariant-loop-value : goal.invariant-loop-value
invariant-loop-value l = l.out.items ≡ l.initial.out.items ++ flat_map after_blank (take l.value-index l.values)
