use Rattle.std.proofs.Common.{◌≡◌, take}
use Rattle.vt_path.specs.Pattern.{pattern_text}
use Rattle.vt_path.proofs.pattern.pattern_bytes.Given as goal

abbrev pub invariant-loop-segment : goal.invariant-loop-segment
invariant-loop-segment l = l.text.items ≡ pattern_text (take l.segment-index l.segments)
