use Rattle.std.proofs.Common.{◌≡◌, take}
use Rattle.vt_path.specs.Match.{literal_of}
use Rattle.vt_path.proofs.literal_pattern.literal_segments.Given as goal

abbrev pub invariant-loop-segment : goal.invariant-loop-segment
invariant-loop-segment l = l.segments.items ≡ literal_of (take l.segment-index l.path)
