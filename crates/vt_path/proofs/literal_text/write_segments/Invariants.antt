use Rattle.std.proofs.Common.{◌≡◌, ◌*◌, ◌≤◌, length, take}
use Rattle.vt_path.specs.private.LiteralWriting.{IsPathSoFar}
use Rattle.vt_path.proofs.literal_text.write_segments.Given as goal

abbrev pub invariant-loop-segment : goal.invariant-loop-segment
invariant-loop-segment l = record {
  so_far : IsPathSoFar (take l.segment-index l.segments) (take l.count l.buffer);
  within : l.count ≤ 65 * l.segment-index;
  length : length l.buffer ≡ length l.initial.buffer;
}
