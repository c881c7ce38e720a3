use Rattle.std.proofs.Common.{◌≡◌, ◌+◌, length, take}
use Rattle.vt_path.specs.private.LiteralWriting.{AreBytes}
use Rattle.vt_path.proofs.literal_text.write_bytes.Given as goal

abbrev pub invariant-loop-i : goal.invariant-loop-i
invariant-loop-i l = record {
  so_far : AreBytes (take l.i l.parts) (take l.from l.initial.buffer) (take (l.from + l.i) l.buffer);
  length : length l.buffer ≡ length l.initial.buffer;
}
