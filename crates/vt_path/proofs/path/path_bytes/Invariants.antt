use Rattle.std.proofs.Common.{◌≡◌, take}
use Rattle.vt_path.specs.Path.{path_text}
use Rattle.vt_path.proofs.path.path_bytes.Given as goal

abbrev pub invariant-loop-segment : goal.invariant-loop-segment
invariant-loop-segment l = l.text.items ≡ path_text (take l.segment-index l.segments)
