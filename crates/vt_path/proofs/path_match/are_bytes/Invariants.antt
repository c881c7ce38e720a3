use Rattle.std.proofs.Common.{◌≡◌, take}
use Rattle.vt_path.specs.Match.{byte_parts}
use Rattle.vt_path.proofs.path_match.are_bytes.Given as goal

abbrev pub invariant-loop-i : goal.invariant-loop-i
invariant-loop-i l = take l.i l.parts ≡ byte_parts (take l.i l.bytes)
