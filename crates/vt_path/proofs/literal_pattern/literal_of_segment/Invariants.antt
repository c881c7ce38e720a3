use Rattle.std.proofs.Common.{◌≡◌, take}
use Rattle.vt_path.specs.Match.{byte_parts}
use Rattle.vt_path.proofs.literal_pattern.literal_of_segment.Given as goal

abbrev pub invariant-loop-byte : goal.invariant-loop-byte
invariant-loop-byte l = l.parts.items ≡ byte_parts (take l.byte-index l.bytes)
