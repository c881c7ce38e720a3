use Rattle.std.proofs.Common.{arith}
use Rattle.vt_path.proofs.PathReadsOn.{no_other, no_byte_full, byte_reads_on}
use Rattle.vt_path.proofs.path_reader.PathReader.takes.Goals as goal
use Rattle.vt_path.proofs.path_reader.PathReader.takes.Goals.{then-not-is_path_byte-via-then-not-is_path_byte, then-not-is_path_byte-via-else-not-is_path_byte+then-len-eq-MOST_BYTES}

pub returns-then-not-is_path_byte : goal.returns-then-not-is_path_byte
returns-then-not-is_path_byte c = elim c.then-not-is_path_byte.branch [
  | then-not-is_path_byte-via-then-not-is_path_byte w ↦
      no_other _ _ _ (λ p. absurd (grind (arith, c.is_path_byte.ensures.1 p))) c.if-byte-eq47.false
  | then-not-is_path_byte-via-else-not-is_path_byte+then-len-eq-MOST_BYTES w ↦ no_byte_full _ _ _ (c.is_path_byte.ensures.0 (grind arith)) (grind arith)
]

pub returns : goal.returns
returns c = rw c.in_ok-push.ensures.items (byte_reads_on _ _ _ c.requires (c.is_path_byte.ensures.0 (grind arith)) (let s = c.requires.short in grind arith))
