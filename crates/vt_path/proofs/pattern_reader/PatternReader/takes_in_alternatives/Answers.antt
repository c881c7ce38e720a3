use Rattle.std.proofs.Common.{arith}
use Rattle.vt_path.specs.private.PatternReading.{reading}
use Rattle.vt_path.proofs.PatternAlternatives.{name_byte_reads_on, no_name_byte_full, no_name_other}
use Rattle.vt_path.proofs.pattern_reader.PatternReader.takes_in_alternatives.Goals as goal
use Rattle.vt_path.proofs.pattern_reader.PatternReader.takes_in_alternatives.Goals.{then-not-is_path_byte-via-then-not-is_path_byte, then-not-is_path_byte-via-else-not-is_path_byte+then-self-gt-MOST_BYTES}

pub returns-then-not-is_path_byte : goal.returns-then-not-is_path_byte
returns-then-not-is_path_byte c = elim c.then-not-is_path_byte.branch [
  | then-not-is_path_byte-via-then-not-is_path_byte w ↦
      no_name_other (reading c.args.self.now) c.requires.position _ (λ p. absurd (grind (arith, c.is_path_byte.ensures.1 p))) c.if-byte-eq44.false c.if-byte-eq125.false
  | then-not-is_path_byte-via-else-not-is_path_byte+then-self-gt-MOST_BYTES w ↦
      no_name_byte_full (reading c.args.self.now) c.requires.position _ c.requires.sound (c.is_path_byte.ensures.0 (grind arith)) (omega arith)
]

pub returns : goal.returns
returns c = rw c.in_ok-push.ensures.items (name_byte_reads_on (reading c.args.self.now) c.requires.position _ c.requires.sound (c.is_path_byte.ensures.0 (grind arith)) (omega arith))
