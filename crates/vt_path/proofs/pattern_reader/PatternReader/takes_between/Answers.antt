use Rattle.std.proofs.Common.{arith}
use Rattle.vt_path.specs.private.PatternReading.{reading}
use Rattle.vt_path.proofs.PatternReadsOn.{no_other}
use Rattle.vt_path.proofs.pattern_reader.PatternReader.takes_between.Goals as goal

pub returns-in_default-2 : goal.returns-in_default-2
returns-in_default-2 c =
    no_other (reading c.args.self.now) c.args.byte c.requires.position (λ p. absurd (grind (arith, c.is_path_byte.ensures.1 p)))
    (λ e. absurd (omega arith)) (λ e. absurd (omega arith)) (λ e. absurd (omega arith)) (λ e. absurd (omega arith)) (λ e. absurd (omega arith))
