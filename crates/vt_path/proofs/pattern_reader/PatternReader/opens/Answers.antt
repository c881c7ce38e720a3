use Rattle.std.proofs.Common.{arith}
use Rattle.vt_path.specs.private.PatternReading.{reading}
use Rattle.vt_path.proofs.PatternReadsOn.{opens_reads_on, no_opening}
use Rattle.vt_path.proofs.pattern_reader.PatternReader.opens.Goals as goal

pub returns-then-self-gt-MOST_BYTES : goal.returns-then-self-gt-MOST_BYTES
returns-then-self-gt-MOST_BYTES c byte opening = no_opening (reading c.args.self.now) c.args.position byte opening c.requires.position c.requires.sound (omega arith)

pub returns : goal.returns
returns c byte opening = opens_reads_on (reading c.args.self.now) c.args.position byte opening c.requires.position c.requires.sound (omega arith)
