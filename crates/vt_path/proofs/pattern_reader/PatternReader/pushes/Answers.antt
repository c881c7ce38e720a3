use Rattle.std.proofs.Common.{◌≤◌, arith}
use Rattle.vt_path.specs.private.PatternReading.{reading}
use Rattle.vt_path.proofs.PatternReadsOn.{push_reads_on, no_push, inside_in}
use Rattle.vt_path.specs.private.PatternReading.{IsBetween}
use Rattle.vt_path.specs.declared.pattern_reader.Position.TheVariants.{Between}
use Rattle.vt_path.proofs.pattern_reader.PatternReader.pushes.Goals as goal

pub returns-then-self-eq-MOST_BYTES : goal.returns-then-self-eq-MOST_BYTES
returns-then-self-eq-MOST_BYTES c byte text =
    no_push (reading c.args.self.now) c.args.part byte c.requires.position c.requires.sound c.requires.part text c.if-self-eq-MOST_BYTES.true

pub returns : goal.returns
returns c byte text =
    let i : IsBetween (reading c.args.self.now) = inside_in (reading c.args.self.now) Between c.requires.position c.requires.sound in
    let short : c.args.self.now.used ≤ 64 = i.short in
    let not_full = c.if-self-eq-MOST_BYTES.false in
    rw c.in_ok-push.ensures.items (push_reads_on (reading c.args.self.now) c.args.part byte c.requires.position c.requires.sound c.requires.part text (omega arith))
