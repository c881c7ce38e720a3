use Rattle.std.proofs.Common.{arith, length}
use Rattle.std.proofs.lemmas.Grind.{common_steps}
use Rattle.vt_io.proofs.Buffers.{left-copied, left-none_copied}
use Rattle.vt_io.proofs.quiet.QuietSourceSource.read.Goals as goal

pub returns-clause-bytes : goal.returns-clause-bytes
returns-clause-bytes c =
    rw (← c.self.view_is) (
      left-copied c.self.inside.bytes.items c.copy_from_slice.new.self _ c.self.inside.at c.min-count.result (grind (arith, common_steps)) (grind (arith, common_steps)),
      λ none some. left-none_copied c.self.inside.bytes.items c.self.inside.at c.min-count.result (length c.args.buf.now) (grind (arith, common_steps)) (grind (arith, common_steps, c.self.invariant)) none (grind (arith, common_steps)),
    )
