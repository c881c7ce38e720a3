use Rattle.vt_given.proofs.PathLemmas.{no_pattern_written, pattern_written}
use Rattle.vt_given.proofs.paths.written_pattern.Goals as goal

pub returns-in-Ok : goal.returns-in-Ok
returns-in-Ok c = pattern_written c.args.bytes.now c.in-Ok.pattern c.in-Ok.ensures.pattern c.in-Ok.ensures.written

pub returns-in-Err-BadPath : goal.returns-in-Err-BadPath
returns-in-Err-BadPath c =
    let cause = rw c.in-Err-BadPath.field-0-is at c.in-Err-BadPath.ensures in
    no_pattern_written c.args.bytes.now cause.refused.no_text
