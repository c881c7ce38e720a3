use Rattle.vt_reach.proofs.PathLemmas.{no_path_written, path_written}
use Rattle.vt_reach.proofs.paths.written_path.Goals as goal

pub returns-in-Ok : goal.returns-in-Ok
returns-in-Ok c = path_written c.args.bytes.now c.in-Ok.path c.in-Ok.ensures.path c.in-Ok.ensures.written

pub returns-in-Err-BadPath : goal.returns-in-Err-BadPath
returns-in-Err-BadPath c =
    let cause = rw c.in-Err-BadPath.field-0-is at c.in-Err-BadPath.ensures in
    no_path_written c.args.bytes.now cause.refused.no_text
