use Rattle.std.proofs.Common.{sym, subst}
use Rattle.vt_path.specs.Path.{IsPathText}
use Rattle.vt_path.specs.Stop.{IsCause, StopsAt}
use Rattle.vt_path.proofs.DecidedLemmas.{none_where_no_path, path_where_written}
use Rattle.vt_session.proofs.directive.path_of.Goals as goal

pub returns-in-Ok : goal.returns-in-Ok
returns-in-Ok c = sym ((path_where_written c.args.word.now c.in-Ok.path).1 (c.in-Ok.ensures.path, c.in-Ok.ensures.written))

pub returns-in-Err-BadPath : goal.returns-in-Err-BadPath
returns-in-Err-BadPath c =
    let stops : StopsAt IsPathText c.args.word.now c.in-Err-BadPath.field-0-0 = subst (IsCause IsPathText c.args.word.now) c.in-Err-BadPath.field-0-is c.in-Err-BadPath.ensures.refused in
    sym ((none_where_no_path c.args.word.now).1 stops.no_text)
