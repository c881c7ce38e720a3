use Rattle.vt_path.proofs.DecidedLemmas.{none_where_no_path, path_where_written}
use Rattle.vt_run.proofs.laws.paths_are_as_written.Goals as goal

pub returns-clause-written : goal.returns-clause-written
returns-clause-written c = path_where_written

pub returns-clause-none : goal.returns-clause-none
returns-clause-none c = none_where_no_path
