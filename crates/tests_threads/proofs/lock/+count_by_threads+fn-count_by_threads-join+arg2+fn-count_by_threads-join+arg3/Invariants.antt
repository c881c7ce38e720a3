use Rattle.std.proofs.Common.{◌+◌, ◌*◌, ◌-◌}
use Rattle.tests_threads.proofs.lock.+count_by_threads+fn-count_by_threads-join+arg2+fn-count_by_threads-join+arg3.Given as goal

abbrev pub decreases-count_by_threads : goal.decreases-count_by_threads
decreases-count_by_threads g l = 2 * l.span

abbrev pub decreases-join+arg2 : goal.decreases-join+arg2
decreases-join+arg2 g l = 2 * l.half + 1

abbrev pub decreases-join+arg3 : goal.decreases-join+arg3
decreases-join+arg3 g l = 2 * (l.span - l.half) + 1
