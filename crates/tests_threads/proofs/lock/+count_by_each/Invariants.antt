use Rattle.tests_threads.proofs.lock.+count_by_each.Given as goal

abbrev pub decreases-count_by_each : goal.decreases-count_by_each
decreases-count_by_each g l = l.span
