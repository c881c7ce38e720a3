use Rattle.std.proofs.Common.{◌≡◌}
use Rattle.tests_threads.proofs.lock.count_often.Given as goal

abbrev pub invariant-loop-before : goal.invariant-loop-before
invariant-loop-before g l = l.seat ≡ record l.initial.seat { seen = l.seat.seen }
