use Rattle.std.proofs.Common.{IsOk, map, take}
use Rattle.vt_ring.specs.Answers.{all_of}
use Rattle.vt_run.specs.calls.TimeCalls.{seconds_of}
use Rattle.vt_value.specs.declared.value.Value.{Value}
use Rattle.vt_given.specs.private.Rounds.{number_in}
use Rattle.vt_given.proofs.timings.check_rests.Given as goal

abbrev pub invariant-loop-time : goal.invariant-loop-time
invariant-loop-time l = IsOk (all_of (map (λ (time : Value). seconds_of (number_in time) l.bpm) (take l.time-index l.times)))
