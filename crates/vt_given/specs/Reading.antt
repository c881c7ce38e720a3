-- Kinds and paths in one step: own.
use Rattle.std.specs.Prelude.{ℕ, List, Result}
use Rattle.vt_path.specs.declared.pattern.Segment.{Segment}
use Rattle.vt_ring.specs.Answers.{and_then}
use Rattle.vt_value.specs.declared.fault.FaultKind.{FaultKind}
use Rattle.vt_value.specs.declared.value.Value.{Value}
use Rattle.vt_run.specs.calls.Arguments.{path_argument, pattern_argument}

-- the path that an argument of `cue` or `set` stands for, or the first of its faults
abbrev pub read_path : List ℕ → Value → Result (List (List ℕ)) FaultKind
read_path word value = and_then (path_argument word value) (λ named. named)

-- the pattern that an argument of `get` or `sync` stands for, or the first of its faults
abbrev pub read_pattern : Value → Result (List Segment) FaultKind
read_pattern value = and_then (pattern_argument value) (λ named. named)
