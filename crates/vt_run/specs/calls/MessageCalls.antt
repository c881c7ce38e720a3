-- The calls of the time state, and the log: `cue`, `set`, `get`, `sync`, `puts` and `print`. After the Sonic Pi tutorial, chapters 5 and 10; paths, kinds and faults are own.
use Rattle.std.specs.Prelude.{List, [], ◌∷◌, codes, Result, Ok, Err}
use Rattle.vt_path.specs.declared.pattern.Segment.{Segment}
use Rattle.vt_ring.specs.Answers.{and_then}
use Rattle.vt_ring.specs.Signatures.{one_of, two_of}
use Rattle.vt_value.specs.declared.fault.FaultKind.{FaultKind}
use Rattle.vt_value.specs.declared.fault.FaultKind.TheVariants.{WrongCount}
use Rattle.vt_value.specs.declared.value.Value.{Value}
use Rattle.vt_value.specs.declared.value.Value.TheVariants.{Nil}
use Rattle.vt_value.specs.Arithmetic.{ring_within}
use Rattle.vt_event.specs.EventsByKind.{cue_event, log_event, set_event}
use Rattle.vt_run.specs.declared.action.Answer.{Answer}
use Rattle.vt_run.specs.declared.action.Answer.TheVariants.{Nothing, Found}
use Rattle.vt_run.specs.declared.state.State.{State}
use Rattle.vt_run.specs.Actions.{or_fails, reads, syncs}
use Rattle.vt_run.specs.calls.Arguments.{Given, all_args, path_argument, pattern_argument}
use Rattle.vt_run.specs.calls.Deeds.{Deed, publishing}
use Rattle.vt_run.specs.Environment.{Meaning}
use Rattle.vt_run.specs.Evaluation.{gives}

abbrev pub cue_of : List Value → State → Result Deed FaultKind
cue_of [] st = Err WrongCount
cue_of (to ∷ values) st =
    and_then (path_argument (codes "cue") to) (λ named.
    and_then named (λ path.
    and_then (ring_within values) (λ ring.
    Ok (publishing st (λ place. cue_event place path ring)))))

-- `cue P`, and any number of values: with the ring of them
unfoldable pub cue_call : Given → State → Result Deed FaultKind
cue_call given st = cue_of (all_args given) st

-- `set P, V`
unfoldable pub set_call : Given → State → Result Deed FaultKind
set_call given st =
    and_then (two_of (all_args given)) (λ (to, value).
    and_then (path_argument (codes "set") to) (λ named.
    and_then named (λ path.
    Ok (publishing st (λ place. set_event place path value)))))

-- `puts V..`, `print V..`: the ring of the values
unfoldable pub puts_call : Given → State → Result Deed FaultKind
puts_call given st = and_then (ring_within (all_args given)) (λ ring. Ok (publishing st (λ place. log_event place ring)))

-- the pattern that one argument stands for
abbrev pub a_pattern : List Value → Result (List Segment) FaultKind
a_pattern args =
    and_then (one_of args) (λ value.
    and_then (pattern_argument value) (λ named.
    named))

-- the value of the event that is found, or nil
abbrev pub value_found : Answer → Value
value_found Nothing = Nil
value_found (Found event) = event.value

-- `get P`
unfoldable pub get_call : Given → Meaning
get_call given env at st =
    or_fails (a_pattern (all_args given)) env at st (λ pattern.
    reads pattern env st (λ answer st. gives (value_found answer) st))

-- `sync P`
unfoldable pub sync_call : Given → Meaning
sync_call given env at st = or_fails (a_pattern (all_args given)) env at st (λ pattern. syncs pattern env st)
