-- One item of a pattern. The project's own.
use Rattle.std.specs.Prelude.{List}
use Rattle.vt_event.specs.Pairs.{Pairs}
use Rattle.vt_run.specs.Actions.{emits_all, or_fails, rests}
use Rattle.vt_run.specs.calls.PatternCalls.{Item}
use Rattle.vt_run.specs.calls.PlayCalls.{plays_notes}
use Rattle.vt_run.specs.calls.TimeCalls.{rest_of}
use Rattle.vt_run.specs.Environment.{Meaning}
use Rattle.vt_run.specs.Evaluation.{tick}

-- an item: its step, its notes, and its rest
abbrev pub plays_item : Item → Pairs → Meaning
plays_item item options env at st =
    tick
    (emits_all (plays_notes options st.settings item.0) env st (λ st.
    or_fails (rest_of st item.1) env at st (λ seconds. rests seconds env st)))
