-- The calls of time: `sleep` and `wait`, `current_bpm`, `vt` and `rt`. That a beat lasts 60 / bpm seconds and that `sleep` adds to the virtual time is after FARM 2014 and the Sonic Pi tutorial, chapter 9; exact fractions are own.
use Rattle.std.specs.Prelude.{pos, not, Result, Ok}
use Rattle.vt_frac.specs.Fraction.{Fraction, whole}
use Rattle.vt_ring.specs.Answers.{and_then}
use Rattle.vt_ring.specs.Called.{demand}
use Rattle.vt_ring.specs.Exact.{exact_product, exact_quotient, exact_sum, is_negative}
use Rattle.vt_ring.specs.Signatures.{a_number}
use Rattle.vt_value.specs.declared.fault.FaultKind.{FaultKind}
use Rattle.vt_value.specs.declared.fault.FaultKind.TheVariants.{BadValue}
use Rattle.vt_value.specs.declared.value.Value.TheVariants.{Part}
use Rattle.vt_run.specs.declared.state.State.{State}
use Rattle.vt_run.specs.Actions.{or_fails, rests}
use Rattle.vt_run.specs.calls.Arguments.{Given, all_args}
use Rattle.vt_run.specs.calls.Deeds.{Deed, valued}
use Rattle.vt_run.specs.Environment.{Meaning}

-- so many beats in seconds: N * (60 / bpm)
abbrev pub seconds_of : Fraction → Fraction → Result Fraction FaultKind
seconds_of beats bpm = and_then (exact_quotient (whole (pos 60)) bpm) (exact_product beats)

-- the seconds of a rest of so many beats; overflow where they, or the time after them, do not fit
abbrev pub rest_of : State → Fraction → Result Fraction FaultKind
rest_of st beats =
    and_then (seconds_of beats st.settings.bpm) (λ seconds.
    and_then (exact_sum st.time seconds) (λ time.
    Ok seconds))

-- a number of beats of at least 0
abbrev pub beats_of : Given → Result Fraction FaultKind
beats_of given = and_then (a_number (all_args given)) (λ beats. demand (not (is_negative beats)) BadValue (Ok beats))

-- `sleep N`, `wait N`
unfoldable pub sleep_call : Given → Meaning
sleep_call given env at st = or_fails (and_then (beats_of given) (rest_of st)) env at st (λ seconds. rests seconds env st)

-- `current_bpm`
unfoldable pub current_bpm_call : Given → State → Result Deed FaultKind
current_bpm_call given st = Ok (valued st (Part st.settings.bpm))

-- `vt`: the thread's time in seconds
unfoldable pub vt_call : Given → State → Result Deed FaultKind
vt_call given st = Ok (valued st (Part st.time))

-- `rt N`: N * (bpm / 60)
unfoldable pub rt_call : Given → State → Result Deed FaultKind
rt_call given st =
    and_then (a_number (all_args given)) (λ n.
    and_then (exact_quotient st.settings.bpm (whole (pos 60))) (λ rate.
    and_then (exact_product n rate) (λ product.
    Ok (valued st (Part product)))))
