-- The calls that play a ring in time: `play_pattern` and `play_pattern_timed`. After the Sonic Pi tutorial, chapter 8; kinds, faults and costs are own.
--
-- All faults but `overflow` come before the first note. `overflow` comes at the rest that does not fit.
use Rattle.std.specs.Prelude.{ℕ, pos, List, [], ◌∷◌, length, map, ◌||◌, not, nat_eq, nat_lt, is_some, Option, Result, Ok}
use Rattle.std.specs.List.{list_all, zip}
use Rattle.vt_frac.specs.Fraction.{Fraction, whole}
use Rattle.vt_ring.specs.Answers.{and_then, all_of}
use Rattle.vt_ring.specs.Called.{demand}
use Rattle.vt_ring.specs.Exact.{is_negative}
use Rattle.vt_ring.specs.Signatures.{a_ring, number_argument, ring_argument, two_of}
use Rattle.vt_value.specs.declared.fault.FaultKind.{FaultKind}
use Rattle.vt_value.specs.declared.fault.FaultKind.TheVariants.{BadValue, EmptyRing, WrongKind}
use Rattle.vt_value.specs.declared.value.Value.{Value}
use Rattle.vt_value.specs.declared.value.Value.TheVariants.{Nil}
use Rattle.vt_value.specs.Kinds.{number_of, ring_of}
use Rattle.vt_event.specs.Pairs.{Pairs}
use Rattle.vt_run.specs.declared.state.State.{State}
use Rattle.vt_run.specs.Actions.{emits_all, or_fails, rests}
use Rattle.vt_run.specs.calls.Arguments.{Given, all_args, each_of, items_round}
use Rattle.vt_run.specs.calls.PlayCalls.{notes_asked, plays_notes}
use Rattle.vt_run.specs.calls.TimeCalls.{rest_of}
use Rattle.vt_run.specs.Environment.{Env, Meaning}
use Rattle.vt_run.specs.Evaluation.{Ran, Spot, gives, after, tick}

-- an item of a pattern: the notes that it plays at once, and the beats of the rest behind them
abbrev pub Item : Type 0
Item = List (Option Value) × Fraction

-- the items one after another, each as `play` of it with these options and a `sleep`; the value is nil
abbrev pub plays_items : List Item → Pairs → Env → Spot → State → Ran
plays_items [] options env at st = gives Nil st
plays_items (item ∷ items) options env at st =
    tick
    (emits_all (plays_notes options st.settings item.0) env st (λ st.
    or_fails (rest_of st item.1) env at st (λ seconds.
    after (rests seconds env st) (λ value st. plays_items items options env at st))))

-- `r`: each item with a rest of one beat
abbrev pub even_items : Given → Result (List Item) FaultKind
even_items given =
    and_then (a_ring (all_args given)) (λ ring.
    and_then (all_of (map notes_asked ring)) (λ asked.
    and_then (all_of (map all_of asked)) (λ notes.
    Ok (map (λ played. (played, whole (pos 1))) notes))))

-- `play_pattern r`, with any options
unfoldable pub play_pattern_call : Given → Meaning
play_pattern_call given env at st = or_fails (even_items given) env at st (λ items. plays_items items given.options env at st)

-- so many numbers of beats: a number again and again, or those items of a ring that are needed, gone through again and again
abbrev pub beats_round : ℕ → Value → Result (List Fraction) FaultKind
beats_round n value =
    demand (is_some (number_of value) || is_some (ring_of value)) WrongKind
    (all_of (map number_argument (items_round n (each_of value))))

-- `r, V`: each item with a rest of V beats, or of the beats that V has for it
abbrev pub timed_items : Given → Result (List Item) FaultKind
timed_items given =
    and_then (two_of (all_args given)) (λ (r, times).
    and_then (ring_argument r) (λ ring.
    and_then (all_of (map notes_asked ring)) (λ asked.
    and_then (beats_round (length ring) times) (λ beats.
    and_then (all_of (map all_of asked)) (λ notes.
    demand (list_all (λ n. not (is_negative n)) beats) BadValue
    (demand (nat_eq (length ring) 0 || nat_lt 0 (length (each_of times))) EmptyRing
    (Ok (zip notes beats))))))))

-- `play_pattern_timed r, V`, with any options
unfoldable pub play_pattern_timed_call : Given → Meaning
play_pattern_timed_call given env at st = or_fails (timed_items given) env at st (λ items. plays_items items given.options env at st)
