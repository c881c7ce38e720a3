-- The calls `tick`, `look`, `tick_set` and `tick_reset`. After the Sonic Pi tutorial, chapter 9; exact numbers, kinds and faults are own.
use Rattle.std.specs.Prelude.{ℕ, ℤ, pos, negsuc, ◌+ℤ◌, List, [], ◌∷◌, ◌++◌, filter, find, not, codes, bytes_eq, Option, Some, None, unwrap_or, Result, Ok, Err}
use Rattle.std.specs.Option.{option_map}
use Rattle.vt_ring.specs.Answers.{and_then}
use Rattle.vt_ring.specs.Arguments.{whole_argument}
use Rattle.vt_ring.specs.Called.{demand}
use Rattle.vt_ring.specs.Items.{item_at}
use Rattle.vt_ring.specs.Signatures.{one_or_none_of, symbol_argument}
use Rattle.vt_value.specs.declared.fault.FaultKind.{FaultKind}
use Rattle.vt_value.specs.declared.fault.FaultKind.TheVariants.{EmptyRing, WrongCount}
use Rattle.vt_value.specs.declared.value.Value.{Value}
use Rattle.vt_value.specs.declared.value.Value.TheVariants.{Whole}
use Rattle.vt_value.specs.Arithmetic.{fitting}
use Rattle.vt_run.specs.declared.state.State.{State}
use Rattle.vt_run.specs.calls.Arguments.{Given, all_args, has_item, ring_if_given}
use Rattle.vt_run.specs.calls.Deeds.{Deed, changed_to, valued}

-- counters, each its name and its number
abbrev pub Counters : Type 0
Counters = List (List ℕ × ℤ)

-- the number of a counter, if it has ticked
abbrev pub counter_of : List ℕ → Counters → Option ℤ
counter_of name ticks = option_map (λ (counter : List ℕ × ℤ). counter.1) (find (λ (counter : List ℕ × ℤ). bytes_eq counter.0 name) ticks)

-- the other counters
abbrev pub without_counter : List ℕ → Counters → Counters
without_counter name ticks = filter (λ (counter : List ℕ × ℤ). not (bytes_eq counter.0 name)) ticks

-- a counter with this number, behind the others
abbrev pub with_counter : List ℕ → ℤ → Counters → Counters
with_counter name number ticks = without_counter name ticks ++ (name, number) ∷ []

-- the name of a counter: a symbol, or `default` where none is given
abbrev pub counter_name : Option Value → Result (List ℕ) FaultKind
counter_name None = Ok (codes "default")
counter_name (Some value) = symbol_argument value

-- the number, or the ring's item at it
abbrev pub counted : Option (List Value) → ℤ → Result Value FaultKind
counted None number = Ok (Whole number)
counted (Some items) number = item_at items number

-- the ring before the dot, and the name of the counter: kinds before an empty ring
abbrev pub ring_and_counter : Given → Result (Option (List Value) × List ℕ) FaultKind
ring_and_counter given =
    and_then (one_or_none_of given.args) (λ named.
    and_then (ring_if_given given.receiver) (λ ring.
    and_then (counter_name named) (λ name.
    demand (has_item ring) EmptyRing (Ok (ring, name)))))

-- `tick`, `tick :x`, `r.tick`, `r.tick(:x)`: the counter is one higher, from -1 before the first tick
unfoldable pub tick_call : Given → State → Result Deed FaultKind
tick_call given st =
    and_then (ring_and_counter given) (λ (ring, name).
    and_then (fitting (unwrap_or (counter_of name st.ticks) (negsuc 0) +ℤ pos 1)) (λ number.
    and_then (counted ring number) (λ value.
    Ok (valued (record st { ticks = with_counter name number st.ticks }) value))))

-- `look`, in the same four ways: the counter as it is, 0 before the first tick
unfoldable pub look_call : Given → State → Result Deed FaultKind
look_call given st =
    and_then (ring_and_counter given) (λ (ring, name).
    and_then (counted ring (unwrap_or (counter_of name st.ticks) (pos 0))) (λ value.
    Ok (valued st value)))

-- a number for the counter `default`, or a name and a number
abbrev pub counter_and_number : List Value → Result (List ℕ × ℤ) FaultKind
counter_and_number (number ∷ []) = and_then (whole_argument number) (λ n. Ok (codes "default", n))
counter_and_number (counter ∷ number ∷ []) =
    and_then (symbol_argument counter) (λ name.
    and_then (whole_argument number) (λ n.
    Ok (name, n)))
counter_and_number _ = Err WrongCount

-- `tick_set n`, `tick_set :x, n`
unfoldable pub tick_set_call : Given → State → Result Deed FaultKind
tick_set_call given st =
    and_then (counter_and_number (all_args given)) (λ (name, number).
    Ok (changed_to (record st { ticks = with_counter name number st.ticks })))

-- `tick_reset`, `tick_reset :x`: the counter is as before its first tick
unfoldable pub tick_reset_call : Given → State → Result Deed FaultKind
tick_reset_call given st =
    and_then (one_or_none_of (all_args given)) (λ named.
    and_then (counter_name named) (λ name.
    Ok (changed_to (record st { ticks = without_counter name st.ticks }))))
