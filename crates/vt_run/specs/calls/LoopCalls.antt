-- The calls that run a block in turns: `loop`, `times`, `each`, `map` and `density`. After the Sonic Pi tutorial, chapter 5, and Ruby; that a turn of a loop must rest or wait is after Sonic Pi, its fault and the costs are own.
use Rattle.std.specs.Prelude.{ℕ, zero, suc, ℤ, pos, negsuc, List, [], ◌∷◌, map, false, cond, Option, Result, Ok}
use Rattle.vt_frac.specs.Fraction.{Fraction, whole}
use Rattle.vt_ring.specs.Answers.{and_then}
use Rattle.vt_ring.specs.Arguments.{between}
use Rattle.vt_ring.specs.Exact.{exact_product}
use Rattle.vt_ring.specs.Items.{indices}
use Rattle.vt_ring.specs.Signatures.{a_ring, a_whole}
use Rattle.vt_value.specs.declared.fault.FaultKind.{FaultKind}
use Rattle.vt_value.specs.declared.fault.FaultKind.TheVariants.{NoSleep}
use Rattle.vt_value.specs.declared.value.Value.{Value}
use Rattle.vt_value.specs.declared.value.Value.TheVariants.{Nil, Ring, Whole}
use Rattle.vt_value.specs.Arithmetic.{ring_within}
use Rattle.vt_run.specs.declared.state.State.{State}
use Rattle.vt_run.specs.Actions.{fails, or_fails}
use Rattle.vt_run.specs.calls.Arguments.{Given, all_args}
use Rattle.vt_run.specs.Environment.{Env, Meaning}
use Rattle.vt_run.specs.Scopes.{BlockMeaning, runs}
use Rattle.vt_run.specs.calls.SettingCalls.{set_back, with_block, with_bpm}
use Rattle.vt_run.specs.Evaluation.{Ran, Spot, gives, halts, after, tick}

-- as a turn begins
abbrev pub turn_begun : State → State
turn_begun st = record st { moved = false }

-- at the end of a turn: no_sleep where it neither rested for a positive time nor waited
abbrev pub unless_idle : Env → Spot → State → (State → Ran) → Ran
unless_idle env at st go = cond st.moved (go st) (fails NoSleep env at st)

-- at most so many turns of a loop, which leaves nothing
abbrev pub loops : ℕ → BlockMeaning → Meaning
loops zero block env at st = halts
loops (suc n) block env at st =
    tick (after (runs block [] env at (turn_begun st)) (λ value end. unless_idle env at end (loops n block env at)))

-- `loop do`
unfoldable pub loop_call : Given → Option BlockMeaning → Meaning
loop_call given block env at st = with_block block env at st (λ block. loops env.turns block env at st)

-- a turn for each of these values, which is the block's parameter; then what comes next of the values that the turns have
abbrev pub turns_over : List Value → BlockMeaning → Env → Spot → State → (List Value → State → Ran) → Ran
turns_over [] block env at st go = go [] st
turns_over (item ∷ items) block env at st go =
    tick (after (runs block (item ∷ []) env at st) (λ value st. turns_over items block env at st (λ values st. go (value ∷ values) st)))

-- 0, 1, 2 and so on, n numbers; none where n is below 1
abbrev pub numbers_below : ℤ → List Value
numbers_below (pos n) = map (λ i. Whole (pos i)) (indices n)
numbers_below (negsuc n) = []

-- `n.times do |i|`: gives n
unfoldable pub times_call : Given → Option BlockMeaning → Meaning
times_call given block env at st =
    with_block block env at st (λ block.
    or_fails (a_whole (all_args given)) env at st (λ n.
    turns_over (numbers_below n) block env at st (λ values st. gives (Whole n) st)))

-- `r.each do |x|`: gives r
unfoldable pub each_call : Given → Option BlockMeaning → Meaning
each_call given block env at st =
    with_block block env at st (λ block.
    or_fails (a_ring (all_args given)) env at st (λ items.
    turns_over items block env at st (λ values st. gives (Ring items) st)))

-- `r.map do |x|`: the ring of the block's values
unfoldable pub map_call : Given → Option BlockMeaning → Meaning
map_call given block env at st =
    with_block block env at st (λ block.
    or_fails (a_ring (all_args given)) env at st (λ items.
    turns_over items block env at st (λ values st. or_fails (ring_within values) env at st (λ ring. gives ring st))))

-- a density from 1 to 64, and the tempo that is so many times this one
abbrev pub density_of : Given → Fraction → Result (ℕ × Fraction) FaultKind
density_of given bpm =
    and_then (a_whole (all_args given)) (λ number.
    and_then (between 1 64 number) (λ n.
    and_then (exact_product bpm (whole (pos n))) (λ faster.
    Ok (n, faster))))

-- `density n do |i|`: the block n times at n times the tempo, with 0 to n - 1 as its parameter; then the tempo is set back
unfoldable pub density_call : Given → Option BlockMeaning → Meaning
density_call given block env at st =
    with_block block env at st (λ block.
    or_fails (density_of given st.settings.bpm) env at st (λ (n, faster).
    set_back (with_bpm st.settings.bpm) (turns_over (numbers_below (pos n)) block env at (with_bpm faster st) (λ values st. gives Nil st))))
