-- What a call does with its block, turn by turn. The project's own.
use Rattle.std.specs.Prelude.{◌≡◌, ◌⊎◌, ◌<◌, ℕ, ◌+◌, ◌-◌, ℤ, pos, negsuc, List, [], ◌∷◌, ◌++◌, drop, length, map, Bool, true, false, Option, Some, None}
use Rattle.vt_frac.specs.Fraction.{Fraction}
use Rattle.vt_ring.specs.Items.{indices}
use Rattle.vt_value.specs.declared.value.Value.{Value}
use Rattle.vt_value.specs.declared.value.Value.TheVariants.{Nil, Ring, Whole}
use Rattle.vt_value.specs.Arithmetic.{ring_within}
use Rattle.vt_run.specs.declared.state.State.{State}
use Rattle.vt_run.specs.Actions.{or_fails}
use Rattle.vt_run.specs.calls.LoopCalls.{loops, turns_over, unless_idle}
use Rattle.vt_run.specs.calls.SettingCalls.{with_bpm, with_fx, with_stream, with_synth}
use Rattle.vt_run.specs.Environment.{Env, Meaning}
use Rattle.vt_run.specs.Evaluation.{Ran, Spot, after, gives}
use Rattle.vt_run.specs.Notes.{IsOver, Notes}
use Rattle.vt_run.specs.Scopes.{BlockMeaning, runs}
use Rattle.vt_eval_steps.specs.declared.turns.Before.{Before}
use Rattle.vt_eval_steps.specs.declared.turns.Before.TheVariants as before
use Rattle.vt_eval_steps.specs.declared.turns.Turns.{Turns}
use Rattle.vt_eval_steps.specs.declared.turns.Turns.TheVariants.{Once, Loop, Times, Density, Each, Map}
use Rattle.vt_eval_steps.specs.Making.{Makes}

-- the state with that set back
abbrev pub set_to : Before → State → State
set_to (before.Synth name) st = with_synth name st
set_to (before.Bpm bpm) st = with_bpm bpm st
set_to (before.Random stream) st = with_stream stream st
set_to (before.Effect fx) st = with_fx fx st

-- the numbers from this one on, below that one
abbrev pub numbers_from : ℕ → ℕ → List Value
numbers_from next end = map (λ i. Whole (pos i)) (drop next (indices end))

-- how many turns a number makes: none where it is below 0
abbrev pub count_of : ℤ → ℕ
count_of (pos n) = n
count_of (negsuc n) = 0

-- how many turns of a loop are left: one more than the number, if there is one
abbrev pub loops_left : Option ℕ → ℕ
loops_left None = 0
loops_left (Some n) = n + 1

-- what is left to do with a block
abbrev pub turns_run : Turns → BlockMeaning → Meaning
turns_run (Once before false) block env at st = after (runs block [] env at st) (λ value end. gives Nil (set_to before end))
turns_run (Once before true) block env at st = gives Nil (set_to before st)
turns_run (Loop left) block env at st = loops (loops_left left) block env at st
turns_run (Times next number) block env at st = turns_over (numbers_from next (count_of number)) block env at st (λ values st. gives (Whole number) st)
turns_run (Density next end bpm) block env at st = turns_over (numbers_from next end) block env at st (λ values st. gives Nil (with_bpm bpm st))
turns_run (Each items ring) block env at st = turns_over items.now block env at st (λ values st. gives (Ring ring.now) st)
turns_run (Map items values) block env at st = turns_over items.now block env at st (λ later st. or_fails (ring_within (values ++ later)) env at st (λ ring. gives ring st))

-- what is left to do behind a turn, by its value
abbrev pub turn_ends : Turns → Value → BlockMeaning → Meaning
turn_ends (Loop left) value block env at st = unless_idle env at st (loops (loops_left left) block env at)
turn_ends (Map items values) value block env at st = turns_run (Map items (values ++ value ∷ [])) block env at st
turn_ends turns value block env at st = turns_run turns block env at st

-- how many turns are left
abbrev pub turns_left : Turns → ℕ
turns_left (Once before false) = 1
turns_left (Once before true) = 0
turns_left (Loop left) = loops_left left
turns_left (Times next number) = count_of number - next
turns_left (Density next end bpm) = end - next
turns_left (Each items ring) = length items.now
turns_left (Map items values) = length items.now

-- A turn begins, with these values for the parameters of the block; or there is none, or nothing more is noted.
abbrev pub Begins : Option (List Value) → Turns → State → Notes → Turns → State → Notes → Type 0
Begins (Some values) old st notes new end after_notes =
    ((block : BlockMeaning) (env : Env) (at : Spot) → Makes (turns_run old block env at st) notes (after (runs block values env at end) (λ value end. turn_ends new value block env at end)) after_notes) × (turns_left new < turns_left old)
Begins None old st notes new end after_notes =
    ((block : BlockMeaning) (env : Env) (at : Spot) → Makes (turns_run old block env at st) notes (turns_run new block env at end) after_notes) × (IsOver after_notes ⊎ (turns_left new ≡ 0))

-- what comes of the calls that run a block: it is what is left to do with it
abbrev pub IsBegunBy : (Option BlockMeaning → Meaning) → Option Turns → Spot → Env → State → Notes → State → Notes → Type 0
IsBegunBy call None at env st notes end new = (block : BlockMeaning) (to : Ran) → Makes (call (Some block) env at st) notes to new
IsBegunBy call (Some turns) at env st notes end new = (block : BlockMeaning) → Makes (call (Some block) env at st) notes (turns_run turns block env at end) new
