-- The calls of the language.
use Rattle.std.specs.Prelude.{ℕ, Bool, true, false, Option, List, [], ◌∷◌, map, codes, slice_get, option_and_then}
use Rattle.std.specs.Option.{option_map}
use denote.Enum.Declared.{tag_of}
use Rattle.vt_table.specs.declared.calls.CallName.{CallName}
use Rattle.vt_table.specs.declared.calls.CallName.TheVariants.{Abs, At, Bools, Butlast, Ceil, Choose, Chord, ChordInvert, Count, Cue, CurrentBpm, Dec, Define, Degree, Density, Dice, Drop, DropLast, Each, Even, First, Floor, Get, InThread, Inc, Knit, Last, Length, Line, LiveLoop, Look, Loop, Map, Max, Min, Mirror, Note, Octs, Odd, OneIn, Pick, Play, PlayPattern, PlayPatternTimed, Print, Puts, Rand, RandI, Range, Reflect, Repeat, Reverse, Ring, Rotate, Round, Rrand, RrandI, Rt, Sample, Scale, Set, Shuffle, Size, Sleep, Sort, Spread, Stop, Stretch, Sum, Sync, Synth, Take, TakeLast, Tick, TickReset, TickSet, Times, UseBpm, UseDebug, UseRandomSeed, UseSynth, UseSynthDefaults, Vt, Wait, WithBpm, WithFx, WithRandomSeed, WithSynth}
use Rattle.vt_table.specs.contracts.calls.CallName.{the_type}
use Rattle.vt_table.specs.declared.calls.Need.{Need}
use Rattle.vt_table.specs.declared.calls.Need.TheVariants.{None as Without, Must}
use Rattle.vt_table.specs.declared.calls.CallRow.{CallRow}
use Rattle.vt_table.specs.Names.{row_of}

-- a row of the table: the name of a call, the call, and how a text may write it
pub record Row : Type 0 where
  -- the name in a text
  pub name : List ℕ
  pub call : CallName
  -- the least and the greatest count of positional arguments; the receiver of a dot counts as the first
  pub least : ℕ
  pub most : ℕ
  -- whether a block stands after it
  pub block : Need
  -- whether it may be called with a dot
  pub dot : Bool
  -- whether it has effects; the other calls are pure, or draw random words
  pub effect : Bool

-- the row of a call, by its parts in this order
abbrev pub call : List ℕ → CallName → ℕ → ℕ → Need → Bool → Bool → Row
call name which least most block dot effect = record { name = name; call = which; least = least; most = most; block = block; dot = dot; effect = effect }

-- the greatest count that stands for any number
abbrev pub any : ℕ
any = 255

-- Every call of the language, in the order of the bytes of the names: the name, the call, the least and the greatest
-- count, the block, dot, effect. `tick` and `look` have a receiver and a name with a dot, and a name at most without.
-- (The names are after Sonic Pi and Ruby; what each takes is own.)
unfoldable pub calls : List Row
calls =
    call (codes "abs") Abs 1 1 Without true false ∷
    call (codes "at") At 1 2 Must false true ∷
    call (codes "bools") Bools 0 any Without true false ∷
    call (codes "butlast") Butlast 1 1 Without true false ∷
    call (codes "ceil") Ceil 1 1 Without true false ∷
    call (codes "choose") Choose 1 1 Without true false ∷
    call (codes "chord") Chord 2 2 Without true false ∷
    call (codes "chord_invert") ChordInvert 2 2 Without true false ∷
    call (codes "count") Count 1 1 Without true false ∷
    call (codes "cue") Cue 1 any Without false true ∷
    call (codes "current_bpm") CurrentBpm 0 0 Without false true ∷
    call (codes "dec") Dec 1 1 Without true false ∷
    call (codes "define") Define 1 1 Must false true ∷
    call (codes "degree") Degree 3 3 Without true false ∷
    call (codes "density") Density 1 1 Must false true ∷
    call (codes "dice") Dice 0 1 Without true false ∷
    call (codes "drop") Drop 2 2 Without true false ∷
    call (codes "drop_last") DropLast 2 2 Without true false ∷
    call (codes "each") Each 1 1 Must true true ∷
    call (codes "even") Even 1 1 Without true false ∷
    call (codes "first") First 1 1 Without true false ∷
    call (codes "floor") Floor 1 1 Without true false ∷
    call (codes "get") Get 1 1 Without false true ∷
    call (codes "in_thread") InThread 0 0 Must false true ∷
    call (codes "inc") Inc 1 1 Without true false ∷
    call (codes "knit") Knit 0 any Without true false ∷
    call (codes "last") Last 1 1 Without true false ∷
    call (codes "length") Length 1 1 Without true false ∷
    call (codes "line") Line 2 2 Without true false ∷
    call (codes "live_loop") LiveLoop 1 1 Must false true ∷
    call (codes "look") Look 0 2 Without true true ∷
    call (codes "loop") Loop 0 0 Must false true ∷
    call (codes "map") Map 1 1 Must true true ∷
    call (codes "max") Max 2 2 Without true false ∷
    call (codes "min") Min 2 2 Without true false ∷
    call (codes "mirror") Mirror 1 1 Without true false ∷
    call (codes "note") Note 1 1 Without true false ∷
    call (codes "octs") Octs 2 2 Without true false ∷
    call (codes "odd") Odd 1 1 Without true false ∷
    call (codes "one_in") OneIn 1 1 Without true false ∷
    call (codes "pick") Pick 1 2 Without true false ∷
    call (codes "play") Play 1 1 Without false true ∷
    call (codes "play_pattern") PlayPattern 1 1 Without false true ∷
    call (codes "play_pattern_timed") PlayPatternTimed 2 2 Without false true ∷
    call (codes "print") Print 0 16 Without false true ∷
    call (codes "puts") Puts 0 16 Without false true ∷
    call (codes "rand") Rand 0 1 Without true false ∷
    call (codes "rand_i") RandI 1 1 Without true false ∷
    call (codes "range") Range 2 3 Without true false ∷
    call (codes "reflect") Reflect 1 1 Without true false ∷
    call (codes "repeat") Repeat 2 2 Without true false ∷
    call (codes "reverse") Reverse 1 1 Without true false ∷
    call (codes "ring") Ring 0 any Without true false ∷
    call (codes "rotate") Rotate 1 2 Without true false ∷
    call (codes "round") Round 1 1 Without true false ∷
    call (codes "rrand") Rrand 2 2 Without true false ∷
    call (codes "rrand_i") RrandI 2 2 Without true false ∷
    call (codes "rt") Rt 1 1 Without false true ∷
    call (codes "sample") Sample 1 1 Without false true ∷
    call (codes "scale") Scale 2 2 Without true false ∷
    call (codes "set") Set 2 2 Without false true ∷
    call (codes "shuffle") Shuffle 1 1 Without true false ∷
    call (codes "size") Size 1 1 Without true false ∷
    call (codes "sleep") Sleep 1 1 Without false true ∷
    call (codes "sort") Sort 1 1 Without true false ∷
    call (codes "spread") Spread 2 2 Without true false ∷
    call (codes "stop") Stop 0 0 Without false true ∷
    call (codes "stretch") Stretch 2 2 Without true false ∷
    call (codes "sum") Sum 1 1 Without true false ∷
    call (codes "sync") Sync 1 1 Without false true ∷
    call (codes "synth") Synth 1 1 Without false true ∷
    call (codes "take") Take 2 2 Without true false ∷
    call (codes "take_last") TakeLast 2 2 Without true false ∷
    call (codes "tick") Tick 0 2 Without true true ∷
    call (codes "tick_reset") TickReset 0 1 Without false true ∷
    call (codes "tick_set") TickSet 1 2 Without false true ∷
    call (codes "times") Times 1 1 Must true true ∷
    call (codes "use_bpm") UseBpm 1 1 Without false true ∷
    call (codes "use_debug") UseDebug 1 1 Without false true ∷
    call (codes "use_random_seed") UseRandomSeed 1 1 Without false true ∷
    call (codes "use_synth") UseSynth 1 1 Without false true ∷
    call (codes "use_synth_defaults") UseSynthDefaults 0 0 Without false true ∷
    call (codes "vt") Vt 0 0 Without false true ∷
    call (codes "wait") Wait 1 1 Without false true ∷
    call (codes "with_bpm") WithBpm 1 1 Must false true ∷
    call (codes "with_fx") WithFx 1 1 Must false true ∷
    call (codes "with_random_seed") WithRandomSeed 1 1 Must false true ∷
    call (codes "with_synth") WithSynth 1 1 Must false true ∷
    []

-- the names of rows, in their order
abbrev pub names_of : List Row → List (List ℕ)
names_of rows = map (λ row. row.name) rows

-- the number of a call: its place in the order of the names, from 0 (own)
abbrev pub number_of : CallName → ℕ
number_of which = tag_of the_type which

-- the call whose row has this number, if there is one
abbrev pub call_at : ℕ → Option CallName
call_at number = option_map (λ row. row.call) (slice_get calls number)

-- what callers see of a row
abbrev pub as_row : ℕ → Row → CallRow
as_row number row = record { number = number; least = row.least; most = row.most; block = row.block; dot = row.dot; effect = row.effect }

-- what the row with this number says of its call, if there is one
abbrev pub call_row_at : ℕ → Option CallRow
call_row_at number = option_map (as_row number) (slice_get calls number)

-- the call of this name; None where no call has the name
abbrev pub call_named : List ℕ → Option CallName
call_named name = option_and_then call_at (row_of (names_of calls) name)

-- what the table says of the call of this name; None where no call has the name
abbrev pub call_row : List ℕ → Option CallRow
call_row name = option_and_then call_row_at (row_of (names_of calls) name)
