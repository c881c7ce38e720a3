-- The pure and random calls. The project's own.
use Rattle.std.specs.Prelude.{◌≡◌, ℕ, List, Option, Some, None, false, Ok, Err, slice_get}
use Rattle.std.specs.Option.{option_map}
use Rattle.vt_rand.specs.Draw.{RandomStream}
use Rattle.vt_table.specs.Calls.{calls}
use Rattle.vt_table.specs.declared.calls.CallName.{CallName}
use Rattle.vt_table.specs.declared.calls.CallName.TheVariants.{Abs, Bools, Butlast, Ceil, Choose, Chord, ChordInvert, Count, Dec, Degree, Dice, Drop, DropLast, Even, First, Floor, Inc, Knit, Last, Length, Line, Max, Min, Mirror, Note, Octs, Odd, OneIn, Pick, Rand, RandI, Range, Reflect, Repeat, Reverse, Ring, Rotate, Round, Rrand, RrandI, Scale, Shuffle, Size, Sort, Spread, Stretch, Sum, Take, TakeLast}
use Rattle.vt_value.specs.declared.fault.FaultKind.TheVariants.{UnknownName}
use Rattle.vt_value.specs.declared.value.Value.{Value}
use Rattle.vt_value.specs.Limits.{IsWithin, AreWithin}
use Rattle.vt_ring.specs.Called.{Called, undrawn}
use Rattle.vt_ring.specs.Signatures.{Options}
use Rattle.vt_ring.specs.Streams.{words_from}
use Rattle.vt_ring.specs.CountCalls.{count_call, length_call, size_call, sort_call, sum_call}
use Rattle.vt_ring.specs.MakeCalls.{bools_call, knit_call, line_call, range_call, ring_call, spread_call}
use Rattle.vt_ring.specs.NoteCalls.{chord_call, chord_invert_call, degree_call, note_call, octs_call, scale_call}
use Rattle.vt_ring.specs.NumberCalls.{abs_call, ceil_call, dec_call, even_call, floor_call, inc_call, max_call, min_call, odd_call, round_call}
use Rattle.vt_ring.specs.PartCalls.{butlast_call, drop_call, drop_last_call, first_call, last_call, mirror_call, reflect_call, repeat_call, reverse_call, rotate_call, stretch_call, take_call, take_last_call}
use Rattle.vt_ring.specs.RandomCalls.{choose_call, dice_call, one_in_call, pick_call, rand_call, rand_i_call, rrand_call, rrand_i_call, shuffle_call}

-- The row with this number is that of a call without effects.
abbrev pub IsPureOrRandom : ℕ → Type 0
IsPureOrRandom number = option_map (λ row. row.effect) (slice_get calls number) ≡ Some false

-- What a call comes to, by its arguments, its options and the words of its stream from where it stands. The calls with effects are none of these.
unfoldable pub value_of_call : CallName → List Value → Options → (ℕ → ℕ) → Called
value_of_call Abs args options words = undrawn (abs_call args)
value_of_call Bools args options words = undrawn (bools_call args)
value_of_call Butlast args options words = undrawn (butlast_call args)
value_of_call Ceil args options words = undrawn (ceil_call args)
value_of_call Choose args options words = choose_call args words
value_of_call Chord args options words = undrawn (chord_call args)
value_of_call ChordInvert args options words = undrawn (chord_invert_call args)
value_of_call Count args options words = undrawn (count_call args)
value_of_call Dec args options words = undrawn (dec_call args)
value_of_call Degree args options words = undrawn (degree_call args)
value_of_call Dice args options words = dice_call args words
value_of_call Drop args options words = undrawn (drop_call args)
value_of_call DropLast args options words = undrawn (drop_last_call args)
value_of_call Even args options words = undrawn (even_call args)
value_of_call First args options words = undrawn (first_call args)
value_of_call Floor args options words = undrawn (floor_call args)
value_of_call Inc args options words = undrawn (inc_call args)
value_of_call Knit args options words = undrawn (knit_call args)
value_of_call Last args options words = undrawn (last_call args)
value_of_call Length args options words = undrawn (length_call args)
value_of_call Line args options words = undrawn (line_call args options)
value_of_call Max args options words = undrawn (max_call args)
value_of_call Min args options words = undrawn (min_call args)
value_of_call Mirror args options words = undrawn (mirror_call args)
value_of_call Note args options words = undrawn (note_call args)
value_of_call Octs args options words = undrawn (octs_call args)
value_of_call Odd args options words = undrawn (odd_call args)
value_of_call OneIn args options words = one_in_call args words
value_of_call Pick args options words = pick_call args words
value_of_call Rand args options words = rand_call args words
value_of_call RandI args options words = rand_i_call args words
value_of_call Range args options words = undrawn (range_call args options)
value_of_call Reflect args options words = undrawn (reflect_call args)
value_of_call Repeat args options words = undrawn (repeat_call args)
value_of_call Reverse args options words = undrawn (reverse_call args)
value_of_call Ring args options words = undrawn (ring_call args)
value_of_call Rotate args options words = undrawn (rotate_call args)
value_of_call Round args options words = undrawn (round_call args)
value_of_call Rrand args options words = rrand_call args words
value_of_call RrandI args options words = rrand_i_call args words
value_of_call Scale args options words = undrawn (scale_call args options)
value_of_call Shuffle args options words = shuffle_call args words
value_of_call Size args options words = undrawn (size_call args)
value_of_call Sort args options words = undrawn (sort_call args)
value_of_call Spread args options words = undrawn (spread_call args)
value_of_call Stretch args options words = undrawn (stretch_call args)
value_of_call Sum args options words = undrawn (sum_call args)
value_of_call Take args options words = undrawn (take_call args)
value_of_call TakeLast args options words = undrawn (take_last_call args)
value_of_call _ args options words = undrawn (Err UnknownName)

-- Every value that a call gives is within the limits of the language, where its arguments are.
abbrev pub CallsGiveWithin : Type 0
CallsGiveWithin = (name : CallName) (args : List Value) (options : Options) (stream : RandomStream) (value : Value) → AreWithin args → (value_of_call name args options (words_from stream)).answer ≡ Ok value → IsWithin value

-- what the call comes to whose row has this number
abbrev pub value_of_row : Option CallName → List Value → Options → (ℕ → ℕ) → Called
value_of_row None args options words = undrawn (Err UnknownName)
value_of_row (Some name) args options words = value_of_call name args options words
