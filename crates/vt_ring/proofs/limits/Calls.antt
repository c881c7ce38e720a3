-- What each pure or random call gives is within the limits of the language, where its arguments are.
use Rattle.std.specs.Result.{IfOk}
use Rattle.std.proofs.Common.{ℕ, List}
use Rattle.std.proofs.lemmas.Result.{IfOk-at_ok}
use Rattle.vt_table.specs.declared.calls.CallName.{CallName}
use Rattle.vt_table.specs.declared.calls.CallName.TheVariants as call
use Rattle.vt_value.specs.declared.value.Value.{Value}
use Rattle.vt_value.specs.Limits.{IsWithin, AreWithin}
use Rattle.vt_ring.specs.CallTable.{CallsGiveWithin, value_of_call}
use Rattle.vt_ring.specs.Signatures.{Options}
use Rattle.vt_ring.specs.Streams.{words_from}
use Rattle.vt_ring.proofs.limits.MakeCalls.{bools_give, knit_gives, line_gives, range_gives, ring_call_gives, spread_gives}
use Rattle.vt_ring.proofs.limits.NoteCalls.{chord_gives, chord_invert_gives, degree_gives, note_gives, octs_gives, scale_gives}
use Rattle.vt_ring.proofs.limits.NumberCalls.{abs_gives, ceil_gives, dec_gives, even_gives, floor_gives, inc_gives, max_gives, min_gives, odd_gives, round_gives}
use Rattle.vt_ring.proofs.limits.PartCalls.{butlast_gives, count_gives, drop_gives, drop_last_gives, first_gives, last_gives, length_gives, mirror_gives, reflect_gives, repeat_gives, reverse_gives, rotate_gives, size_gives, sort_gives, stretch_gives, sum_call_gives, take_gives, take_last_gives}
use Rattle.vt_ring.proofs.limits.RandomCalls.{AreWords, choose_gives, dice_gives, one_in_gives, pick_gives, rand_gives, rand_i_gives, rrand_gives, rrand_i_gives, shuffle_gives, stream_words}

-- whatever the options are
pub called_gives : (which : CallName) (args : List Value) (options : Options) (words : ℕ → ℕ) → AreWords words → AreWithin args → IfOk (value_of_call which args options words).answer IsWithin
unfolding value_of_call
called_gives call.Abs args options words w h = abs_gives args h
called_gives call.Bools args options words w h = bools_give args
called_gives call.Butlast args options words w h = butlast_gives args h
called_gives call.Ceil args options words w h = ceil_gives args h
called_gives call.Choose args options words w h = choose_gives args words h
called_gives call.Chord args options words w h = chord_gives args h
called_gives call.ChordInvert args options words w h = chord_invert_gives args h
called_gives call.Count args options words w h = count_gives args h
called_gives call.Dec args options words w h = dec_gives args h
called_gives call.Degree args options words w h = degree_gives args h
called_gives call.Dice args options words w h = dice_gives args words w
called_gives call.Drop args options words w h = drop_gives args h
called_gives call.DropLast args options words w h = drop_last_gives args h
called_gives call.Even args options words w h = even_gives args
called_gives call.First args options words w h = first_gives args h
called_gives call.Floor args options words w h = floor_gives args h
called_gives call.Inc args options words w h = inc_gives args h
called_gives call.Knit args options words w h = knit_gives args h
called_gives call.Last args options words w h = last_gives args h
called_gives call.Length args options words w h = length_gives args h
called_gives call.Line args options words w h = line_gives args options
called_gives call.Max args options words w h = max_gives args h
called_gives call.Min args options words w h = min_gives args h
called_gives call.Mirror args options words w h = mirror_gives args h
called_gives call.Note args options words w h = note_gives args h
called_gives call.Octs args options words w h = octs_gives args h
called_gives call.Odd args options words w h = odd_gives args
called_gives call.OneIn args options words w h = one_in_gives args words
called_gives call.Pick args options words w h = pick_gives args words h
called_gives call.Rand args options words w h = rand_gives args words
called_gives call.RandI args options words w h = rand_i_gives args words w
called_gives call.Range args options words w h = range_gives args options
called_gives call.Reflect args options words w h = reflect_gives args h
called_gives call.Repeat args options words w h = repeat_gives args h
called_gives call.Reverse args options words w h = reverse_gives args h
called_gives call.Ring args options words w h = ring_call_gives args h
called_gives call.Rotate args options words w h = rotate_gives args h
called_gives call.Round args options words w h = round_gives args h
called_gives call.Rrand args options words w h = rrand_gives args words
called_gives call.RrandI args options words w h = rrand_i_gives args words w h
called_gives call.Scale args options words w h = scale_gives args options h
called_gives call.Shuffle args options words w h = shuffle_gives args words h
called_gives call.Size args options words w h = size_gives args h
called_gives call.Sort args options words w h = sort_gives args h
called_gives call.Spread args options words w h = spread_gives args
called_gives call.Stretch args options words w h = stretch_gives args h
called_gives call.Sum args options words w h = sum_call_gives args h
called_gives call.Take args options words w h = take_gives args h
called_gives call.TakeLast args options words w h = take_last_gives args h
called_gives _ args options words w h = tt

pub called_within : CallsGiveWithin
called_within which args options stream value h e = IfOk-at_ok IsWithin e (called_gives which args options (words_from stream) (stream_words stream) h)
