-- The items of patterns, without the silence among their notes: own.
use Rattle.std.specs.Prelude.{List}
use Rattle.vt_frac.specs.Fraction.{Fraction}
use Rattle.vt_value.specs.declared.value.Value.{Value}
use Rattle.vt_given.specs.Notes.{sounding}
use Rattle.vt_run.specs.calls.PatternCalls.{Item}

-- an item of a pattern: its notes that sound, and the beats of the rest behind them
abbrev pub sounding_item : Item → List Value × Fraction
sounding_item item = (sounding item.0, item.1)
