-- The numbers of `range` and `line` by their indices. The project's own.
use Rattle.std.specs.Prelude.{ℕ, ◌≤◌, List, map, Bool, true, false, Result, Ok}
use Rattle.vt_frac.specs.Fraction.{Fraction}
use Rattle.vt_value.specs.declared.fault.FaultKind.{FaultKind}
use Rattle.vt_value.specs.declared.value.Value.{Value}
use Rattle.vt_ring.specs.Answers.{and_then, all_of}
use Rattle.vt_ring.specs.Building.{line_number, number_value, range_number}
use Rattle.vt_ring.specs.Items.{indices}
use Rattle.vt_ring.specs.declared.series.Series.{Series}
use Rattle.vt_ring.specs.declared.series.Series.TheVariants.{Upwards, Downwards, Line}

abbrev pub series_number : Series → ℕ → Result Fraction FaultKind
series_number (Upwards start step) i = range_number start step false i
series_number (Downwards start step) i = range_number start step true i
series_number (Line start way steps) i = line_number start way steps i

-- its first numbers
abbrev pub series_numbers : Series → ℕ → Result (List Fraction) FaultKind
series_numbers series count = all_of (map (series_number series) (indices count))

-- the same as values
abbrev pub series_values : Series → ℕ → Bool → Result (List Value) FaultKind
series_values series count wholes = and_then (series_numbers series count) (λ numbers. Ok (map (number_value wholes) numbers))

abbrev pub range_series : Fraction → Fraction → Bool → Series
range_series start step true = Downwards start step
range_series start step false = Upwards start step

-- a line has 1 to 4,096 steps
abbrev pub HasSteps : Series → Type 0
HasSteps (Upwards start step) = Unit {0}
HasSteps (Downwards start step) = Unit {0}
HasSteps (Line start way steps) = (1 ≤ steps) × (steps ≤ 4096)
