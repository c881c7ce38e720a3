-- The limits of the language on what a value is: own.
use Rattle.std.specs.Prelude.{ℕ, ◌<◌, ◌≤◌, ◌^◌, unsigned_abs, List, length, IsTrue}
use Rattle.std.specs.List.{AllByRecursion}
use Rattle.vt_frac.specs.Fraction.{IsFraction}
use Rattle.vt_frac.specs.Names.{is_symbol_name}
use Rattle.vt_value.specs.declared.value.Value.{Value}
use Rattle.vt_value.specs.declared.value.Value.TheFolds.{every-Value}
use Rattle.vt_value.specs.declared.value.Value.TheOpen.{Value-F}
use Rattle.vt_value.specs.Arithmetic.{are_within}

-- one value, apart from its items: a whole number below 2^63 in size, a fraction in lowest terms whose parts fit, the name of a symbol, a text of at most 4,096 bytes, a ring of at most 4,096 items and a size of at most 65,536
abbrev pub WithinLayer : Value-F Value → Type 0
WithinLayer Value-F.Nil = Unit {0}
WithinLayer (Value-F.Bool b) = Unit {0}
WithinLayer (Value-F.Whole n) = unsigned_abs n < 2 ^ 63
WithinLayer (Value-F.Part f) = IsFraction f
WithinLayer (Value-F.Sym name) = IsTrue (is_symbol_name name)
WithinLayer (Value-F.Text bytes) = length bytes ≤ 4096
WithinLayer (Value-F.Ring items) = IsTrue (are_within items)

-- a value, with all its items
unfoldable pub IsWithin : Value → Type 0
IsWithin = every-Value WithinLayer

-- values in order
abbrev pub AreWithin : List Value → Type 0
AreWithin values = AllByRecursion IsWithin values
