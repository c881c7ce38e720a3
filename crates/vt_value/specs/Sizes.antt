-- How large values are. The project's own.
use Rattle.std.specs.Prelude.{ℕ, ◌+◌, List, length, map}
use Rattle.vt_value.specs.Totals.{total}
use Rattle.vt_value.specs.declared.value.Value.{Value}
use Rattle.vt_value.specs.declared.value.Value.TheOpen.{Value-F}
use Rattle.vt_value.specs.declared.value.Value.TheFolds.{fold-Value}

-- one value, with the size of each item in its place: a text counts its bytes, a ring 1 and its items, and every other value 1
abbrev pub size_layer : Value-F ℕ → ℕ
size_layer Value-F.Nil = 1
size_layer (Value-F.Bool b) = 1
size_layer (Value-F.Whole n) = 1
size_layer (Value-F.Part f) = 1
size_layer (Value-F.Sym name) = 1
size_layer (Value-F.Text bytes) = length bytes
size_layer (Value-F.Ring sizes) = 1 + total sizes

-- the size of a value, without bound
unfoldable pub size_of : Value → ℕ
size_of = fold-Value ℕ size_layer

-- the sizes of values, together
abbrev pub sizes_of : List Value → ℕ
sizes_of values = total (map size_of values)
