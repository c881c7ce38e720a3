-- How much there is to walk over in values, so that a walk is seen to end. The project's own.
use Rattle.std.specs.Prelude.{ℕ, ◌+◌, List, map}
use Rattle.vt_value.specs.declared.value.Value.{Value}
use Rattle.vt_value.specs.declared.value.Value.TheOpen.{Value-F}
use Rattle.vt_value.specs.declared.value.Value.TheFolds.{fold-Value}
use Rattle.vt_value.specs.Kinds.{items_layer}
use Rattle.vt_value.specs.Totals.{total}

-- two steps for each value, and those of its items
abbrev pub weight_layer : Value-F ℕ → ℕ
weight_layer value = 2 + total (items_layer value)

abbrev pub weight_of : Value → ℕ
weight_of = fold-Value ℕ weight_layer

abbrev pub weights_of : List Value → ℕ
weights_of values = total (map weight_of values)
