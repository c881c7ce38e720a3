-- Lists of names and values: the options of an event, the locals of a thread.
use Rattle.std.specs.Prelude.{ℕ, List}
use Rattle.vt_value.specs.declared.value.Value.{Value}

-- each name with its value, in order
abbrev pub Pairs : Type 0
Pairs = List (List ℕ × Value)
