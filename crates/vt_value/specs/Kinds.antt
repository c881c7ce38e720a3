-- What values are by their kinds. The project's own.
use Rattle.std.specs.Prelude.{ℕ, ℤ, Bool, true, false, List, [], Option, Some, None}
use Rattle.vt_value.specs.declared.value.Value.{Value, out-Value}
use Rattle.vt_value.specs.declared.value.Value.TheOpen.{Value-F}
use Rattle.vt_frac.specs.Fraction.{Fraction, whole}

-- wholes and parts are numbers
abbrev pub number_layer : {A : Type 0} → Value-F A → Option Fraction
number_layer (Value-F.Whole n) = Some (whole n)
number_layer (Value-F.Part f) = Some f
number_layer _ = None

-- the number that a value is, as a fraction
abbrev pub number_of : Value → Option Fraction
number_of value = number_layer (out-Value value)

abbrev pub whole_layer : {A : Type 0} → Value-F A → Option ℤ
whole_layer (Value-F.Whole n) = Some n
whole_layer _ = None

-- the whole number that a value of that kind is
abbrev pub whole_of : Value → Option ℤ
whole_of value = whole_layer (out-Value value)

abbrev pub bool_layer : {A : Type 0} → Value-F A → Option Bool
bool_layer (Value-F.Bool b) = Some b
bool_layer _ = None

abbrev pub bool_of : Value → Option Bool
bool_of value = bool_layer (out-Value value)

abbrev pub symbol_layer : {A : Type 0} → Value-F A → Option (List ℕ)
symbol_layer (Value-F.Sym name) = Some name
symbol_layer _ = None

-- the name of a symbol
abbrev pub symbol_of : Value → Option (List ℕ)
symbol_of value = symbol_layer (out-Value value)

abbrev pub text_bytes_layer : {A : Type 0} → Value-F A → Option (List ℕ)
text_bytes_layer (Value-F.Text bytes) = Some bytes
text_bytes_layer _ = None

-- the bytes of a text
abbrev pub text_bytes : Value → Option (List ℕ)
text_bytes value = text_bytes_layer (out-Value value)

abbrev pub ring_layer : {A : Type 0} → Value-F A → Option (List A)
ring_layer (Value-F.Ring items) = Some items
ring_layer _ = None

-- the items of a ring
abbrev pub ring_of : Value → Option (List Value)
ring_of value = ring_layer (out-Value value)

abbrev pub items_layer : {A : Type 0} → Value-F A → List A
items_layer (Value-F.Ring items) = items
items_layer _ = []

-- the items of a ring, and none of another value
abbrev pub items_of : Value → List Value
items_of value = items_layer (out-Value value)

abbrev pub nil_layer : {A : Type 0} → Value-F A → Bool
nil_layer Value-F.Nil = true
nil_layer _ = false

abbrev pub is_nil : Value → Bool
is_nil value = nil_layer (out-Value value)

-- nil and false are untrue
abbrev pub truth_layer : {A : Type 0} → Value-F A → Bool
truth_layer Value-F.Nil = false
truth_layer (Value-F.Bool b) = b
truth_layer _ = true

-- whether a value counts as true: all but nil and false do
abbrev pub is_truthy : Value → Bool
is_truthy value = truth_layer (out-Value value)
