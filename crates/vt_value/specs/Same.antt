-- When two values are the same. The project's own.
use Rattle.std.specs.Prelude.{ℕ, List, [], ◌∷◌, map, pos, ◌*ℤ◌, Bool, true, false, ◌&&◌, Option, Some, None}
use Rattle.std.specs.Ordering.{int_eq}
use Rattle.std.specs.Str.{bytes_eq}
use Rattle.vt_value.specs.declared.value.Value.{Value}
use Rattle.vt_value.specs.declared.value.Value.TheOpen.{Value-F}
use Rattle.vt_value.specs.declared.value.Value.TheFolds.{fold-Value}
use Rattle.vt_frac.specs.Fraction.{Fraction, whole}
use Rattle.vt_value.specs.Kinds.{is_nil, bool_of, number_of, symbol_of, text_bytes, ring_of}

-- two fractions of one value: the cross products agree
abbrev pub equal_fractions : Fraction → Fraction → Bool
equal_fractions f g = int_eq (f.numer *ℤ pos g.denom) (g.numer *ℤ pos f.denom)

-- a fraction, and what may be one
abbrev pub equals_number : Fraction → Option Fraction → Bool
equals_number f None = false
equals_number f (Some g) = equal_fractions f g

abbrev pub equals_bool : Bool → Option Bool → Bool
equals_bool b None = false
equals_bool true (Some b) = b
equals_bool false (Some true) = false
equals_bool false (Some false) = true

abbrev pub equals_bytes : List ℕ → Option (List ℕ) → Bool
equals_bytes bytes None = false
equals_bytes bytes (Some others) = bytes_eq bytes others

abbrev pub is_no_item : Option (List Value) → Bool
is_no_item None = false
is_no_item (Some []) = true
is_no_item (Some (item ∷ items)) = false

-- as many tests as values, and each holds of its value
abbrev pub pass_in_order : List (Value → Bool) → List Value → Bool
pass_in_order [] [] = true
pass_in_order (test ∷ tests) (value ∷ values) = test value && pass_in_order tests values
pass_in_order _ _ = false

-- tests, one for each item, and what may be a ring
abbrev pub pass_ring : List (Value → Bool) → Option (List Value) → Bool
pass_ring tests None = false
pass_ring tests (Some values) = pass_in_order tests values

-- One value, where each item is given as the test whether a value is the same, and another value: numbers are the same by value, all else by kind and content
abbrev pub same_layer : Value-F (Value → Bool) → Value → Bool
same_layer Value-F.Nil other = is_nil other
same_layer (Value-F.Bool b) other = equals_bool b (bool_of other)
same_layer (Value-F.Whole n) other = equals_number (whole n) (number_of other)
same_layer (Value-F.Part f) other = equals_number f (number_of other)
same_layer (Value-F.Sym name) other = equals_bytes name (symbol_of other)
same_layer (Value-F.Text bytes) other = equals_bytes bytes (text_bytes other)
same_layer (Value-F.Ring tests) other = pass_ring tests (ring_of other)

-- whether two values are the same
unfoldable pub same_as : Value → Value → Bool
same_as = fold-Value (Value → Bool) same_layer

-- whether values are the same as others, in order
abbrev pub all_same_as : List Value → List Value → Bool
all_same_as values others = pass_in_order (map same_as values) others
