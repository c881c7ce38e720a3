-- What `same_as` says of each kind of value, and of rings by their last items.
use Rattle.std.proofs.Common.{Option, Some, None, ◌≡◌, ◌≢◌, ◌≤◌, ◌<◌, ℕ, ℤ, List, [], ◌∷◌, ◌++◌, length, map, Bool, true, false, ◌&&◌, refl, sym, ap, ◌∙◌, arith, length-append}
use Rattle.vt_frac.specs.Fraction.{Fraction, whole}
use Rattle.vt_value.specs.declared.value.Value.{Value, out-Value, roll-Value, map-Value}
use Rattle.vt_value.specs.declared.value.Value.TheVariants.{Nil, Bool as Boolean, Whole, Part, Sym, Text, Ring, rolls-Nil, rolls-Bool, rolls-Whole, rolls-Part, rolls-Sym, rolls-Text, rolls-Ring, outs-Ring}
use Rattle.vt_value.specs.declared.value.Value.TheOpen.{Value-F}
use Rattle.vt_value.specs.declared.value.Value.TheFolds.{fold-roll-Value}
use Rattle.vt_value.specs.Kinds.{items_of, items_layer, ring_of, ring_layer, is_nil, bool_of, number_of, symbol_of, text_bytes}
use Rattle.vt_value.specs.Same.{same_as, same_layer, all_same_as, pass_ring, is_no_item, equals_bool, equals_number, equals_bytes}
use Rattle.vt_value.proofs.Layers.{ring_of_parts}

-- by the layer of the first value
pub same-roll : (layer : Value-F Value) (other : Value) → same_as (roll-Value layer) other ≡ same_layer (map-Value Value (Value → Bool) same_as layer) other
unfolding same_as
same-roll layer other = ap (λ (f : Value → Bool). f other) (fold-roll-Value (Value → Bool) same_layer layer)

from-layer : (value : Value) (layer : Value-F Value) (other : Value) → roll-Value layer ≡ value → same_as value other ≡ same_layer (map-Value Value (Value → Bool) same_as layer) other
from-layer value layer other e = ap (λ (v : Value). same_as v other) (sym e) ∙ same-roll layer other

pub same-Nil : (value other : Value) → value ≡ Nil → same_as value other ≡ is_nil other
same-Nil value other h = from-layer value Value-F.Nil other (rolls-Nil ∙ sym h)

pub same-Bool : (value other : Value) (b : Bool) → value ≡ Boolean b → same_as value other ≡ equals_bool b (bool_of other)
same-Bool value other b h = from-layer value (Value-F.Bool b) other (rolls-Bool b ∙ sym h)

pub same-Whole : (value other : Value) (n : ℤ) → value ≡ Whole n → same_as value other ≡ equals_number (whole n) (number_of other)
same-Whole value other n h = from-layer value (Value-F.Whole n) other (rolls-Whole n ∙ sym h)

pub same-Part : (value other : Value) (f : Fraction) → value ≡ Part f → same_as value other ≡ equals_number f (number_of other)
same-Part value other f h = from-layer value (Value-F.Part f) other (rolls-Part f ∙ sym h)

pub same-Sym : (value other : Value) (name : List ℕ) → value ≡ Sym name → same_as value other ≡ equals_bytes name (symbol_of other)
same-Sym value other name h = from-layer value (Value-F.Sym name) other (rolls-Sym name ∙ sym h)

pub same-Text : (value other : Value) (bytes : List ℕ) → value ≡ Text bytes → same_as value other ≡ equals_bytes bytes (text_bytes other)
same-Text value other bytes h = from-layer value (Value-F.Text bytes) other (rolls-Text bytes ∙ sym h)

pub same-Ring : (value other : Value) (items : List Value) → value ≡ Ring items → same_as value other ≡ pass_ring (map same_as items) (ring_of other)
same-Ring value other items h = from-layer value (Value-F.Ring items) other (rolls-Ring items ∙ sym h)

no_tests : (others : Option (List Value)) → pass_ring [] others ≡ is_no_item others
no_tests None = refl
no_tests (Some []) = refl
no_tests (Some (item ∷ items)) = refl

pub same-empty : (value other : Value) (items : List Value) → value ≡ Ring items → items_of value ≡ [] → same_as value other ≡ is_no_item (ring_of other)
same-empty value other items h empty =
    let none : items ≡ [] = sym (ap (λ (x : Value-F Value). items_layer x) (outs-Ring items)) ∙ ap items_of (sym h) ∙ empty in
    same-Ring value other items h ∙ ap (λ (xs : List Value). pass_ring (map same_as xs) (ring_of other)) none ∙ no_tests (ring_of other)

pub and_false : (b : Bool) → (b && false) ≡ false
and_false true = refl
and_false false = refl

pub and_true : (b : Bool) → (b && true) ≡ b
and_true true = refl
and_true false = refl

and_assoc : (a b c : Bool) → (a && (b && c)) ≡ ((a && b) && c)
and_assoc true b c = refl
and_assoc false b c = refl

-- lists of two lengths
pub all_same-lengths : (values others : List Value) → length values ≢ length others → all_same_as values others ≡ false
all_same-lengths [] [] h = absurd (h refl)
all_same-lengths [] (other ∷ others) h = refl
all_same-lengths (value ∷ values) [] h = refl
all_same-lengths (value ∷ values) (other ∷ others) h = ap (λ (b : Bool). same_as value other && b) (all_same-lengths values others (λ e. h (omega arith))) ∙ and_false (same_as value other)

-- two lists by an item at one place
pub all_same-parts : (prefix others suffix others_back : List Value) (item across : Value) → length prefix ≡ length others → all_same_as (prefix ++ item ∷ suffix) (others ++ across ∷ others_back) ≡ (all_same_as prefix others && (same_as item across && all_same_as suffix others_back))
all_same-parts [] [] suffix others_back item across h = refl
all_same-parts [] (other ∷ others) suffix others_back item across h = absurd (omega arith)
all_same-parts (first ∷ prefix) [] suffix others_back item across h = absurd (omega arith)
all_same-parts (first ∷ prefix) (other ∷ others) suffix others_back item across h =
    ap (λ (b : Bool). same_as first other && b) (all_same-parts prefix others suffix others_back item across (omega arith))
    ∙ and_assoc (same_as first other) (all_same_as prefix others) (same_as item across && all_same_as suffix others_back)

-- two values with items, by an item at one place
pub same-parts : (value other item across : Value) (prefix suffix others others_back : List Value) → items_of value ≡ prefix ++ item ∷ suffix → items_of other ≡ others ++ across ∷ others_back → length prefix ≡ length others → same_as value other ≡ (all_same_as prefix others && (same_as item across && all_same_as suffix others_back))
same-parts value other item across prefix suffix others others_back h k e =
    same-Ring value other (prefix ++ item ∷ suffix) (ring_of_parts value item prefix suffix h)
    ∙ ap (λ (o : Option (List Value)). pass_ring (map same_as (prefix ++ item ∷ suffix)) o) (ap ring_of (ring_of_parts other across others others_back k) ∙ ap (λ (x : Value-F Value). ring_layer x) (outs-Ring (others ++ across ∷ others_back)))
    ∙ all_same-parts prefix others suffix others_back item across e

uneven : (items : List Value) (layer : Value-F Value) → length items ≢ length (items_layer layer) → pass_ring (map same_as items) (ring_layer layer) ≡ false
uneven items Value-F.Nil h = refl
uneven items (Value-F.Bool b) h = refl
uneven items (Value-F.Whole n) h = refl
uneven items (Value-F.Part f) h = refl
uneven items (Value-F.Sym s) h = refl
uneven items (Value-F.Text t) h = refl
uneven items (Value-F.Ring others) h = all_same-lengths items others h

-- the other value has too few items
pub same-uneven : (value other item : Value) (prefix suffix : List Value) → items_of value ≡ prefix ++ item ∷ suffix → length (items_of other) ≤ length prefix → same_as value other ≡ false
same-uneven value other item prefix suffix h few =
    same-Ring value other (prefix ++ item ∷ suffix) (ring_of_parts value item prefix suffix h) ∙ uneven (prefix ++ item ∷ suffix) (out-Value other) (longer prefix (item ∷ suffix) (length (items_of other)) few (omega arith))
  where
    longer : (prefix suffix : List Value) (n : ℕ) → n ≤ length prefix → 0 < length suffix → length (prefix ++ suffix) ≢ n
    longer prefix suffix n few some e = omega (arith, length-append prefix suffix)
