-- The texts of values, by their kinds and by their items.
use Rattle.std.proofs.Common.{◌≡◌, ℕ, ℤ, ◌+◌, List, [], ◌∷◌, ◌++◌, map, Bool, append_assoc, rules, sym, ap, ◌∙◌, arith}
use Rattle.std.specs.Prelude.{codes, Result, Ok, Err, OnOk}
use Rattle.std.specs.Fmt.{signed_decimal}
use Rattle.vt_frac.specs.Fraction.{Fraction}
use Rattle.vt_frac.specs.Text.{fraction_text}
use Rattle.vt_value.specs.declared.value.Value.{Value, roll-Value, map-Value}
use Rattle.vt_value.specs.declared.value.Value.TheVariants.{Nil, Bool as Boolean, Whole, Part, Sym, Text, Ring, rolls-Nil, rolls-Bool, rolls-Whole, rolls-Part, rolls-Sym, rolls-Text, rolls-Ring, outs-Ring}
use Rattle.vt_value.specs.declared.value.Value.TheOpen.{Value-F}
use Rattle.vt_value.specs.declared.value.Value.TheFolds.{fold-roll-Value}
use Rattle.vt_value.specs.declared.write.Left.{Left}
use Rattle.vt_value.specs.Kinds.{items_of, items_layer}
use Rattle.vt_value.specs.Text.{value_text, text_layer, bool_text, quoted, between_commas, after_commas}
use Rattle.vt_value.specs.private.Walks.{left_text, left_weight, rest_text}
use Rattle.vt_value.specs.private.Weights.{weights_of}
use Rattle.vt_value.proofs.Layers.{ring_of_items}

from-layer : (value : Value) (layer : Value-F Value) → roll-Value layer ≡ value → value_text value ≡ text_layer (map-Value Value (List ℕ) value_text layer)
unfolding value_text
from-layer value layer e = ap value_text (sym e) ∙ fold-roll-Value (List ℕ) text_layer layer

pub text-Nil : (value : Value) → value ≡ Nil → value_text value ≡ codes "nil"
text-Nil value h = from-layer value Value-F.Nil (rolls-Nil ∙ sym h)

pub text-Bool : (value : Value) (b : Bool) → value ≡ Boolean b → value_text value ≡ bool_text b
text-Bool value b h = from-layer value (Value-F.Bool b) (rolls-Bool b ∙ sym h)

pub text-Whole : (value : Value) (n : ℤ) → value ≡ Whole n → value_text value ≡ signed_decimal n
text-Whole value n h = from-layer value (Value-F.Whole n) (rolls-Whole n ∙ sym h)

pub text-Part : (value : Value) (f : Fraction) → value ≡ Part f → value_text value ≡ fraction_text f
text-Part value f h = from-layer value (Value-F.Part f) (rolls-Part f ∙ sym h)

pub text-Sym : (value : Value) (name : List ℕ) → value ≡ Sym name → value_text value ≡ 58 ∷ name
text-Sym value name h = from-layer value (Value-F.Sym name) (rolls-Sym name ∙ sym h)

pub text-Text : (value : Value) (bytes : List ℕ) → value ≡ Text bytes → value_text value ≡ quoted bytes
text-Text value bytes h = from-layer value (Value-F.Text bytes) (rolls-Text bytes ∙ sym h)

pub text-Ring : (value : Value) (items : List Value) → value ≡ Ring items → value_text value ≡ 91 ∷ between_commas (map value_text items) ++ 93 ∷ []
text-Ring value items h = from-layer value (Value-F.Ring items) (rolls-Ring items ∙ sym h)

pub text-empty : (value : Value) (items : List Value) → value ≡ Ring items → items_of value ≡ [] → value_text value ≡ codes "[]"
text-empty value items h empty =
    let none : items ≡ [] = sym (ap (λ (x : Value-F Value). items_layer x) (outs-Ring items)) ∙ ap items_of (sym h) ∙ empty in
    text-Ring value items h ∙ ap (λ (xs : List Value). 91 ∷ between_commas (map value_text xs) ++ 93 ∷ []) none

-- a ring by its first item
pub text-first : (value first : Value) (rest : List Value) → items_of value ≡ first ∷ rest → value_text value ≡ 91 ∷ (value_text first ++ rest_text rest)
text-first value first rest h =
    text-Ring value (first ∷ rest) (ring_of_items value first rest h) ∙ ap (λ (xs : List ℕ). 91 ∷ xs) (append_assoc (value_text first) (after_commas (map value_text rest)) (93 ∷ []))

pub rest_text-next : (next : Value) (rest : List Value) → rest_text (next ∷ rest) ≡ codes ", " ++ (value_text next ++ rest_text rest)
rest_text-next next rest = ap (λ (xs : List ℕ). codes ", " ++ xs) (append_assoc (value_text next) (after_commas (map value_text rest)) (93 ∷ []))

pub left_text-append : (rings : List Left) (ring : Left) → left_text (rings ++ ring ∷ []) ≡ rest_text ring.rest.now ++ left_text rings
left_text-append [] ring = search (rules)
left_text-append (outer ∷ rings) ring =
    ap (λ (xs : List ℕ). xs ++ rest_text outer.rest.now) (left_text-append rings ring) ∙ append_assoc (rest_text ring.rest.now) (left_text rings) (rest_text outer.rest.now)

pub left_weight-append : (rings : List Left) (ring : Left) → left_weight (rings ++ ring ∷ []) ≡ left_weight rings + (1 + weights_of ring.rest.now)
left_weight-append [] ring = omega arith
left_weight-append (outer ∷ rings) ring = omega (arith, left_weight-append rings ring)

-- the text so far, as a ring is opened at its first item
pub opened_text : (so_far first rest left whole : List ℕ) → whole ≡ 91 ∷ (first ++ rest) → so_far ++ 91 ∷ [] ++ first ++ (rest ++ left) ≡ so_far ++ whole ++ left
opened_text so_far first rest left whole h = rw h (simp append_assoc)

-- .. as a ring is closed
pub closed_text : (so_far left : List ℕ) → so_far ++ 93 ∷ [] ++ left ≡ so_far ++ (93 ∷ [] ++ left)
closed_text so_far left = simp append_assoc

-- .. as it goes on with its next item
pub goes_on_text : (so_far comma next rest left : List ℕ) → so_far ++ comma ++ (next ++ (rest ++ left)) ≡ so_far ++ (comma ++ (next ++ rest) ++ left)
goes_on_text so_far comma next rest left = simp append_assoc

-- what was appended is what was wanted
pub wrote : {T F : Type 0} (r : Result T F) (P : Type 0) (old new said wanted : List ℕ) → OnOk r (new ≡ old ++ said) → (P → said ≡ wanted) → OnOk r (P → new ≡ old ++ wanted)
wrote (Ok x) P old new said wanted h e = λ p. h ∙ ap (λ (xs : List ℕ). old ++ xs) (e p)
wrote (Err x) P old new said wanted h e = tt
