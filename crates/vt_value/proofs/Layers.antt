-- The equations of the definitions by layers, and what they say of lists of values.
use Rattle.std.proofs.Common.{Some, None, ◌≡◌, ◌≤◌, ◌<◌, ℕ, ◌+◌, List, [], ◌∷◌, ◌++◌, length, drop, get_or, slice_set, refl, sym, ap, ◌∙◌, subst, arith}
use Rattle.std.proofs.lemmas.Grind.{common_steps}
use Rattle.vt_value.specs.declared.value.Value.{Value, out-Value, roll-Value, roll-out-Value, map-Value}
use Rattle.vt_value.specs.declared.value.Value.TheVariants.{Ring, rolls-Ring}
use Rattle.vt_value.specs.declared.value.Value.TheOpen.{Value-F}
use Rattle.vt_value.specs.declared.value.Value.TheFolds.{fold-roll-Value, fold_out-Value}
use Rattle.vt_value.specs.Kinds.{items_of, items_layer, ring_of, ring_layer, text_bytes, text_bytes_layer}
use Rattle.vt_value.specs.private.Weights.{weight_layer, weight_of, weights_of}
use Rattle.vt_value.specs.Sizes.{size_layer, size_of, sizes_of}

-- a value with items is the ring of them
items-ring : (layer : Value-F Value) (first : Value) (rest : List Value) → items_layer layer ≡ first ∷ rest → roll-Value layer ≡ Ring (first ∷ rest)
items-ring Value-F.Nil first rest h = absurd (let z : [] ≡ first ∷ rest = h in cc)
items-ring (Value-F.Bool b) first rest h = absurd (let z : [] ≡ first ∷ rest = h in cc)
items-ring (Value-F.Whole n) first rest h = absurd (let z : [] ≡ first ∷ rest = h in cc)
items-ring (Value-F.Part f) first rest h = absurd (let z : [] ≡ first ∷ rest = h in cc)
items-ring (Value-F.Sym s) first rest h = absurd (let z : [] ≡ first ∷ rest = h in cc)
items-ring (Value-F.Text t) first rest h = absurd (let z : [] ≡ first ∷ rest = h in cc)
items-ring (Value-F.Ring items) first rest h = rolls-Ring items ∙ ap Ring h

pub ring_of_items : (value first : Value) (rest : List Value) → items_of value ≡ first ∷ rest → value ≡ Ring (first ∷ rest)
ring_of_items value first rest h = sym (roll-out-Value value) ∙ items-ring (out-Value value) first rest h

-- weights
pub weight-Ring : (items : List Value) → weight_of (Ring items) ≡ 2 + weights_of items
weight-Ring items = ap weight_of (sym (rolls-Ring items)) ∙ fold-roll-Value ℕ weight_layer (Value-F.Ring items)

pub weights-append : (prefix suffix : List Value) → weights_of (prefix ++ suffix) ≡ weights_of prefix + weights_of suffix
weights-append [] suffix = omega arith
weights-append (value ∷ prefix) suffix = omega (arith, weights-append prefix suffix)

pub weight-items : (value : Value) → weight_of value ≡ 2 + weights_of (items_of value)
weight-items value = fold_out-Value ℕ weight_layer value ∙ items-weights (out-Value value)
  where
    items-weights : (layer : Value-F Value) → weight_layer (map-Value Value ℕ weight_of layer) ≡ 2 + weights_of (items_layer layer)
    items-weights Value-F.Nil = refl
    items-weights (Value-F.Bool b) = refl
    items-weights (Value-F.Whole n) = refl
    items-weights (Value-F.Part f) = refl
    items-weights (Value-F.Sym s) = refl
    items-weights (Value-F.Text t) = refl
    items-weights (Value-F.Ring items) = refl

-- sizes
pub size-layer : (value : Value) → size_of value ≡ size_layer (map-Value Value ℕ size_of (out-Value value))
unfolding size_of
size-layer value = fold_out-Value ℕ size_layer value

pub size-Ring : (items : List Value) → size_of (Ring items) ≡ 1 + sizes_of items
unfolding size_of
size-Ring items = ap size_of (sym (rolls-Ring items)) ∙ fold-roll-Value ℕ size_layer (Value-F.Ring items)

pub sizes-append : (prefix suffix : List Value) → sizes_of (prefix ++ suffix) ≡ sizes_of prefix + sizes_of suffix
sizes-append [] suffix = omega arith
sizes-append (value ∷ prefix) suffix = omega (arith, sizes-append prefix suffix)

-- what the items of a ring weigh
ring-weights : (layer : Value-F Value) (items : List Value) → Some items ≡ ring_layer layer → weight_layer (map-Value Value ℕ weight_of layer) ≡ 2 + weights_of items
ring-weights Value-F.Nil items h = absurd (let z : Some items ≡ None = h in cc)
ring-weights (Value-F.Bool b) items h = absurd (let z : Some items ≡ None = h in cc)
ring-weights (Value-F.Whole n) items h = absurd (let z : Some items ≡ None = h in cc)
ring-weights (Value-F.Part f) items h = absurd (let z : Some items ≡ None = h in cc)
ring-weights (Value-F.Sym s) items h = absurd (let z : Some items ≡ None = h in cc)
ring-weights (Value-F.Text t) items h = absurd (let z : Some items ≡ None = h in cc)
ring-weights (Value-F.Ring held) items h = let e : held ≡ items = cc in ap (λ (xs : List Value). 2 + weights_of xs) e

pub weight-ring_of : (value : Value) (items : List Value) → Some items ≡ ring_of value → weight_of value ≡ 2 + weights_of items
weight-ring_of value items h = fold_out-Value ℕ weight_layer value ∙ ring-weights (out-Value value) items h

text-size : (layer : Value-F Value) (bytes : List ℕ) → Some bytes ≡ text_bytes_layer layer → size_layer (map-Value Value ℕ size_of layer) ≡ length bytes
text-size Value-F.Nil bytes h = absurd (let z : Some bytes ≡ None = h in cc)
text-size (Value-F.Bool b) bytes h = absurd (let z : Some bytes ≡ None = h in cc)
text-size (Value-F.Whole n) bytes h = absurd (let z : Some bytes ≡ None = h in cc)
text-size (Value-F.Part f) bytes h = absurd (let z : Some bytes ≡ None = h in cc)
text-size (Value-F.Sym s) bytes h = absurd (let z : Some bytes ≡ None = h in cc)
text-size (Value-F.Text t) bytes h = let e : t ≡ bytes = cc in ap (λ (xs : List ℕ). length xs) e
text-size (Value-F.Ring items) bytes h = absurd (let z : Some bytes ≡ None = h in cc)

pub size-text : (value : Value) (bytes : List ℕ) → Some bytes ≡ text_bytes value → size_of value ≡ length bytes
size-text value bytes h = size-layer value ∙ text-size (out-Value value) bytes h

other-size : (layer : Value-F Value) → None ≡ text_bytes_layer layer → items_layer layer ≡ [] → size_layer (map-Value Value ℕ size_of layer) ≡ 1
other-size Value-F.Nil h k = refl
other-size (Value-F.Bool b) h k = refl
other-size (Value-F.Whole n) h k = refl
other-size (Value-F.Part f) h k = refl
other-size (Value-F.Sym s) h k = refl
other-size (Value-F.Text t) h k = absurd (let z : None ≡ Some t = h in cc)
other-size (Value-F.Ring items) h k = ap (λ (xs : List Value). 1 + sizes_of xs) k

pub size-other : (value : Value) → None ≡ text_bytes value → items_of value ≡ [] → size_of value ≡ 1
size-other value h k = size-layer value ∙ other-size (out-Value value) h k

-- a value with items, by one of them
pub ring_of_parts : (value item : Value) (prefix suffix : List Value) → items_of value ≡ prefix ++ item ∷ suffix → value ≡ Ring (prefix ++ item ∷ suffix)
ring_of_parts value item [] suffix h = ring_of_items value item suffix h
ring_of_parts value item (first ∷ prefix) suffix h = ring_of_items value first (prefix ++ item ∷ suffix) h

pub size-parts : (value item : Value) (prefix suffix : List Value) → items_of value ≡ prefix ++ item ∷ suffix → size_of value ≡ 1 + (sizes_of prefix + (size_of item + sizes_of suffix))
size-parts value item prefix suffix h = ap size_of (ring_of_parts value item prefix suffix h) ∙ size-Ring (prefix ++ item ∷ suffix) ∙ omega (arith, sizes-append prefix (item ∷ suffix))

pub weight-parts : (value item : Value) (prefix suffix : List Value) → items_of value ≡ prefix ++ item ∷ suffix → weight_of value ≡ 2 + (weights_of prefix + (weight_of item + weights_of suffix))
weight-parts value item prefix suffix h = weight-items value ∙ omega (arith, ap weights_of h, weights-append prefix (item ∷ suffix))

-- nothing is left behind the last item
pub nothing_left : (values : List Value) (i : ℕ) → length values ≤ i → drop i values ≡ []
nothing_left values i h = grind (arith, common_steps)

-- the first item is exchanged
pub weights-first : (items : List Value) (new first : Value) → 0 < length items → first ≡ get_or items 0 first → weights_of (slice_set items 0 new) + weight_of first ≡ weights_of items + weight_of new
weights-first [] new first h e = absurd (omega arith)
weights-first (item ∷ items) new first h e = omega (arith, ap weight_of e)
