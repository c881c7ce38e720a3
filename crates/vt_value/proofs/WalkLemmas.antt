-- The state of a walk, as a ring is opened or closed.
use Rattle.std.proofs.Common.{◌≡◌, ◌+◌, List, [], ◌∷◌, ◌++◌, append_assoc, refl, sym, ap, ◌∙◌, arith}
use Rattle.vt_value.specs.declared.value.Value.{Value}
use Rattle.vt_value.specs.declared.value.Value.TheVariants.{Ring}
use Rattle.vt_value.specs.declared.copy.OpenRing.{OpenRing}
use Rattle.vt_value.specs.Kinds.{items_of}
use Rattle.vt_value.specs.private.Walks.{assembled, open_weight}
use Rattle.vt_value.specs.private.Weights.{weights_of}
use Rattle.vt_value.proofs.Layers.{ring_of_items}

pub assembled-append : (rings : List OpenRing) (ring : OpenRing) (value : Value) → assembled (rings ++ ring ∷ []) value ≡ assembled rings (Ring (ring.made.items ++ value ∷ ring.rest.now))
assembled-append [] ring value = refl
assembled-append (outer ∷ rings) ring value = ap (λ (v : Value). Ring (outer.made.items ++ v ∷ outer.rest.now)) (assembled-append rings ring value)

pub open_weight-append : (rings : List OpenRing) (ring : OpenRing) → open_weight (rings ++ ring ∷ []) ≡ open_weight rings + (1 + weights_of ring.rest.now)
open_weight-append [] ring = omega arith
open_weight-append (outer ∷ rings) ring = omega (arith, open_weight-append rings ring)

-- a ring is opened at its first item
pub opening : (rings : List OpenRing) (ring : OpenRing) (value first : Value) (rest : List Value) → items_of value ≡ first ∷ rest → ring.made.items ≡ [] → ring.rest.now ≡ rest → assembled (rings ++ ring ∷ []) first ≡ assembled rings value
opening rings ring value first rest h made behind =
    assembled-append rings ring first ∙ ap (λ (xs : List Value). assembled rings (Ring (xs ++ first ∷ ring.rest.now))) made ∙ ap (λ (xs : List Value). assembled rings (Ring (first ∷ xs))) behind ∙ ap (assembled rings) (sym (ring_of_items value first rest h))

-- a ring is closed behind its last item
pub closing : (rings : List OpenRing) (ring : OpenRing) (copied : Value) (made : List Value) → ring.rest.now ≡ [] → made ≡ ring.made.items ++ copied ∷ [] → assembled rings (Ring made) ≡ assembled (rings ++ ring ∷ []) copied
closing rings ring copied made last all =
    ap (λ (xs : List Value). assembled rings (Ring xs)) (all ∙ ap (λ (xs : List Value). ring.made.items ++ copied ∷ xs) (sym last)) ∙ sym (assembled-append rings ring copied)

-- a ring goes on with its next item
pub going_on : (rings : List OpenRing) (ring next_ring : OpenRing) (copied next : Value) → ring.rest.now ≡ next ∷ next_ring.rest.now → next_ring.made.items ≡ ring.made.items ++ copied ∷ [] → assembled (rings ++ next_ring ∷ []) next ≡ assembled (rings ++ ring ∷ []) copied
going_on rings ring next_ring copied next h made =
    assembled-append rings next_ring next
    ∙ ap (λ (xs : List Value). assembled rings (Ring (xs ++ next ∷ next_ring.rest.now))) made
    ∙ ap (λ (xs : List Value). assembled rings (Ring xs)) (append_assoc ring.made.items (copied ∷ []) (next ∷ next_ring.rest.now))
    ∙ ap (λ (xs : List Value). assembled rings (Ring (ring.made.items ++ copied ∷ xs))) (sym h)
    ∙ sym (assembled-append rings ring copied)
