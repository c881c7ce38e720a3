-- The state of a walk over a value that keeps the rings it is in as a list, the outermost first. The project's own.
use Rattle.std.specs.Prelude.{ℕ, ◌+◌, List, [], ◌∷◌, ◌++◌, map, Option, Some, None}
use Rattle.vt_value.specs.declared.value.Value.{Value}
use Rattle.vt_value.specs.declared.value.Value.TheVariants.{Ring}
use Rattle.vt_value.specs.declared.copy.OpenRing.{OpenRing}
use Rattle.vt_value.specs.declared.copy.Climbed.{Climbed}
use Rattle.vt_value.specs.declared.copy.Climbed.TheVariants.{Whole, Next}
use Rattle.vt_value.specs.declared.write.Left.{Left}
use Rattle.vt_value.specs.Text.{after_commas, value_text}
use Rattle.vt_value.specs.private.Weights.{weight_of, weights_of}

-- the value that the open rings make, with this value in the innermost one
abbrev pub assembled : List OpenRing → Value → Value
assembled [] value = value
assembled (ring ∷ rings) value = Ring (ring.made.items ++ assembled rings value ∷ ring.rest.now)

-- how much of the open rings is left to walk over
abbrev pub open_weight : List OpenRing → ℕ
open_weight [] = 0
open_weight (ring ∷ rings) = 1 + weights_of ring.rest.now + open_weight rings

abbrev pub climbed_from : List OpenRing → Climbed → Value
climbed_from rings (Whole value) = value
climbed_from rings (Next next) = assembled rings next.now

abbrev pub climbed_weight : List OpenRing → Climbed → ℕ
climbed_weight rings (Whole value) = 0
climbed_weight rings (Next next) = open_weight rings + weight_of next.now

-- the rest of a ring, behind its first item
abbrev pub rest_text : List Value → List ℕ
rest_text items = after_commas (map value_text items) ++ 93 ∷ []

-- the text behind the value that is written now: of each ring the rest of its items and its bracket, the innermost ring first
abbrev pub left_text : List Left → List ℕ
left_text [] = []
left_text (ring ∷ rings) = left_text rings ++ rest_text ring.rest.now

abbrev pub left_weight : List Left → ℕ
left_weight [] = 0
left_weight (ring ∷ rings) = 1 + weights_of ring.rest.now + left_weight rings

abbrev pub next_text : List Left → Option Value → List ℕ
next_text rings None = []
next_text rings (Some next) = value_text next ++ left_text rings

abbrev pub next_weight : List Left → Option Value → ℕ
next_weight rings None = 0
next_weight rings (Some next) = left_weight rings + weight_of next
