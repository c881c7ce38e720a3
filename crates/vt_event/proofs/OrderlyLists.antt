-- Two texts and three inputs, one of each sort, that are orderly.
use Rattle.std.proofs.Common.{◌≡◌, ℕ, ◌≤◌, ◌<◌, ◌+◌, zero, suc, true, false, is_lt, nat_le, ◌&&◌, slice_index_or, List, [], ◌∷◌, Some, None, All, IsSomeAnd, IsTrue, codes, slice_get, refl, sym, ap, ◌∙◌, subst, lit<, arith, pos, ◌≤ℤ◌}
use Rattle.std.proofs.lemmas.List.Elements.{All-cons, All-nil}
use Rattle.vt_frac.specs.Divisor.{gcd}
use Rattle.vt_frac.specs.Fraction.{Fraction, IsFraction, whole}
use Rattle.vt_frac.specs.Names.{is_symbol_name}
use Rattle.vt_frac.specs.Order.{value_order}
use Rattle.vt_path.specs.declared.inner_path.InnerKind.TheVariants.{Stop}
use Rattle.vt_path.specs.Inner.{inner_of}
use Rattle.vt_path.specs.Path.{IsPath, IsSegment}
use Rattle.vt_path.proofs.NameLemmas.{symbol_segment}
use Rattle.vt_value.specs.declared.value.Value as V
use Rattle.vt_value.specs.declared.value.Value.{Value, map-Value, out-roll-Value, roll-Value}
use Rattle.vt_value.specs.declared.value.Value.TheFolds.{every_made-Value}
use Rattle.vt_value.specs.declared.value.Value.TheOpen.{Value-F}
use Rattle.vt_value.specs.declared.value.Value.TheVariants.{Nil, Ring, Whole, rolls-Nil, rolls-Ring, rolls-Whole}
use Rattle.vt_value.specs.Arithmetic.{are_within}
use Rattle.vt_value.specs.Kinds.{items_of, ring_layer, ring_of, text_bytes}
use Rattle.vt_value.specs.Limits.{IsWithin, WithinLayer}
use Rattle.vt_value.proofs.Layers.{size-other}
use Rattle.vt_event.specs.Event.{EventView}
use Rattle.vt_event.specs.Orderly.{AreOrderlyTimes, IsInput, cue_of_60, input_place, is_given, set_to_60, stop_of_a}
use Rattle.vt_event.proofs.EventFields.{cue_fields, ended_fields, set_fields}

cue_name : IsTrue (is_symbol_name (codes "cue"))
unfolding is_symbol_name
cue_name = refl

set_name : IsTrue (is_symbol_name (codes "set"))
unfolding is_symbol_name
set_name = refl

a_name : IsTrue (is_symbol_name (codes "a"))
unfolding is_symbol_name
a_name = refl

path_of_a : (word : List ℕ) → IsTrue (is_symbol_name word) → IsPath (word ∷ codes "a" ∷ [])
path_of_a word h = record {
  nonempty = omega arith;
  few = omega arith;
  segments = All-cons IsSegment word (codes "a" ∷ []) (symbol_segment word h) (All-cons IsSegment (codes "a") [] (symbol_segment (codes "a") a_name) (All-nil IsSegment));
}

ring_of_ring : (items : List Value) → ring_of (Ring items) ≡ Some items
ring_of_ring items = ap ring_of (sym (rolls-Ring items)) ∙ ap ring_layer (out-roll-Value (Value-F.Ring items))

given : is_given (Whole (pos 60)) ≡ true
unfolding V.out-Value denote.Hole.Carrier.out
given = refl

no_text : None ≡ text_bytes (Whole (pos 60))
unfolding V.out-Value denote.Hole.Carrier.out
no_text = refl

no_items : items_of (Whole (pos 60)) ≡ []
unfolding V.out-Value denote.Hole.Carrier.out
no_items = refl

within : are_within (Whole (pos 60) ∷ []) ≡ true
within = ap (λ n. nat_le 1 4096 && nat_le (1 + (n + 0)) 65536) (size-other (Whole (pos 60)) no_text no_items)

-- a value together with the fact that it is within the limits
abbrev Held : Type 0
Held = (value : Value) × IsWithin value

made : (value : Value) (layer : Value-F Value) (held : Value-F Held) → roll-Value layer ≡ value → map-Value Held Value (λ x. x.0) held ≡ layer → WithinLayer layer → IsWithin value
unfolding IsWithin
made value layer held e m good = subst IsWithin e (every_made-Value WithinLayer layer held m good)

nil_within : IsWithin Nil
nil_within = made Nil Value-F.Nil Value-F.Nil rolls-Nil refl tt

number_within : IsWithin (Whole (pos 60))
number_within = made (Whole (pos 60)) (Value-F.Whole (pos 60)) (Value-F.Whole (pos 60)) (rolls-Whole (pos 60)) refl (lit< tt)

ring_within_limits : IsWithin (Ring (Whole (pos 60) ∷ []))
ring_within_limits =
    made (Ring (Whole (pos 60) ∷ [])) (Value-F.Ring (Whole (pos 60) ∷ [])) (Value-F.Ring ((Whole (pos 60), number_within) ∷ [])) (rolls-Ring (Whole (pos 60) ∷ [])) refl within

zero_fraction : IsFraction (whole (pos 0))
unfolding gcd
zero_fraction = record { lowest = refl; positive = lit< tt; numer_fits = lit< tt; denom_fits = lit< tt }

four_fraction : IsFraction (whole (pos 4))
unfolding gcd
four_fraction = record { lowest = refl; positive = lit< tt; numer_fits = lit< tt; denom_fits = lit< tt }

eight_fraction : IsFraction (whole (pos 8))
unfolding gcd
eight_fraction = record { lowest = refl; positive = lit< tt; numer_fits = lit< tt; denom_fits = lit< tt }

halves_fraction : IsFraction (record { numer = pos 5; denom = 2 })
unfolding gcd
halves_fraction = record { lowest = refl; positive = lit< tt; numer_fits = lit< tt; denom_fits = lit< tt }

two_times : (a b : Fraction) → IsFraction a → IsFraction b → pos 0 ≤ℤ a.numer → pos 0 ≤ℤ b.numer → is_lt (value_order b a) ≡ false → AreOrderlyTimes (a ∷ b ∷ [])
two_times a b one two first second kept = record {
  few = omega arith;
  fractions = All-cons IsFraction a (b ∷ []) one (All-cons IsFraction b [] two (All-nil IsFraction));
  start = All-cons (λ time. pos 0 ≤ℤ time.numer) a (b ∷ []) first (All-cons (λ time. pos 0 ≤ℤ time.numer) b [] second (All-nil (λ time. pos 0 ≤ℤ time.numer)));
  rising = rises;
}
  where
    rises : (k : ℕ) (d : Fraction) → 0 ≤ k → k + 1 < 2 → is_lt (value_order (slice_index_or (a ∷ b ∷ []) (k + 1) d) (slice_index_or (a ∷ b ∷ []) k d)) ≡ false
    rises zero d low high = kept
    rises (suc k) d low high = absurd (omega arith)

three_times : (a b c : Fraction) → IsFraction a → IsFraction b → IsFraction c → pos 0 ≤ℤ a.numer → pos 0 ≤ℤ b.numer → pos 0 ≤ℤ c.numer → is_lt (value_order b a) ≡ false → is_lt (value_order c b) ≡ false
    → AreOrderlyTimes (a ∷ b ∷ c ∷ [])
three_times a b c one two three first second third kept kept_again = record {
  few = omega arith;
  fractions = All-cons IsFraction a (b ∷ c ∷ []) one (All-cons IsFraction b (c ∷ []) two (All-cons IsFraction c [] three (All-nil IsFraction)));
  start = All-cons (λ time. pos 0 ≤ℤ time.numer) a (b ∷ c ∷ []) first
      (All-cons (λ time. pos 0 ≤ℤ time.numer) b (c ∷ []) second (All-cons (λ time. pos 0 ≤ℤ time.numer) c [] third (All-nil (λ time. pos 0 ≤ℤ time.numer))));
  rising = rises;
}
  where
    rises : (k : ℕ) (d : Fraction) → 0 ≤ k → k + 1 < 3 → is_lt (value_order (slice_index_or (a ∷ b ∷ c ∷ []) (k + 1) d) (slice_index_or (a ∷ b ∷ c ∷ []) k d)) ≡ false
    rises zero d low high = kept
    rises (suc zero) d low high = kept_again
    rises (suc (suc k)) d low high = absurd (omega arith)

pub texts : AreOrderlyTimes (whole (pos 0) ∷ whole (pos 8) ∷ [])
unfolding value_order
texts = two_times (whole (pos 0)) (whole (pos 8)) zero_fraction eight_fraction (omega arith) (omega arith) refl

pub inputs_times : AreOrderlyTimes (whole (pos 0) ∷ record { numer = pos 5; denom = 2 } ∷ whole (pos 4) ∷ [])
unfolding value_order
inputs_times = three_times (whole (pos 0)) (record { numer = pos 5; denom = 2 }) (whole (pos 4)) zero_fraction halves_fraction four_fraction (omega arith) (omega arith) (omega arith) refl refl

cue_is_input : (time : Fraction) (number : ℕ) → IsInput number (cue_of_60 (input_place time number))
cue_is_input time number = record {
  place = refl;
  form = record {
    path = path_of_a (codes "cue") cue_name;
    values = subst (λ o. IsSomeAnd o (All (λ item. IsTrue (is_given item)))) (sym (ring_of_ring (Whole (pos 60) ∷ [])))
        (All-cons (λ item. IsTrue (is_given item)) (Whole (pos 60)) [] given (All-nil (λ item. IsTrue (is_given item))));
  };
  fields = cue_fields (input_place time number) (codes "cue" ∷ codes "a" ∷ []) (Ring (Whole (pos 60) ∷ []));
  within = ring_within_limits;
}

set_is_input : (time : Fraction) (number : ℕ) → IsInput number (set_to_60 (input_place time number))
set_is_input time number = record {
  place = refl;
  form = record { path = path_of_a (codes "set") set_name; value = given };
  fields = set_fields (input_place time number) (codes "set" ∷ codes "a" ∷ []) (Whole (pos 60));
  within = number_within;
}

stop_is_input : (time : Fraction) (number : ℕ) → IsInput number (stop_of_a (input_place time number))
stop_is_input time number = record {
  place = refl;
  form = record { name = codes "a"; symbol = a_name; whole = refl };
  fields = ended_fields (input_place time number) (inner_of Stop (codes "a"));
  within = nil_within;
}

pub each : (k : ℕ) (input : EventView)
    → slice_get (cue_of_60 (input_place (whole (pos 0)) 1)
    ∷ set_to_60 (input_place (record { numer = pos 5; denom = 2 }) 2)
    ∷ stop_of_a (input_place (whole (pos 4)) 3) ∷ []) k ≡ Some input → IsInput (k + 1) input
each zero input e =
    let same : cue_of_60 (input_place (whole (pos 0)) 1) ≡ input = cc in subst (IsInput 1) same (cue_is_input (whole (pos 0)) 1)
each (suc zero) input e =
    let same : set_to_60 (input_place (record { numer = pos 5; denom = 2 }) 2) ≡ input = cc in
    subst (IsInput 2) same (set_is_input (record { numer = pos 5; denom = 2 }) 2)
each (suc (suc zero)) input e =
    let same : stop_of_a (input_place (whole (pos 4)) 3) ≡ input = cc in subst (IsInput 3) same (stop_is_input (whole (pos 4)) 3)
each (suc (suc (suc k))) input e = absurd (let z : None ≡ Some input = e in cc)
