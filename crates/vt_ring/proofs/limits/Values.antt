-- What makes a value be within the limits of the language, and what is known of one that is.
use Rattle.std.specs.Prelude.{nat_le, nat_lt}
use Rattle.std.specs.List.{AllByRecursion}
use Rattle.std.specs.Option.{IfSome}
use Rattle.std.specs.Result.{IfOk}
use Rattle.std.proofs.Common.{◌≡◌, ℕ, ◌+◌, ◌<◌, ◌≤◌, ◌^◌, ℤ, unsigned_abs, Bool, true, ◌&&◌, IsTrue, List, [], ◌∷◌, length, map, Option, Some, Result, Ok, Err, refl, sym, ap, subst, ◌∙◌, arith}
use Rattle.std.proofs.lemmas.Result.{IfOk-at_ok}
use Rattle.std.proofs.lemmas.Bool.{leb-true, ltb-true}
use Rattle.std.proofs.lemmas.Bool.Decides.{nat_tests}
use Rattle.std.proofs.Math.Nat.{eq-one_of_dvd-one}
use Rattle.vt_frac.specs.Fraction.{Fraction, IsFraction, whole}
use Rattle.vt_frac.specs.Names.{is_symbol_name}
use Rattle.vt_frac.proofs.GcdLemmas.{gcd-IsGcd}
use Rattle.vt_value.specs.declared.fault.FaultKind.{FaultKind}
use Rattle.vt_value.specs.declared.fault.FaultKind.TheVariants.{Overflow, TooLarge}
use Rattle.vt_value.specs.declared.value.Value.{Value, out-Value, roll-Value, map-Value}
use Rattle.vt_value.specs.declared.value.Value.TheVariants.{Nil, Bool as Truth, Whole, Part, Sym, Text, Ring, rolls-Nil, rolls-Bool, rolls-Whole, rolls-Part, rolls-Sym, rolls-Text, rolls-Ring}
use Rattle.vt_value.specs.declared.value.Value.TheOpen.{Value-F}
use Rattle.vt_value.specs.declared.value.Value.TheFolds.{every_here-Value, every_held-Value, every_made-Value, fold-roll-Value}
use Rattle.vt_value.specs.Arithmetic.{are_within, fitting, ring_within, text_within}
use Rattle.vt_value.specs.Kinds.{items_layer, items_of, number_layer, number_of, ring_layer, ring_of, symbol_layer, symbol_of, text_bytes, text_bytes_layer, whole_layer, whole_of}
use Rattle.vt_value.specs.Sizes.{size_layer, size_of, sizes_of}
use Rattle.vt_value.specs.Limits.{WithinLayer, IsWithin, AreWithin}
use Rattle.vt_ring.specs.Called.{as_ring}
use Rattle.vt_ring.specs.Limits.{within_limits}
use Rattle.vt_ring.proofs.limits.Answers.{cond_gives}

-- a value together with the fact that it is within the limits
abbrev Held : Type 0
Held = (value : Value) × IsWithin value

abbrev bare : Value-F Held → Value-F Value
bare = map-Value Held Value (λ x. x.0)

record Paired (values : List Value) : Type 0 where
  pairs : List Held
  are : map (λ x. x.0) pairs ≡ values

paired : (values : List Value) → AreWithin values → Paired values
paired [] h = record { pairs = []; are = refl }
paired (value ∷ values) h =
    let later = paired values h.1 in
    record { pairs = (value, h.0) ∷ later.pairs; are = ap (λ z. value ∷ z) later.are }

unpaired : (values : List Value) (pairs : List Held) → map (λ x. x.0) pairs ≡ values → AreWithin values
unpaired values pairs e = subst AreWithin e (each pairs)
  where
    each : (pairs : List Held) → AreWithin (map (λ x. x.0) pairs)
    each [] = tt
    each (x ∷ pairs) = (x.1, each pairs)

made : (value : Value) (layer : Value-F Value) (held : Value-F Held) → roll-Value layer ≡ value → bare held ≡ layer → WithinLayer layer → IsWithin value
unfolding IsWithin
made value layer held e m g = subst IsWithin e (every_made-Value WithinLayer layer held m g)

pub here : (value : Value) → IsWithin value → WithinLayer (out-Value value)
unfolding IsWithin
here value h = every_here-Value WithinLayer value h

held : (value : Value) → IsWithin value → (y : Value-F Held) × (bare y ≡ out-Value value)
unfolding IsWithin
held value h = every_held-Value WithinLayer value h

pub within_nil : IsWithin Nil
within_nil = made Nil Value-F.Nil Value-F.Nil rolls-Nil refl tt

pub within_bool : (b : Bool) → IsWithin (Truth b)
within_bool b = made (Truth b) (Value-F.Bool b) (Value-F.Bool b) (rolls-Bool b) refl tt

pub within_whole : (n : ℤ) → unsigned_abs n < 2 ^ 63 → IsWithin (Whole n)
within_whole n h = made (Whole n) (Value-F.Whole n) (Value-F.Whole n) (rolls-Whole n) refl h

pub within_part : (f : Fraction) → IsFraction f → IsWithin (Part f)
within_part f h = made (Part f) (Value-F.Part f) (Value-F.Part f) (rolls-Part f) refl h

pub within_symbol : (name : List ℕ) → IsTrue (is_symbol_name name) → IsWithin (Sym name)
within_symbol name h = made (Sym name) (Value-F.Sym name) (Value-F.Sym name) (rolls-Sym name) refl h

pub within_text : (bytes : List ℕ) → length bytes ≤ 4096 → IsWithin (Text bytes)
within_text bytes h = made (Text bytes) (Value-F.Text bytes) (Value-F.Text bytes) (rolls-Text bytes) refl h

pub within_ring : (items : List Value) → IsTrue (are_within items) → AreWithin items → IsWithin (Ring items)
within_ring items few h =
    let all = paired items h in
    made (Ring items) (Value-F.Ring items) (Value-F.Ring all.pairs) (rolls-Ring items) (ap (λ z. Value-F.Ring z) all.are) few

-- What is known of a value within the limits

-- a whole number as the language has it
abbrev pub IsWholeWithin : ℤ → Type 0
IsWholeWithin n = unsigned_abs n < 2 ^ 63

-- the items of a ring: at most 4,096, of a size that a ring may have, and each of them within the limits
pub record IsRingWithin (items : List Value) : Type 0 where
  pub few : IsTrue (are_within items)
  pub each : AreWithin items

pub within_items : (value : Value) → IsWithin value → AreWithin (items_of value)
within_items value h =
    let parts = held value h in
    unpaired (items_of value) (pairs_in parts.0) (by_layer parts.0 ∙ ap items_layer parts.1)
  where
    pairs_in : Value-F Held → List Held
    pairs_in (Value-F.Ring pairs) = pairs
    pairs_in _ = []

    by_layer : (layer : Value-F Held) → map (λ x. x.0) (pairs_in layer) ≡ items_layer (bare layer)
    by_layer Value-F.Nil = refl
    by_layer (Value-F.Bool b) = refl
    by_layer (Value-F.Whole n) = refl
    by_layer (Value-F.Part f) = refl
    by_layer (Value-F.Sym name) = refl
    by_layer (Value-F.Text bytes) = refl
    by_layer (Value-F.Ring pairs) = refl

pub whole_if : (value : Value) → IsWithin value → IfSome (whole_of value) IsWholeWithin
whole_if value h = by_layer (out-Value value) (here value h)
  where
    by_layer : (layer : Value-F Value) → WithinLayer layer → IfSome (whole_layer layer) IsWholeWithin
    by_layer Value-F.Nil h = tt
    by_layer (Value-F.Bool b) h = tt
    by_layer (Value-F.Whole n) h = h
    by_layer (Value-F.Part f) h = tt
    by_layer (Value-F.Sym name) h = tt
    by_layer (Value-F.Text bytes) h = tt
    by_layer (Value-F.Ring items) h = tt

-- a whole number is a fraction
pub whole_fraction : (n : ℤ) → IsWholeWithin n → IsFraction (whole n)
whole_fraction n h = record { lowest = eq-one_of_dvd-one ((gcd-IsGcd (unsigned_abs n) 1).1); positive = omega arith; numer_fits = h; denom_fits = omega arith }

pub number_if : (value : Value) → IsWithin value → IfSome (number_of value) IsFraction
number_if value h = by_layer (out-Value value) (here value h)
  where
    by_layer : (layer : Value-F Value) → WithinLayer layer → IfSome (number_layer layer) IsFraction
    by_layer Value-F.Nil h = tt
    by_layer (Value-F.Bool b) h = tt
    by_layer (Value-F.Whole n) h = whole_fraction n h
    by_layer (Value-F.Part f) h = h
    by_layer (Value-F.Sym name) h = tt
    by_layer (Value-F.Text bytes) h = tt
    by_layer (Value-F.Ring items) h = tt

pub symbol_if : (value : Value) → IsWithin value → IfSome (symbol_of value) (λ name. IsTrue (is_symbol_name name))
symbol_if value h = by_layer (out-Value value) (here value h)
  where
    by_layer : (layer : Value-F Value) → WithinLayer layer → IfSome (symbol_layer layer) (λ name. IsTrue (is_symbol_name name))
    by_layer Value-F.Nil h = tt
    by_layer (Value-F.Bool b) h = tt
    by_layer (Value-F.Whole n) h = tt
    by_layer (Value-F.Part f) h = tt
    by_layer (Value-F.Sym name) h = h
    by_layer (Value-F.Text bytes) h = tt
    by_layer (Value-F.Ring items) h = tt

pub text_if : (value : Value) → IsWithin value → IfSome (text_bytes value) (λ bytes. length bytes ≤ 4096)
text_if value h = by_layer (out-Value value) (here value h)
  where
    by_layer : (layer : Value-F Value) → WithinLayer layer → IfSome (text_bytes_layer layer) (λ bytes. length bytes ≤ 4096)
    by_layer Value-F.Nil h = tt
    by_layer (Value-F.Bool b) h = tt
    by_layer (Value-F.Whole n) h = tt
    by_layer (Value-F.Part f) h = tt
    by_layer (Value-F.Sym name) h = tt
    by_layer (Value-F.Text bytes) h = h
    by_layer (Value-F.Ring items) h = tt

pub ring_if : (value : Value) → IsWithin value → IfSome (ring_of value) IsRingWithin
ring_if value h = by_layer (out-Value value) (here value h) (within_items value h)
  where
    by_layer : (layer : Value-F Value) → WithinLayer layer → AreWithin (items_layer layer) → IfSome (ring_layer layer) IsRingWithin
    by_layer Value-F.Nil h k = tt
    by_layer (Value-F.Bool b) h k = tt
    by_layer (Value-F.Whole n) h k = tt
    by_layer (Value-F.Part f) h k = tt
    by_layer (Value-F.Sym name) h k = tt
    by_layer (Value-F.Text bytes) h k = tt
    by_layer (Value-F.Ring items) h k = record { few = h; each = k }

-- The same at a given result

pub at_some : {A : Type 0} (P : A → Type 0) (found : Option A) (x : A) → found ≡ Some x → IfSome found P → P x
at_some P found x e h = subst (λ o. IfSome o P) e h

pub whole_known : (value : Value) (n : ℤ) → IsWithin value → whole_of value ≡ Some n → unsigned_abs n < 2 ^ 63
whole_known value n h e = at_some IsWholeWithin (whole_of value) n e (whole_if value h)

pub number_known : (value : Value) (f : Fraction) → IsWithin value → number_of value ≡ Some f → IsFraction f
number_known value f h e = at_some IsFraction (number_of value) f e (number_if value h)

pub symbol_known : (value : Value) (name : List ℕ) → IsWithin value → symbol_of value ≡ Some name → IsTrue (is_symbol_name name)
symbol_known value name h e = at_some (λ name. IsTrue (is_symbol_name name)) (symbol_of value) name e (symbol_if value h)

pub text_known : (value : Value) (bytes : List ℕ) → IsWithin value → text_bytes value ≡ Some bytes → length bytes ≤ 4096
text_known value bytes h e = at_some (λ bytes. length bytes ≤ 4096) (text_bytes value) bytes e (text_if value h)

pub ring_known : (value : Value) (items : List Value) → IsWithin value → ring_of value ≡ Some items → IsTrue (are_within items) × AreWithin items
ring_known value items h e = let r = at_some IsRingWithin (ring_of value) items e (ring_if value h) in (r.few, r.each)

-- Limits

pub fitting_gives : (z : ℤ) → IfOk (fitting z) IsWholeWithin
fitting_gives z = cond_gives (nat_lt (unsigned_abs z) (2 ^ 63)) (Ok z) Overflow IsWholeWithin (λ e. ltb-true (unsigned_abs z) (2 ^ 63) e)

pub fitting_known : (z n : ℤ) → fitting z ≡ Ok n → unsigned_abs n < 2 ^ 63
fitting_known z n e = IfOk-at_ok IsWholeWithin e (fitting_gives z)

pub text_within_gives : (bytes : List ℕ) → IfOk (text_within bytes) IsWithin
text_within_gives bytes = cond_gives (nat_le (length bytes) 4096) (Ok (Text bytes)) TooLarge IsWithin (λ e. within_text bytes (leb-true (length bytes) 4096 e))

pub text_within_known : (bytes : List ℕ) (value : Value) → text_within bytes ≡ Ok value → IsWithin value
text_within_known bytes value e = IfOk-at_ok IsWithin e (text_within_gives bytes)

pub ring_within_gives : (items : List Value) → AreWithin items → IfOk (ring_within items) IsWithin
ring_within_gives items h = cond_gives (are_within items) (Ok (Ring items)) TooLarge IsWithin (λ e. within_ring items e h)

pub ring_within_known : (items : List Value) (value : Value) → ring_within items ≡ Ok value → AreWithin items → IsWithin value
ring_within_known items value e h = IfOk-at_ok IsWithin e (ring_within_gives items h)

pub within_limits_gives : (items : List Value) → AreWithin items → IfOk (within_limits items) IsRingWithin
within_limits_gives items h = cond_gives (are_within items) (Ok items) TooLarge IsRingWithin (λ e. record { few = e; each = h })

pub as_ring_gives : (answer : Result (List Value) FaultKind) → IfOk answer IsRingWithin → IfOk (as_ring answer) IsWithin
as_ring_gives (Ok items) h = within_ring items h.few h.each
as_ring_gives (Err kind) h = tt

-- a value within the limits whose size is 1
pub record IsSingle (value : Value) : Type 0 where
  pub within : IsWithin value
  pub size : size_of value ≡ 1

-- at most 4,096 such values can be the items of a ring
pub ring_of_singles : (items : List Value) → length items ≤ 4096 → AllByRecursion IsSingle items → IsRingWithin items
ring_of_singles items few h = record { few = by_counts (length items) (sizes_of items) few (sizes items h); each = all items h }
  where
    sizes : (items : List Value) → AllByRecursion IsSingle items → sizes_of items ≡ length items
    sizes [] h = refl
    sizes (item ∷ items) h = omega (arith, h.0.size, sizes items h.1)

    all : (items : List Value) → AllByRecursion IsSingle items → AreWithin items
    all [] h = tt
    all (item ∷ items) h = (h.0.within, all items h.1)

    by_counts : (count size : ℕ) → count ≤ 4096 → size ≡ count → (nat_le count 4096 && nat_le (1 + size) 65536) ≡ true
    by_counts count size few e = grind (arith, nat_tests)

pub single_bool : (b : Bool) → IsSingle (Truth b)
unfolding size_of
single_bool b = record { within = within_bool b; size = ap size_of (sym (rolls-Bool b)) ∙ fold-roll-Value ℕ size_layer (Value-F.Bool b) }

pub single_whole : (n : ℤ) → unsigned_abs n < 2 ^ 63 → IsSingle (Whole n)
unfolding size_of
single_whole n h = record { within = within_whole n h; size = ap size_of (sym (rolls-Whole n)) ∙ fold-roll-Value ℕ size_layer (Value-F.Whole n) }

pub single_part : (f : Fraction) → IsFraction f → IsSingle (Part f)
unfolding size_of
single_part f h = record { within = within_part f h; size = ap size_of (sym (rolls-Part f)) ∙ fold-roll-Value ℕ size_layer (Value-F.Part f) }
