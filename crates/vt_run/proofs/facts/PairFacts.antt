-- Locals, options and tick counters keep to the limits of the language.
use Rattle.std.proofs.Common.{◌≡◌, ◌<◌, ℕ, List, [], ◌∷◌, ◌++◌, Bool, true, false, cond, Option, Some, None, take}
use Rattle.std.specs.Prelude.{IfSome, IsTrue, ◌^◌, ℤ, bytes_eq, filter, find, not, unsigned_abs, unwrap_or}
use Rattle.std.specs.List.{AllByRecursion, zip}
use Rattle.std.specs.Option.{option_map}
use Rattle.vt_ring.specs.Signatures.{option_named}
use Rattle.vt_ring.proofs.limits.Values.{at_some, within_nil}
use Rattle.vt_ring.proofs.Elements.{each_append, each_take}
use Rattle.vt_value.specs.declared.value.Value.{Value}
use Rattle.vt_value.specs.Limits.{AreWithin, IsWithin}
use Rattle.vt_frac.specs.Names.{IsName, is_label_name, is_symbol_name}
use Rattle.vt_event.specs.Pairs.{Pairs}
use Rattle.vt_run.specs.Limits.{ArePairsWithin, IsPairWithin}
use Rattle.vt_run.specs.calls.PlayCalls.{has_name, with_defaults}
use Rattle.vt_run.specs.Scopes.{assigned, changed, lookup, or_else, params_with, put_before}
use Rattle.vt_run.specs.calls.TickCalls.{Counters, counter_of, with_counter, without_counter}
use Rattle.vt_run.proofs.facts.Known.{IsCounterWithin}

module _ {X : Type 0} (P : X → Type 0) (test : X → Bool) where
  pub each_filter : (xs : List X) → AllByRecursion P xs → AllByRecursion P (filter test xs)
  each_filter [] h = tt
  each_filter (x ∷ xs) h = go (test x) (each_filter xs h.1) where
    go : (b : Bool) → AllByRecursion P (filter test xs) → AllByRecursion P (cond b (x ∷ filter test xs) (filter test xs))
    go true k = (h.0, k)
    go false k = k

  pub each_find : (xs : List X) → AllByRecursion P xs → IfSome (find test xs) P
  each_find [] h = tt
  each_find (x ∷ xs) h = go (test x) (each_find xs h.1) where
    go : (b : Bool) → IfSome (find test xs) P → IfSome (cond b (Some x) (find test xs)) P
    go true k = h.0
    go false k = k

-- pairs of what two lists hold
module _ {X Y : Type 0} (P : X → Type 0) (Q : Y → Type 0) (R : X × Y → Type 0) where
  pub each_zip : ((x : X) (y : Y) → P x → Q y → R (x, y)) → (xs : List X) (ys : List Y) → AllByRecursion P xs → AllByRecursion Q ys → AllByRecursion R (zip xs ys)
  each_zip k [] ys h g = tt
  each_zip k (x ∷ xs) [] h g = tt
  each_zip k (x ∷ xs) (y ∷ ys) h g = (k x y h.0 g.0, each_zip k xs ys h.1 g.1)

pub map_if : {X Y : Type 0} (f : X → Y) (P : X → Type 0) (Q : Y → Type 0) (found : Option X) → ((x : X) → P x → Q (f x)) → IfSome found P → IfSome (option_map f found) Q
map_if f P Q None k h = tt
map_if f P Q (Some x) k h = k x h

pub or_if : {X : Type 0} (P : X → Type 0) (found : Option X) (other : X) → IfSome found P → P other → P (unwrap_or found other)
or_if P None other h k = k
or_if P (Some x) other h k = h

-- Locals

pub pairs_append : (pairs others : Pairs) → ArePairsWithin pairs → ArePairsWithin others → ArePairsWithin (pairs ++ others)
pairs_append pairs others h k = each_append IsPairWithin pairs others h k

pub pairs_take : (n : ℕ) (pairs : Pairs) → ArePairsWithin pairs → ArePairsWithin (take n pairs)
pairs_take n pairs h = each_take IsPairWithin n pairs h

pub lookup_if : (name : List ℕ) (locals : Pairs) → ArePairsWithin locals → IfSome (lookup name locals) IsWithin
lookup_if name [] h = tt
lookup_if name (local ∷ locals) h = other (lookup name locals) (lookup_if name locals h.1) where
  here : (b : Bool) → IfSome (cond b (Some local.1) None) IsWithin
  here true = h.0.value
  here false = tt

  other : (found : Option Value) → IfSome found IsWithin → IfSome (or_else found (cond (bytes_eq local.0 name) (Some local.1) None)) IsWithin
  other None k = here (bytes_eq local.0 name)
  other (Some value) k = k

pub lookup_within : (name : List ℕ) (locals : Pairs) (value : Value) → lookup name locals ≡ Some value → ArePairsWithin locals → IsWithin value
lookup_within name locals value e h = at_some IsWithin (lookup name locals) value e (lookup_if name locals h)

put_before_if : (local : List ℕ × Value) (here : Bool) (name : List ℕ) (value : Value) (locals : Pairs) (found : Option Pairs) →
    IsPairWithin local → IsPairWithin (name, value) → ArePairsWithin locals → IfSome found ArePairsWithin → IfSome (put_before local here name value locals found) ArePairsWithin
put_before_if local here name value locals (Some after) l n h k = (l, k)
put_before_if local true name value locals None l n h k = (n, h)
put_before_if local false name value locals None l n h k = tt

changed_if : (name : List ℕ) (value : Value) (locals : Pairs) → IsPairWithin (name, value) → ArePairsWithin locals → IfSome (changed name value locals) ArePairsWithin
changed_if name value [] n h = tt
changed_if name value (local ∷ locals) n h =
    put_before_if local (bytes_eq local.0 name) name value locals (changed name value locals) h.0 n h.1 (changed_if name value locals n h.1)

pub assigned_within : (name : List ℕ) (value : Value) (locals : Pairs) → IsTrue (is_label_name name) → IsWithin value → ArePairsWithin locals → ArePairsWithin (assigned name value locals)
assigned_within name value locals label held h =
    let pair : IsPairWithin (name, value) = record { name = label; value = held } in
    or_if ArePairsWithin (changed name value locals) (locals ++ (name, value) ∷ []) (changed_if name value locals pair h) (pairs_append locals ((name, value) ∷ []) h (pair, tt))

pub params_within : (params : List (List ℕ)) (values : List Value) → AllByRecursion IsName params → AreWithin values → ArePairsWithin (params_with params values)
params_within [] values names held = tt
params_within (name ∷ names) [] good held = (record { name = good.0.form; value = within_nil }, params_within names [] good.1 tt)
params_within (name ∷ names) (value ∷ values) good held = (record { name = good.0.form; value = held.0 }, params_within names values good.1 held.1)

-- Options

pub option_if : (name : List ℕ) (options : Pairs) → ArePairsWithin options → IfSome (option_named name options) IsWithin
option_if name options h =
    let named = λ (option : List ℕ × Value). bytes_eq option.0 name in
    map_if (λ (option : List ℕ × Value). option.1) IsPairWithin IsWithin (find named options) (λ option k. k.value) (each_find IsPairWithin named options h)

pub defaults_within : (options defaults : Pairs) → ArePairsWithin options → ArePairsWithin defaults → ArePairsWithin (with_defaults options defaults)
defaults_within options defaults h k =
    let other = λ (option : List ℕ × Value). not (has_name options option.0) in
    pairs_append options (filter other defaults) h (each_filter IsPairWithin other defaults k)

-- Tick counters

pub counter_if : (name : List ℕ) (ticks : Counters) → AllByRecursion IsCounterWithin ticks → IfSome (counter_of name ticks) (λ number. unsigned_abs number < 2 ^ 63)
counter_if name ticks h =
    let named = λ (counter : List ℕ × ℤ). bytes_eq counter.0 name in
    map_if (λ (counter : List ℕ × ℤ). counter.1) IsCounterWithin (λ number. unsigned_abs number < 2 ^ 63) (find named ticks) (λ counter k. k.number) (each_find IsCounterWithin named ticks h)

pub without_counter_within : (name : List ℕ) (ticks : Counters) → AllByRecursion IsCounterWithin ticks → AllByRecursion IsCounterWithin (without_counter name ticks)
without_counter_within name ticks h = each_filter IsCounterWithin (λ (counter : List ℕ × ℤ). not (bytes_eq counter.0 name)) ticks h

pub with_counter_within : (name : List ℕ) (number : ℤ) (ticks : Counters) → IsTrue (is_symbol_name name) → unsigned_abs number < 2 ^ 63 → AllByRecursion IsCounterWithin ticks →
    AllByRecursion IsCounterWithin (with_counter name number ticks)
with_counter_within name number ticks symbol small h =
    each_append IsCounterWithin (without_counter name ticks) ((name, number) ∷ []) (without_counter_within name ticks h) (record { name = symbol; number = small }, tt)
