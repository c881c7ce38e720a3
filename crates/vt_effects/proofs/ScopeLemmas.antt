-- Locals from the last to the first.
use Rattle.std.proofs.Common.{◌≡◌, ◌<◌, ℕ, List, [], ◌∷◌, ◌++◌, length, set, drop, Bool, true, false, cond, bytes_eq, Option, Some, None, unwrap_or, refl, sym, ap, ◌∙◌, subst, arith}
use Rattle.std.specs.Option.{option_map}
use Rattle.std.proofs.lemmas.List.{length_push, set-append_left, set_at}
use Rattle.vt_value.specs.declared.value.Value.{Value}
use Rattle.vt_event.specs.Pairs.{Pairs}
use Rattle.vt_run.specs.Scopes.{assigned, changed, lookup, or_else, params_with, put_before}
use Rattle.vt_effects.specs.private.LastLocal.{IsLastNamed, IsUnnamed, first_or_nil}

abbrev Local : Type 0
Local = List ℕ × Value

or_none : (value : Option Value) → value ≡ or_else value None
or_none None = refl
or_none (Some value) = refl

or_in_turn : (a b c : Option Value) → or_else (or_else a b) c ≡ or_else a (or_else b c)
or_in_turn None b c = refl
or_in_turn (Some value) b c = refl

abbrev pub found_in : List ℕ → Local → Option Value
found_in name local = cond (bytes_eq local.0 name) (Some local.1) None

pub lookup_with : (name : List ℕ) (locals : Pairs) (local : Local) → lookup name (locals ++ local ∷ []) ≡ or_else (found_in name local) (lookup name locals)
lookup_with name [] local = or_none (found_in name local)
lookup_with name (first ∷ locals) local =
    ap (λ found. or_else found (found_in name first)) (lookup_with name locals local) ∙ or_in_turn (found_in name local) (lookup name locals) (found_in name first)

pub lookup_found : (name : List ℕ) (left locals : Pairs) (local : Local) → left ≡ locals ++ local ∷ [] → bytes_eq local.0 name ≡ true → lookup name left ≡ Some local.1
lookup_found name left locals local is same =
    ap (lookup name) is ∙ lookup_with name locals local ∙ ap (λ b. or_else (cond b (Some local.1) None) (lookup name locals)) same

pub lookup_past : (name : List ℕ) (left locals : Pairs) (local : Local) → left ≡ locals ++ local ∷ [] → bytes_eq local.0 name ≡ false → lookup name left ≡ lookup name locals
lookup_past name left locals local is other =
    ap (lookup name) is ∙ lookup_with name locals local ∙ ap (λ b. or_else (cond b (Some local.1) None) (lookup name locals)) other

-- Assignments

changed_found : (name : List ℕ) (value : Value) (locals : Pairs) (local : Local) → bytes_eq local.0 name ≡ true → changed name value (locals ++ local ∷ []) ≡ Some (locals ++ (name, value) ∷ [])
changed_found name value [] local same = ap (λ b. put_before local b name value [] None) same
changed_found name value (first ∷ locals) local same = ap (λ rest. put_before first (bytes_eq first.0 name) name value (locals ++ local ∷ []) rest) (changed_found name value locals local same)

put_past : (first local : Local) (here : Bool) (name : List ℕ) (value : Value) (locals : Pairs) (rest : Option Pairs) →
    put_before first here name value (locals ++ local ∷ []) (option_map (λ more. more ++ local ∷ []) rest) ≡ option_map (λ more. more ++ local ∷ []) (put_before first here name value locals rest)
put_past first local here name value locals (Some more) = refl
put_past first local true name value locals None = refl
put_past first local false name value locals None = refl

changed_past : (name : List ℕ) (value : Value) (locals : Pairs) (local : Local) → bytes_eq local.0 name ≡ false →
    changed name value (locals ++ local ∷ []) ≡ option_map (λ more. more ++ local ∷ []) (changed name value locals)
changed_past name value [] local other = ap (λ b. put_before local b name value [] None) other
changed_past name value (first ∷ locals) local other =
    ap (λ rest. put_before first (bytes_eq first.0 name) name value (locals ++ local ∷ []) rest) (changed_past name value locals local other)
    ∙ put_past first local (bytes_eq first.0 name) name value locals (changed name value locals)

-- what is found in the first locals is found in all
pub record Leaves (name : List ℕ) (left locals : Pairs) : Type 0 where
  pub named : (at : ℕ) → IsLastNamed name left at → IsLastNamed name locals at
  pub unnamed : IsUnnamed name left → IsUnnamed name locals

pub leaves_all : (name : List ℕ) (locals : Pairs) → Leaves name locals locals
leaves_all name locals = record { named = λ at h. h; unnamed = λ h. h }

named_past : (name : List ℕ) (locals : Pairs) (local : Local) (at : ℕ) → bytes_eq local.0 name ≡ false → IsLastNamed name locals at → IsLastNamed name (locals ++ local ∷ []) at
named_past name locals local at other h = record {
  within = omega (arith, h.within, length_push locals local);
  changes = λ value. changed_past name value locals local other ∙ ap (option_map (λ more. more ++ local ∷ [])) (h.changes value) ∙ ap (λ (more : Pairs). Some more) (sym (set-append_left locals (local ∷ []) at (name, value) h.within));
}

pub leaves_past : (name : List ℕ) (left rest locals : Pairs) (local : Local) → left ≡ rest ++ local ∷ [] → bytes_eq local.0 name ≡ false → Leaves name left locals → Leaves name rest locals
leaves_past name left rest locals local is other h = record {
  named = λ at last. h.named at (subst (λ all. IsLastNamed name all at) (sym is) (named_past name rest local at other last));
  unnamed = λ none. h.unnamed (λ value. ap (changed name value) is ∙ changed_past name value rest local other ∙ ap (option_map (λ more. more ++ local ∷ [])) (none value));
}

last_here : (name : List ℕ) (rest : Pairs) (local : Local) → bytes_eq local.0 name ≡ true → IsLastNamed name (rest ++ local ∷ []) (length rest)
last_here name rest local same = record {
  within = omega (arith, length_push rest local);
  changes = λ value. changed_found name value rest local same ∙ ap (λ (more : Pairs). Some more) (sym (set_at rest local [] (name, value) (length rest) refl));
}

pub leaves_here : (name : List ℕ) (left rest locals : Pairs) (local : Local) → left ≡ rest ++ local ∷ [] → bytes_eq local.0 name ≡ true → Leaves name left locals → IsLastNamed name locals (length rest)
leaves_here name left rest locals local is same h = h.named (length rest) (subst (λ all. IsLastNamed name all (length rest)) (sym is) (last_here name rest local same))

pub leaves_none : (name : List ℕ) (left locals : Pairs) → left ≡ [] → Leaves name left locals → IsUnnamed name locals
leaves_none name left locals is h = h.unnamed (λ value. ap (changed name value) is)

-- Parameters

pub params_next : (name : List ℕ) (names : List (List ℕ)) (values : List Value) → params_with (name ∷ names) values ≡ (name, first_or_nil values) ∷ params_with names (drop 1 values)
params_next name names [] = refl
params_next name names (value ∷ values) = refl

-- The locals after an assignment

pub assigned_at : (name : List ℕ) (value : Value) (locals slice : Pairs) (at : ℕ) → slice ≡ locals → IsLastNamed name slice at → set locals at (name, value) ≡ assigned name value locals
assigned_at name value locals slice at is h =
    sym (ap (λ (found : Option Pairs). unwrap_or found (locals ++ (name, value) ∷ [])) (subst (λ (all : Pairs). changed name value all ≡ Some (set all at (name, value))) is (h.changes value)))

pub assigned_new : (name : List ℕ) (value : Value) (locals slice : Pairs) → slice ≡ locals → IsUnnamed name slice → locals ++ (name, value) ∷ [] ≡ assigned name value locals
assigned_new name value locals slice is none =
    sym (ap (λ (found : Option Pairs). unwrap_or found (locals ++ (name, value) ∷ [])) (subst (λ (all : Pairs). changed name value all ≡ None) is (none value)))
