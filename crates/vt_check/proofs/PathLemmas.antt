-- Texts that are refused as paths or patterns.
use Rattle.std.proofs.Common.{◌≡◌, ◌↔◌, ℕ, ◌+◌, ◌<◌, ◌≤◌, ◌⊎◌, inl, inr, List, [], ◌∷◌, length, get_or, drop, Bool, true, false, not, IsTrue, Option, Some, Result, Ok, Err, IfOk, refl, sym, ap, ◌∙◌, subst, true≢false}
use Rattle.std.specs.Prelude.{slice_get}
use Rattle.std.specs.Bool.{MatchBool}
use Rattle.vt_frac.specs.Names.{is_symbol_name}
use Rattle.vt_tree.specs.declared.expression.Expr.{Expr}
use Rattle.vt_check.specs.Written.{first_of}
use Rattle.vt_check.specs.Conditions.{begins_with_slash, IsRefused, IsRefusedOption, first_text, HasRefusedOption, IfText}
use Rattle.vt_check.proofs.JudgingLemmas.{drop_item, drop_past}

-- after a slash
pub slash_iff : (IsGood : List ℕ → Type 0) (text : List ℕ) (good : Bool) → begins_with_slash text ≡ true → MatchBool good (IsGood text) (IsGood text → ⊥) → IsTrue (not good) ↔ IsRefused IsGood text
slash_iff IsGood text true e h = let P : Bool → Type 0 = λ b. MatchBool b (IsGood text → ⊥) (is_symbol_name text ≡ false) in (λ t. absurd (true≢false (sym t)), λ r. absurd (subst P e r h))
slash_iff IsGood text false e h = let P : Bool → Type 0 = λ b. MatchBool b (IsGood text → ⊥) (is_symbol_name text ≡ false) in (λ t. subst P (sym e) h, λ r. refl)

not_true : (b : Bool) → not b ≡ true → b ≡ false
not_true true e = sym e
not_true false e = refl

not_false : (b : Bool) → b ≡ false → not b ≡ true
not_false true e = sym e
not_false false e = refl

-- without a slash
pub name_iff : (IsGood : List ℕ → Type 0) (text : List ℕ) (name : Bool) → begins_with_slash text ≡ false → name ≡ is_symbol_name text → IsTrue (not name) ↔ IsRefused IsGood text
name_iff IsGood text name e n = let P : Bool → Type 0 = λ b. MatchBool b (IsGood text → ⊥) (is_symbol_name text ≡ false) in
    (λ t. subst P (sym e) (sym n ∙ not_true name t), λ r. not_false name (n ∙ subst P e r))

-- the same with an equal text
pub at_text : {E : Type 0} (IsGood : List ℕ → Type 0) (o : Option (List ℕ)) (text : List ℕ) (r : Result Bool E) → o ≡ Some text → IfOk r (λ refused. IsTrue refused ↔ IsRefused IsGood text) → IfOk r (λ refused. IsTrue refused ↔ IfText o (IsRefused IsGood))
at_text IsGood o text r e h = let P : Option (List ℕ) → Type 0 = λ o. IfOk r (λ refused. IsTrue refused ↔ IfText o (IsRefused IsGood)) in subst P (sym e) h

-- an option under the label
pub under_label : {E : Type 0} (P : List ℕ → Type 0) (b : Bool) (o o' : Option (List ℕ)) (r : Result Bool E) → b ≡ true → o ≡ o' → IfOk r (λ refused. IsTrue refused ↔ IfText o P) → IfOk r (λ refused. IsTrue refused ↔ ((b ≡ true) × IfText o' P))
under_label P b o o' (Ok x) e f h = (λ t. (e, subst (λ o. IfText o P) f (h.0 t)), λ q. h.1 (subst (λ o. IfText o P) (sym f) q.1))
under_label P b o o' (Err x) e f h = tt

-- what is left of the options says whether one is refused
pub record Rest (IsGood : List ℕ → Type 0) (label : List ℕ) (options : List (List ℕ × Expr)) (i : ℕ) : Type 0 where
  pub forth : HasRefusedOption IsGood label (drop i options) → HasRefusedOption IsGood label options
  pub back : HasRefusedOption IsGood label options → HasRefusedOption IsGood label (drop i options)

pub rest_all : (IsGood : List ℕ → Type 0) (label : List ℕ) (options : List (List ℕ × Expr)) → Rest IsGood label options 0
rest_all IsGood label options = record { forth = λ h. h; back = λ h. h }

or_else : {A B : Type 0} → (A → ⊥) → A ⊎ B → B
or_else h (inl a) = absurd (h a)
or_else h (inr b) = b

pub rest_next : (IsGood : List ℕ → Type 0) (label : List ℕ) (options : List (List ℕ × Expr)) (i : ℕ) (x : List ℕ × Expr) (b : Bool) → Rest IsGood label options i → i < length options → x ≡ get_or options i x → b ≡ false → IsTrue b ↔ IsRefusedOption IsGood label x → Rest IsGood label options (i + 1)
rest_next IsGood label options i x b rest lt is other iff =
    let P : List (List ℕ × Expr) → Type 0 = λ xs. HasRefusedOption IsGood label xs in
    let e = drop_item options i x lt is in
    record {
      forth = λ h. rest.forth (subst P (sym e) (inr h));
      back = λ h. or_else (λ r. true≢false (sym (iff.1 r) ∙ other)) (subst P e (rest.back h));
    }

pub rest_found : (IsGood : List ℕ → Type 0) (label : List ℕ) (options : List (List ℕ × Expr)) (i : ℕ) (x : List ℕ × Expr) (b : Bool) → Rest IsGood label options i → i < length options → x ≡ get_or options i x → b ≡ true → IsTrue b ↔ IsRefusedOption IsGood label x → IsTrue true ↔ HasRefusedOption IsGood label options
rest_found IsGood label options i x b rest lt is here iff =
    let P : List (List ℕ × Expr) → Type 0 = λ xs. HasRefusedOption IsGood label xs in
    (λ t. rest.forth (subst P (sym (drop_item options i x lt is)) (inl (iff.0 here))), λ h. refl)

pub rest_none : (IsGood : List ℕ → Type 0) (label : List ℕ) (options : List (List ℕ × Expr)) (i : ℕ) → Rest IsGood label options i → length options ≤ i → IsTrue false ↔ HasRefusedOption IsGood label options
rest_none IsGood label options i rest le =
    let P : List (List ℕ × Expr) → Type 0 = λ xs. HasRefusedOption IsGood label xs in
    (λ t. absurd (true≢false (sym t)), λ h. absurd (subst P (drop_past options i le) (rest.back h)))

-- the same of an equal text
pub same_text : {E : Type 0} (P : List ℕ → Type 0) (o o' : Option (List ℕ)) (r : Result Bool E) → o ≡ o' → IfOk r (λ refused. IsTrue refused ↔ IfText o P) → IfOk r (λ refused. IsTrue refused ↔ IfText o' P)
same_text P o o' r e h = let Q : Option (List ℕ) → Type 0 = λ o. IfOk r (λ refused. IsTrue refused ↔ IfText o P) in subst Q e h

-- one of two facts, by a test
pub where_true : {E : Type 0} (P Q : Type 0) (b : Bool) (r : Result Bool E) → b ≡ true → IfOk r (λ refused. IsTrue refused ↔ P) → IfOk r (λ refused. IsTrue refused ↔ MatchBool b P Q)
where_true P Q true r e h = h
where_true P Q false r e h = absurd (true≢false (sym e))

pub where_false : {E : Type 0} (P Q : Type 0) (b : Bool) (r : Result Bool E) → b ≡ false → IfOk r (λ refused. IsTrue refused ↔ Q) → IfOk r (λ refused. IsTrue refused ↔ MatchBool b P Q)
where_false P Q true r e h = absurd (true≢false e)
where_false P Q false r e h = h

first_is : {X : Type 0} (xs : List X) → slice_get xs 0 ≡ first_of xs
first_is [] = refl
first_is (x ∷ xs) = refl

pub first_text_is : (o : Option Expr) (args : List Expr) → o ≡ slice_get args 0 → first_text o ≡ first_text (first_of args)
first_text_is o args e = ap first_text (e ∙ first_is args)
