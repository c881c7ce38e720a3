-- How answers go through a call.
use Rattle.std.proofs.Common.{◌≡◌, List, [], ◌∷◌, ◌++◌, map, Result, Ok, Err, IsOk, refl, sym, ap, ◌∙◌, subst}
use Rattle.std.proofs.lemmas.List.{map-append}
use Rattle.std.proofs.lemmas.Bool.{false≢true}
use Rattle.vt_value.specs.declared.fault.FaultKind.{FaultKind}
use Rattle.vt_value.specs.declared.fault.ValueFault.{ValueFault}
use Rattle.vt_value.specs.declared.fault.ValueFault.TheVariants.{Fault, NoMemory}
use Rattle.vt_value.specs.Answers.{Gives}
use Rattle.vt_ring.specs.Answers.{and_then, all_of, MayGive}

pub gives_same : {T : Type 0} (a b : Result T FaultKind) (r : Result T ValueFault) → a ≡ b → Gives b r → Gives a r
gives_same a b r e g = subst (λ x. Gives x r) (sym e) g

-- where the definition has no fault, want of memory hides none
pub gives_all : {T : Type 0} (answer : Result T FaultKind) (r : Result T ValueFault) → IsOk answer → MayGive answer r → Gives answer r
gives_all answer (Ok value) ok g = g
gives_all answer (Err (Fault kind)) ok g = g
gives_all answer (Err NoMemory) ok g = ok

-- what a good answer goes back to
pub good_first : {A B : Type 0} (answer : Result A FaultKind) (next : A → Result B FaultKind) → IsOk (and_then answer next) → IsOk answer
good_first (Ok value) next h = refl
good_first (Err kind) next h = h

pub good_map : {A B : Type 0} (answer : Result A FaultKind) (f : A → B) → IsOk answer → IsOk (and_then answer (λ value. Ok (f value)))
good_map (Ok value) f h = refl
good_map (Err kind) f h = h

pub and_then_inverse : {A B : Type 0} (answer : Result A FaultKind) (next : A → Result B FaultKind) (result : B) → and_then answer next ≡ Ok result → (value : A) × (answer ≡ Ok value) × (next value ≡ Ok result)
and_then_inverse (Ok value) next result h = (value, refl, h)
and_then_inverse (Err kind) next result h = absurd (let z : Err kind ≡ Ok result = h in cc)

-- one more answer
pub all_of-append_ok : {A : Type 0} (answers : List (Result A FaultKind)) (value : A) → all_of (answers ++ Ok value ∷ []) ≡ and_then (all_of answers) (λ values. Ok (values ++ value ∷ []))
all_of-append_ok [] value = refl
all_of-append_ok {A = A} (Ok first ∷ answers) value = ap (λ a. and_then a (λ values. Ok (first ∷ values))) (all_of-append_ok answers value) ∙ inside (all_of answers)
  where
    inside : (rest : Result (List A) FaultKind) → and_then (and_then rest (λ values. Ok (values ++ value ∷ []))) (λ values. Ok (first ∷ values)) ≡ and_then (and_then rest (λ values. Ok (first ∷ values))) (λ values. Ok (values ++ value ∷ []))
    inside (Ok values) = refl
    inside (Err kind) = refl
all_of-append_ok (Err kind ∷ answers) value = refl

pub good_more : {A : Type 0} (answers : List (Result A FaultKind)) (value : A) → IsOk (all_of answers) → IsOk (all_of (answers ++ Ok value ∷ []))
good_more answers value h = subst IsOk (sym (all_of-append_ok answers value)) (good_map (all_of answers) (λ values. values ++ value ∷ []) h)

-- the first fault, behind good answers
pub first_fault : {A : Type 0} (answers rest : List (Result A FaultKind)) (kind : FaultKind) → IsOk (all_of answers) → all_of (answers ++ Err kind ∷ rest) ≡ Err kind
first_fault [] rest kind h = refl
first_fault (Ok first ∷ answers) rest kind h = ap (λ a. and_then a (λ values. Ok (first ∷ values))) (first_fault answers rest kind (good_first (all_of answers) (λ values. Ok (first ∷ values)) h))
first_fault (Err other ∷ answers) rest kind h = absurd (false≢true h)

-- the values so far, each made into another
pub mapped_more : {A B : Type 0} (g : A → B) (answers : List (Result A FaultKind)) (made : List B) (value : A) → and_then (all_of answers) (λ values. Ok (map g values)) ≡ Ok made → and_then (all_of (answers ++ Ok value ∷ [])) (λ values. Ok (map g values)) ≡ Ok (made ++ g value ∷ [])
mapped_more {A = A} g answers made value h = ap (λ a. and_then a (λ values. Ok (map g values))) (all_of-append_ok answers value) ∙ inside (all_of answers) h
  where
    inside : (sofar : Result (List A) FaultKind) → and_then sofar (λ values. Ok (map g values)) ≡ Ok made → and_then (and_then sofar (λ values. Ok (values ++ value ∷ []))) (λ values. Ok (map g values)) ≡ Ok (made ++ g value ∷ [])
    inside (Ok values) e = let same : map g values ≡ made = cc in ap (λ xs. Ok xs) (map-append g values (value ∷ []) ∙ ap (λ xs. xs ++ g value ∷ []) same)
    inside (Err kind) e = absurd (let z : Err kind ≡ Ok made = e in cc)

pub mapped_good : {A B : Type 0} (g : A → B) (answer : Result (List A) FaultKind) (made : List B) → and_then answer (λ values. Ok (map g values)) ≡ Ok made → IsOk answer
mapped_good g (Ok values) made h = refl
mapped_good g (Err kind) made h = absurd (let z : Err kind ≡ Ok made = h in cc)
