-- What is known of an answer, where it is known of its parts.
use Rattle.std.specs.Prelude.{if◌then◌else◌, ok_or}
use Rattle.std.specs.List.{AllByRecursion}
use Rattle.std.specs.Option.{IfSome}
use Rattle.std.specs.Result.{IfOk}
use Rattle.std.proofs.Common.{◌≡◌, suc, Bool, true, false, cond, List, [], ◌∷◌, length, map, Option, Some, None, Result, Ok, Err, refl, ap}
use Rattle.vt_value.specs.declared.fault.FaultKind.{FaultKind}
use Rattle.vt_ring.specs.Answers.{all_of, and_then}

-- what holds of the value of an answer, and of what follows of such a value
pub and_then_gives : {A B : Type 0} (answer : Result A FaultKind) (next : A → Result B FaultKind) (P : A → Type 0) (Q : B → Type 0) → IfOk answer P → ((a : A) → P a → IfOk (next a) Q) → IfOk (and_then answer next) Q
and_then_gives (Ok a) next P Q h k = k a h
and_then_gives (Err kind) next P Q h k = tt

pub and_then_any : {A B : Type 0} (answer : Result A FaultKind) (next : A → Result B FaultKind) (Q : B → Type 0) → ((a : A) → IfOk (next a) Q) → IfOk (and_then answer next) Q
and_then_any (Ok a) next Q k = k a
and_then_any (Err kind) next Q k = tt

pub ok_or_gives : {A E : Type 0} (found : Option A) (fault : E) (P : A → Type 0) → IfSome found P → IfOk (ok_or found fault) P
ok_or_gives None fault P h = tt
ok_or_gives (Some x) fault P h = h

pub cond_gives : {A E : Type 0} (holds : Bool) (answer : Result A E) (fault : E) (P : A → Type 0) → (holds ≡ true → IfOk answer P) → IfOk (cond holds answer (Err fault)) P
cond_gives true answer fault P h = h refl
cond_gives false answer fault P h = tt

pub if_gives : {A E : Type 0} (test : Bool) (first second : Result A E) (P : A → Type 0) → IfOk first P → IfOk second P → IfOk (if test then first else second) P
if_gives true first second P h k = h
if_gives false first second P h k = k

-- for each element an answer, and what holds of each value
pub all_of_gives : {X A : Type 0} (f : X → Result A FaultKind) (P : X → Type 0) (Q : A → Type 0) → ((x : X) → P x → IfOk (f x) Q) → (xs : List X) → AllByRecursion P xs → IfOk (all_of (map f xs)) (λ values. AllByRecursion Q values × (length values ≡ length xs))
all_of_gives f P Q k [] h = (tt, refl)
all_of_gives f P Q k (x ∷ xs) h =
    and_then_gives (f x) _ Q _ (k x h.0) (λ value q.
    and_then_gives (all_of (map f xs)) _ _ _ (all_of_gives f P Q k xs h.1) (λ values all.
    ((q, all.0), ap suc all.1)))
