-- Steps up, one after the other.
use Rattle.std.proofs.Common.{◌≡◌, ℕ, zero, suc, ◌+◌, ◌-◌, ◌*◌, ◌/◌, ◌%◌, ◌<◌, ◌≤◌, List, [], ◌∷◌, ◌++◌, length, take, Result, Ok, Err, IsOk, refl, sym, ap, ◌∙◌, arith, append_assoc, div-add-mod', le-mul_of_pos_right, mod-lt, suc-mul}
use Rattle.std.proofs.lemmas.List.{take-append-le}
use Rattle.vt_value.specs.declared.fault.FaultKind.{FaultKind}
use Rattle.vt_value.specs.declared.value.Value.{Value}
use Rattle.vt_value.specs.declared.fault.ValueFault.{ValueFault}
use Rattle.vt_value.specs.declared.fault.ValueFault.TheVariants.{Fault, NoMemory}
use Rattle.vt_value.specs.Answers.{Gives}
use Rattle.vt_ring.specs.Answers.{and_then}
use Rattle.vt_ring.specs.Called.{as_ring}
use Rattle.vt_ring.specs.NoteCalls.{climbed, first_steps, raised, steps_up, times}
use Rattle.vt_prim.specs.private.Climbing.{behind}

-- two ways one after the other
pub climbed-append : (note : Value) (a b : List ℕ) → climbed note (a ++ b) ≡ and_then (climbed note a) (λ top. climbed top b)
climbed-append note [] b = refl
climbed-append note (s ∷ ss) b = go (raised note s) (λ n. climbed-append n ss b)
  where
    go : (r : Result Value FaultKind) → ((n : Value) → climbed n (ss ++ b) ≡ and_then (climbed n ss) (λ top. climbed top b)) → and_then r (λ n. climbed n (ss ++ b)) ≡ and_then (and_then r (λ n. climbed n ss)) (λ top. climbed top b)
    go (Ok n) ih = ih n
    go (Err kind) ih = refl

-- once, and then the rest of the times
pub times-step : (n : ℕ) (steps : List ℕ) → 0 < n → times n steps ≡ steps ++ times (n - 1) steps
times-step zero steps h = absurd (omega arith)
times-step (suc n) steps h = let e : n ≡ suc n - 1 = omega arith in ap (λ (k : ℕ). steps ++ times k steps) e

-- one time of many
pub round_ok : (note top : Value) (left : ℕ) (steps : List ℕ) → 0 < left → Ok top ≡ climbed note steps → climbed top (times (left - 1) steps) ≡ climbed note (times left steps)
round_ok note top left steps h e =
    ap (λ (r : Result Value FaultKind). and_then r (λ t. climbed t (times (left - 1) steps))) e
    ∙ sym (climbed-append note steps (times (left - 1) steps)) ∙ ap (climbed note) (sym (times-step left steps h))

pub round_err : (note : Value) (kind : FaultKind) (left : ℕ) (steps : List ℕ) → 0 < left → Err kind ≡ climbed note steps → Err kind ≡ climbed note (times left steps)
round_err note kind left steps h e =
    ap (λ (r : Result Value FaultKind). and_then r (λ t. climbed t (times (left - 1) steps))) e
    ∙ sym (climbed-append note steps (times (left - 1) steps)) ∙ ap (climbed note) (sym (times-step left steps h))

-- the way and its notes have one fault
pub way-ok : (note top : Value) (steps : List ℕ) → climbed note steps ≡ Ok top → IsOk (steps_up note steps)
way-ok note top [] h = refl
way-ok note top (s ∷ ss) h = go (raised note s) h (λ n. way-ok n top ss)
  where
    inner : (r : Result (List Value) FaultKind) → IsOk r → IsOk (and_then r (λ notes. Ok (note ∷ notes)))
    inner (Ok notes) ok = refl
    inner (Err kind) ok = ok

    go : (r : Result Value FaultKind) → and_then r (λ n. climbed n ss) ≡ Ok top → ((n : Value) → climbed n ss ≡ Ok top → IsOk (steps_up n ss)) → IsOk (and_then r (λ n. and_then (steps_up n ss) (λ notes. Ok (note ∷ notes))))
    go (Ok n) e ih = inner (steps_up n ss) (ih n e)
    go (Err kind) e ih = absurd cc

pub way-err : (note : Value) (kind : FaultKind) (steps : List ℕ) → climbed note steps ≡ Err kind → steps_up note steps ≡ Err kind
way-err note kind [] h = absurd cc
way-err note kind (s ∷ ss) h = go (raised note s) h (λ n. way-err n kind ss)
  where
    inner : (r : Result (List Value) FaultKind) → r ≡ Err kind → and_then r (λ notes. Ok (note ∷ notes)) ≡ Err kind
    inner r e = rw e refl

    go : (r : Result Value FaultKind) → and_then r (λ n. climbed n ss) ≡ Err kind → ((n : Value) → climbed n ss ≡ Err kind → steps_up n ss ≡ Err kind) → and_then r (λ n. and_then (steps_up n ss) (λ notes. Ok (note ∷ notes))) ≡ Err kind
    go (Ok n) e ih = inner (steps_up n ss) (ih n e)
    go (Err k) e ih = cc

pub no_further : (note : Value) (kind : FaultKind) (step : ℕ) (steps : List ℕ) → Err kind ≡ raised note step → Err kind ≡ steps_up note (step ∷ steps)
no_further note kind step steps e = ap (λ (r : Result Value FaultKind). and_then r (λ n. and_then (steps_up n steps) (λ notes. Ok (note ∷ notes)))) e

-- nothing stands in front
pub behind-none : (r : Result (List Value) FaultKind) → behind [] r ≡ r
behind-none (Ok notes) = refl
behind-none (Err kind) = refl

pub times_err : (notes : List Value) (all : Result (List Value) FaultKind) (note : Value) (kind : FaultKind) (left : ℕ) (steps : List ℕ) → 0 < left
    → ((more : List ℕ) → behind notes (steps_up note (steps ++ more)) ≡ Err kind)
    → behind notes (steps_up note (times left steps)) ≡ all → all ≡ Err kind
times_err notes all note kind left steps h each e =
    sym e ∙ ap (λ (s : List ℕ). behind notes (steps_up note s)) (times-step left steps h) ∙ each (times (left - 1) steps)

-- what an end with a fault gives, where want of memory is no fault
pub gives_err : {T : Type 0} (answer : Result T FaultKind) (fault : ValueFault) → IsOk answer → ((kind : FaultKind) → fault ≡ Fault kind → answer ≡ Err kind) → (let r : Result T ValueFault = Err fault in Gives answer r)
gives_err answer (Fault kind) ok each = each kind refl
gives_err answer NoMemory ok each = ok

-- a list that is no ring is no ring's list
pub ring_err : (list : Result (List Value) FaultKind) (fault : ValueFault) → (let r : Result (List Value) ValueFault = Err fault in Gives list r) → (let r : Result Value ValueFault = Err fault in Gives (as_ring list) r)
ring_err list (Fault kind) h = rw h refl
ring_err (Ok items) NoMemory h = refl
ring_err (Err kind) NoMemory h = h

-- Steps that go on from the first again

take_past : (xs ys : List ℕ) (k n : ℕ) → n ≡ length xs + k → take n (xs ++ ys) ≡ xs ++ take k ys
take_past [] ys k n e = let same : n ≡ k = omega arith in ap (λ (j : ℕ). take j ys) same
take_past (x ∷ xs) ys k n e =
    let more : n ≡ suc (length xs + k) = omega arith in
    ap (λ (j : ℕ). take j ((x ∷ xs) ++ ys)) more ∙ ap (λ (zs : List ℕ). x ∷ zs) (take_past xs ys k (length xs + k) refl)

take_times : (q m r k n : ℕ) (steps : List ℕ) → k ≡ q * length steps + r → n ≡ q + m → take k (times n steps) ≡ times q steps ++ take r (times m steps)
take_times zero m r k n steps e f =
    let few : k ≡ r = omega arith in
    let rest : n ≡ m = omega arith in
    ap (λ (j : ℕ). take j (times n steps)) few ∙ ap (λ (j : ℕ). take r (times j steps)) rest
take_times (suc q) m r k n steps e f =
    let more : n ≡ suc (q + m) = omega arith in
    let past : k ≡ length steps + (q * length steps + r) = omega (arith, suc-mul q (length steps)) in
    ap (λ (j : ℕ). take k (times j steps)) more
    ∙ take_past steps (times (q + m) steps) (q * length steps + r) k past
    ∙ ap (λ (zs : List ℕ). steps ++ zs) (take_times q m r (q * length steps + r) (q + m) steps refl refl)
    ∙ sym (append_assoc steps (times q steps) (take r (times m steps)))

take_once : (m r : ℕ) (steps : List ℕ) → r ≤ m → r ≤ length steps → take r (times m steps) ≡ take r steps
take_once zero r steps few less =
    let none : r ≡ 0 = omega arith in
    ap (λ (j : ℕ). take j (times 0 steps)) none ∙ sym (ap (λ (j : ℕ). take j steps) none)
take_once (suc m) r steps few less = take-append-le r steps (times m steps) less

steps_by : (q r count : ℕ) (steps : List ℕ) → q * length steps + r ≡ count → r < length steps → q ≤ q * length steps → first_steps count steps ≡ times q steps ++ take r steps
steps_by q r count steps whole small each =
    take_times q (count - q) r count count steps (sym whole) (omega arith)
    ∙ ap (λ (zs : List ℕ). times q steps ++ zs) (take_once (count - q) r steps (omega arith) (omega arith))

-- whole times, and then the first of them
pub steps_split : (count : ℕ) (steps : List ℕ) → 0 < length steps → first_steps count steps ≡ times (count / length steps) steps ++ take (count % length steps) steps
steps_split count steps h =
    steps_by (count / length steps) (count % length steps) count steps (div-add-mod' count (length steps)) (mod-lt count h) (le-mul_of_pos_right {m = length steps} (count / length steps) h)

pub climbed_split : (note : Value) (count : ℕ) (steps : List ℕ) → 0 < length steps
    → climbed note (first_steps count steps) ≡ and_then (climbed note (times (count / length steps) steps)) (λ top. climbed top (take (count % length steps) steps))
climbed_split note count steps h = ap (climbed note) (steps_split count steps h) ∙ climbed-append note (times (count / length steps) steps) (take (count % length steps) steps)

-- what whole times give, and then the first of them
then_first : (note : Value) (count rounds : ℕ) (steps : List ℕ) (whole : Result Value FaultKind) → 0 < length steps → rounds ≡ count / length steps → whole ≡ climbed note (times rounds steps)
    → and_then whole (λ top. climbed top (take (count % length steps) steps)) ≡ climbed note (first_steps count steps)
then_first note count rounds steps whole h q e =
    ap (λ (r : Result Value FaultKind). and_then r (λ top. climbed top (take (count % length steps) steps))) (e ∙ ap (λ (k : ℕ). climbed note (times k steps)) q)
    ∙ sym (climbed_split note count steps h)

pub first_err : (note : Value) (kind : FaultKind) (count rounds : ℕ) (steps : List ℕ) → 0 < length steps → rounds ≡ count / length steps → Err kind ≡ climbed note (times rounds steps) → Err kind ≡ climbed note (first_steps count steps)
first_err note kind count rounds steps h q e = then_first note count rounds steps (Err kind) h q e

pub first_ok : (note top : Value) (count rounds : ℕ) (steps rest : List ℕ) → 0 < length steps → rounds ≡ count / length steps → rest ≡ take (count % length steps) steps → Ok top ≡ climbed note (times rounds steps) → climbed top rest ≡ climbed note (first_steps count steps)
first_ok note top count rounds steps rest h q f e = ap (climbed top) f ∙ then_first note count rounds steps (Ok top) h q e
