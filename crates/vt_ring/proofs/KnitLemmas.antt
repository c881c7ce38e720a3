-- The counts of `knit`, pair by pair.
use Rattle.std.proofs.Common.{◌≡◌, ℕ, ℤ, pos, negsuc, List, [], ◌∷◌, ◌++◌, map, length, replicate, ◌%◌, Option, Some, None, Result, Ok, Err, IsOk, Bool, true, false, cond, ◌||◌, refl, sym, ap, ◌∙◌, eq-eqb, ◌≤◌, ◌<◌, ◌-◌, take, drop, get_or, arith}
use Rattle.std.proofs.lemmas.List.{append_assoc, take_rest}
use Rattle.std.proofs.lemmas.Bool.{false≢true, le-ltb}
use Rattle.std.specs.Prelude.{flat_map, int_lt, ok_or}
use Rattle.std.specs.Result.{result_err}
use Rattle.vt_value.specs.declared.fault.FaultKind.{FaultKind}
use Rattle.vt_value.specs.declared.fault.FaultKind.TheVariants.{WrongCount, WrongKind, BadValue}
use Rattle.vt_value.specs.declared.value.Value.{Value}
use Rattle.vt_value.specs.Kinds.{whole_of}
use Rattle.vt_ring.specs.Answers.{and_then, all_of}
use Rattle.vt_ring.specs.Arguments.{whole_argument}
use Rattle.vt_ring.specs.Building.{in_pairs, counted, run_of, runs_of, copies_of, knit_of}
use Rattle.vt_ring.specs.private.Knitting.{count_or_zero, knitted}
use Rattle.vt_ring.specs.Limits.{within_limits}
use Rattle.vt_ring.proofs.AnswerLemmas.{and_then_inverse}

-- the fault that is left in pairs, where a count before them may have been bad
abbrev pub fault_of : Bool → List (Value × Value) → Option FaultKind
fault_of bad pairs = result_err (and_then (all_of (map counted pairs)) (λ numbered. cond bad (Err BadValue) (all_of (map run_of numbered))))

-- a good kind
kind_step : (bad : Bool) (value : Value) (n : ℤ) (rest : Result (List (Value × ℤ)) FaultKind) →
    result_err (and_then (and_then rest (λ pairs. Ok ((value, n) ∷ pairs))) (λ numbered. cond bad (Err BadValue) (all_of (map run_of numbered))))
    ≡ result_err (and_then rest (λ numbered. cond (bad || int_lt n (pos 0)) (Err BadValue) (all_of (map run_of numbered))))
kind_step bad value n (Err kind) = refl
kind_step true value n (Ok numbered) = refl
kind_step false value (negsuc n) (Ok numbered) = refl
kind_step false value (pos n) (Ok numbered) = inside (all_of (map run_of numbered)) ∙ ap (λ b. result_err (cond b (Err BadValue) (all_of (map run_of numbered)))) (sym (le-ltb n 0 (omega arith)))
  where
    inside : (runs : Result (List (Value × ℕ)) FaultKind) → result_err (and_then runs (λ others. Ok ((value, n) ∷ others))) ≡ result_err runs
    inside (Ok runs) = refl
    inside (Err kind) = refl

pub fault_step : (bad : Bool) (value count : Value) (rest : List (Value × Value)) (n : ℤ) → whole_argument count ≡ Ok n → fault_of bad ((value, count) ∷ rest) ≡ fault_of (bad || int_lt n (pos 0)) rest
fault_step bad value count rest n h =
    ap (λ a. result_err (and_then (and_then (and_then a (λ m. Ok (value, m))) (λ first. and_then (all_of (map counted rest)) (λ others. Ok (first ∷ others)))) (λ numbered. cond bad (Err BadValue) (all_of (map run_of numbered))))) h
    ∙ kind_step bad value n (all_of (map counted rest))

pub fault_here : (bad : Bool) (value count : Value) (rest : List (Value × Value)) (kind : FaultKind) → whole_argument count ≡ Err kind → fault_of bad ((value, count) ∷ rest) ≡ Some kind
fault_here bad value count rest kind h =
    ap (λ a. result_err (and_then (and_then (and_then a (λ m. Ok (value, m))) (λ first. and_then (all_of (map counted rest)) (λ others. Ok (first ∷ others)))) (λ numbered. cond bad (Err BadValue) (all_of (map run_of numbered))))) h

pub fault_none : {A : Type 0} (answer : Result A FaultKind) → None ≡ result_err answer → IsOk answer
fault_none (Ok value) h = refl
fault_none (Err kind) h = absurd (let z : None ≡ Some kind = h in cc)

pub fault_some : {A : Type 0} (answer : Result A FaultKind) (kind : FaultKind) → Some kind ≡ result_err answer → answer ≡ Err kind
fault_some (Ok value) kind h = absurd (let z : Some kind ≡ None = h in cc)
fault_some (Err other) kind h = let same : kind ≡ other = cc in ap (λ k. Err k) (sym same)

-- where all answers are good, what is made of their values is made of what they came from
same_lists : {A B C : Type 0} (f : A → Result B FaultKind) (g : A → List C) (h : B → List C) → ((x : A) (y : B) → f x ≡ Ok y → h y ≡ g x) → (xs : List A) (ys : List B) → all_of (map f xs) ≡ Ok ys → flat_map h ys ≡ flat_map g xs
same_lists f g h each [] ys e = let none : [] ≡ ys = cc in ap (flat_map h) (sym none)
same_lists f g h each (x ∷ xs) ys e =
    let first = and_then_inverse (f x) (λ value. and_then (all_of (map f xs)) (λ values. Ok (value ∷ values))) ys e in
    let others = and_then_inverse (all_of (map f xs)) (λ values. Ok (first.0 ∷ values)) ys first.2 in
    let made : first.0 ∷ others.0 ≡ ys = let z : Ok (first.0 ∷ others.0) ≡ Ok ys = others.2 in cc in
    ap (flat_map h) (sym made) ∙ ap (λ prefix. prefix ++ flat_map h others.0) (each x first.0 first.1) ∙ ap (λ back. g x ++ back) (same_lists f g h each xs others.0 others.1)

-- the copies of a pair
abbrev pub pair_copies : Value × Value → List Value
pair_copies (value, count) = replicate (count_or_zero (whole_of count)) value

abbrev pub number_copies : Value × ℤ → List Value
number_copies (value, n) = replicate (count_or_zero (Some n)) value

counted_copies : (pair : Value × Value) (made : Value × ℤ) → counted pair ≡ Ok made → number_copies made ≡ pair_copies pair
counted_copies (value, count) made h = inside (whole_of count) h
  where
    inside : (n : Option ℤ) → and_then (ok_or n WrongKind) (λ m. Ok (value, m)) ≡ Ok made → number_copies made ≡ replicate (count_or_zero n) value
    inside (Some n) e = let same : (value, n) ≡ made = cc in ap number_copies (sym same)
    inside None e = absurd (let z : Err WrongKind ≡ Ok made = e in cc)

run_copies : (pair : Value × ℤ) (made : Value × ℕ) → run_of pair ≡ Ok made → copies_of made ≡ number_copies pair
run_copies (value, pos n) made h = let same : (value, n) ≡ made = cc in ap copies_of (sym same)
run_copies (value, negsuc n) made h = absurd (let z : Err BadValue ≡ Ok made = h in cc)

knitted_pairs : (arguments : List Value) → flat_map pair_copies (in_pairs arguments) ≡ knitted arguments
knitted_pairs [] = refl
knitted_pairs (value ∷ []) = refl
knitted_pairs (value ∷ count ∷ rest) = ap (λ back. replicate (count_or_zero (whole_of count)) value ++ back) (knitted_pairs rest)

pub knit_list : (arguments : List Value) (runs : List (Value × ℕ)) → runs_of (in_pairs arguments) ≡ Ok runs → flat_map copies_of runs ≡ knitted arguments
knit_list arguments runs h =
    let first = and_then_inverse (all_of (map counted (in_pairs arguments))) (λ numbered. all_of (map run_of numbered)) runs h in
    same_lists run_of number_copies copies_of run_copies first.0 runs first.2
    ∙ same_lists counted pair_copies number_copies counted_copies (in_pairs arguments) first.0 first.1
    ∙ knitted_pairs arguments

-- what `knit` gives
within_runs : (arguments : List Value) (answer : Result (List (Value × ℕ)) FaultKind) → runs_of (in_pairs arguments) ≡ answer → IsOk answer → and_then answer (λ runs. within_limits (flat_map copies_of runs)) ≡ within_limits (knitted arguments)
within_runs arguments (Ok runs) h ok = ap within_limits (knit_list arguments runs h)
within_runs arguments (Err kind) h ok = absurd (false≢true ok)

even : (arguments : List Value) (answer : Result (List Value) FaultKind) → length arguments % 2 ≡ 0 → and_then (runs_of (in_pairs arguments)) (λ runs. within_limits (flat_map copies_of runs)) ≡ answer → knit_of arguments ≡ answer
even arguments answer h e = ap (λ b. cond b (and_then (runs_of (in_pairs arguments)) (λ runs. within_limits (flat_map copies_of runs))) (Err WrongCount)) (eq-eqb (length arguments % 2) 0 h) ∙ e

pub knit_good : (arguments : List Value) → length arguments % 2 ≡ 0 → IsOk (runs_of (in_pairs arguments)) → knit_of arguments ≡ within_limits (knitted arguments)
knit_good arguments h ok = even arguments (within_limits (knitted arguments)) h (within_runs arguments (runs_of (in_pairs arguments)) refl ok)

-- the first two of a list, and the rest
pub first_two : (xs : List Value) (first second : Value) → 2 ≤ length xs → first ≡ get_or xs 0 first → second ≡ get_or xs 1 second → xs ≡ first ∷ second ∷ take (length xs - 2) (drop 2 xs)
first_two [] first second h a b = absurd (omega arith)
first_two (x ∷ []) first second h a b = absurd (omega arith)
first_two (x ∷ y ∷ rest) first second h a b =
    ap (λ zs. x ∷ y ∷ zs) (sym (take_rest (x ∷ y ∷ rest) 2)) ∙ ap (λ v. v ∷ y ∷ take (length (x ∷ y ∷ rest) - 2) (drop 2 (x ∷ y ∷ rest))) (sym a) ∙ ap (λ v. first ∷ v ∷ take (length (x ∷ y ∷ rest) - 2) (drop 2 (x ∷ y ∷ rest))) (sym b)

pub pairs_end : (left : List Value) → length left < 2 → in_pairs left ≡ []
pairs_end [] h = refl
pairs_end (value ∷ []) h = refl
pairs_end (value ∷ count ∷ rest) h = absurd (omega arith)

pub fault_more : (left : List Value) (value count : Value) (n : ℤ) (bad worse : Bool) (fault : Option FaultKind) → 2 ≤ length left → value ≡ get_or left 0 value → count ≡ get_or left 1 count → whole_argument count ≡ Ok n → worse ≡ (bad || int_lt n (pos 0)) → fault_of bad (in_pairs left) ≡ fault → fault_of worse (in_pairs (take (length left - 2) (drop 2 left))) ≡ fault
fault_more left value count n bad worse fault long a b kind is h =
    ap (λ w. fault_of w (in_pairs (take (length left - 2) (drop 2 left)))) is
    ∙ sym (fault_step bad value count (in_pairs (take (length left - 2) (drop 2 left))) n kind)
    ∙ ap (λ xs. fault_of bad (in_pairs xs)) (sym (first_two left value count long a b)) ∙ h

pub fault_met : (left : List Value) (value count : Value) (bad : Bool) (kind : FaultKind) (fault : Option FaultKind) → 2 ≤ length left → value ≡ get_or left 0 value → count ≡ get_or left 1 count → whole_argument count ≡ Err kind → fault_of bad (in_pairs left) ≡ fault → Some kind ≡ fault
fault_met left value count bad kind fault long a b e h =
    sym (fault_here bad value count (in_pairs (take (length left - 2) (drop 2 left))) kind e)
    ∙ ap (λ xs. fault_of bad (in_pairs xs)) (sym (first_two left value count long a b)) ∙ h

pub fault_end : (left : List Value) (bad : Bool) (fault : Option FaultKind) → length left < 2 → fault_of bad (in_pairs left) ≡ fault → fault_of bad [] ≡ fault
fault_end left bad fault h e = ap (fault_of bad) (sym (pairs_end left h)) ∙ e
