-- The limits of `bools`.
use Rattle.std.proofs.Common.{◌≡◌, ◌≤◌, ◌<◌, ◌+◌, ℕ, suc, ℤ, pos, List, [], ◌∷◌, length, map, Result, Ok, Err, IsOk, Bool, cond, ◌&&◌, not, refl, sym, ap, ◌∙◌, arith}
use Rattle.std.specs.Prelude.{nat_le}
use Rattle.std.proofs.lemmas.Bool.{le-leb, lt-leb, false≢true}
use Rattle.std.proofs.lemmas.Bool.Decides.{nat_tests}
use Rattle.std.proofs.lemmas.List.{length-map}
use Rattle.vt_value.specs.declared.fault.FaultKind.{FaultKind}
use Rattle.vt_value.specs.declared.fault.FaultKind.TheVariants.{TooLarge}
use Rattle.vt_value.specs.declared.value.Value.{Value}
use Rattle.vt_value.specs.Arithmetic.{are_within}
use Rattle.vt_value.specs.Sizes.{size_layer, size_of, sizes_of}
use Rattle.std.specs.Ordering.{int_eq}
use Rattle.vt_value.specs.declared.value.Value.TheVariants.{Bool as Truth, rolls-Bool}
use Rattle.vt_value.specs.declared.value.Value.TheOpen.{Value-F}
use Rattle.vt_value.specs.declared.value.Value.TheFolds.{fold-roll-Value}
use Rattle.vt_ring.specs.Answers.{and_then, all_of}
use Rattle.vt_ring.specs.Arguments.{whole_argument}
use Rattle.vt_ring.specs.Building.{bool_of_number, bools_of, bools_without_limit}
use Rattle.vt_ring.specs.Limits.{within_limits}
use Rattle.vt_ring.proofs.AnswerLemmas.{and_then_inverse}

-- as many values as answers
as_many : {X A : Type 0} (f : X → Result A FaultKind) (xs : List X) (ys : List A) → all_of (map f xs) ≡ Ok ys → length ys ≡ length xs
as_many f [] ys e = let none : [] ≡ ys = cc in ap length (sym none)
as_many f (x ∷ xs) ys e =
    let first = and_then_inverse (f x) (λ value. and_then (all_of (map f xs)) (λ values. Ok (value ∷ values))) ys e in
    let others = and_then_inverse (all_of (map f xs)) (λ values. Ok (first.0 ∷ values)) ys first.2 in
    let made : first.0 ∷ others.0 ≡ ys = let z : Ok (first.0 ∷ others.0) ≡ Ok ys = others.2 in cc in
    ap length (sym made) ∙ ap (λ n. suc n) (as_many f xs others.0 others.1)

size-truth : (b : Bool) → size_of (Truth b) ≡ 1
unfolding size_of
size-truth b = ap size_of (sym (rolls-Bool b)) ∙ fold-roll-Value ℕ size_layer (Value-F.Bool b)

sizes-truths : (ns : List ℤ) → sizes_of (map bool_of_number ns) ≡ length ns
sizes-truths [] = refl
sizes-truths (n ∷ ns) = let one : size_of (bool_of_number n) ≡ 1 = size-truth (not (int_eq n (pos 0))) in omega (arith, one, sizes-truths ns)

truths_within : (ns : List ℤ) → nat_le (length ns) 4096 ≡ are_within (map bool_of_number ns)
truths_within ns = small (length ns) (length (map bool_of_number ns)) (sizes_of (map bool_of_number ns)) (length-map ns bool_of_number) (sizes-truths ns)
  where
    small : (n m s : ℕ) → m ≡ n → s ≡ n → nat_le n 4096 ≡ (nat_le m 4096 && nat_le (1 + s) 65536)
    small n m s e f = grind (arith, nat_tests)

limited : (arguments : List Value) (answer : Result (List ℤ) FaultKind) → all_of (map whole_argument arguments) ≡ answer → IsOk answer → and_then (and_then answer (λ numbers. Ok (map bool_of_number numbers))) within_limits ≡ cond (nat_le (length arguments) 4096) (and_then answer (λ numbers. Ok (map bool_of_number numbers))) (Err TooLarge)
limited arguments (Ok ns) e ok = ap (λ b. cond b (Ok (map bool_of_number ns)) (Err TooLarge)) (sym (truths_within ns) ∙ ap (λ n. nat_le n 4096) (as_many whole_argument arguments ns e))
limited arguments (Err kind) e ok = absurd (false≢true ok)

pub bools_few : (arguments : List Value) → IsOk (all_of (map whole_argument arguments)) → length arguments ≤ 4096 → bools_of arguments ≡ bools_without_limit arguments
bools_few arguments ok h = limited arguments (all_of (map whole_argument arguments)) refl ok ∙ ap (λ b. cond b (bools_without_limit arguments) (Err TooLarge)) (le-leb (length arguments) 4096 h)

pub bools_many : (arguments : List Value) → IsOk (all_of (map whole_argument arguments)) → 4096 < length arguments → bools_of arguments ≡ Err TooLarge
bools_many arguments ok h = limited arguments (all_of (map whole_argument arguments)) refl ok ∙ ap (λ b. cond b (bools_without_limit arguments) (Err TooLarge)) (lt-leb (length arguments) 4096 h)
