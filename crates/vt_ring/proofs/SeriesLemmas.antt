-- Answers one after another, by index or along a list.
use Rattle.std.proofs.Common.{◌≡◌, ◌≤◌, ◌<◌, ◌+◌, ℕ, List, [], ◌∷◌, ◌++◌, length, map, take, drop, get_or, Result, Ok, Err, IsOk, Bool, true, false, cond, refl, sym, ap, ◌∙◌, subst, arith}
use Rattle.std.specs.Prelude.{nat_le}
use Rattle.std.proofs.lemmas.Bool.{le-leb}
use Rattle.std.proofs.lemmas.List.{map_more, map-append, take-append-drop, drop_more}
use Rattle.std.proofs.lemmas.List.FromFn.{map-range_with_len_more, take-map-range_with_len, get_or-map-range_with_len, length-map-range_with_len}
use Rattle.vt_frac.specs.Fraction.{Fraction}
use Rattle.vt_value.specs.declared.fault.FaultKind.{FaultKind}
use Rattle.vt_value.specs.declared.fault.FaultKind.TheVariants.{TooLarge}
use Rattle.vt_ring.specs.Answers.{and_then, all_of}
use Rattle.vt_ring.specs.Building.{number_value, range_counted, range_number}
use Rattle.vt_ring.specs.Exact.{is_negative}
use Rattle.vt_ring.specs.Items.{indices}
use Rattle.vt_ring.specs.private.Series.{range_series, series_values}
use Rattle.vt_ring.proofs.AnswerLemmas.{first_fault, good_more, mapped_more}

more : {A : Type 0} (f : ℕ → Result A FaultKind) (i : ℕ) (value : A) → f i ≡ Ok value → map f (indices (i + 1)) ≡ map f (indices i) ++ Ok value ∷ []
more f i value e = map-range_with_len_more f 0 i i (omega arith) ∙ ap (λ a. map f (indices i) ++ a ∷ []) e

pub index_good : {A : Type 0} (f : ℕ → Result A FaultKind) (i : ℕ) (value : A) → IsOk (all_of (map f (indices i))) → f i ≡ Ok value → IsOk (all_of (map f (indices (i + 1))))
index_good f i value h e = subst (λ answers. IsOk (all_of answers)) (sym (more f i value e)) (good_more (map f (indices i)) value h)

pub index_mapped : {A B : Type 0} (g : A → B) (f : ℕ → Result A FaultKind) (i : ℕ) (made : List B) (value : A) → and_then (all_of (map f (indices i))) (λ values. Ok (map g values)) ≡ Ok made → f i ≡ Ok value → and_then (all_of (map f (indices (i + 1)))) (λ values. Ok (map g values)) ≡ Ok (made ++ g value ∷ [])
index_mapped g f i made value h e = ap (λ answers. and_then (all_of answers) (λ values. Ok (map g values))) (more f i value e) ∙ mapped_more g (map f (indices i)) made value h

pub index_fault : {A : Type 0} (f : ℕ → Result A FaultKind) (i n : ℕ) (kind : FaultKind) → i < n → IsOk (all_of (map f (indices i))) → f i ≡ Err kind → all_of (map f (indices n)) ≡ Err kind
index_fault {A = A} f i n kind below h e =
    let bad : Result A FaultKind = Err kind in
    let long : length (map f (indices n)) ≡ n = length-map-range_with_len f 0 n in
    let prefix : take i (map f (indices n)) ≡ map f (indices i) = take-map-range_with_len f 0 n i (omega arith) in
    let at : get_or (map f (indices n)) i (Err kind) ≡ f i = get_or-map-range_with_len f 0 n i i (Err kind) below (omega arith) in
    ap all_of (sym (take-append-drop i (map f (indices n))) ∙ ap (λ answers. answers ++ drop i (map f (indices n))) prefix ∙ ap (λ answers. map f (indices i) ++ answers) (drop_more (map f (indices n)) i (Err kind) (omega arith) ∙ ap (λ a. a ∷ drop (i + 1) (map f (indices n))) (at ∙ e)))
    ∙ first_fault (map f (indices i)) (drop (i + 1) (map f (indices n))) kind h

pub item_good : {X A : Type 0} (f : X → Result A FaultKind) (xs : List X) (i : ℕ) (x : X) (value : A) → i < length xs → x ≡ get_or xs i x → IsOk (all_of (map f (take i xs))) → f x ≡ Ok value → IsOk (all_of (map f (take (i + 1) xs)))
item_good f xs i x value below is h e = subst (λ answers. IsOk (all_of answers)) (sym (map_more f xs i x below ∙ ap (λ y. map f (take i xs) ++ f y ∷ []) (sym is) ∙ ap (λ a. map f (take i xs) ++ a ∷ []) e)) (good_more (map f (take i xs)) value h)

pub item_mapped : {X A B : Type 0} (g : A → B) (f : X → Result A FaultKind) (xs : List X) (i : ℕ) (x : X) (made : List B) (value : A) → i < length xs → x ≡ get_or xs i x → and_then (all_of (map f (take i xs))) (λ values. Ok (map g values)) ≡ Ok made → f x ≡ Ok value → and_then (all_of (map f (take (i + 1) xs))) (λ values. Ok (map g values)) ≡ Ok (made ++ g value ∷ [])
item_mapped g f xs i x made value below is h e = ap (λ answers. and_then (all_of answers) (λ values. Ok (map g values))) (map_more f xs i x below ∙ ap (λ y. map f (take i xs) ++ f y ∷ []) (sym is) ∙ ap (λ a. map f (take i xs) ++ a ∷ []) e) ∙ mapped_more g (map f (take i xs)) made value h

pub item_fault : {X A : Type 0} (f : X → Result A FaultKind) (xs : List X) (i : ℕ) (x : X) (kind : FaultKind) → i < length xs → x ≡ get_or xs i x → IsOk (all_of (map f (take i xs))) → f x ≡ Err kind → all_of (map f xs) ≡ Err kind
item_fault f xs i x kind below is h e =
    ap (λ ys. all_of (map f ys)) (sym (take-append-drop i xs) ∙ ap (λ ys. take i xs ++ ys) (drop_more xs i x below ∙ ap (λ y. y ∷ drop (i + 1) xs) (sym is)))
    ∙ ap all_of (map-append f (take i xs) (x ∷ drop (i + 1) xs) ∙ ap (λ a. map f (take i xs) ++ a ∷ map f (drop (i + 1) xs)) e)
    ∙ first_fault (map f (take i xs)) (map f (drop (i + 1) xs)) kind h

-- a range as a series
series_of_range : (start step : Fraction) (downwards : Bool) (count : ℕ) (wholes : Bool) → and_then (all_of (map (range_number start step downwards) (indices count))) (λ numbers. Ok (map (number_value wholes) numbers)) ≡ series_values (range_series start step downwards) count wholes
series_of_range start step true count wholes = refl
series_of_range start step false count wholes = refl

pub range_values : (start way step : Fraction) (wholes : Bool) (count : ℕ) → count ≤ 4096 → range_counted start way step wholes count ≡ series_values (range_series start step (is_negative way)) count wholes
range_values start way step wholes count h =
    ap (λ b. and_then (cond b (all_of (map (range_number start step (is_negative way)) (indices count))) (Err TooLarge)) (λ numbers. Ok (map (number_value wholes) numbers))) (le-leb count 4096 h)
    ∙ series_of_range start step (is_negative way) count wholes
