-- Digits and what they are worth.
use Rattle.std.proofs.Common.{◌≡◌, ℕ, zero, suc, ◌+◌, ◌-◌, ◌*◌, ◌^◌, ◌<◌, ◌≤◌, List, [], ◌∷◌, length, take, get_or, refl, sym, ap, subst, ◌∙◌, arith, true, false, Bool, true≢false, ◌&&◌, pos, cond, Result, MatchResult, Ok, Err, Some, None, IsTrue, drop, inl, inr, ◌⊎◌, if◌then◌else◌, nat_lt}
use Rattle.std.specs.List.{list_all}
use Rattle.std.specs.Char.{is_ascii_digit, digit_value}
use Rattle.std.specs.Str.Parse.{AllDigits}
use Rattle.std.proofs.Math.Nat.{pow-le-pow_right}
use Rattle.std.proofs.lemmas.Bool.Decides.{nat_tests}
use Rattle.std.proofs.lemmas.List.{length-take-le, length-drop, take_all, nil_from_length}
use Rattle.std.proofs.lemmas.Int.Digits.{digits_value-lt, digits_value_more}
use Rattle.std.specs.List.{position, position_or_len}
use Rattle.vt_frac.specs.declared.fault.DecimalFault.TheVariants.{Shape, Long, Overflow}
use Rattle.vt_frac.specs.Fraction.{Fraction, over, fits, fitted}
use Rattle.vt_frac.specs.declared.fault.DecimalFault.{DecimalFault}
use Rattle.vt_frac.specs.declared.fault.FracFault.TheVariants as frac
use Rattle.vt_frac.specs.Decimal.{digits_value, are_digits, is_dot, decimal_of, whole_decimal, pointed_decimal, fitted_decimal}

-- what a digit is worth
pub digit_is : (b : ℕ) → is_ascii_digit b ≡ true → digit_value b ≡ b - 48
digit_is b h = grind (arith, nat_tests)

pub digit_small : (b : ℕ) → is_ascii_digit b ≡ true → (48 ≤ b) × (b ≤ 57)
digit_small b h = (grind (arith, nat_tests), grind (arith, nat_tests))

pub both_true : (b c : Bool) → (b && c) ≡ true → (b ≡ true) × (c ≡ true)
both_true true true h = (refl, refl)
both_true true false h = absurd (true≢false (sym h))
both_true false c h = absurd (true≢false (sym h))

pub all_of : (bs : List ℕ) → IsTrue (are_digits bs) → list_all is_ascii_digit bs ≡ true
all_of bs h = (both_true (nat_lt 0 (length bs)) (list_all is_ascii_digit bs) h).1

prefix_digits : (bs : List ℕ) (i : ℕ) → list_all is_ascii_digit bs ≡ true → AllDigits 10 (take i bs)
prefix_digits [] zero h = tt
prefix_digits [] (suc i) h = tt
prefix_digits (b ∷ bs) zero h = tt
prefix_digits (b ∷ bs) (suc i) h =
    let parts = both_true (is_ascii_digit b) (list_all is_ascii_digit bs) h in
    let small = digit_small b parts.0 in
    let worth = digit_is b parts.0 in
    (omega (arith, worth, small.0, small.1), prefix_digits bs i parts.1)

pub digit_at : (bs : List ℕ) (i : ℕ) → list_all is_ascii_digit bs ≡ true → i < length bs → is_ascii_digit (get_or bs i 0) ≡ true
digit_at [] i h p = absurd (omega arith)
digit_at (b ∷ bs) zero h p = (both_true (is_ascii_digit b) (list_all is_ascii_digit bs) h).0
digit_at (b ∷ bs) (suc i) h p = digit_at bs i (both_true (is_ascii_digit b) (list_all is_ascii_digit bs) h).1 (omega arith)

-- the number of the first digits
pub prefix_small : (bs : List ℕ) (i : ℕ) → list_all is_ascii_digit bs ≡ true → i ≤ length bs → digits_value (take i bs) < 10 ^ i
prefix_small bs i h p =
    let few : length (take i bs) ≡ i = length-take-le i bs p in
    subst (λ n. digits_value (take i bs) < 10 ^ n) few (digits_value-lt 10 (take i bs) (prefix_digits bs i h))

pub prefix_more : (bs : List ℕ) (i : ℕ) → list_all is_ascii_digit bs ≡ true → i < length bs → digits_value (take (i + 1) bs) ≡ digits_value (take i bs) * 10 + (get_or bs i 0 - 48)
prefix_more bs i h p = digits_value_more 10 bs i p ∙ ap (λ d. digits_value (take i bs) * 10 + d) (digit_is (get_or bs i 0) (digit_at bs i h p))

-- ---- the forms

both_false : (b : Bool) → (b && false) ≡ false
both_false true = refl
both_false false = refl

pub decimal-whole : (bs : List ℕ) → are_digits bs ≡ true → whole_decimal bs ≡ decimal_of bs
unfolding decimal_of
decimal-whole bs h = rw h refl

place_out : (i n dot : ℕ) → cond (nat_lt i n) (Some i) None ≡ Some dot → i ≡ dot
place_out i n dot h = go (nat_lt i n) h
  where
    go : (b : Bool) → cond b (Some i) None ≡ Some dot → i ≡ dot
    go true e = cc
    go false e = cc

no_place : (i n : ℕ) → cond (nat_lt i n) (Some i) None ≡ None → n ≤ i
no_place i n h = go (nat_lt i n) refl h
  where
    go : (b : Bool) → nat_lt i n ≡ b → cond b (Some i) None ≡ None → n ≤ i
    go true t e = cc
    go false t e = grind (arith, nat_tests)

-- the rest of a list, as `&bytes[i..]` gives it
rest_is : (i : ℕ) (bs : List ℕ) → take (length bs - i) (drop i bs) ≡ drop i bs
rest_is i bs = take_all (length bs - i) (drop i bs) (omega (arith, length-drop i bs))

pub decimal-pointed : (bs : List ℕ) (dot : ℕ) → are_digits bs ≡ false → position is_dot bs ≡ Some dot → (if are_digits (take dot bs) && are_digits (take (length bs - (dot + 1)) (drop (dot + 1) bs)) then pointed_decimal (take dot bs) (take (length bs - (dot + 1)) (drop (dot + 1) bs)) else Err Shape) ≡ decimal_of bs
unfolding decimal_of
decimal-pointed bs dot h at =
    let place = place_out (position_or_len is_dot bs) (length bs) dot at in
    let P : ℕ → Type 0 = λ k. (if are_digits (take dot bs) && are_digits (take (length bs - (dot + 1)) (drop (dot + 1) bs)) then pointed_decimal (take dot bs) (take (length bs - (dot + 1)) (drop (dot + 1) bs)) else Err Shape) ≡ (if are_digits (take k bs) && are_digits (drop (k + 1) bs) then pointed_decimal (take k bs) (drop (k + 1) bs) else Err Shape) in
    rw h (subst P (sym place) (rw (rest_is (dot + 1) bs) refl))

drop_past : (i : ℕ) (bs : List ℕ) → length bs ≤ i → drop i bs ≡ []
drop_past i bs p = nil_from_length (drop i bs) (omega (arith, length-drop i bs))

pub decimal-none : (bs : List ℕ) → are_digits bs ≡ false → position is_dot bs ≡ None → Err Shape ≡ decimal_of bs
unfolding decimal_of
decimal-none bs h at =
    let past = no_place (position_or_len is_dot bs) (length bs) at in
    let none : drop (position_or_len is_dot bs + 1) bs ≡ [] = drop_past (position_or_len is_dot bs + 1) bs (omega arith) in
    rw (h, none, both_false) refl

-- ---- the counts of digits

pub whole-long : (ds : List ℕ) → 19 < length ds → Err Long ≡ whole_decimal ds
unfolding whole_decimal
whole-long ds h = grind (arith, nat_tests)

pub whole-worth : (ds : List ℕ) → length ds ≤ 19 → fitted_decimal (over (pos (digits_value ds)) 1) ≡ whole_decimal ds
unfolding whole_decimal
whole-worth ds h = grind (arith, nat_tests)

pub pointed-long : (before after : List ℕ) → (18 < length before) ⊎ (18 < length after) → Err Long ≡ pointed_decimal before after
unfolding pointed_decimal
pointed-long before after (inl h) = grind (arith, nat_tests)
pointed-long before after (inr h) = grind (arith, nat_tests)

pub pointed-worth : (before after : List ℕ) → length before ≤ 18 → length after ≤ 18 → fitted_decimal (over (pos (digits_value before * 10 ^ length after + digits_value after)) (10 ^ length after)) ≡ pointed_decimal before after
unfolding pointed_decimal
pointed-worth before after p q = grind (arith, nat_tests)

pub tens_small : (i : ℕ) → i ≤ 18 → 10 ^ i ≤ 10 ^ 18
tens_small i p = pow-le-pow_right {n = 10} (omega arith) {i = i} {j = 18} p

-- the same fault under another name
pub refitted : (f : Fraction) (r : Result Fraction DecimalFault) → MatchResult (fitted f) (λ x. r ≡ Ok x) (λ e. r ≡ Err Overflow) → r ≡ fitted_decimal f
unfolding fitted
refitted f r h = go (fits f) h
  where
    go : (b : Bool) → MatchResult (cond b (Ok f) (Err frac.Overflow)) (λ x. r ≡ Ok x) (λ e. r ≡ Err Overflow) → r ≡ cond b (Ok f) (Err Overflow)
    go true e = e
    go false e = e
