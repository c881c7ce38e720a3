-- Digits and their values.
use Rattle.std.proofs.Common.{◌≡◌, ℕ, ◌+◌, ◌-◌, ◌*◌, ◌^◌, ◌<◌, ◌≤◌, true, List, [], ◌∷◌, length, get_or, take, zero, suc, length-take, lit<, sym, ap, ◌∙◌, arith}
use Rattle.std.specs.List.{take_while}
use Rattle.std.specs.Char.{is_ascii_digit, digit_value}
use Rattle.std.specs.Str.Parse.{AllDigits, digits_value}
use Rattle.std.proofs.lemmas.Bool.{cond_both}
use Rattle.std.proofs.lemmas.Bool.Decides.{nat_tests}
use Rattle.std.proofs.lemmas.List.Sums.{take_while-cons}
use Rattle.std.proofs.lemmas.Int.Digits.{digits_value-lt, digits_value_more}
use Rattle.std.proofs.Math.Nat.{pow-le-pow_right}

pub digit_small : (c : ℕ) → is_ascii_digit c ≡ true → digit_value c < 10
digit_small c e = grind (arith, nat_tests)

-- what stands before the first byte that is no digit is digits
pub all_digits : (bs : List ℕ) → AllDigits 10 (take_while is_ascii_digit bs)
all_digits [] = tt
all_digits (c ∷ cs) =
    rw (take_while-cons is_ascii_digit c cs)
    (cond_both (is_ascii_digit c) (c ∷ take_while is_ascii_digit cs) [] (AllDigits 10) (λ e. (digit_small c e, all_digits cs)) (λ _. tt))

-- a digit of the list
pub digit_at : (ds : List ℕ) (i : ℕ) → AllDigits 10 ds → i < length ds → digit_value (get_or ds i 0) < 10
digit_at [] i all h = absurd (omega arith)
digit_at (d ∷ ds) zero all h = all.0
digit_at (d ∷ ds) (suc i) all h = digit_at ds i all.1 (omega arith)

pub digits_prefix : (ds : List ℕ) (i : ℕ) → AllDigits 10 ds → AllDigits 10 (take i ds)
digits_prefix [] zero all = tt
digits_prefix [] (suc i) all = tt
digits_prefix (d ∷ ds) zero all = tt
digits_prefix (d ∷ ds) (suc i) all = (all.0, digits_prefix ds i all.1)

-- a digit is its byte less that of `0`
pub digit_is : (c : ℕ) → c < 256 → digit_value c < 10 → (48 ≤ c) × (digit_value c ≡ c - 48)
digit_is c h small = (grind (arith, nat_tests), grind (arith, nat_tests))

-- the value of a prefix of at most 18 digits
pub prefix_small : (ds : List ℕ) (i : ℕ) → AllDigits 10 ds → i < length ds → length ds ≤ 19 → digits_value 10 (take i ds) < 1000000000000000000
prefix_small ds i all h few =
    let short : length (take i ds) ≤ 18 = omega (arith, length-take i ds) in
    let below = digits_value-lt 10 (take i ds) (digits_prefix ds i all) in
    let most : 10 ^ length (take i ds) ≤ 10 ^ 18 = pow-le-pow_right {n = 10} (lit< tt) {i = length (take i ds)} {j = 18} short in
    omega arith

pub byte_below : (ds : List ℕ) (i : ℕ) → get_or ds i 0 < 256 → get_or ds i 0 < 256
byte_below ds i h = h

-- the value of a prefix of a list of at most 19 digits, and the digit after it
module _ (ds : List ℕ) (i : ℕ) (all : AllDigits 10 ds) (more : i < length ds) where
  pub digit_byte : get_or ds i 0 < 256 → (48 ≤ get_or ds i 0) × (digit_value (get_or ds i 0) ≡ get_or ds i 0 - 48)
  digit_byte h = digit_is (get_or ds i 0) h (digit_at ds i all more)

  pub value_small : (value : ℕ) → value ≡ digits_value 10 (take i ds) → length ds ≤ 19 → value < 1000000000000000000
  value_small value e few = rw e (prefix_small ds i all more few)

  pub value_more : (value : ℕ) → value ≡ digits_value 10 (take i ds) → get_or ds i 0 < 256 → value * 10 + (get_or ds i 0 - 48) ≡ digits_value 10 (take (i + 1) ds)
  value_more value e h =
      ap (λ v. v * 10 + (get_or ds i 0 - 48)) e
      ∙ (ap (λ v. digits_value 10 (take i ds) * 10 + v) (sym (digit_byte h).1) ∙ sym (digits_value_more 10 ds i more))
