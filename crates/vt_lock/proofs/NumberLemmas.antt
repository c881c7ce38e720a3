-- Numbers one after another: how many there are, which ones, and how they are cut.
use Rattle.std.proofs.Common.{◌≡◌, ℕ, zero, suc, ◌+◌, ◌-◌, ◌/◌, ◌<◌, ◌≤◌, List, [], ◌∷◌, ◌++◌, length, take, drop, sym, refl, ap, ◌∙◌, arith}
use native.Mathlib.Decide.{dec_lt}
use Rattle.vt_lock.specs.Numbers.{HalvesAreNumbers, HasAllNumbers, all_numbers, half_of, numbers_from, occurrences}

pub length_of_numbers : (a n : ℕ) → length (numbers_from a n) ≡ n
length_of_numbers a zero = refl
length_of_numbers a (suc n) = let h = length_of_numbers (a + 1) n in omega arith

-- h numbers from a on, and k more
pub numbers_append : (a h k : ℕ) → numbers_from a h ++ numbers_from (a + h) k ≡ numbers_from a (h + k)
numbers_append a zero k = let e : a + 0 ≡ a = omega arith in let f : k ≡ 0 + k = omega arith in ap (λ z. numbers_from z k) e ∙ ap (numbers_from a) f
numbers_append a (suc h) k =
    let e : a + suc h ≡ (a + 1) + h = omega arith in
    let f : suc (h + k) ≡ suc h + k = omega arith in
    ap (λ l. a ∷ l) (ap (λ z. numbers_from (a + 1) h ++ numbers_from z k) e ∙ numbers_append (a + 1) h k) ∙ ap (numbers_from a) f

take_of_append : {A : Type 0} (xs ys : List A) (n : ℕ) → length xs ≡ n → take n (xs ++ ys) ≡ xs
take_of_append [] ys zero e = refl
take_of_append [] ys (suc n) e = absurd (omega arith)
take_of_append (x ∷ xs) ys zero e = absurd (omega arith)
take_of_append (x ∷ xs) ys (suc n) e = ap (λ l. x ∷ l) (take_of_append xs ys n (omega arith))

drop_of_append : {A : Type 0} (xs ys : List A) (n : ℕ) → length xs ≡ n → drop n (xs ++ ys) ≡ ys
drop_of_append [] ys zero e = refl
drop_of_append [] ys (suc n) e = absurd (omega arith)
drop_of_append (x ∷ xs) ys zero e = absurd (omega arith)
drop_of_append (x ∷ xs) ys (suc n) e = drop_of_append xs ys n (omega arith)

-- n numbers from a on are h of them and the rest
pub numbers_in_two : (a n h : ℕ) → h ≤ n → numbers_from a n ≡ numbers_from a h ++ numbers_from (a + h) (n - h)
numbers_in_two a n h fits = let e : n ≡ h + (n - h) = omega (arith, fits) in ap (numbers_from a) e ∙ sym (numbers_append a h (n - h))

pub half_fits : (n : ℕ) → (n + 1) / 2 ≤ n
half_fits n = omega arith

pub halves : HalvesAreNumbers
halves a n =
    let half : ℕ = (n + 1) / 2 in
    let cut : half_of (numbers_from a n) ≡ half = ap (λ k. (k + 1) / 2) (length_of_numbers a n) in
    let parts : numbers_from a n ≡ numbers_from a half ++ numbers_from (a + half) (n - half) = numbers_in_two a n half (half_fits n) in (
      ap (λ k. take k (numbers_from a n)) cut ∙ ap (take half) parts ∙ take_of_append (numbers_from a half) (numbers_from (a + half) (n - half)) half (length_of_numbers a half),
      ap (λ k. drop k (numbers_from a n)) cut ∙ ap (drop half) parts ∙ drop_of_append (numbers_from a half) (numbers_from (a + half) (n - half)) half (length_of_numbers a half),
    )

-- n stands among k numbers from a on
pub stands_in : (n a k : ℕ) → a ≤ n → n < a + k → 0 < occurrences n (numbers_from a k)
stands_in n a zero le lt = absurd (omega arith)
stands_in n a (suc k) le lt = elim (dec_lt a n) [ yes more ↦ (let h = stands_in n (a + 1) k (omega (arith, more)) (omega (arith, lt)) in omega (arith, h)) | no less ↦ (let e : n ≡ a = omega (arith, le, less) in omega (arith, e)) ]

pub all_stand : HasAllNumbers all_numbers
all_stand n low = stands_in n 0 64 (omega arith) (omega (arith, low))
