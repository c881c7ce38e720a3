-- What `decimal_of` says of the two forms, and of all other bytes.
use Rattle.std.proofs.Common.{◌≡◌, ℕ, ◌+◌, ◌<◌, List, [], ◌∷◌, ◌++◌, length, take, drop, get_or, refl, sym, ap, subst, ◌∙◌, arith, true, false, Bool, ◌&&◌, inl, inr, Result, Ok, Err, ◌↔◌, cond, nat_lt, IsTrue, if◌then◌else◌}
use Rattle.std.specs.List.{list_all, before_first, after_first, position_or_len}
use Rattle.std.specs.Char.{is_ascii_digit}
use Rattle.std.proofs.Math.Seq.{take-append_seam, drop-append-add}
use Rattle.std.proofs.lemmas.Bool.{eqb-true}
use Rattle.std.proofs.lemmas.Bool.Decides.{nat_tests}
use Rattle.std.proofs.lemmas.List.{length-drop}
use Rattle.std.proofs.lemmas.List.Sums.{split_at_first, passes_at_first}
use Rattle.vt_frac.specs.declared.fault.DecimalFault.{DecimalFault}
use Rattle.vt_frac.specs.declared.fault.DecimalFault.TheVariants.{Shape, Long, Overflow}
use Rattle.vt_frac.specs.Fraction.{Fraction, fits}
use Rattle.vt_frac.specs.Decimal.{IsDecimal, IsPointed, are_digits, is_dot, decimal_of, fitted_decimal, whole_decimal, pointed_decimal}
use Rattle.vt_frac.proofs.DecimalLemmas.{all_of, both_true, decimal-whole}

-- a digit is no dot
no_dot : (b : ℕ) → is_ascii_digit b ≡ true → is_dot b ≡ false
no_dot b h = grind (arith, nat_tests)

dot_is : (before after : List ℕ) → list_all is_ascii_digit before ≡ true → position_or_len is_dot (before ++ 46 ∷ after) ≡ length before
dot_is [] after h = refl
dot_is (b ∷ bs) after h =
    let parts = both_true (is_ascii_digit b) (list_all is_ascii_digit bs) h in
    rw (no_dot b parts.0, dot_is bs after parts.1) (omega arith)

and_false : (b : Bool) → (b && false) ≡ false
and_false true = refl
and_false false = refl

not_all : (before after : List ℕ) → list_all is_ascii_digit (before ++ 46 ∷ after) ≡ false
not_all [] after = refl
not_all (b ∷ bs) after = rw (not_all bs after) (and_false (is_ascii_digit b))

not_digits : (before after : List ℕ) → are_digits (before ++ 46 ∷ after) ≡ false
not_digits before after = rw (not_all before after) (and_false (nat_lt 0 (length (before ++ 46 ∷ after))))

pub decimal-joined : (before after : List ℕ) → IsTrue (are_digits before) → IsTrue (are_digits after) → decimal_of (before ++ 46 ∷ after) ≡ pointed_decimal before after
unfolding decimal_of
decimal-joined before after p q =
    let bytes : List ℕ = before ++ 46 ∷ after in
    let first : take (length before) (before ++ 46 ∷ after) ≡ before = take-append_seam before (46 ∷ after) in
    let second : drop (length before + 1) (before ++ 46 ∷ after) ≡ after = drop-append-add before (46 ∷ after) 1 in
    let P : ℕ → Type 0 = λ k. (if are_digits (take k (before ++ 46 ∷ after)) && are_digits (drop (k + 1) (before ++ 46 ∷ after)) then pointed_decimal (take k (before ++ 46 ∷ after)) (drop (k + 1) (before ++ 46 ∷ after)) else Err Shape) ≡ pointed_decimal before after in
    rw (not_digits before after) (subst P (sym (dot_is before after (all_of before p))) (rw (first, second, p, q) refl))

pub decimal-form : (before after bytes : List ℕ) → IsPointed before after bytes → decimal_of bytes ≡ pointed_decimal before after
decimal-form before after bytes h = ap decimal_of h.joined ∙ decimal-joined before after h.before_digits h.after_digits

-- ---- no other bytes

worth-not_shape : (f : Fraction) → fitted_decimal f ≡ Err Shape → ⊥
worth-not_shape f e = go (fits f) e
  where
    go : (b : Bool) → cond b (Ok f) (Err Overflow) ≡ Err Shape → ⊥
    go true e = cc
    go false e = cc

long-not_shape : (b : Bool) (answer : Result Fraction DecimalFault) → (answer ≡ Err Shape → ⊥) → (if b then Err Long else answer) ≡ Err Shape → ⊥
long-not_shape true answer h e = cc
long-not_shape false answer h e = h e

whole-not_shape : (ds : List ℕ) → whole_decimal ds ≡ Err Shape → ⊥
unfolding whole_decimal
whole-not_shape ds e = long-not_shape (nat_lt 19 (length ds)) _ (worth-not_shape _) e

pointed-not_shape : (before after : List ℕ) → pointed_decimal before after ≡ Err Shape → ⊥
unfolding pointed_decimal
pointed-not_shape before after e = long-not_shape (nat_lt 18 (length before)) _ (long-not_shape (nat_lt 18 (length after)) _ (worth-not_shape _)) e

pub shape_out : (bytes : List ℕ) → decimal_of bytes ≡ Err Shape → IsDecimal bytes → ⊥
shape_out bytes e (inl digits) = whole-not_shape bytes (decimal-whole bytes digits ∙ e)
shape_out bytes e (inr (before, (after, form))) = pointed-not_shape before after (sym (decimal-form before after bytes form) ∙ e)

-- digits on both sides of the first dot are the form
split_form : (bytes : List ℕ) → are_digits (before_first is_dot bytes) ≡ true → are_digits (after_first is_dot bytes) ≡ true → IsPointed (before_first is_dot bytes) (after_first is_dot bytes) bytes
split_form bytes p q =
    let some = (both_true (nat_lt 0 (length (after_first is_dot bytes))) (list_all is_ascii_digit (after_first is_dot bytes)) q).0 in
    let within : position_or_len is_dot bytes < length bytes = inside bytes (position_or_len is_dot bytes) some in
    let dot : get_or bytes (position_or_len is_dot bytes) 0 ≡ 46 = eqb-true (get_or bytes (position_or_len is_dot bytes) 0) 46 (passes_at_first is_dot bytes 0 within) in
    let P : ℕ → Type 0 = λ b. bytes ≡ before_first is_dot bytes ++ b ∷ after_first is_dot bytes in
    record {
      before_digits = p;
      after_digits = q;
      joined = subst P dot (split_at_first is_dot bytes 0 within);
    }
  where
    inside : (bytes : List ℕ) (i : ℕ) → nat_lt 0 (length (drop (i + 1) bytes)) ≡ true → i < length bytes
    inside bytes i h = let some : 0 < length (drop (i + 1) bytes) = grind (arith, nat_tests) in omega (arith, length-drop (i + 1) bytes)

pub shape_in : (bytes : List ℕ) → (IsDecimal bytes → ⊥) → decimal_of bytes ≡ Err Shape
unfolding decimal_of
shape_in bytes h =
    let whole : are_digits bytes ≡ false = refuted (are_digits bytes) (λ e. h (inl e)) in
    let split : (are_digits (before_first is_dot bytes) && are_digits (after_first is_dot bytes)) ≡ false =
    refuted _ (λ e. let parts = both_true (are_digits (before_first is_dot bytes)) (are_digits (after_first is_dot bytes)) e in h (inr (before_first is_dot bytes, (after_first is_dot bytes, split_form bytes parts.0 parts.1)))) in
    rw (whole, split) refl
  where
    refuted : (b : Bool) → (b ≡ true → ⊥) → b ≡ false
    refuted true k = absurd (k refl)
    refuted false k = refl

-- an answer that is the bytes' value, by the form of the bytes
pub by_form : (bytes : List ℕ) (answer : Result Fraction DecimalFault) → answer ≡ decimal_of bytes → (IsTrue (are_digits bytes) → answer ≡ whole_decimal bytes) × ((before after : List ℕ) → IsPointed before after bytes → answer ≡ pointed_decimal before after) × ((answer ≡ Err Shape) ↔ (¬ IsDecimal bytes))
by_form bytes answer e = (
  λ digits. e ∙ sym (decimal-whole bytes digits),
  λ before after form. e ∙ decimal-form before after bytes form,
  (λ shape. shape_out bytes (sym e ∙ shape), λ none. e ∙ shape_in bytes none),
)
