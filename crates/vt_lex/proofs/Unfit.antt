-- Numbers that do not fit their forms.
use Rattle.std.proofs.Common.{◌≡◌, ℕ, ◌+◌, ◌<◌, ◌≤◌, Bool, true, false, nat_le, nat_lt, List, ◌∷◌, ◌++◌, length, take, drop, slice_index, Result, Ok, Err, cond, eqb, refl, sym, ap, ◌∙◌, subst, inl, inr, arith, length-append, append_assoc}
use Rattle.std.specs.Prelude.{is_ok}
use Rattle.std.specs.List.{list_all}
use Rattle.std.specs.Char.{is_ascii_digit}
use Rattle.std.specs.Str.Parse.{AllDigits, digits_value}
use Rattle.std.proofs.lemmas.Bool.{eqb-true, leb-true, le-leb, ltb-true, and_parts, and_from, false_from_ne_true, true≢false}
use Rattle.std.proofs.lemmas.List.{length-take-le}
use Rattle.std.proofs.lemmas.List.Sums.{prefix_len-le-length}
use Rattle.vt_frac.specs.declared.fault.DecimalFault.{DecimalFault}
use Rattle.vt_frac.specs.Fraction.{Fraction}
use Rattle.vt_frac.specs.Decimal.{IsPointed, IsDecimal, pointed_decimal}
use Rattle.vt_frac.proofs.DecimalForms.{decimal-form}
use Rattle.vt_lex.specs.declared.token.TokenKind.TheVariants.{Whole, Decimal}
use Rattle.vt_lex.specs.declared.fault.LexKind.TheVariants.{Number}
use Rattle.vt_lex.specs.declared.lexeme.Sort.TheVariants.{Token}
use Rattle.vt_lex.specs.Numbers.{whole_fits, decimal_fits}
use Rattle.vt_lex.specs.Forms.{IsWholeForm, IsDecimalForm}
use Rattle.vt_lex.specs.Lexemes.{lexeme, whole_of, decimal_of, number_lexeme}
use Rattle.vt_lex.specs.TokenLaws.{IsUnfitNumber}
use Rattle.vt_lex.proofs.Bounds.{decimal_inside}
use Rattle.vt_lex.proofs.Branches.{chosen, passed_by, all_within, all_up_to, split_at}
use Rattle.vt_lex.proofs.Digits.{all_digits}
use Rattle.vt_lex.proofs.Reaches.{whole_len, part_len, has_part, reach, number_reached, are_all}
use Rattle.vt_lex.proofs.Reasons.{are_ascii}
use Rattle.vt_lex.proofs.Shapes.{word_length, digits_form, pointed_form}

-- What fits has its form, and what has its form fits

fits_whole : (n : ℕ) (form : List ℕ) → length form ≡ n → 0 < n → AllDigits 10 form → whole_fits n form ≡ true → IsWholeForm form
fits_whole n form size some digits e =
    let parts = and_parts (nat_le n 19) (nat_le (digits_value 10 form) 9223372036854775807) e in
    let short : n ≤ 19 = leb-true n 19 parts.0 in
    record { some = omega arith; short = omega arith; digits = digits; fits = leb-true (digits_value 10 form) 9223372036854775807 parts.1 }

whole_fitting : (n : ℕ) (form : List ℕ) → length form ≡ n → IsWholeForm form → whole_fits n form ≡ true
whole_fitting n form size w =
    let short = w.short in
    and_from (nat_le n 19) (nat_le (digits_value 10 form) 9223372036854775807) (le-leb n 19 (omega arith)) (le-leb (digits_value 10 form) 9223372036854775807 w.fits)

worth : (before after form : List ℕ) → IsPointed before after form → decimal_fits form ≡ is_ok (pointed_decimal before after)
unfolding decimal_fits
worth before after form p = ap (λ (r : Result Fraction DecimalFault). is_ok r) (decimal-form before after form p)

fits_decimal : (before after form : List ℕ) → IsPointed before after form → decimal_fits form ≡ true → IsDecimalForm form
fits_decimal before after form p e = record { before = before; after = after; pointed = p; fits = sym (worth before after form p) ∙ e }

decimal_fitting : (form : List ℕ) → IsDecimalForm form → decimal_fits form ≡ true
decimal_fitting form d = worth d.before d.after form d.pointed ∙ d.fits

-- The longest number

-- how far a number goes that has a part behind a dot
pub long_reach : (bytes : List ℕ) → has_part bytes ≡ true → reach bytes ≡ whole_len bytes + 1 + part_len bytes
long_reach bytes e = chosen (has_part bytes) (whole_len bytes + 1 + part_len bytes) (whole_len bytes) e

pub short_reach : (bytes : List ℕ) → has_part bytes ≡ false → reach bytes ≡ whole_len bytes
short_reach bytes e = passed_by (has_part bytes) (whole_len bytes + 1 + part_len bytes) (whole_len bytes) e

pub part_pointed : (bytes : List ℕ) → 0 < whole_len bytes → has_part bytes ≡ true → IsPointed (take (whole_len bytes) bytes) (take (part_len bytes) (drop (whole_len bytes + 1) bytes)) (take (whole_len bytes + 1 + part_len bytes) bytes)
part_pointed bytes some e =
    let parts = and_parts (eqb (slice_index bytes (whole_len bytes)) 46) (nat_lt 0 (part_len bytes)) e in
    pointed_form bytes some (eqb-true (slice_index bytes (whole_len bytes)) 46 parts.0) (ltb-true 0 (part_len bytes) parts.1)

-- the longest number is one, and is within the bytes
record IsReached (bytes : List ℕ) : Type 0 where
  within : reach bytes ≤ length bytes
  number : IsDecimal (take (reach bytes) bytes)

reached : (bytes : List ℕ) → 0 < whole_len bytes → IsReached bytes
reached bytes some = go (has_part bytes) refl where
  go : (t : Bool) → has_part bytes ≡ t → IsReached bytes
  go true e =
      let far = long_reach bytes e in
      let parts = and_parts (eqb (slice_index bytes (whole_len bytes)) 46) (nat_lt 0 (part_len bytes)) e in
      record {
        within = subst (λ (n : ℕ). n ≤ length bytes) (sym far) (decimal_inside bytes (whole_len bytes) (part_len bytes) (prefix_len-le-length is_ascii_digit (drop (whole_len bytes + 1) bytes)) parts.0);
        number = subst (λ (n : ℕ). IsDecimal (take n bytes)) (sym far) (inr (take (whole_len bytes) bytes, (take (part_len bytes) (drop (whole_len bytes + 1) bytes), part_pointed bytes some e)));
      }
  go false e =
      let near = short_reach bytes e in
      record {
        within = subst (λ (n : ℕ). n ≤ length bytes) (sym near) (prefix_len-le-length is_ascii_digit bytes);
        number = subst (λ (n : ℕ). IsDecimal (take n bytes)) (sym near) (inl (digits_form bytes some));
      }

-- digits are no longer than all digits there
digits_short : (n : ℕ) (bytes : List ℕ) → n ≤ length bytes → list_all is_ascii_digit (take n bytes) ≡ true → n ≤ whole_len bytes
digits_short n bytes within all =
    let form = take n bytes in
    let size = length-take-le n bytes within in
    let least = all_within is_ascii_digit form (drop n bytes) all in
    subst (λ (bs : List ℕ). n ≤ whole_len bs) (sym (split_at n bytes form refl)) (omega arith)

-- a number with a dot is longer than all digits there
pointed_long : (n : ℕ) (bytes before after : List ℕ) → n ≤ length bytes → IsPointed before after (take n bytes) → whole_len bytes < n
pointed_long n bytes before after within p =
    let rest = drop n bytes in
    let digits = are_all before p.before_digits in
    let size : n ≡ length before + length (46 ∷ after) = sym (length-take-le n bytes within) ∙ (ap length p.joined ∙ length-append before (46 ∷ after)) in
    let whole : bytes ≡ before ++ 46 ∷ (after ++ rest) = split_at n bytes (before ++ 46 ∷ after) p.joined ∙ append_assoc before (46 ∷ after) rest in
    let stop : whole_len bytes ≡ length before = ap whole_len whole ∙ all_up_to is_ascii_digit before 46 (after ++ rest) digits.1 refl in
    omega arith

-- The reason and the fault

decimal_refused : (n : ℕ) (form : List ℕ) → decimal_of n form ≡ Err Number → decimal_fits form ≡ false
decimal_refused n form e = false_from_ne_true (decimal_fits form) (λ (h : decimal_fits form ≡ true).
    let z : Ok (record { sort = Token Decimal; len = n }) ≡ Err Number = sym (chosen (decimal_fits form) (lexeme (Token Decimal) n) (Err Number) h) ∙ e in cc)

whole_refused : (n : ℕ) (form : List ℕ) → whole_of n form ≡ Err Number → whole_fits n form ≡ false
whole_refused n form e = false_from_ne_true (whole_fits n form) (λ (h : whole_fits n form ≡ true).
    let z : Ok (record { sort = Token Whole; len = n }) ≡ Err Number = sym (chosen (whole_fits n form) (lexeme (Token Whole) n) (Err Number) h) ∙ e in cc)

pub number_is : (bytes : List ℕ) (t : Bool) → has_part bytes ≡ t → number_lexeme bytes ≡ cond t (decimal_of (whole_len bytes + 1 + part_len bytes) (take (whole_len bytes + 1 + part_len bytes) bytes)) (whole_of (whole_len bytes) (take (whole_len bytes) bytes))
unfolding number_lexeme
number_is bytes t e = ap (λ (b : Bool). cond b (decimal_of (whole_len bytes + 1 + part_len bytes) (take (whole_len bytes + 1 + part_len bytes) bytes)) (whole_of (whole_len bytes) (take (whole_len bytes) bytes))) e

pub refused_unfit : (bytes : List ℕ) → 0 < whole_len bytes → number_lexeme bytes ≡ Err Number → IsUnfitNumber bytes
refused_unfit bytes some e = go (has_part bytes) refl where
  whole : reach bytes ≤ length bytes
  whole = (reached bytes some).within

  go : (t : Bool) → has_part bytes ≡ t → IsUnfitNumber bytes
  go true f =
      let far = long_reach bytes f in
      let m = whole_len bytes + 1 + part_len bytes in
      let unfit = decimal_refused m (take m bytes) (sym (number_is bytes true f) ∙ e) in
      let within : m ≤ length bytes = subst (λ (n : ℕ). n ≤ length bytes) far whole in
      record {
        len = m;
        within = within;
        number = subst (λ (n : ℕ). IsDecimal (take n bytes)) far (reached bytes some).number;
        longest = λ other most d. subst (λ (n : ℕ). other ≤ n) far (number_reached bytes other most d);
        no_whole = λ (w : IsWholeForm (take m bytes)). let few = digits_short m bytes within (are_ascii (take m bytes) w.digits) in omega arith;
        no_decimal = λ (d : IsDecimalForm (take m bytes)). true≢false (sym (decimal_fitting (take m bytes) d) ∙ unfit);
      }
  go false f =
      let near = short_reach bytes f in
      let n = whole_len bytes in
      let unfit = whole_refused n (take n bytes) (sym (number_is bytes false f) ∙ e) in
      let within : n ≤ length bytes = prefix_len-le-length is_ascii_digit bytes in
      record {
        len = n;
        within = within;
        number = subst (λ (k : ℕ). IsDecimal (take k bytes)) near (reached bytes some).number;
        longest = λ other most d. subst (λ (k : ℕ). other ≤ k) near (number_reached bytes other most d);
        no_whole = λ (w : IsWholeForm (take n bytes)). true≢false (sym (whole_fitting n (take n bytes) (word_length bytes is_ascii_digit) w) ∙ unfit);
        no_decimal = λ (d : IsDecimalForm (take n bytes)). let more = pointed_long n bytes d.before d.after within d.pointed in omega arith;
      }

pub unfit_refused : (bytes : List ℕ) → 0 < whole_len bytes → IsUnfitNumber bytes → number_lexeme bytes ≡ Err Number
unfit_refused bytes some u = go (has_part bytes) refl where
  there : IsReached bytes
  there = reached bytes some

  same : u.len ≡ reach bytes
  same = let most = number_reached bytes u.len u.within u.number in let least = u.longest (reach bytes) there.within there.number in omega arith

  go : (t : Bool) → has_part bytes ≡ t → number_lexeme bytes ≡ Err Number
  go true f =
      let m = whole_len bytes + 1 + part_len bytes in
      let len : u.len ≡ m = same ∙ long_reach bytes f in
      let unfit : decimal_fits (take m bytes) ≡ false =
      false_from_ne_true (decimal_fits (take m bytes)) (λ (h : decimal_fits (take m bytes) ≡ true).
      u.no_decimal (subst (λ (n : ℕ). IsDecimalForm (take n bytes)) (sym len) (fits_decimal _ _ (take m bytes) (part_pointed bytes some f) h))) in
      number_is bytes true f ∙ passed_by (decimal_fits (take m bytes)) (lexeme (Token Decimal) m) (Err Number) unfit
  go false f =
      let n = whole_len bytes in
      let len : u.len ≡ n = same ∙ short_reach bytes f in
      let unfit : whole_fits n (take n bytes) ≡ false =
      false_from_ne_true (whole_fits n (take n bytes)) (λ (h : whole_fits n (take n bytes) ≡ true).
      u.no_whole (subst (λ (k : ℕ). IsWholeForm (take k bytes)) (sym len) (fits_whole n (take n bytes) (word_length bytes is_ascii_digit) some (all_digits bytes) h))) in
      number_is bytes false f ∙ passed_by (whole_fits n (take n bytes)) (lexeme (Token Whole) n) (Err Number) unfit
