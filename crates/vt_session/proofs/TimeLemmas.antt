-- What a time is: a fraction of at least 0.
use Rattle.std.proofs.Common.{◌≡◌, ℕ, zero, suc, ◌+◌, ◌-◌, ◌*◌, ◌/◌, ◌^◌, ◌<◌, ◌≤◌, Bool, true, false, not, ◌&&◌, ◌||◌, nat_lt, ℤ, pos, negsuc, ◌≤ℤ◌, unsigned_abs, List, [], ◌∷◌, length, take, drop, Option, Some, None, Result, Ok, Err, cond, is_lt, refl, sym, ap, ◌∙◌, subst, arith, lit<, true≢false}
use Rattle.std.specs.List.{list_any, before_first, after_first, position, position_or_len}
use Rattle.std.proofs.lemmas.List.{take_rest}
use Rattle.std.proofs.lemmas.Bool.Decides.{nat_tests}
use Rattle.std.specs.Result.{result_ok}
use Rattle.std.specs.declared.cmp.Ordering.{Ordering}
use Rattle.std.specs.declared.cmp.Ordering.TheVariants.{Less, Equal, Greater}
use Rattle.std.proofs.lemmas.Bool.{ltb-true}
use Rattle.std.proofs.Math.Nat.{pow-le-pow_right}
use Rattle.std.specs.Ordering.{int_cmp, ordering_reverse}
use Rattle.std.specs.Prelude.{◌*ℤ◌, ◌<ℤ◌, max}
use Rattle.std.proofs.lemmas.Cmp.{int_ranked}
use Rattle.std.proofs.lemmas.Int.{ints}
use Rattle.vt_frac.specs.declared.fault.DecimalFault.{DecimalFault}
use Rattle.vt_frac.specs.declared.fault.DecimalFault.TheVariants.{Shape, Long, Overflow}
use Rattle.vt_frac.specs.declared.fault.FracFault.TheVariants as frac
use Rattle.vt_frac.specs.Decimal.{are_digits, decimal_of, digits_value, fitted_decimal, is_dot, pointed_decimal, whole_decimal}
use Rattle.vt_frac.specs.Divisor.{gcd}
use Rattle.vt_frac.specs.Fraction.{Fraction, IsFraction, fits, fitted, over, reduced, unless_zero, whole}
use Rattle.vt_frac.specs.Order.{order_of, value_order}
use Rattle.vt_frac.specs.OrderLaws.{value_total}
use Rattle.vt_frac.proofs.DecimalLemmas.{both_true}
use Rattle.vt_frac.proofs.FractionLemmas.{fitted_ok, over-lowest, over-positive, over-self}
use Rattle.vt_frac.proofs.OrderLemmas.{max_is, order_is}
use Rattle.vt_session.specs.declared.directive.Deed.{Deed}
use Rattle.vt_session.specs.declared.directive.Deed.TheVariants.{Cue, Set, Stop}
use Rattle.vt_session.specs.Directives.{Line, PlainLine, VersionLine, AtLine, CueLine, SetLine, StopLine, HasForm}
use Rattle.vt_session.specs.Rules.{time_in}
use Rattle.vt_session.specs.private.Reading.{input_line}
use Rattle.vt_session.specs.Times.{is_slash, ratio_of, time_of, whole_of}
use Rattle.vt_session.specs.private.Standing.{IsTime}

pos_start : (n : ℕ) → pos 0 ≤ℤ pos n
pos_start n = omega (arith, ints)

-- a natural number over another that is not 0 is a time, where it fits
pub over_time : (n d : ℕ) → 0 < d → fits (over (pos n) d) ≡ true → IsTime (over (pos n) d)
unfolding fits over
over_time n zero some h = absurd (omega arith)
over_time n (suc d) some h =
    let parts = both_true (nat_lt (unsigned_abs (over (pos n) (suc d)).numer) (2 ^ 63)) (nat_lt (over (pos n) (suc d)).denom (2 ^ 63)) h in
    record {
      fraction = record {
        lowest = over-lowest (pos n) (suc d) some;
        positive = over-positive (pos n) (suc d) some;
        numer_fits = ltb-true (unsigned_abs (over (pos n) (suc d)).numer) (2 ^ 63) parts.0;
        denom_fits = ltb-true (over (pos n) (suc d)).denom (2 ^ 63) parts.1;
      };
      start = pos_start (unsigned_abs (pos n) / gcd (unsigned_abs (pos n)) (suc d));
    }

abbrev TimeWhereOk : Result Fraction DecimalFault → Type 0
TimeWhereOk r = (f : Fraction) → r ≡ Ok f → IsTime f

fitted_time : (n d : ℕ) → 0 < d → TimeWhereOk (fitted_decimal (over (pos n) d))
fitted_time n d some f e = go (fits (over (pos n) d)) refl e where
  go : (t : Bool) → fits (over (pos n) d) ≡ t → cond t (Ok (over (pos n) d)) (Err Overflow) ≡ Ok f → IsTime f
  go true fit g = let same : over (pos n) d ≡ f = cc in subst IsTime same (over_time n d some fit)
  go false fit g = absurd (let z : Err Overflow ≡ Ok f = g in cc)

either_ok : (t : Bool) (a b : Result Fraction DecimalFault) → TimeWhereOk a → TimeWhereOk b → TimeWhereOk (cond t a b)
either_ok true a b h k = h
either_ok false a b h k = k

err_ok : (fault : DecimalFault) → TimeWhereOk (Err fault)
err_ok fault f e = absurd (let z : Err fault ≡ Ok f = e in cc)

whole_time : (digits : List ℕ) → TimeWhereOk (whole_decimal digits)
unfolding whole_decimal
whole_time digits = either_ok (nat_lt 19 (length digits)) (Err Long) (fitted_decimal (over (pos (digits_value digits)) 1)) (err_ok Long) (fitted_time (digits_value digits) 1 (omega arith))

pointed_time : (before after : List ℕ) → TimeWhereOk (pointed_decimal before after)
unfolding pointed_decimal
pointed_time before after =
    either_ok (nat_lt 18 (length before)) (Err Long) _ (err_ok Long)
    (either_ok (nat_lt 18 (length after)) (Err Long) _ (err_ok Long)
    (fitted_time (digits_value before * 10 ^ length after + digits_value after) (10 ^ length after) (ten_pos (length after))))
  where
    ten_pos : (k : ℕ) → 0 < 10 ^ k
    ten_pos k = let one : 10 ^ 0 ≤ 10 ^ k = pow-le-pow_right {n = 10} (omega arith) {i = 0} {j = k} (omega arith) in omega arith

-- a decimal number is a time
pub decimal_time : (bytes : List ℕ) → TimeWhereOk (decimal_of bytes)
unfolding decimal_of
decimal_time bytes =
    either_ok (are_digits bytes) (whole_decimal bytes) _ (whole_time bytes)
    (either_ok (are_digits (before_first is_dot bytes) && are_digits (after_first is_dot bytes)) (pointed_decimal (before_first is_dot bytes) (after_first is_dot bytes)) (Err Shape)
    (pointed_time (before_first is_dot bytes) (after_first is_dot bytes)) (err_ok Shape))

wholes_time : (word : List ℕ) → TimeWhereOk (whole_of word)
wholes_time word = either_ok (are_digits word) (whole_decimal word) (Err Shape) (whole_time word) (err_ok Shape)

some_of_ok : (r : Result Fraction DecimalFault) (f : Fraction) → TimeWhereOk r → result_ok r ≡ Some f → IsTime f
some_of_ok (Ok g) f h e = let same : g ≡ f = cc in subst IsTime same (h g refl)
some_of_ok (Err fault) f h e = absurd (let z : None ≡ Some f = e in cc)

ratio_fitted : (n d : ℕ) (f : Fraction) → 0 < d → result_ok (fitted (over (pos n) d)) ≡ Some f → IsTime f
unfolding fitted
ratio_fitted n d f some e = go (fits (over (pos n) d)) refl e where
  go : (t : Bool) → fits (over (pos n) d) ≡ t → result_ok (cond t (Ok (over (pos n) d)) (Err frac.Overflow)) ≡ Some f → IsTime f
  go true fit g = let same : over (pos n) d ≡ f = cc in subst IsTime same (over_time n d some fit)
  go false fit g = absurd (let z : None ≡ Some f = g in cc)

ratio_parts : (n d : ℤ) (f : Fraction) → pos 0 ≤ℤ n → pos 0 ≤ℤ d → result_ok (unless_zero d (fitted (reduced n d))) ≡ Some f → IsTime f
unfolding reduced
ratio_parts (negsuc n) d f h k e = absurd (omega arith)
ratio_parts (pos n) (negsuc d) f h k e = absurd (omega arith)
ratio_parts (pos n) (pos zero) f h k e = absurd (let z : None ≡ Some f = e in cc)
ratio_parts (pos n) (pos (suc d)) f h k e = ratio_fitted n (suc d) f (omega arith) e

ratio_time : (a b : Result Fraction DecimalFault) (f : Fraction) → TimeWhereOk a → TimeWhereOk b → ratio_of a b ≡ Some f → IsTime f
ratio_time (Ok x) (Ok y) f h k e = ratio_parts x.numer y.numer f (h x refl).start (k y refl).start e
ratio_time (Ok x) (Err fault) f h k e = absurd (let z : None ≡ Some f = e in cc)
ratio_time (Err fault) b f h k e = absurd (let z : None ≡ Some f = e in cc)

-- what a word spells is a time
pub spelled_time : (word : List ℕ) (time : Fraction) → time_of word ≡ Some time → IsTime time
unfolding time_of
spelled_time word time e = go (list_any is_slash word) e where
  go : (t : Bool) → cond t (ratio_of (whole_of (before_first is_slash word)) (whole_of (after_first is_slash word))) (result_ok (decimal_of word)) ≡ Some time → IsTime time
  go true f = ratio_time (whole_of (before_first is_slash word)) (whole_of (after_first is_slash word)) time (wholes_time (before_first is_slash word)) (wholes_time (after_first is_slash word)) f
  go false f = some_of_ok (decimal_of word) time (decimal_time word) f

-- The order of times

back : (a b c : Fraction) → value_order c a ≡ Less → value_order b a ≡ Equal → value_order c b ≡ Less
back a b c e f =
    value_total.antisymm c b
    ∙ ap ordering_reverse (value_total.congr b a c f ∙ (value_total.antisymm a c ∙ ap ordering_reverse e))

further : (a b c : Fraction) → value_order c a ≡ Less → value_order b a ≡ Greater → value_order c b ≡ Less
further a b c e f = value_total.trans c a b e (value_total.antisymm a b ∙ ap ordering_reverse f)

not_less : (a b c : Fraction) (o : Ordering) → value_order b a ≡ o → is_lt o ≡ false → is_lt (value_order c b) ≡ false → value_order c a ≡ Less → ⊥
not_less a b c Less f h k e = true≢false h
not_less a b c Equal f h k e = true≢false (sym (ap is_lt (back a b c e f)) ∙ k)
not_less a b c Greater f h k e = true≢false (sym (ap is_lt (further a b c e f)) ∙ k)

-- what is not below b, which is not below a, is not below a
pub not_below : (a b c : Fraction) → is_lt (value_order b a) ≡ false → is_lt (value_order c b) ≡ false → is_lt (value_order c a) ≡ false
not_below a b c h k = go (value_order c a) refl where
  go : (o : Ordering) → value_order c a ≡ o → is_lt o ≡ false
  go Equal e = refl
  go Greater e = refl
  go Less e = absurd (not_less a b c (value_order b a) refl h k e)

not_less_from : (x y : ℤ) → (x <ℤ y → ⊥) → is_lt (int_cmp x y) ≡ false
not_less_from x y h = go (int_cmp x y) refl where
  go : (o : Ordering) → o ≡ int_cmp x y → is_lt o ≡ false
  go Less e = absurd (h (int_ranked x y Less e))
  go Equal e = refl
  go Greater e = refl

zero_least : (n : ℤ) (k m : ℕ) → pos 0 ≤ℤ n → (n *ℤ pos k) <ℤ (pos 0 *ℤ pos m) → ⊥
zero_least (pos n) k m h less = omega (arith, ints)
zero_least (negsuc n) k m h less = omega (arith, ints)

-- no time is below 0
pub not_below_zero : (time : Fraction) → pos 0 ≤ℤ time.numer → is_lt (value_order time (whole (pos 0))) ≡ false
unfolding value_order
not_below_zero time h = not_less_from (time.numer *ℤ pos (max 1 1)) (pos 0 *ℤ pos (max 1 time.denom)) (zero_least time.numer (max 1 1) (max 1 time.denom) h)

-- of two fractions the values alone decide
pub same_order : (a b : Fraction) → IsFraction a → IsFraction b → order_of a b ≡ value_order a b
unfolding value_order
same_order a b p q = sym (order_is a b p q) ∙ sym (rw (max_is a.denom p.positive, max_is b.denom q.positive) refl)

pub zero_time : IsTime (whole (pos 0))
unfolding gcd
zero_time = record { fraction = record { lowest = refl; positive = lit< tt; numer_fits = lit< tt; denom_fits = lit< tt }; start = pos_start 0 }

pub zero_made : fitted (reduced (pos 0) (pos 1)) ≡ Ok (whole (pos 0))
unfolding reduced
zero_made = ap fitted (over-self (whole (pos 0)) zero_time.fraction) ∙ fitted_ok (whole (pos 0)) zero_time.fraction.numer_fits zero_time.fraction.denom_fits

-- the time of a directive is one
pub form_time : (x : Line) (line : List ℕ) (time : Fraction) → HasForm x line → time_in x ≡ Some time → IsTime time
form_time (PlainLine bytes) line time f e = absurd (let z : None ≡ Some time = e in cc)
form_time VersionLine line time f e = absurd (let z : None ≡ Some time = e in cc)
form_time (AtLine t) line time f e = let same : t ≡ time = cc in subst IsTime same (spelled_time f.when t f.spelled)
form_time (CueLine t path values) line time f e = let same : t ≡ time = cc in subst IsTime same (spelled_time f.when t f.spelled)
form_time (SetLine t path value) line time f e = let same : t ≡ time = cc in subst IsTime same (spelled_time f.when t f.spelled)
form_time (StopLine t name) line time f e = let same : t ≡ time = cc in subst IsTime same (spelled_time f.when t f.spelled)

pub input_time : (time : Fraction) (deed : Deed) → time_in (input_line time deed) ≡ Some time
input_time time (Cue path values) = refl
input_time time (Set path value) = refl
input_time time (Stop name) = refl

-- The slash

any_by : (n k : ℕ) (t x : Bool) → x ≡ nat_lt k n → (t || x) ≡ nat_lt (cond (not t) (1 + k) 0) (suc n)
any_by n k true x e = grind (arith, nat_tests)
any_by n k false x e = e ∙ grind (arith, nat_tests)

any_is : (p : ℕ → Bool) (xs : List ℕ) → list_any p xs ≡ nat_lt (position_or_len p xs) (length xs)
any_is p [] = refl
any_is p (x ∷ xs) = any_by (length xs) (position_or_len p xs) (p x) (list_any p xs) (any_is p xs)

record IsPlace (p : ℕ → Bool) (xs : List ℕ) (at : ℕ) : Type 0 where
  any : list_any p xs ≡ true
  place : position_or_len p xs ≡ at

place_there : (p : ℕ → Bool) (xs : List ℕ) (at : ℕ) → Some at ≡ position p xs → IsPlace p xs at
place_there p xs at e = go (nat_lt (position_or_len p xs) (length xs)) refl e where
  go : (t : Bool) → nat_lt (position_or_len p xs) (length xs) ≡ t → Some at ≡ cond t (Some (position_or_len p xs)) None → IsPlace p xs at
  go true f g = record { any = any_is p xs ∙ f; place = let z : Some (position_or_len p xs) ≡ Some at = sym g in let same : position_or_len p xs ≡ at = cc in same }
  go false f g = absurd (let z : Some at ≡ None = g in cc)

none_there : (p : ℕ → Bool) (xs : List ℕ) → None ≡ position p xs → list_any p xs ≡ false
none_there p xs e = go (nat_lt (position_or_len p xs) (length xs)) refl e where
  go : (t : Bool) → nat_lt (position_or_len p xs) (length xs) ≡ t → None ≡ cond t (Some (position_or_len p xs)) None → list_any p xs ≡ false
  go true f g = absurd (let z : None ≡ Some (position_or_len p xs) = g in cc)
  go false f g = any_is p xs ∙ f

pub time_split : (word : List ℕ) (at : ℕ) (r : Option Fraction) → Some at ≡ position is_slash word → r ≡ ratio_of (whole_of (take at word)) (whole_of (take (length word - (at + 1)) (drop (at + 1) word))) → r ≡ time_of word
unfolding time_of
time_split word at r e f =
    let p = place_there is_slash word at e in
    f
    ∙ (ap (λ (xs : List ℕ). ratio_of (whole_of (take at word)) (whole_of xs)) (take_rest word (at + 1))
    ∙ (ap (λ (k : ℕ). ratio_of (whole_of (take k word)) (whole_of (drop (k + 1) word))) (sym p.place)
    ∙ sym (ap (λ (t : Bool). cond t (ratio_of (whole_of (before_first is_slash word)) (whole_of (after_first is_slash word))) (result_ok (decimal_of word))) p.any)))

pub time_plain : (word : List ℕ) (r : Option Fraction) → None ≡ position is_slash word → r ≡ result_ok (decimal_of word) → r ≡ time_of word
unfolding time_of
time_plain word r e f =
    f ∙ sym (ap (λ (t : Bool). cond t (ratio_of (whole_of (before_first is_slash word)) (whole_of (after_first is_slash word))) (result_ok (decimal_of word))) (none_there is_slash word e))
