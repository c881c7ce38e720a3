-- What unary operators, indexes, comparisons and literals give is within the limits of the language.
use Rattle.std.proofs.Common.{◌≡◌, ℕ, ◌<◌, ◌^◌, ℤ, pos, negsuc, unsigned_abs, Bool, ◌&&◌, nat_lt, List, length, Result, Ok, Err, sym, subst, arith}
use Rattle.std.specs.Prelude.{neg_ℤ, ◌-◌, ◌≤ℤ◌, slice_get}
use Rattle.std.specs.List.{after_first, before_first}
use Rattle.std.specs.Result.{IfOk}
use Rattle.std.proofs.lemmas.Result.{IfOk-at_ok}
use Rattle.std.proofs.lemmas.Int.{ints}
use Rattle.vt_frac.specs.Arithmetic.{floor_of}
use Rattle.vt_frac.specs.declared.fault.DecimalFault.TheVariants as decimal
use Rattle.vt_frac.specs.Decimal.{are_digits, decimal_of, fitted_decimal, is_dot, pointed_decimal, whole_decimal}
use Rattle.vt_frac.specs.Fraction.{Fraction, IsFraction, fits, over}
use Rattle.vt_value.specs.declared.comparison.OrderOp.{OrderOp}
use Rattle.vt_value.specs.declared.fault.FaultKind.{FaultKind}
use Rattle.vt_value.specs.declared.fault.FaultKind.TheVariants.{EmptyRing}
use Rattle.vt_value.specs.declared.value.Value.{Value, out-Value}
use Rattle.vt_value.specs.declared.value.Value.TheVariants.{Bool as Truth}
use Rattle.vt_value.specs.declared.value.Value.TheOpen.{Value-F}
use Rattle.vt_value.specs.Comparison.{compare_of}
use Rattle.vt_value.specs.Limits.{AreWithin, IsWithin, WithinLayer}
use Rattle.vt_ring.specs.Answers.{and_then}
use Rattle.vt_ring.specs.Items.{item_at, wrapped}
use Rattle.vt_ring.specs.Signatures.{number_argument, ring_argument}
use Rattle.vt_ring.proofs.limits.Values.{here, within_bool, within_nil, within_part, within_symbol, within_text, within_whole}
use Rattle.vt_ring.proofs.limits.Answers.{and_then_gives, cond_gives, if_gives, ok_or_gives}
use Rattle.vt_ring.proofs.limits.Fractions.{fraction_from_fits, lowest_over}
use Rattle.vt_ring.proofs.limits.Arguments.{number_argument_gives, ring_argument_gives}
use Rattle.vt_ring.proofs.limits.Arithmetic.{size-negated}
use Rattle.vt_ring.proofs.Elements.{each_found}
use Rattle.vt_tree.specs.declared.expression.Literal.{Literal}
use Rattle.vt_tree.specs.declared.expression.Literal.TheVariants as literal
use Rattle.vt_tree.specs.declared.expression.UnaryOp.{UnaryOp}
use Rattle.vt_tree.specs.declared.expression.UnaryOp.TheVariants.{Minus, Not}
use Rattle.vt_tree.specs.Forms.{IsDecimal, IsLiteral}
use Rattle.vt_run.specs.Operators.{compares, index_of, literal_value, negated_layer, unary_of}

negated_gives : (layer : Value-F Value) → WithinLayer layer → IfOk (negated_layer layer) IsWithin
negated_gives Value-F.Nil h = tt
negated_gives (Value-F.Bool b) h = tt
negated_gives (Value-F.Whole n) h = within_whole (neg_ℤ n) (subst (λ k. k < 2 ^ 63) (sym (size-negated n)) h)
negated_gives (Value-F.Part f) h =
    within_part (record { numer = neg_ℤ f.numer; denom = f.denom }) (record {
      lowest = rw (size-negated f.numer) h.lowest;
      positive = h.positive;
      numer_fits = subst (λ k. k < 2 ^ 63) (sym (size-negated f.numer)) h.numer_fits;
      denom_fits = h.denom_fits;
    })
negated_gives (Value-F.Sym name) h = tt
negated_gives (Value-F.Text bytes) h = tt
negated_gives (Value-F.Ring items) h = tt

pub unary_gives : (op : UnaryOp) (value : Value) → IsWithin value → IfOk (unary_of op value) IsWithin
unary_gives Minus value h = negated_gives (out-Value value) (here value h)
unary_gives Not value h = within_bool _

pub unary_within : (op : UnaryOp) (a v : Value) → IsWithin a → unary_of op a ≡ Ok v → IsWithin v
unary_within op a v h e = IfOk-at_ok IsWithin e (unary_gives op a h)

-- Indexes and comparisons

pub item_at_gives : (items : List Value) (index : ℤ) → AreWithin items → IfOk (item_at items index) IsWithin
item_at_gives items index h = ok_or_gives (slice_get items (wrapped index (length items))) EmptyRing IsWithin (each_found IsWithin items (wrapped index (length items)) h)

pub index_gives : (a b : Value) → IsWithin a → IsWithin b → IfOk (index_of a b) IsWithin
index_gives a b h k =
    and_then_gives (ring_argument a) _ _ IsWithin (ring_argument_gives a h) (λ items r.
    and_then_gives (number_argument b) _ _ IsWithin (number_argument_gives b k) (λ index p.
    item_at_gives items (floor_of index) r.each))

pub index_within : (a b v : Value) → IsWithin a → IsWithin b → index_of a b ≡ Ok v → IsWithin v
index_within a b v h k e = IfOk-at_ok IsWithin e (index_gives a b h k)

pub compares_gives : (op : OrderOp) (a b : Value) → IfOk (compares op a b) IsWithin
compares_gives op a b = by_answer (compare_of op a b)
  where
    by_answer : (answer : Result Bool FaultKind) → IfOk (and_then answer (λ holds. Ok (Truth holds))) IsWithin
    by_answer (Ok holds) = within_bool holds
    by_answer (Err kind) = tt

pub compares_within : (op : OrderOp) (a b v : Value) → compares op a b ≡ Ok v → IsWithin v
compares_within op a b v e = IfOk-at_ok IsWithin e (compares_gives op a b)

-- Literals

fitted_decimal_gives : (n : ℤ) (d : ℕ) → IfOk (fitted_decimal (over n d)) IsFraction
fitted_decimal_gives n d = cond_gives (fits (over n d)) (Ok (over n d)) decimal.Overflow IsFraction (fraction_from_fits (over n d) (lowest_over n d))

whole_decimal_gives : (digits : List ℕ) → IfOk (whole_decimal digits) IsFraction
unfolding whole_decimal
whole_decimal_gives digits = if_gives (nat_lt 19 (length digits)) _ _ IsFraction tt (fitted_decimal_gives _ _)

pointed_decimal_gives : (before after : List ℕ) → IfOk (pointed_decimal before after) IsFraction
unfolding pointed_decimal
pointed_decimal_gives before after =
    if_gives (nat_lt 18 (length before)) _ _ IsFraction tt (if_gives (nat_lt 18 (length after)) _ _ IsFraction tt (fitted_decimal_gives _ _))

pub decimal_gives : (bytes : List ℕ) → IfOk (decimal_of bytes) IsFraction
unfolding decimal_of
decimal_gives bytes =
    if_gives (are_digits bytes) _ _ IsFraction (whole_decimal_gives bytes)
    (if_gives (are_digits (before_first is_dot bytes) && are_digits (after_first is_dot bytes)) _ _ IsFraction (pointed_decimal_gives (before_first is_dot bytes) (after_first is_dot bytes)) tt)

pub decimal_fraction : (f : Fraction) → IsDecimal f → IsFraction f
decimal_fraction f h = IfOk-at_ok IsFraction h.written (decimal_gives h.bytes)

whole_literal : (n : ℤ) → pos 0 ≤ℤ n → n ≤ℤ pos (2 ^ 63 - 1) → unsigned_abs n < 2 ^ 63
whole_literal (pos n) low high = omega (arith, ints, low, high)
whole_literal (negsuc n) low high = absurd (omega (arith, ints, low))

pub literal_within : (l : Literal) → IsLiteral l → IsWithin (literal_value l)
literal_within literal.Nil h = within_nil
literal_within (literal.Bool b) h = within_bool b
literal_within (literal.Whole n) h = within_whole n (whole_literal n h.0 h.1)
literal_within (literal.Decimal f) h = within_part f (decimal_fraction f h)
literal_within (literal.Text bytes) h = within_text bytes h
literal_within (literal.Sym name) h = within_symbol name h
