-- What is known of the arguments of a call, where the values that it is given are within the limits of the language.
use Rattle.std.specs.Prelude.{nat_le}
use Rattle.std.specs.Option.{IfSome}
use Rattle.std.specs.Result.{IfOk}
use Rattle.std.proofs.Common.{◌≡◌, ℕ, ◌<◌, ◌≤◌, ◌^◌, ℤ, pos, negsuc, unsigned_abs, ◌&&◌, IsTrue, List, [], ◌∷◌, Option, Some, None, Ok, arith}
use Rattle.std.proofs.lemmas.Result.{IfOk-at_ok}
use Rattle.std.proofs.lemmas.Bool.{leb-true}
use Rattle.vt_frac.specs.Fraction.{Fraction, IsFraction, whole}
use Rattle.vt_frac.specs.Names.{is_symbol_name}
use Rattle.vt_frac.proofs.DecimalLemmas.{both_true}
use Rattle.vt_value.specs.declared.fault.FaultKind.TheVariants.{BadValue, WrongKind}
use Rattle.vt_value.specs.declared.value.Value.{Value}
use Rattle.vt_value.specs.Kinds.{number_of, ring_of, symbol_of, whole_of}
use Rattle.vt_value.specs.Limits.{IsWithin, AreWithin}
use Rattle.vt_ring.specs.Arguments.{between, whole_argument}
use Rattle.vt_ring.specs.Signatures.{a_number, a_ring, a_ring_and_a_whole, a_ring_and_perhaps_a_whole, a_whole, number_argument, number_or, one_of, one_or_none_of, one_or_two_of, perhaps_a_number, perhaps_a_whole, ring_argument, symbol_argument, three_of, two_numbers, two_of, two_or_three_of, two_wholes, whole_or}
use Rattle.vt_ring.proofs.limits.Answers.{and_then_gives, cond_gives, ok_or_gives}
use Rattle.vt_ring.proofs.limits.Values.{IsRingWithin, IsWholeWithin, number_if, ring_if, symbol_if, whole_fraction, whole_if}

-- an argument that need not be given
abbrev pub IsSomeWithin : Option Value → Type 0
IsSomeWithin found = IfSome found IsWithin

-- How many arguments

pub one_gives : (args : List Value) → AreWithin args → IfOk (one_of args) IsWithin
one_gives [] h = tt
one_gives (a ∷ []) h = h.0
one_gives (a ∷ b ∷ rest) h = tt

pub one_or_none_gives : (args : List Value) → AreWithin args → IfOk (one_or_none_of args) IsSomeWithin
one_or_none_gives [] h = tt
one_or_none_gives (a ∷ []) h = h.0
one_or_none_gives (a ∷ b ∷ rest) h = tt

pub two_give : (args : List Value) → AreWithin args → IfOk (two_of args) (λ both. IsWithin both.0 × IsWithin both.1)
two_give [] h = tt
two_give (a ∷ []) h = tt
two_give (a ∷ b ∷ []) h = (h.0, h.1.0)
two_give (a ∷ b ∷ c ∷ rest) h = tt

pub one_or_two_give : (args : List Value) → AreWithin args → IfOk (one_or_two_of args) (λ both. IsWithin both.0 × IsSomeWithin both.1)
one_or_two_give [] h = tt
one_or_two_give (a ∷ []) h = (h.0, tt)
one_or_two_give (a ∷ b ∷ []) h = (h.0, h.1.0)
one_or_two_give (a ∷ b ∷ c ∷ rest) h = tt

pub three_give : (args : List Value) → AreWithin args → IfOk (three_of args) (λ all. IsWithin all.0 × IsWithin all.1 × IsWithin all.2)
three_give [] h = tt
three_give (a ∷ []) h = tt
three_give (a ∷ b ∷ []) h = tt
three_give (a ∷ b ∷ c ∷ []) h = (h.0, h.1.0, h.1.1.0)
three_give (a ∷ b ∷ c ∷ d ∷ rest) h = tt

pub two_or_three_give : (args : List Value) → AreWithin args → IfOk (two_or_three_of args) (λ all. IsWithin all.0 × IsWithin all.1 × IsSomeWithin all.2)
two_or_three_give [] h = tt
two_or_three_give (a ∷ []) h = tt
two_or_three_give (a ∷ b ∷ []) h = (h.0, h.1.0, tt)
two_or_three_give (a ∷ b ∷ c ∷ []) h = (h.0, h.1.0, h.1.1.0)
two_or_three_give (a ∷ b ∷ c ∷ d ∷ rest) h = tt

-- Of which kinds

pub ring_argument_gives : (value : Value) → IsWithin value → IfOk (ring_argument value) IsRingWithin
ring_argument_gives value h = ok_or_gives (ring_of value) WrongKind IsRingWithin (ring_if value h)

pub number_argument_gives : (value : Value) → IsWithin value → IfOk (number_argument value) IsFraction
number_argument_gives value h = ok_or_gives (number_of value) WrongKind IsFraction (number_if value h)

pub whole_argument_gives : (value : Value) → IsWithin value → IfOk (whole_argument value) IsWholeWithin
whole_argument_gives value h = ok_or_gives (whole_of value) WrongKind IsWholeWithin (whole_if value h)

pub symbol_argument_gives : (value : Value) → IsWithin value → IfOk (symbol_argument value) (λ name. IsTrue (is_symbol_name name))
symbol_argument_gives value h = ok_or_gives (symbol_of value) WrongKind (λ name. IsTrue (is_symbol_name name)) (symbol_if value h)

pub whole_or_gives : (other : ℤ) (found : Option Value) → IsWholeWithin other → IsSomeWithin found → IfOk (whole_or other found) IsWholeWithin
whole_or_gives other None w h = w
whole_or_gives other (Some value) w h = whole_argument_gives value h

pub number_or_gives : (other : Fraction) (found : Option Value) → IsFraction other → IsSomeWithin found → IfOk (number_or other found) IsFraction
number_or_gives other None w h = w
number_or_gives other (Some value) w h = number_argument_gives value h

pub a_ring_gives : (args : List Value) → AreWithin args → IfOk (a_ring args) IsRingWithin
a_ring_gives args h = and_then_gives (one_of args) ring_argument IsWithin IsRingWithin (one_gives args h) ring_argument_gives

pub a_number_gives : (args : List Value) → AreWithin args → IfOk (a_number args) IsFraction
a_number_gives args h = and_then_gives (one_of args) number_argument IsWithin IsFraction (one_gives args h) number_argument_gives

pub a_whole_gives : (args : List Value) → AreWithin args → IfOk (a_whole args) IsWholeWithin
a_whole_gives args h = and_then_gives (one_of args) whole_argument IsWithin IsWholeWithin (one_gives args h) whole_argument_gives

-- a ring, and a whole number beside it
abbrev pub IsRingAndWhole : List Value × ℤ → Type 0
IsRingAndWhole both = IsRingWithin both.0 × IsWholeWithin both.1

pub a_ring_and_a_whole_give : (args : List Value) → AreWithin args → IfOk (a_ring_and_a_whole args) IsRingAndWhole
a_ring_and_a_whole_give args h =
    and_then_gives (two_of args) _ _ IsRingAndWhole (two_give args h) (λ both w.
    and_then_gives (ring_argument both.0) _ _ IsRingAndWhole (ring_argument_gives both.0 w.0) (λ items r.
    and_then_gives (whole_argument both.1) _ _ IsRingAndWhole (whole_argument_gives both.1 w.1) (λ n k.
    (r, k))))

pub a_ring_and_perhaps_a_whole_give : (args : List Value) → AreWithin args → IfOk (a_ring_and_perhaps_a_whole args) IsRingAndWhole
a_ring_and_perhaps_a_whole_give args h =
    and_then_gives (one_or_two_of args) _ _ IsRingAndWhole (one_or_two_give args h) (λ both w.
    and_then_gives (ring_argument both.0) _ _ IsRingAndWhole (ring_argument_gives both.0 w.0) (λ items r.
    and_then_gives (whole_or (pos 1) both.1) _ _ IsRingAndWhole (whole_or_gives (pos 1) both.1 (omega arith) w.1) (λ n k.
    (r, k))))

pub perhaps_a_whole_gives : (other : ℤ) (args : List Value) → IsWholeWithin other → AreWithin args → IfOk (perhaps_a_whole other args) IsWholeWithin
perhaps_a_whole_gives other args w h = and_then_gives (one_or_none_of args) (whole_or other) IsSomeWithin IsWholeWithin (one_or_none_gives args h) (λ found. whole_or_gives other found w)

pub perhaps_a_number_gives : (args : List Value) → AreWithin args → IfOk (perhaps_a_number args) IsFraction
perhaps_a_number_gives args h = and_then_gives (one_or_none_of args) (number_or (whole (pos 1))) IsSomeWithin IsFraction (one_or_none_gives args h) (λ found. number_or_gives (whole (pos 1)) found (whole_fraction (pos 1) (omega arith)))

pub two_numbers_give : (args : List Value) → AreWithin args → IfOk (two_numbers args) (λ both. IsFraction both.0 × IsFraction both.1)
two_numbers_give args h =
    and_then_gives (two_of args) _ _ (λ both. IsFraction both.0 × IsFraction both.1) (two_give args h) (λ both w.
    and_then_gives (number_argument both.0) _ _ (λ both. IsFraction both.0 × IsFraction both.1) (number_argument_gives both.0 w.0) (λ f p.
    and_then_gives (number_argument both.1) _ _ (λ both. IsFraction both.0 × IsFraction both.1) (number_argument_gives both.1 w.1) (λ g q.
    (p, q))))

pub two_wholes_give : (args : List Value) → AreWithin args → IfOk (two_wholes args) (λ both. IsWholeWithin both.0 × IsWholeWithin both.1)
two_wholes_give args h =
    and_then_gives (two_of args) _ _ (λ both. IsWholeWithin both.0 × IsWholeWithin both.1) (two_give args h) (λ both w.
    and_then_gives (whole_argument both.0) _ _ (λ both. IsWholeWithin both.0 × IsWholeWithin both.1) (whole_argument_gives both.0 w.0) (λ m p.
    and_then_gives (whole_argument both.1) _ _ (λ both. IsWholeWithin both.0 × IsWholeWithin both.1) (whole_argument_gives both.1 w.1) (λ n q.
    (p, q))))

-- In which range

pub between_gives : (least most : ℕ) (z : ℤ) → IfOk (between least most z) (λ n. (least ≤ n) × (n ≤ most))
between_gives least most (pos n) =
    cond_gives (nat_le least n && nat_le n most) (Ok n) BadValue (λ n. (least ≤ n) × (n ≤ most)) (λ e.
    let parts = both_true (nat_le least n) (nat_le n most) e in
    (leb-true least n parts.0, leb-true n most parts.1))
between_gives least most (negsuc n) = tt

-- The same at a given result

pub one_known : (args : List Value) (value : Value) → one_of args ≡ Ok value → AreWithin args → IsWithin value
one_known args value e h = IfOk-at_ok IsWithin e (one_gives args h)

pub two_known : (args : List Value) (both : Value × Value) → two_of args ≡ Ok both → AreWithin args → IsWithin both.0 × IsWithin both.1
two_known args both e h = IfOk-at_ok (λ both. IsWithin both.0 × IsWithin both.1) e (two_give args h)

pub a_ring_known : (args items : List Value) → a_ring args ≡ Ok items → AreWithin args → IsRingWithin items
a_ring_known args items e h = IfOk-at_ok IsRingWithin e (a_ring_gives args h)

pub a_whole_known : (args : List Value) (n : ℤ) → a_whole args ≡ Ok n → AreWithin args → unsigned_abs n < 2 ^ 63
a_whole_known args n e h = IfOk-at_ok IsWholeWithin e (a_whole_gives args h)

pub a_number_known : (args : List Value) (f : Fraction) → a_number args ≡ Ok f → AreWithin args → IsFraction f
a_number_known args f e h = IfOk-at_ok IsFraction e (a_number_gives args h)
