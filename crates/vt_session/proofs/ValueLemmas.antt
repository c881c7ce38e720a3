-- The values that words are.
use Rattle.std.proofs.Common.{◌≡◌, ℕ, zero, suc, ◌^◌, ◌<◌, Bool, true, false, ◌&&◌, inl, nat_le, ℤ, pos, negsuc, unsigned_abs, List, ◌∷◌, length, Option, Some, None, Result, Ok, cond, eqb, refl, sym, ap, ◌∙◌, subst, arith, true≢false}
use Rattle.std.specs.Prelude.{neg_ℤ}
use Rattle.std.proofs.lemmas.Bool.{eq-eqb, eqb-true, leb-true, ne_eqb}
use Rattle.vt_frac.specs.declared.fault.FracFault.{FracFault}
use Rattle.vt_frac.specs.Divisor.{gcd}
use Rattle.vt_frac.specs.Fraction.{Fraction, IsFraction, fitted, over, reduced, unless_zero}
use Rattle.vt_frac.proofs.DecimalLemmas.{both_true}
use Rattle.vt_frac.proofs.FractionLemmas.{fitted_ok, over-self}
use Rattle.vt_lex.specs.declared.texts.Measure.{Measure}
use Rattle.vt_lex.specs.Texts.{Body, IsTextForm, body_of, measured, value_of, value_of_body}
use Rattle.vt_value.specs.declared.value.Value.TheVariants.{Text}
use Rattle.vt_session.specs.Given.{negated, text_by, text_given}
use Rattle.vt_session.specs.private.Reading.{is_text, is_text_by}

-- a text is one by its lengths
pub text_measured : (n : ℕ) (o : Option Body) (m : Measure) → Some m ≡ measured o → (eqb m.len n && nat_le m.count 4096) ≡ is_text_by n o
text_measured n None m e = absurd (let z : Some m ≡ None = e in cc)
text_measured n (Some body) m e =
    let same : m ≡ record { len = body.len; count = length body.value } = cc in
    ap (λ (x : Measure). eqb x.len n && nat_le x.count 4096) same

-- a text as long as its bytes is one if it is short, and another one is none
pub fits_measured : (n : ℕ) (o : Option Body) (m : Measure) → Some m ≡ measured o → m.len ≡ n → nat_le m.count 4096 ≡ is_text_by n o
fits_measured n o m e same = ap (λ (t : Bool). t && nat_le m.count 4096) (sym (eq-eqb m.len n same)) ∙ text_measured n o m e

pub other_measured : (n : ℕ) (o : Option Body) (m : Measure) → Some m ≡ measured o → (m.len ≡ n → ⊥) → eqb m.len n ≡ is_text_by n o
other_measured n o m e other =
    let differs : eqb m.len n ≡ false = ne_eqb m.len n other in
    differs ∙ (ap (λ (t : Bool). t && nat_le m.count 4096) (sym differs) ∙ text_measured n o m e)

pub none_measured : (n : ℕ) (o : Option Body) → None ≡ measured o → false ≡ is_text_by n o
none_measured n None e = refl
none_measured n (Some body) e = absurd (let z : None ≡ Some (record { len = body.len; count = length body.value }) = e in cc)

no_text_by : (n : ℕ) (o : Option Body) → is_text_by n o ≡ false → None ≡ text_by n o
no_text_by n None e = refl
no_text_by n (Some body) e = sym (ap (λ (t : Bool). cond t (Some (Text body.value)) None) e)

pub no_text : (form : List ℕ) → is_text form ≡ false → None ≡ text_given form
no_text form e = no_text_by (length form) (body_of 34 form) e

-- a text that is one has its form, and its value
pub record HasText (word form : List ℕ) : Type 0 where
  pub form_of : IsTextForm word
  pub value : Some (Text (value_of word)) ≡ text_given form

has_text_by : (form : List ℕ) (o : Option Body) → body_of 34 form ≡ o → is_text_by (length form) o ≡ true → HasText (34 ∷ form) form
has_text_by form None e t = absurd (true≢false (sym t))
has_text_by form (Some body) e t =
    let parts = both_true (eqb body.len (length form)) (nat_le (length body.value) 4096) t in
    let len : body.len ≡ length form = eqb-true body.len (length form) parts.0 in
    record {
      form_of = record {
        quote = inl refl;
        body = body;
        closes = e;
        ends = omega arith;
        short = leb-true (length body.value) 4096 parts.1;
      };
      value = ap (λ (o : Option Body). Some (Text (value_of_body o))) e
          ∙ (sym (ap (λ (t : Bool). cond t (Some (Text body.value)) None) t) ∙ sym (ap (text_by (length form)) e));
    }

pub has_text : (word form : List ℕ) → word ≡ 34 ∷ form → is_text form ≡ true → HasText word form
has_text word form whole t = subst (λ (w : List ℕ). HasText w form) (sym whole) (has_text_by form (body_of 34 form) refl t)

-- Numbers with the other sign

pub size_negated : (n : ℤ) → unsigned_abs (neg_ℤ n) ≡ unsigned_abs n
size_negated (pos zero) = refl
size_negated (pos (suc n)) = refl
size_negated (negsuc n) = refl

pub negated_fraction : (f : Fraction) → IsFraction f → IsFraction (negated f)
negated_fraction f h = record {
  lowest = ap (λ (n : ℕ). gcd n f.denom) (size_negated f.numer) ∙ h.lowest;
  positive = h.positive;
  numer_fits = subst (λ (n : ℕ). n < 2 ^ 63) (sym (size_negated f.numer)) h.numer_fits;
  denom_fits = h.denom_fits;
}

not_zero : (d : ℕ) (answer : Result Fraction FracFault) → 0 < d → unless_zero (pos d) answer ≡ answer
not_zero zero answer h = absurd (omega arith)
not_zero (suc d) answer h = refl

pub negated_is : (f : Fraction) → IsFraction f → unless_zero (pos f.denom) (fitted (reduced (neg_ℤ f.numer) (pos f.denom))) ≡ Ok (negated f)
unfolding reduced
negated_is f h =
    let g = negated_fraction f h in
    not_zero f.denom (fitted (over (neg_ℤ f.numer) f.denom)) h.positive
    ∙ (ap fitted (over-self (negated f) g) ∙ fitted_ok (negated f) g.numer_fits g.denom_fits)
