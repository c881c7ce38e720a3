use Rattle.std.proofs.Common.{◌∙◌, sym}
use Rattle.vt_frac.proofs.DecimalLemmas.{decimal-whole, decimal-pointed, decimal-none}
use Rattle.vt_frac.proofs.DecimalForms.{by_form}
use Rattle.vt_frac.proofs.frac.Frac.read_decimal.Goals as goal

pub returns-then-are_digits : goal.returns-then-are_digits
returns-then-are_digits c =
    let value = c.read_whole.ensures ∙ decimal-whole c.args.bytes.now (sym c.are_digits.ensures ∙ c.if-are_digits.true) in
    let forms = by_form c.args.bytes.now _ value in
    record { value = value; whole = forms.0; pointed = forms.1; shape = forms.2 }

pub returns-in-Some : goal.returns-in-Some
returns-in-Some c =
    let value = c.read_pointed.ensures ∙ decimal-pointed c.args.bytes.now c.in-Some.dot (sym c.are_digits.ensures ∙ c.if-are_digits.false) (sym c.first_dot.ensures.place ∙ c.in-Some.is) in
    let forms = by_form c.args.bytes.now _ value in
    record { value = value; whole = forms.0; pointed = forms.1; shape = forms.2 }

pub returns-in-None : goal.returns-in-None
returns-in-None c =
    let value = decimal-none c.args.bytes.now (sym c.are_digits.ensures ∙ c.if-are_digits.false) (sym c.first_dot.ensures.place ∙ c.in-None.is) in
    let forms = by_form c.args.bytes.now _ value in
    record { value = value; whole = forms.0; pointed = forms.1; shape = forms.2 }
