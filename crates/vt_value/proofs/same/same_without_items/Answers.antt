use Rattle.std.proofs.Common.{◌∙◌, sym, ap}
use Rattle.vt_frac.specs.Fraction.{Fraction, whole}
use Rattle.vt_value.specs.Same.{equals_bool, equals_bytes, equals_number, is_no_item}
use Rattle.vt_value.specs.Kinds.{symbol_of, text_bytes}
use Rattle.vt_value.proofs.SameLemmas.{same-Nil, same-Bool, same-Whole, same-Part, same-Sym, same-Text, same-empty}
use Rattle.vt_value.proofs.same.same_without_items.Goals as goal

pub returns-in-Nil : goal.returns-in-Nil
returns-in-Nil c = λ _. c.is_nil.ensures ∙ sym (same-Nil c.args.left.now c.args.right.now c.in-Nil.is)

pub returns-in-Bool : goal.returns-in-Bool
returns-in-Bool c = λ _. c.same_bool.ensures ∙ ap (equals_bool c.in-Bool.b) c.bool.ensures ∙ sym (same-Bool c.args.left.now c.args.right.now c.in-Bool.b c.in-Bool.is)

pub returns-in-Whole : goal.returns-in-Whole
returns-in-Whole c = λ _. c.same_number.ensures ∙ ap (λ (f : Fraction). equals_number f c.number.result) c.fraction.ensures ∙ ap (equals_number (whole c.in-Whole.n)) c.number.ensures ∙ sym (same-Whole c.args.left.now c.args.right.now c.in-Whole.n c.in-Whole.is)

pub returns-in-Part : goal.returns-in-Part
returns-in-Part c = λ _. c.same_number-in-Part.ensures ∙ ap (equals_number c.in-Part.f) c.number-in-Part.ensures ∙ sym (same-Part c.args.left.now c.args.right.now c.in-Part.f c.in-Part.is)

pub returns-in-Sym : goal.returns-in-Sym
returns-in-Sym c = λ _. c.same_bytes.ensures ∙ ap (equals_bytes c.as_bytes.result.now) c.symbol.ensures ∙ ap (λ bytes. equals_bytes bytes (symbol_of c.args.right.now)) c.as_bytes.ensures.value ∙ sym (same-Sym c.args.left.now c.args.right.now c.in-Sym.symbol c.in-Sym.is)

pub returns-in-Text : goal.returns-in-Text
returns-in-Text c = λ _. c.same_bytes-in-Text.ensures ∙ ap (equals_bytes c.as_bytes-in-Text.result.now) c.text.ensures ∙ ap (λ bytes. equals_bytes bytes (text_bytes c.args.right.now)) c.as_bytes-in-Text.ensures ∙ sym (same-Text c.args.left.now c.args.right.now c.in-Text.bytes c.in-Text.is)

pub returns-in-Ring : goal.returns-in-Ring
returns-in-Ring c = λ empty. c.is_empty.ensures ∙ ap is_no_item c.ring.ensures ∙ sym (same-empty c.args.left.now c.args.right.now c.in-Ring.field-0 c.in-Ring.is empty)
