use Rattle.std.proofs.Common.{◌∙◌, List, ℕ, Some, sym, ap}
use Rattle.vt_value.specs.declared.value.Value.TheVariants.{Text}
use Rattle.vt_session.proofs.ValueLemmas.{has_text, no_text}
use Rattle.vt_session.proofs.given.text_of.Goals as goal

pub returns-then-not-is_text : goal.returns-then-not-is_text
returns-then-not-is_text c = no_text c.args.form.now (sym c.is_text.ensures ∙ c.if-not-is_text.true)

pub text_value-requires : goal.text_value-requires
text_value-requires c = (has_text c.args.word.now c.args.form.now c.requires.whole (sym c.is_text.ensures ∙ c.if-not-is_text.false)).form_of

pub returns : goal.returns
returns c =
    ap (λ (bytes : List ℕ). Some (Text bytes)) c.in_ok-value.ensures
    ∙ (has_text c.args.word.now c.args.form.now c.requires.whole (sym c.is_text.ensures ∙ c.if-not-is_text.false)).value
