use Rattle.std.proofs.Common.{◌≡◌, ◌∙◌, sym, ap, [], ◌∷◌}
use Rattle.std.specs.Prelude.{codes}
use Rattle.std.specs.Fmt.{signed_decimal}
use Rattle.vt_frac.specs.Text.{fraction_text}
use Rattle.vt_value.specs.Kinds.{items_of}
use Rattle.vt_value.specs.Text.{value_text, bool_text, quoted}
use Rattle.vt_value.proofs.TextLemmas.{wrote, text-Nil, text-Bool, text-Whole, text-Part, text-Sym, text-Text, text-empty}
use Rattle.vt_value.proofs.write.write_without_items.Goals as goal

pub returns-in-Nil : goal.returns-in-Nil
returns-in-Nil c = let v = c.args.value.now in wrote c.write_bytes.result (items_of v ≡ []) c.args.text.now.items c.write_bytes.new.text.items (codes "nil") (value_text v) c.write_bytes.ensures (λ _. sym (text-Nil v c.in-Nil.is))

pub returns-in-Bool : goal.returns-in-Bool
returns-in-Bool c = let v = c.args.value.now in wrote c.write_bool.result (items_of v ≡ []) c.args.text.now.items c.write_bool.new.text.items (bool_text c.in-Bool.b) (value_text v) c.write_bool.ensures (λ _. sym (text-Bool v c.in-Bool.b c.in-Bool.is))

pub returns-in-Whole : goal.returns-in-Whole
returns-in-Whole c = let v = c.args.value.now in wrote c.write_whole.result (items_of v ≡ []) c.args.text.now.items c.write_whole.new.text.items (signed_decimal c.in-Whole.n) (value_text v) c.write_whole.ensures (λ _. sym (text-Whole v c.in-Whole.n c.in-Whole.is))

pub returns-in-Part : goal.returns-in-Part
returns-in-Part c = let v = c.args.value.now in wrote c.write.result (items_of v ≡ []) c.args.text.now.items c.write.new.out.items (fraction_text c.in-Part.f) (value_text v) c.write.ensures.text (λ _. sym (text-Part v c.in-Part.f c.in-Part.is))

pub returns-in-Sym : goal.returns-in-Sym
returns-in-Sym c = let v = c.args.value.now in wrote c.write_symbol.result (items_of v ≡ []) c.args.text.now.items c.write_symbol.new.text.items (58 ∷ c.in-Sym.symbol) (value_text v) c.write_symbol.ensures (λ _. sym (text-Sym v c.in-Sym.symbol c.in-Sym.is))

pub returns-in-Text : goal.returns-in-Text
returns-in-Text c = let v = c.args.value.now in wrote c.write_quoted.result (items_of v ≡ []) c.args.text.now.items c.write_quoted.new.text.items (quoted c.as_bytes.result.now) (value_text v) c.write_quoted.ensures (λ _. ap quoted c.as_bytes.ensures ∙ sym (text-Text v c.in-Text.bytes c.in-Text.is))

pub returns-in-Ring : goal.returns-in-Ring
returns-in-Ring c = let v = c.args.value.now in wrote c.write_bytes-in-Ring.result (items_of v ≡ []) c.args.text.now.items c.write_bytes-in-Ring.new.text.items (codes "[]") (value_text v) c.write_bytes-in-Ring.ensures (λ empty. sym (text-empty v c.in-Ring.field-0 c.in-Ring.is empty))
