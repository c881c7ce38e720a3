use Rattle.std.proofs.Common.{IsTrue, Result, Ok, Err, is_ok, ◌≡◌, sym, ◌∙◌}
use Rattle.vt_frac.specs.Decimal.{decimal_of}
use Rattle.vt_lex.specs.Numbers.{decimal_fits}
use Rattle.vt_build.proofs.literals.decimal_value.Goals as goal

refused : {T E : Type 0} (r : Result T E) (e : E) → r ≡ Err e → IsTrue (is_ok r) → ⊥
refused (Ok v) e p h = cc
refused (Err f) e p h = cc

pub unreachable-requires : goal.unreachable-requires
unfolding decimal_fits
unreachable-requires c = refused (decimal_of c.args.bytes.now) c.in-Err.field-0 (sym c.read_decimal.ensures.value ∙ c.in-Err.is) c.requires
