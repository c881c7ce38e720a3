-- The values that tokens have in a tree.
use Rattle.std.specs.Prelude.{ℕ, ◌-◌, ◌^◌, ◌<◌, pos, true, false, List, length, take, drop, Result, Ok, Err, IsTrue}
use Rattle.std.specs.Str.Parse.{AllDigits, digits_value}
use Rattle.vt_frac.specs.declared.fault.DecimalFault.{DecimalFault}
use Rattle.vt_frac.specs.Decimal.{decimal_of}
use Rattle.vt_frac.specs.Fraction.{Fraction}
use Rattle.vt_lex.specs.Numbers.{decimal_fits}
use Rattle.vt_lex.specs.Texts.{IsTextForm, value_of}
use Rattle.vt_tree.specs.declared.expression.Literal.{Literal}
use Rattle.vt_tree.specs.declared.expression.Literal.TheVariants as literals
use Rattle.vt_grammar.specs.declared.terminals.Terminal.{Terminal}
use Rattle.vt_grammar.specs.declared.terminals.Terminal.TheVariants as terminals
use Rattle.vt_grammar.specs.Marks.{Mark}

-- the fraction that was read, or 0
abbrev pub fraction_of : Result Fraction DecimalFault → Fraction
fraction_of (Ok f) = f
fraction_of (Err fault) = record { numer = pos 0; denom = 1 }

-- the name of a label: all but its colon
abbrev pub label_name : List ℕ → List ℕ
label_name bytes = take (length bytes - 1) bytes

-- the name of a symbol: all but its colon
abbrev pub symbol_name : List ℕ → List ℕ
symbol_name bytes = drop 1 bytes

abbrev pub literal_at : Terminal → List ℕ → Literal
literal_at terminals.Whole bytes = literals.Whole (pos (digits_value 10 bytes))
literal_at terminals.Decimal bytes = literals.Decimal (fraction_of (decimal_of bytes))
literal_at terminals.Text bytes = literals.Text (value_of bytes)
literal_at terminals.Symbol bytes = literals.Sym (symbol_name bytes)
literal_at terminals.True bytes = literals.Bool true
literal_at terminals.False bytes = literals.Bool false
literal_at _ bytes = literals.Nil

-- the value of a token that is a literal
unfoldable pub literal_of : Mark → Literal
literal_of t = literal_at t.terminal t.bytes

-- what a number or a text must meet so that it has a value
abbrev pub HasValue : Terminal → List ℕ → Type 0
HasValue terminals.Whole bytes = AllDigits 10 bytes × (digits_value 10 bytes < 2 ^ 63)
HasValue terminals.Decimal bytes = IsTrue (decimal_fits bytes)
HasValue terminals.Text bytes = IsTextForm bytes
HasValue _ bytes = Unit {0}
