-- What a literal of a tree may be. The project's own.
use Rattle.std.specs.Prelude.{◌≡◌, ℕ, ◌≤◌, ◌^◌, ◌-◌, pos, ◌≤ℤ◌, List, length, Ok, IsTrue}
use Rattle.vt_frac.specs.Decimal.{decimal_of}
use Rattle.vt_frac.specs.Fraction.{Fraction}
use Rattle.vt_frac.specs.Names.{is_symbol_name}
use Rattle.vt_tree.specs.declared.expression.Literal.{Literal}
use Rattle.vt_tree.specs.declared.expression.Literal.TheVariants.{Nil, Bool as Boolean, Whole, Decimal, Text, Sym}

-- the fraction is written by some decimal number
pub record IsDecimal (fraction : Fraction) : Type 0 where
  pub bytes : List ℕ
  pub written : decimal_of bytes ≡ Ok fraction

-- what a literal may be
abbrev pub IsLiteral : Literal → Type 0
IsLiteral Nil = Unit {0}
IsLiteral (Boolean value) = Unit {0}
IsLiteral (Whole value) = (pos 0 ≤ℤ value) × (value ≤ℤ pos (2 ^ 63 - 1))
IsLiteral (Decimal value) = IsDecimal value
IsLiteral (Text value) = length value ≤ 4096
IsLiteral (Sym name) = IsTrue (is_symbol_name name)
