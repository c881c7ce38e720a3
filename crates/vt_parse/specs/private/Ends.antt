-- Where a text ends.
use Rattle.std.specs.Prelude.{ℕ, List, [], ◌∷◌}
use Rattle.vt_lex.specs.declared.token.Token.{Token}

-- the line of the last token
abbrev pub end_line : List Token → ℕ
end_line [] = 0
end_line (t ∷ []) = t.line
end_line (t ∷ u ∷ ts) = end_line (u ∷ ts)
