-- The line of the last token.
use Rattle.std.proofs.Common.{◌≡◌, ℕ, suc, ◌-◌, List, [], ◌∷◌, Option, None, Some, length, sym, ap, ◌∙◌, arith}
use Rattle.std.specs.List.{slice_get}
use Rattle.vt_lex.specs.declared.token.Token.{Token}
use Rattle.vt_parse.specs.private.Ends.{end_line}

line_in : ℕ → Option Token → ℕ
line_in other None = other
line_in other (Some t) = t.line

same_line : (t u : Token) → Some u ≡ Some t → t.line ≡ u.line
unfolding line_in
same_line t u e = sym (ap (line_in 0) e)

nothing_there : (t : Token) → None ≡ Some t → ⊥
nothing_there t e = cc

pub last_is_end : (ts : List Token) (t : Token) → slice_get ts (length ts - 1) ≡ Some t → t.line ≡ end_line ts
last_is_end [] t e = absurd (nothing_there t e)
last_is_end (u ∷ []) t e = same_line t u e
last_is_end (u ∷ v ∷ ts) t e =
    let outer : length (u ∷ v ∷ ts) - 1 ≡ suc (length (v ∷ ts) - 1) = omega arith in
    last_is_end (v ∷ ts) t (sym (ap (slice_get (u ∷ v ∷ ts)) outer) ∙ e)
