-- Tokens are refused on one line alone.
use Rattle.std.proofs.Common.{◌≡◌, inl, inr, ℕ, List, [], ◌∷◌, ◌++◌, sym, ap, ◌∙◌, subst, append_assoc}
use Rattle.vt_grammar.specs.Marks.{Spelled}
use Rattle.vt_grammar.specs.Text.{Begins, RefusedAt, SyntaxRefuses}
use Rattle.vt_grammar.proofs.Cut.{Cuts, cuts, equal, longer, shorter}
use Rattle.vt_grammar.proofs.TextLaws.{prefixes_begin}

-- a token that stops a list stands in no list that begins a text
within : (f : List Spelled) (t : Spelled) (r w : List Spelled) → w ≡ f ++ t ∷ r → Begins w → Begins (f ++ t ∷ [])
within f t r w e b = prefixes_begin (f ++ t ∷ []) r (subst Begins (e ∙ sym (append_assoc f (t ∷ []) r)) b)

at_both : (tokens : List Spelled) (line other : ℕ) (a : RefusedAt tokens line) (b : RefusedAt tokens other)
    → Cuts a.prefix (a.token ∷ a.rest) b.prefix (b.token ∷ b.rest) → line ≡ other
at_both tokens line other a b (equal p q) = a.line_is ∙ ap (λ (s : Spelled). s.token.line) (let same : a.token ≡ b.token = cc in same) ∙ sym b.line_is
at_both tokens line other a b (longer t u p q) =
    absurd (b.stops (within b.prefix b.token u a.prefix (p ∙ ap (λ z. b.prefix ++ z ∷ u) (let same : t ≡ b.token = cc in same)) a.begun))
at_both tokens line other a b (shorter t u p q) =
    absurd (a.stops (within a.prefix a.token u b.prefix (p ∙ ap (λ z. a.prefix ++ z ∷ u) (let same : t ≡ a.token = cc in same)) b.begun))

last_same : (f g : List Spelled) (x y : Spelled) → f ++ x ∷ [] ≡ g ++ y ∷ [] → x ≡ y
last_same [] [] x y e = cc
last_same [] (c ∷ g) x y e = absurd (none g y (let tail : [] ≡ g ++ y ∷ [] = cc in tail))
  where
    none : (g : List Spelled) (y : Spelled) → [] ≡ g ++ y ∷ [] → ⊥
    none [] y e = cc
    none (c ∷ g) y e = cc
last_same (c ∷ f) [] x y e = absurd (none f x (let tail : f ++ x ∷ [] ≡ [] = cc in tail))
  where
    none : (f : List Spelled) (x : Spelled) → f ++ x ∷ [] ≡ [] → ⊥
    none [] x e = cc
    none (c ∷ f) x e = cc
last_same (c ∷ f) (d ∷ g) x y e = last_same f g x y (let tail : f ++ x ∷ [] ≡ g ++ y ∷ [] = cc in tail)

pub is_refused_once : (tokens : List Spelled) (line other : ℕ) → SyntaxRefuses tokens line → SyntaxRefuses tokens other → line ≡ other
is_refused_once tokens line other (inl a) (inl b) = at_both tokens line other a b (cuts a.prefix (a.token ∷ a.rest) b.prefix (b.token ∷ b.rest) (sym a.whole ∙ b.whole))
is_refused_once tokens line other (inl a) (inr b) = absurd (a.stops (within a.prefix a.token a.rest tokens a.whole b.begun))
is_refused_once tokens line other (inr a) (inl b) = absurd (b.stops (within b.prefix b.token b.rest tokens b.whole a.begun))
is_refused_once tokens line other (inr a) (inr b) =
    a.line_is ∙ ap (λ (s : Spelled). s.token.line) (last_same a.prefix b.prefix a.last b.last (sym a.whole ∙ b.whole)) ∙ sym b.line_is
