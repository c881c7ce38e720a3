-- The pattern of a name matches the paths that the name stands for.
use Rattle.std.proofs.Common.{◌≡◌, ℕ, List, [], ◌∷◌, ◌++◌, refl, sym, ◌∙◌, ap, inl, inr, ◌⊎◌, subst, true≢false, arith, lit<, ◌↔◌, zero, suc, Bool, true, false}
use Rattle.std.specs.Prelude.{codes}
use Rattle.std.specs.List.{Contains}
use Rattle.std.specs.Bool.{MatchBool}
use Rattle.std.proofs.lemmas.List.{append-nil}
use Rattle.vt_path.specs.AnyOf.{IsNamed, any_of_name}
use Rattle.vt_path.specs.Match.{Matches, MatchesBytes, MatchesSegments, byte_parts, is_inner, literal_of, literal_segment}
use Rattle.vt_path.specs.declared.pattern.Segment.TheVariants.{Parts}
use Rattle.vt_path.specs.declared.pattern.Part.TheVariants.{Byte, Alternatives}
use Rattle.vt_path.proofs.LiteralLemmas.{bytes_match}

abbrev kinds : List (List ℕ)
kinds = codes "cue" ∷ codes "set" ∷ codes "live_loop" ∷ []

abbrev IsKind : List ℕ → Type 0
IsKind word = (word ≡ codes "cue") ⊎ (word ≡ codes "set") ⊎ (word ≡ codes "live_loop")

is_kind : (word : List ℕ) → Contains kinds word → IsKind word
is_kind word (zero, less, here) = inl (sym here)
is_kind word (suc zero, less, here) = inr (inl (sym here))
is_kind word (suc (suc zero), less, here) = inr (inr (sym here))
is_kind word (suc (suc (suc i)), less, here) = absurd (omega arith)

kind_is : (word : List ℕ) → IsKind word → Contains kinds word
kind_is word (inl e) = (0, lit< tt, sym e)
kind_is word (inr (inl e)) = (1, lit< tt, sym e)
kind_is word (inr (inr e)) = (2, lit< tt, sym e)

-- the alternatives alone match one of them
kinds_match : (s : List ℕ) → MatchesBytes (Alternatives kinds ∷ []) s ↔ IsKind s
kinds_match s = (λ h. is_kind s (whole h.0 h.1 h.2 h.3 h.4), λ k. (s, [], kind_is s k, sym (append-nil s), tt)) where
  whole : (word rest : List ℕ) → Contains kinds word → s ≡ word ++ rest → MatchesBytes [] rest → Contains kinds s
  whole word [] c e m = subst (Contains kinds) (sym (e ∙ append-nil word)) c
  whole word (b ∷ rest) c e m = absurd m

named : (name s t : List ℕ) → IsKind s → t ≡ name → IsNamed name (s ∷ t ∷ [])
named name s t (inl e) f = inl (ap (λ (v : List ℕ). v ∷ t ∷ []) e ∙ ap (λ (v : List ℕ). codes "cue" ∷ v ∷ []) f)
named name s t (inr (inl e)) f = inr (inl (ap (λ (v : List ℕ). v ∷ t ∷ []) e ∙ ap (λ (v : List ℕ). codes "set" ∷ v ∷ []) f))
named name s t (inr (inr e)) f = inr (inr (ap (λ (v : List ℕ). v ∷ t ∷ []) e ∙ ap (λ (v : List ℕ). codes "live_loop" ∷ v ∷ []) f))

-- what stands in a path of two segments
record Two (name : List ℕ) (path : List (List ℕ)) : Type 0 where
  kind : List ℕ
  is : IsKind kind
  whole : path ≡ kind ∷ name ∷ []

two : (name : List ℕ) (path : List (List ℕ)) → IsNamed name path → Two name path
two name path (inl e) = record { kind = codes "cue"; is = inl refl; whole = e }
two name path (inr (inl e)) = record { kind = codes "set"; is = inr (inl refl); whole = e }
two name path (inr (inr e)) = record { kind = codes "live_loop"; is = inr (inr refl); whole = e }

segments_match : (name : List ℕ) (path : List (List ℕ)) → MatchesSegments (any_of_name name) path ↔ IsNamed name path
segments_match name [] = (λ h. absurd h, λ n. let h = two name [] n in absurd (let z : [] ≡ h.kind ∷ name ∷ [] = h.whole in cc))
segments_match name (s ∷ []) = (λ h. absurd h.1, λ n. let h = two name (s ∷ []) n in absurd (let z : s ∷ [] ≡ h.kind ∷ name ∷ [] = h.whole in cc))
segments_match name (s ∷ t ∷ []) = (
  λ h. named name s t ((kinds_match s).0 h.0) ((bytes_match name t).0 h.1.0),
  λ n.
      let h = two name (s ∷ t ∷ []) n in
      let z : s ∷ t ∷ [] ≡ h.kind ∷ name ∷ [] = h.whole in
      let a : s ≡ h.kind = cc in
      let b : t ≡ name = cc in
      ((kinds_match s).1 (subst IsKind (sym a) h.is), ((bytes_match name t).1 b, tt)),
)
segments_match name (s ∷ t ∷ u ∷ us) = (
  λ h. absurd h.1.1,
  λ n. let h = two name (s ∷ t ∷ u ∷ us) n in absurd (let z : s ∷ t ∷ u ∷ us ≡ h.kind ∷ name ∷ [] = h.whole in cc),
)

not_literal : (name : List ℕ) (path : List (List ℕ)) → any_of_name name ≡ literal_of path → ⊥
not_literal name [] e = let z : any_of_name name ≡ [] = e in cc
not_literal name (s ∷ ss) e =
    let z : Parts (Alternatives kinds ∷ []) ∷ literal_segment name ∷ [] ≡ Parts (byte_parts s) ∷ literal_of ss = e in
    let y : Alternatives kinds ∷ [] ≡ byte_parts s = cc in
    go s y where
      go : (s : List ℕ) → Alternatives kinds ∷ [] ≡ byte_parts s → ⊥
      go [] y = let x : Alternatives kinds ∷ [] ≡ [] = y in cc
      go (b ∷ bs) y = let x : Alternatives kinds ∷ [] ≡ Byte b ∷ byte_parts bs = y in cc

not_inner : (name : List ℕ) (path : List (List ℕ)) → IsNamed name path → is_inner path ≡ false
not_inner name path (inl e) = ap is_inner e
not_inner name path (inr (inl e)) = ap is_inner e
not_inner name path (inr (inr e)) = ap is_inner e

pub any_of_matches : (name : List ℕ) (path : List (List ℕ)) → Matches (any_of_name name) path ↔ IsNamed name path
any_of_matches name path = go (is_inner path) refl where
  go : (b : Bool) → is_inner path ≡ b → MatchBool (is_inner path) (any_of_name name ≡ literal_of path) (MatchesSegments (any_of_name name) path) ↔ IsNamed name path
  go true e = rw e (λ h. absurd (not_literal name path h), λ n. absurd (true≢false (sym e ∙ not_inner name path n)))
  go false e = rw e (segments_match name path)
