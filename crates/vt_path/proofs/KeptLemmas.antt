-- Paths that a user writes, and inner ones, keep what each path of a program is.
use Rattle.std.proofs.Common.{ℕ, ◌≤◌, List, [], ◌∷◌, length, refl, inl, inr, lit≤}
use Rattle.std.specs.Prelude.{IsTrue}
use Rattle.std.proofs.lemmas.List.Elements.{All-nil, All-cons, All-weaker}
use Rattle.vt_frac.specs.Names.{is_symbol_name}
use Rattle.vt_path.specs.Path.{IsPath, IsSegment}
use Rattle.vt_path.specs.Inner.{inner_of, kind_word}
use Rattle.vt_path.specs.Kept.{IsKeptPath}
use Rattle.vt_path.specs.declared.inner_path.InnerKind.{InnerKind}
use Rattle.vt_path.specs.declared.inner_path.InnerKind.TheVariants.{Body, Def, Named, Looped, Stop}
use Rattle.vt_path.proofs.NameLemmas.{symbol_segment}

-- a path that a user writes is kept
pub kept_path : (path : List (List ℕ)) → IsPath path → IsKeptPath path
kept_path path good = record {
  form = ∣ inl good ∣₁;
  few = good.few;
  short = All-weaker IsSegment (λ segment. length segment ≤ 64) (λ segment h. h.short) path good.segments;
}

kind_short : (kind : InnerKind) → length (kind_word kind) ≤ 64
kind_short Body = lit≤ tt
kind_short Def = lit≤ tt
kind_short Named = lit≤ tt
kind_short Looped = lit≤ tt
kind_short Stop = lit≤ tt

-- an inner path too
pub kept_inner : (kind : InnerKind) (name : List ℕ) → IsTrue (is_symbol_name name) → IsKeptPath (inner_of kind name)
kept_inner kind name symbol = record {
  form = ∣ inr (record { kind = kind; name = name; symbol = symbol; whole = refl }) ∣₁;
  few = lit≤ tt;
  short = All-cons (λ segment. length segment ≤ 64) (kind_word kind) (name ∷ []) (kind_short kind)
      (All-cons (λ segment. length segment ≤ 64) name [] (symbol_segment name symbol).short (All-nil (λ segment. length segment ≤ 64)));
}
