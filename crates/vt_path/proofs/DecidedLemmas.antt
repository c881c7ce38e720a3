-- The path and the pattern of bytes, as functions, are what is written.
use Rattle.std.proofs.Common.{◌≡◌, ◌↔◌, ℕ, List, Some, None, sym, ap, ◌∙◌, subst, refl}
use Rattle.vt_frac.proofs.Decision.{Decision, holds, fails}
use Rattle.vt_path.specs.Path.{IsPath, IsPathText, path_text}
use Rattle.vt_path.proofs.PathDecided.{path_decided, path_by, path_of, IsPathWhereWritten, IsNoneWhereNoPath}
use Rattle.vt_path.specs.Pattern.{IsPattern, IsPatternText, pattern_text}
use Rattle.vt_path.proofs.PatternDecided.{pattern_decided, pattern_by, pattern_of, IsPatternWhereWritten, IsNoneWhereNoPattern}
use Rattle.vt_path.specs.declared.pattern.Segment.{Segment}
use Rattle.vt_path.proofs.OneText.{one_path, one_pattern}

same_some : {X : Type 0} {x y : X} → Some x ≡ Some y → x ≡ y
same_some e = cc

no_some : {X : Type 0} {x : X} → None ≡ Some x → ⊥
no_some e = cc

some_is_not_none : {X : Type 0} {x : X} → Some x ≡ None → ⊥
some_is_not_none e = cc

path_where : (bytes : List ℕ) (path : List (List ℕ)) (d : Decision (IsPathText bytes)) → (path_by bytes d ≡ Some path) ↔ (IsPath path × (bytes ≡ path_text path))
path_where bytes path (holds (p, good, e)) = (
  λ s. let same = same_some {x = p} {y = path} s in (subst IsPath same good, e ∙ ap path_text same),
  λ h. ap (λ (v : List (List ℕ)). Some v) (one_path p path good h.0 (sym e ∙ h.1)),
)
path_where bytes path (fails n) = (λ s. absurd (no_some {x = path} s), λ h. absurd (n (path, h.0, h.1)))

no_path_where : (bytes : List ℕ) (d : Decision (IsPathText bytes)) → (path_by bytes d ≡ None) ↔ (IsPathText bytes → ⊥)
no_path_where bytes (holds (p, good, e)) = (λ s. absurd (some_is_not_none {x = p} s), λ n. absurd (n (p, good, e)))
no_path_where bytes (fails n) = (λ s. n, λ m. refl)

pub path_where_written : IsPathWhereWritten
unfolding path_of
path_where_written bytes path = path_where bytes path (path_decided bytes)

pub none_where_no_path : IsNoneWhereNoPath
unfolding path_of
none_where_no_path bytes = no_path_where bytes (path_decided bytes)

pattern_where : (bytes : List ℕ) (pattern : List Segment) (d : Decision (IsPatternText bytes)) → (pattern_by bytes d ≡ Some pattern) ↔ (IsPattern pattern × (bytes ≡ pattern_text pattern))
pattern_where bytes pattern (holds (p, good, e)) = (
  λ s. let same = same_some {x = p} {y = pattern} s in (subst IsPattern same good, e ∙ ap pattern_text same),
  λ h. ap (λ (v : List Segment). Some v) (one_pattern p pattern good h.0 (sym e ∙ h.1)),
)
pattern_where bytes pattern (fails n) = (λ s. absurd (no_some {x = pattern} s), λ h. absurd (n (pattern, h.0, h.1)))

no_pattern_where : (bytes : List ℕ) (d : Decision (IsPatternText bytes)) → (pattern_by bytes d ≡ None) ↔ (IsPatternText bytes → ⊥)
no_pattern_where bytes (holds (p, good, e)) = (λ s. absurd (some_is_not_none {x = p} s), λ n. absurd (n (p, good, e)))
no_pattern_where bytes (fails n) = (λ s. n, λ m. refl)

pub pattern_where_written : IsPatternWhereWritten
unfolding pattern_of
pattern_where_written bytes pattern = pattern_where bytes pattern (pattern_decided bytes)

pub none_where_no_pattern : IsNoneWhereNoPattern
unfolding pattern_of
none_where_no_pattern bytes = no_pattern_where bytes (pattern_decided bytes)
