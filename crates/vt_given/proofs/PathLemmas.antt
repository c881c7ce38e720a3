-- Paths and patterns as they are written.
use Rattle.std.proofs.Common.{◌≡◌, ℕ, List, [], ◌∷◌, ◌++◌, Some, None, IsTrue, Ok, Err, sym, ap, ◌∙◌}
use Rattle.std.specs.Prelude.{ok_or}
use Rattle.std.proofs.lemmas.List.{append-nil}
use Rattle.vt_frac.specs.Names.{is_symbol_name}
use Rattle.vt_path.specs.Path.{IsPath, IsPathText, IsSegment, path_text}
use Rattle.vt_path.specs.Pattern.{IsPattern, IsPatternText, pattern_text}
use Rattle.vt_path.specs.declared.pattern.Segment.{Segment}
use Rattle.vt_path.proofs.DecidedLemmas.{none_where_no_path, none_where_no_pattern, path_where_written, pattern_where_written}
use Rattle.vt_path.proofs.OneText.{one_path}
use Rattle.vt_path.proofs.PathDecided.{path_of}
use Rattle.vt_path.proofs.PatternDecided.{pattern_of}
use Rattle.vt_value.specs.declared.fault.FaultKind.TheVariants.{BadPath}
use Rattle.vt_run.proofs.facts.NameFacts.{named_path}

named_text : (word name : List ℕ) → 47 ∷ (word ++ 47 ∷ name) ≡ path_text (word ∷ name ∷ [])
named_text word name = ap (λ z. 47 ∷ (word ++ 47 ∷ z)) (sym (append-nil name))

pub named_is : (word name text : List ℕ) (path : List (List ℕ)) → IsSegment word → IsTrue (is_symbol_name name) → text ≡ 47 ∷ (word ++ 47 ∷ name) → IsPath path → text ≡ path_text path → path ≡ word ∷ name ∷ []
named_is word name text path w n is good written = one_path path (word ∷ name ∷ []) good (named_path word name w n) (sym written ∙ is ∙ named_text word name)

pub named_is_path : (word name text : List ℕ) → IsSegment word → IsTrue (is_symbol_name name) → text ≡ 47 ∷ (word ++ 47 ∷ name) → IsPathText text
named_is_path word name text w n is = (word ∷ name ∷ [], named_path word name w n, is ∙ named_text word name)

pub path_written : (bytes : List ℕ) (path : List (List ℕ)) → IsPath path → bytes ≡ path_text path → ok_or (path_of bytes) BadPath ≡ Ok path
path_written bytes path good written = ap (λ found. ok_or found BadPath) ((path_where_written bytes path).1 (good, written))

pub no_path_written : (bytes : List ℕ) → (IsPathText bytes → ⊥) → ok_or (path_of bytes) BadPath ≡ Err BadPath
no_path_written bytes none = ap (λ found. ok_or found BadPath) ((none_where_no_path bytes).1 none)

pub pattern_written : (bytes : List ℕ) (pattern : List Segment) → IsPattern pattern → bytes ≡ pattern_text pattern → ok_or (pattern_of bytes) BadPath ≡ Ok pattern
pattern_written bytes pattern good written = ap (λ found. ok_or found BadPath) ((pattern_where_written bytes pattern).1 (good, written))

pub no_pattern_written : (bytes : List ℕ) → (IsPatternText bytes → ⊥) → ok_or (pattern_of bytes) BadPath ≡ Err BadPath
no_pattern_written bytes none = ap (λ found. ok_or found BadPath) ((none_where_no_pattern bytes).1 none)
