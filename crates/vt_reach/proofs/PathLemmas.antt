-- The path of a name under a word, as it is written.
use Rattle.std.proofs.Common.{◌≡◌, ◌≤◌, ℕ, List, [], ◌∷◌, ◌++◌, Bool, true, false, Option, Some, None, inl, inr, refl, sym, ap, ◌∙◌, lit<, lit≤}
use Rattle.std.specs.Prelude.{IsTrue, codes, nat_le}
use Rattle.std.specs.Int.{is_in_range}
use Rattle.std.specs.List.{AllByRecursion}
use Rattle.std.proofs.lemmas.Bool.{leb-true}
use Rattle.std.proofs.lemmas.List.{append-nil}
use Rattle.std.proofs.lemmas.List.Elements.{All-from_recursion}
use Rattle.vt_frac.proofs.DecimalLemmas.{both_true}
use Rattle.vt_frac.specs.Names.{is_symbol_name}
use Rattle.vt_path.specs.Byte.{IsPathByte}
use Rattle.vt_path.specs.Path.{IsPath, IsPathText, IsSegment, path_text}
use Rattle.vt_path.proofs.DecidedLemmas.{none_where_no_path, path_where_written}
use Rattle.vt_path.proofs.NameLemmas.{symbol_segment}
use Rattle.vt_path.proofs.OneText.{one_path}
use Rattle.vt_path.proofs.PathDecided.{path_of}

in_range : (low high b : ℕ) → is_in_range low high b ≡ true → (low ≤ b) × (b ≤ high)
in_range low high b e =
    let both = both_true (nat_le low b) (nat_le b high) e in
    (leb-true low b both.0, leb-true b high both.1)

letter_byte : (b : ℕ) → 97 ≤ b → b ≤ 122 → IsPathByte b
unfolding IsPathByte
letter_byte b low high = inr (inr (inl (low, high)))

underscore_byte : IsPathByte 95
unfolding IsPathByte
underscore_byte = inr (inr (inr (inl refl)))

letter : (b : ℕ) → IsTrue (is_in_range 97 122 b) → IsPathByte b
letter b e = let both = in_range 97 122 b e in letter_byte b both.0 both.1

pub cue_segment : IsSegment (codes "cue")
cue_segment = record {
  nonempty = lit< tt;
  short = lit≤ tt;
  bytes = All-from_recursion IsPathByte (codes "cue") (letter 99 refl, (letter 117 refl, (letter 101 refl, tt)));
}

pub set_segment : IsSegment (codes "set")
set_segment = record {
  nonempty = lit< tt;
  short = lit≤ tt;
  bytes = All-from_recursion IsPathByte (codes "set") (letter 115 refl, (letter 101 refl, (letter 116 refl, tt)));
}

loop_bytes : AllByRecursion IsPathByte (codes "live_loop")
loop_bytes =
    (letter 108 refl, (letter 105 refl, (letter 118 refl, (letter 101 refl, (underscore_byte, (letter 108 refl, (letter 111 refl, (letter 111 refl, (letter 112 refl, tt)))))))))

pub live_loop_segment : IsSegment (codes "live_loop")
live_loop_segment = record { nonempty = lit< tt; short = lit≤ tt; bytes = All-from_recursion IsPathByte (codes "live_loop") loop_bytes }

named_path : (word name : List ℕ) → IsSegment word → IsTrue (is_symbol_name name) → IsPath (word ∷ name ∷ [])
named_path word name w n = record {
  nonempty = lit< tt;
  few = lit≤ tt;
  segments = All-from_recursion IsSegment (word ∷ name ∷ []) (w, (symbol_segment name n, tt));
}

named_text : (word name : List ℕ) → 47 ∷ (word ++ 47 ∷ name) ≡ path_text (word ∷ name ∷ [])
named_text word name = ap (λ z. 47 ∷ (word ++ 47 ∷ z)) (sym (append-nil name))

pub named_is : (word name text : List ℕ) (path : List (List ℕ)) → IsSegment word → IsTrue (is_symbol_name name) → text ≡ 47 ∷ (word ++ 47 ∷ name) → IsPath path → text ≡ path_text path → path ≡ word ∷ name ∷ []
named_is word name text path w n is good written = one_path path (word ∷ name ∷ []) good (named_path word name w n) (sym written ∙ is ∙ named_text word name)

pub named_is_path : (word name text : List ℕ) → IsSegment word → IsTrue (is_symbol_name name) → text ≡ 47 ∷ (word ++ 47 ∷ name) → IsPathText text
named_is_path word name text w n is = (word ∷ name ∷ [], named_path word name w n, is ∙ named_text word name)

pub path_written : (bytes : List ℕ) (path : List (List ℕ)) → IsPath path → bytes ≡ path_text path → Some path ≡ path_of bytes
path_written bytes path good written = sym ((path_where_written bytes path).1 (good, written))

pub no_path_written : (bytes : List ℕ) → (IsPathText bytes → ⊥) → None ≡ path_of bytes
no_path_written bytes none = sym ((none_where_no_path bytes).1 none)
