-- The name of a symbol under a word is a path, and a path that a user may write is no inner one.
use Rattle.std.proofs.Common.{◌≡◌, ◌≢◌, ◌≤◌, ℕ, List, [], ◌∷◌, Bool, true, false, ◌||◌, ◌⊎◌, inl, inr, refl, subst, lit<, lit≤}
use Rattle.std.specs.Prelude.{IsTrue, codes, nat_le}
use Rattle.std.specs.Int.{is_in_range}
use Rattle.std.specs.List.{AllByRecursion}
use Rattle.std.proofs.lemmas.Bool.{leb-true}
use Rattle.std.proofs.lemmas.List.Elements.{All-from_recursion, All-head}
use Rattle.vt_frac.proofs.DecimalLemmas.{both_true}
use Rattle.vt_path.specs.declared.inner_path.InnerKind.{InnerKind}
use Rattle.vt_path.specs.declared.inner_path.InnerKind.TheVariants.{Body, Def, Named, Looped, Stop}
use Rattle.vt_path.specs.Byte.{IsPathByte}
use Rattle.vt_path.specs.Inner.{inner_of, kind_word}
use Rattle.vt_path.specs.Path.{IsPath, IsSegment}
use Rattle.vt_path.proofs.ByteLemmas.{not_path_byte}
use Rattle.vt_path.proofs.NameLemmas.{symbol_segment}
use Rattle.vt_frac.specs.Names.{is_symbol_name}

or_true : (a b : Bool) → (a || b) ≡ true → (a ≡ true) ⊎ (b ≡ true)
or_true true b e = inl refl
or_true false b e = inr e

in_range : (low high b : ℕ) → is_in_range low high b ≡ true → (low ≤ b) × (b ≤ high)
in_range low high b e =
    let both = both_true (nat_le low b) (nat_le b high) e in
    (leb-true low b both.0, leb-true b high both.1)

letter_byte : (b : ℕ) → 97 ≤ b → b ≤ 122 → IsPathByte b
unfolding IsPathByte
letter_byte b low high = inr (inr (inl (low, high)))

underscore_byte : IsPathByte 95
unfolding IsPathByte
underscore_byte = inr (inr (inr (inl refl)))

letter : (b : ℕ) → IsTrue (is_in_range 97 122 b) → IsPathByte b
letter b e = let both = in_range 97 122 b e in letter_byte b both.0 both.1

pub cue_segment : IsSegment (codes "cue")
cue_segment = record {
  nonempty = lit< tt;
  short = lit≤ tt;
  bytes = All-from_recursion IsPathByte (codes "cue") (letter 99 refl, (letter 117 refl, (letter 101 refl, tt)));
}

pub set_segment : IsSegment (codes "set")
set_segment = record {
  nonempty = lit< tt;
  short = lit≤ tt;
  bytes = All-from_recursion IsPathByte (codes "set") (letter 115 refl, (letter 101 refl, (letter 116 refl, tt)));
}

loop_bytes : AllByRecursion IsPathByte (codes "live_loop")
loop_bytes =
    (letter 108 refl, (letter 105 refl, (letter 118 refl, (letter 101 refl, (underscore_byte, (letter 108 refl, (letter 111 refl, (letter 111 refl, (letter 112 refl, tt)))))))))

pub live_loop_segment : IsSegment (codes "live_loop")
live_loop_segment = record { nonempty = lit< tt; short = lit≤ tt; bytes = All-from_recursion IsPathByte (codes "live_loop") loop_bytes }

-- the path of a word and the name of a symbol
pub named_path : (word name : List ℕ) → IsSegment word → IsTrue (is_symbol_name name) → IsPath (word ∷ name ∷ [])
named_path word name w n = record {
  nonempty = lit< tt;
  few = lit≤ tt;
  segments = All-from_recursion IsSegment (word ∷ name ∷ []) (w, (symbol_segment name n, tt));
}

-- a segment that begins with `!` is none that a user may write
marked : (rest : List ℕ) → IsSegment (33 ∷ rest) → ⊥
marked rest h = not_path_byte 33 (inr (inl refl)) (All-head IsPathByte 33 rest h.bytes)

kind_marked : (kind : InnerKind) → IsSegment (kind_word kind) → ⊥
kind_marked Body h = marked (98 ∷ 111 ∷ 100 ∷ 121 ∷ []) h
kind_marked Def h = marked (100 ∷ 101 ∷ 102 ∷ []) h
kind_marked Named h = marked (110 ∷ 97 ∷ 109 ∷ 101 ∷ []) h
kind_marked Looped h = marked (108 ∷ 111 ∷ 111 ∷ 112 ∷ []) h
kind_marked Stop h = marked (115 ∷ 116 ∷ 111 ∷ 112 ∷ []) h

-- a path that a user may write is no inner one
pub path_outside : (path : List (List ℕ)) → IsPath path → (kind : InnerKind) (name : List ℕ) → path ≢ inner_of kind name
path_outside path good kind name e = kind_marked kind (All-head IsSegment (kind_word kind) (name ∷ []) (subst IsPath e good).segments)

-- nor is one that begins with a word that a user may write
pub word_outside : (word name : List ℕ) → IsSegment word → (kind : InnerKind) (other : List ℕ) → word ∷ name ∷ [] ≢ inner_of kind other
word_outside word name w kind other e =
    let z : word ∷ name ∷ [] ≡ kind_word kind ∷ other ∷ [] = e in
    let same : word ≡ kind_word kind = cc in
    kind_marked kind (subst IsSegment same w)
