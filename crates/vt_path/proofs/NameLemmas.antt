-- The name of a symbol is a segment of a path.
use Rattle.std.proofs.Common.{◌≡◌, ◌≤◌, ℕ, List, [], ◌∷◌, length, Bool, true, false, ◌&&◌, ◌||◌, ◌==◌, ◌⊎◌, inl, inr, refl, sym, true≢false, arith}
use Rattle.std.specs.Prelude.{IsTrue, nat_le}
use Rattle.std.specs.Int.{is_in_range}
use Rattle.std.specs.List.{AllByRecursion, list_all}
use Rattle.std.proofs.lemmas.Bool.{leb-true}
use Rattle.std.proofs.lemmas.Bool.Decides.{Decides-eqb}
use Rattle.std.proofs.lemmas.List.Elements.{All-from_recursion}
use Rattle.vt_frac.specs.Names.{begins_symbol, is_name_byte, is_symbol_name}
use Rattle.vt_frac.proofs.DecimalLemmas.{both_true}
use Rattle.vt_path.specs.Byte.{IsPathByte}
use Rattle.vt_path.specs.Path.{IsSegment}

or_true : (a b : Bool) → (a || b) ≡ true → (a ≡ true) ⊎ (b ≡ true)
or_true true b e = inl refl
or_true false b e = inr e

in_range : (low high b : ℕ) → is_in_range low high b ≡ true → (low ≤ b) × (b ≤ high)
in_range low high b e =
    let both = both_true (nat_le low b) (nat_le b high) e in
    (leb-true low b both.0, leb-true b high both.1)

digit_byte : (b : ℕ) → (48 ≤ b) × (b ≤ 57) → IsPathByte b
unfolding IsPathByte
digit_byte b h = inl (h.0, omega (arith, h.1))

large_byte : (b : ℕ) → (65 ≤ b) × (b ≤ 90) → IsPathByte b
unfolding IsPathByte
large_byte b h = inr (inl h)

small_byte : (b : ℕ) → (97 ≤ b) × (b ≤ 122) → IsPathByte b
unfolding IsPathByte
small_byte b h = inr (inr (inl h))

line_byte : (b : ℕ) → b ≡ 95 → IsPathByte b
unfolding IsPathByte
line_byte b h = inr (inr (inr (inl h)))

-- a byte of a name is one of a path
name_byte : (b : ℕ) → is_name_byte b ≡ true → IsPathByte b
name_byte b e = go (or_true ((is_in_range 48 57 b || is_in_range 65 90 b) || is_in_range 97 122 b) (b == 95) e) where
  digit : ((is_in_range 48 57 b ≡ true) ⊎ (is_in_range 65 90 b ≡ true)) → IsPathByte b
  digit (inl h) = digit_byte b (in_range 48 57 b h)
  digit (inr h) = large_byte b (in_range 65 90 b h)

  letter : (((is_in_range 48 57 b || is_in_range 65 90 b) ≡ true) ⊎ (is_in_range 97 122 b ≡ true)) → IsPathByte b
  letter (inl h) = digit (or_true (is_in_range 48 57 b) (is_in_range 65 90 b) h)
  letter (inr h) = small_byte b (in_range 97 122 b h)

  go : (((is_in_range 48 57 b || is_in_range 65 90 b) || is_in_range 97 122 b) ≡ true) ⊎ ((b == 95) ≡ true) → IsPathByte b
  go (inl h) = letter (or_true (is_in_range 48 57 b || is_in_range 65 90 b) (is_in_range 97 122 b) h)
  go (inr h) = line_byte b ((Decides-eqb b 95).0 h)

name_bytes : (bytes : List ℕ) → list_all is_name_byte bytes ≡ true → AllByRecursion IsPathByte bytes
name_bytes [] e = tt
name_bytes (b ∷ bytes) e =
    let both = both_true (is_name_byte b) (list_all is_name_byte bytes) e in
    (name_byte b both.0, name_bytes bytes both.1)

pub symbol_segment : (name : List ℕ) → IsTrue (is_symbol_name name) → IsSegment name
unfolding is_symbol_name
symbol_segment [] e = absurd (true≢false (sym e))
symbol_segment (first ∷ rest) e =
    let outer = both_true (begins_symbol first && list_all is_name_byte (first ∷ rest)) (nat_le (length (first ∷ rest)) 64) e in
    let inside = both_true (begins_symbol first) (list_all is_name_byte (first ∷ rest)) outer.0 in
    record {
      nonempty = omega arith;
      short = leb-true (length (first ∷ rest)) 64 outer.1;
      bytes = All-from_recursion IsPathByte (first ∷ rest) (name_bytes (first ∷ rest) inside.1);
    }
