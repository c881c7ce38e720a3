-- The names of labels and symbols, by their parts.
use Rattle.std.proofs.Common.{◌≡◌, ℕ, ◌≤◌, Bool, true, false, ◌&&◌, nat_le, List, [], ◌∷◌, length, slice_index, refl, sym, ◌∙◌}
use Rattle.std.specs.Prelude.{IsTrue}
use Rattle.std.specs.List.{list_all}
use Rattle.std.proofs.lemmas.Bool.{and_parts, and_from, leb-true, le-leb, false≢true}
use Rattle.vt_frac.specs.Names.{begins, begins_name, begins_symbol, is_name_byte, is_word, is_label_name, is_symbol_name}

pub begins_first : (test : ℕ → Bool) (bytes : List ℕ) → begins test bytes ≡ true → test (slice_index bytes 0) ≡ true
begins_first test [] e = absurd (false≢true e)
begins_first test (b ∷ bytes) e = e

pub first_begins : (test : ℕ → Bool) → test 0 ≡ false → (bytes : List ℕ) → test (slice_index bytes 0) ≡ true → begins test bytes ≡ true
first_begins test end [] e = absurd (false≢true (sym end ∙ e))
first_begins test end (b ∷ bytes) e = e

-- a first byte that passes a test, and then bytes of names, at most 64 in all
pub record HasParts (test : ℕ → Bool) (bytes : List ℕ) : Type 0 where
  pub begins : test (slice_index bytes 0) ≡ true
  pub all : list_all is_name_byte bytes ≡ true
  pub short : length bytes ≤ 64

parts_of : (test : ℕ → Bool) (bytes : List ℕ) → is_word test bytes ≡ true → HasParts test bytes
parts_of test bytes e =
    let outer = and_parts (begins test bytes && list_all is_name_byte bytes) (nat_le (length bytes) 64) e in
    let inner = and_parts (begins test bytes) (list_all is_name_byte bytes) outer.0 in
    record { begins = begins_first test bytes inner.0; all = inner.1; short = leb-true (length bytes) 64 outer.1 }

parts_word : (test : ℕ → Bool) → test 0 ≡ false → (bytes : List ℕ) → HasParts test bytes → is_word test bytes ≡ true
parts_word test end bytes p =
    and_from (begins test bytes && list_all is_name_byte bytes) (nat_le (length bytes) 64)
    (and_from (begins test bytes) (list_all is_name_byte bytes) (first_begins test end bytes p.begins) p.all)
    (le-leb (length bytes) 64 p.short)

pub label_parts : (bytes : List ℕ) → IsTrue (is_label_name bytes) → HasParts begins_name bytes
unfolding is_label_name
label_parts bytes e = parts_of begins_name bytes e

pub symbol_parts : (bytes : List ℕ) → IsTrue (is_symbol_name bytes) → HasParts begins_symbol bytes
unfolding is_symbol_name
symbol_parts bytes e = parts_of begins_symbol bytes e

pub label_made : (bytes : List ℕ) → HasParts begins_name bytes → IsTrue (is_label_name bytes)
unfolding is_label_name
label_made bytes p = parts_word begins_name refl bytes p

pub symbol_made : (bytes : List ℕ) → HasParts begins_symbol bytes → IsTrue (is_symbol_name bytes)
unfolding is_symbol_name
symbol_made bytes p = parts_word begins_symbol refl bytes p
