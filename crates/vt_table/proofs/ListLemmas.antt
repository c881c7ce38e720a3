-- The code's scales and chords are those of the definitions.
use Rattle.std.proofs.Common.{◌≡◌, ℕ, ◌<◌, List, [], length, map, get_or, Some, None, refl, sym, ap, subst, ◌∙◌, option_and_then}
use Rattle.std.specs.Option.{option_map}
use Rattle.std.proofs.lemmas.List.{length-map}
use Rattle.std.proofs.lemmas.Option.{slice_get-map, slice_get-get_or}
use Rattle.vt_table.specs.declared.lists.TheConstants.{SCALE_COUNT, CHORD_COUNT}
use Rattle.vt_table.specs.declared.lists.Listed.{Listed}
use Rattle.vt_table.specs.Names.{row_of}
use Rattle.vt_table.specs.Lists.{Table, scales, chords, names_of, list_at, list_of}

abbrev as_row : Listed → List ℕ × List ℕ
as_row listed = (listed.0.now, listed.1.now)

abbrev rows_of : List Listed → Table
rows_of entries = map as_row entries

-- the numbers of an entry at a row are those of the table's row
listed_is : (table : Table) (count : ℕ) (entries : List Listed) (row : ℕ) (d : Listed) → length table ≡ count → rows_of entries ≡ table → row < count → list_at table row ≡ Some (get_or entries row d).1.now
listed_is table count entries row d size same lt =
    let entry_count : length entries ≡ count = sym (length-map entries as_row) ∙ ap length same ∙ size in
    let in_range : row < length entries = subst (λ n. row < n) (sym entry_count) lt in
    rw (sym same) (ap (option_map (λ (r : List ℕ × List ℕ). r.1)) (slice_get-map as_row entries row ∙ ap (option_map as_row) (slice_get-get_or entries row d in_range)))

length-scales : length scales ≡ SCALE_COUNT
unfolding scales
length-scales = refl

length-chords : length chords ≡ CHORD_COUNT
unfolding chords
length-chords = refl

pub scale_is : (entries : List Listed) (row : ℕ) (d : Listed) → rows_of entries ≡ scales → row < SCALE_COUNT → list_at scales row ≡ Some (get_or entries row d).1.now
scale_is entries row d same lt = listed_is scales SCALE_COUNT entries row d length-scales same lt

pub chord_is : (entries : List Listed) (row : ℕ) (d : Listed) → rows_of entries ≡ chords → row < CHORD_COUNT → list_at chords row ≡ Some (get_or entries row d).1.now
chord_is entries row d same lt = listed_is chords CHORD_COUNT entries row d length-chords same lt

-- what the names of a table say of a name, said of its list
module _ (table : Table) (names : List (List ℕ)) (are_names : names ≡ names_of table) (name : List ℕ) where
  below : (count row : ℕ) → length table ≡ count → row < length names → row < count
  below count row size lt = subst (λ n. row < n) (ap length are_names ∙ length-map table (λ (r : List ℕ × List ℕ). r.0) ∙ size) lt

  pub list_found : (row : ℕ) (numbers : List ℕ) → Some row ≡ row_of names name → list_at table row ≡ Some numbers → Some numbers ≡ list_of table name
  list_found row numbers found here =
      let at_names : row_of (names_of table) name ≡ Some row = subst (λ t. row_of t name ≡ Some row) are_names (sym found) in
      sym (ap (option_and_then (list_at table)) at_names ∙ here)

  pub list_missed : None ≡ row_of names name → None ≡ list_of table name
  list_missed missed =
      let at_names : row_of (names_of table) name ≡ None = subst (λ t. row_of t name ≡ None) are_names (sym missed) in
      sym (ap (option_and_then (list_at table)) at_names)

pub scale_below : (names : List (List ℕ)) (row : ℕ) → names ≡ names_of scales → row < length names → row < SCALE_COUNT
scale_below names row are_names lt = below scales names are_names [] SCALE_COUNT row length-scales lt

pub chord_below : (names : List (List ℕ)) (row : ℕ) → names ≡ names_of chords → row < length names → row < CHORD_COUNT
chord_below names row are_names lt = below chords names are_names [] CHORD_COUNT row length-chords lt
