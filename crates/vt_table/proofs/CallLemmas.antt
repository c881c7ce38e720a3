-- The code's table of calls is the table of the definition.
use Rattle.std.proofs.Common.{◌≡◌, ℕ, ◌+◌, ◌<◌, Bool, true, ◌&&◌, List, [], ◌∷◌, length, map, get_or, slice_get, None, Some, nat_eq, zero, suc, refl, sym, ap, subst, ◌∙◌, arith, lit<, add-zero, zero-add, option_and_then}
use Rattle.std.specs.Cmp.{first_so, second_so}
use Rattle.std.proofs.lemmas.Bool.Decides.{nat_tests}
use Rattle.std.specs.Option.{option_map}
use Rattle.std.proofs.lemmas.List.{length-map}
use Rattle.std.proofs.lemmas.Option.{slice_get-map, slice_get-get_or}
use Rattle.vt_table.specs.declared.calls.TheConstants.{CALL_COUNT}
use Rattle.vt_table.specs.declared.calls.Entry.{Entry}
use Rattle.vt_table.specs.Names.{row_of}
use Rattle.vt_table.specs.declared.calls.CallName.{CallName}
use Rattle.vt_table.specs.declared.calls.CallName.TheVariants.{Abs}
use Rattle.vt_table.specs.Calls.{Row, calls, names_of, call_at, number_of, as_row, call_row_at, call_row, call_named}
use Rattle.vt_table.specs.private.Entries.{row_of_entry}

-- how many rows there are
length-calls : length calls ≡ CALL_COUNT
unfolding calls
length-calls = refl

-- the entry at a number states the row of that number
pub entry_is : (entries : List Entry) (number : ℕ) (d : Entry) → map row_of_entry entries ≡ calls → number < CALL_COUNT → slice_get calls number ≡ Some (row_of_entry (get_or entries number d))
entry_is entries number d same lt =
    let size : length entries ≡ CALL_COUNT = sym (length-map entries row_of_entry) ∙ ap length same ∙ length-calls in
    let in_range : number < length entries = subst (λ n. number < n) (sym size) lt in
    rw (sym same) (slice_get-map row_of_entry entries number ∙ ap (option_map row_of_entry) (slice_get-get_or entries number d in_range))

-- every number is that of the call in its row
pub call_at_number : (which : CallName) → call_at (number_of which) ≡ Some which
unfolding calls
call_at_number Abs = refl
call_at_number _ = refl

pub number_bound : (which : CallName) → number_of which < CALL_COUNT
number_bound Abs = lit< tt
number_bound _ = lit< tt

-- every row from a place on has the number of its place
are_placed : ℕ → List Row → Bool
are_placed place [] = true
are_placed place (row ∷ rows) = nat_eq (number_of row.call) place && are_placed (place + 1) rows

same_number : (a b : ℕ) → nat_eq a b ≡ true → a ≡ b
same_number a b e = grind (arith, nat_tests)

placed_at : (rows : List Row) (place number : ℕ) (row : Row) → are_placed place rows ≡ true → slice_get rows number ≡ Some row → number_of row.call ≡ place + number
unfolding are_placed
placed_at [] place number row placed here = absurd (let z : None ≡ Some row = here in cc)
placed_at (first ∷ rows) place zero row placed here =
    let same : first ≡ row = cc in
    let test : nat_eq (number_of first.call) place ≡ true = first_so (nat_eq (number_of first.call) place) (are_placed (place + 1) rows) placed in
    let e : number_of first.call ≡ place = same_number (number_of first.call) place test in
    sym (ap (λ (r : Row). number_of r.call) same) ∙ e ∙ sym (add-zero place)
placed_at (first ∷ rows) place (suc number) row placed here =
    let rest : number_of row.call ≡ (place + 1) + number = placed_at rows (place + 1) number row (second_so (nat_eq (number_of first.call) place) (are_placed (place + 1) rows) placed) here in
    omega arith

calls_placed : are_placed 0 calls ≡ true
unfolding calls are_placed
calls_placed = refl

pub number_at : (number : ℕ) (row : Row) → slice_get calls number ≡ Some row → number_of row.call ≡ number
number_at number row here = placed_at calls 0 number row calls_placed here ∙ zero-add number

-- what the names of the calls say of a name, said of its row
module _ (table : List (List ℕ)) (is_table : table ≡ names_of calls) (name : List ℕ) where
  pub call_found : (number : ℕ) (row : Row) → Some number ≡ row_of table name → slice_get calls number ≡ Some row → Some (as_row number row) ≡ call_row name
  call_found number row found here =
      let at_names : row_of (names_of calls) name ≡ Some number = subst (λ t. row_of t name ≡ Some number) is_table (sym found) in
      let e : call_row name ≡ call_row_at number = ap (option_and_then call_row_at) at_names in
      sym (e ∙ ap (option_map (as_row number)) here)

  -- a row that is found is that of the call that is named
  pub call_is_named : (number : ℕ) → Some number ≡ row_of table name → call_at number ≡ call_named name
  call_is_named number found =
      let at_names : row_of (names_of calls) name ≡ Some number = subst (λ t. row_of t name ≡ Some number) is_table (sym found) in
      sym (ap (option_and_then call_at) at_names)

  pub call_missed : None ≡ row_of table name → None ≡ call_row name
  call_missed missed =
      let at_names : row_of (names_of calls) name ≡ None = subst (λ t. row_of t name ≡ None) is_table (sym missed) in
      sym (ap (option_and_then call_row_at) at_names)
