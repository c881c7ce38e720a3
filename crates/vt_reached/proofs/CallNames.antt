-- The names of the calls that tell or start something.
use Rattle.std.proofs.Common.{◌≡◌, ◌+◌, ℕ, zero, suc, arith, List, [], ◌∷◌, Bool, true, false, cond, nat_eq, Option, Some, None, refl, sym, ap, ◌∙◌, subst}
use Rattle.std.specs.Prelude.{codes, slice_get, option_and_then}
use Rattle.std.specs.Option.{option_map}
use Rattle.std.specs.List.{position_from}
use Rattle.std.specs.Cmp.Lexicographic.{pointwise}
use Rattle.std.proofs.lemmas.Slice.Eq.{bytes_eq-Decides}
use Rattle.std.proofs.lemmas.Option.{slice_get-map}
use Rattle.vt_check.specs.Conditions.{has_no_dot}
use Rattle.vt_table.specs.Calls.{Row, calls, call_at, call_named, call_row, call_row_at, as_row, names_of, number_of}
use Rattle.vt_table.specs.Names.{row_of}
use Rattle.vt_table.specs.declared.calls.CallName.{CallName}
use Rattle.vt_table.specs.declared.calls.CallName.TheVariants.{At, Cue, Define, InThread, LiveLoop, Set as SetCall}
use Rattle.vt_table.specs.declared.calls.CallRow.{CallRow}
use Rattle.vt_table.proofs.CallLemmas.{number_at}
use Rattle.vt_reach.proofs.Places.{none_some, one_some}

position_there : (names : List (List ℕ)) (name : List ℕ) (k n : ℕ) → position_from (λ other. pointwise nat_eq other name) k names ≡ Some n → (i : ℕ) × (n ≡ k + i) × (slice_get names i ≡ Some name)
position_there [] name k n e = absurd (none_some e)
position_there (other ∷ names) name k n e = go (pointwise nat_eq other name) refl e (λ f. position_there names name (k + 1) n f)
  where
    further : (rest : (i : ℕ) × (n ≡ (k + 1) + i) × (slice_get names i ≡ Some name)) → (i : ℕ) × (n ≡ k + i) × (slice_get (other ∷ names) i ≡ Some name)
    further rest = let i = rest.0 in let z = rest.1 in let w : n ≡ k + suc i = omega (arith, z) in (suc rest.0, w, rest.2)

    go : (b : Bool) → pointwise nat_eq other name ≡ b → cond b (Some k) (position_from (λ other. pointwise nat_eq other name) (k + 1) names) ≡ Some n →
        (position_from (λ other. pointwise nat_eq other name) (k + 1) names ≡ Some n → (i : ℕ) × (n ≡ (k + 1) + i) × (slice_get names i ≡ Some name)) → (i : ℕ) × (n ≡ k + i) × (slice_get (other ∷ names) i ≡ Some name)
    go true t e later = let z : k ≡ k + 0 = omega arith in (0, sym (one_some e) ∙ z, ap (λ (x : List ℕ). Some x) ((bytes_eq-Decides other name).0 t))
    go false t e later = further (later e)

-- the row of a call that is named
pub name_of_call : (name : List ℕ) (which : CallName) → call_named name ≡ Some which → (row : Row) × (slice_get calls (number_of which) ≡ Some row) × (row.name ≡ name)
name_of_call name which e = named (row_of (names_of calls) name) refl e
  where
    at_row : (n : ℕ) (o : Option Row) → slice_get calls n ≡ o → option_map (λ (r : Row). r.call) o ≡ Some which → option_map (λ (r : Row). r.name) o ≡ Some name → (row : Row) × (slice_get calls (number_of which) ≡ Some row) × (row.name ≡ name)
    at_row n None is call_is name_is = absurd (none_some call_is)
    at_row n (Some row) is call_is name_is =
        let same : number_of which ≡ n = ap number_of (sym (one_some call_is)) ∙ number_at n row is in
        (row, ap (slice_get calls) same ∙ is, one_some name_is)

    named : (o : Option ℕ) → row_of (names_of calls) name ≡ o → option_and_then call_at o ≡ Some which → (row : Row) × (slice_get calls (number_of which) ≡ Some row) × (row.name ≡ name)
    named None is e = absurd (none_some e)
    named (Some n) is e =
        let there = position_there (names_of calls) name 0 n is in
        let i = there.0 in
        let z = there.1 in
        let w : n ≡ i = omega (arith, z) in
        at_row n (slice_get calls n) refl e (sym (slice_get-map (λ (r : Row). r.name) calls n) ∙ ap (slice_get (names_of calls)) w ∙ there.2)

-- a name that names no call has no row
pub no_row : (name : List ℕ) → call_named name ≡ None → call_row name ≡ None
no_row name e = named (row_of (names_of calls) name) e
  where
    at_row : (n : ℕ) (o : Option Row) → option_map (λ (r : Row). r.call) o ≡ None → option_map (as_row n) o ≡ None
    at_row n None e = refl
    at_row n (Some row) e = absurd (none_some (sym e))

    named : (o : Option ℕ) → option_and_then call_at o ≡ None → option_and_then call_row_at o ≡ None
    named None e = refl
    named (Some n) e = at_row n (slice_get calls n) e

pub cue_name : (name : List ℕ) → call_named name ≡ Some Cue → name ≡ codes "cue"
unfolding calls
cue_name name e = let r = name_of_call name Cue e in sym r.2 ∙ ap (λ (row : Row). row.name) (sym (one_some r.1))

pub set_name : (name : List ℕ) → call_named name ≡ Some SetCall → name ≡ codes "set"
unfolding calls
set_name name e = let r = name_of_call name SetCall e in sym r.2 ∙ ap (λ (row : Row). row.name) (sym (one_some r.1))

pub define_name : (name : List ℕ) → call_named name ≡ Some Define → name ≡ codes "define"
unfolding calls
define_name name e = let r = name_of_call name Define e in sym r.2 ∙ ap (λ (row : Row). row.name) (sym (one_some r.1))

pub in_thread_name : (name : List ℕ) → call_named name ≡ Some InThread → name ≡ codes "in_thread"
unfolding calls
in_thread_name name e = let r = name_of_call name InThread e in sym r.2 ∙ ap (λ (row : Row). row.name) (sym (one_some r.1))

pub live_loop_name : (name : List ℕ) → call_named name ≡ Some LiveLoop → name ≡ codes "live_loop"
unfolding calls
live_loop_name name e = let r = name_of_call name LiveLoop e in sym r.2 ∙ ap (λ (row : Row). row.name) (sym (one_some r.1))

-- none of these stands after a dot
pub cue_alone : has_no_dot (call_row (codes "cue")) ≡ true
unfolding calls
cue_alone = refl

pub set_alone : has_no_dot (call_row (codes "set")) ≡ true
unfolding calls
set_alone = refl

pub define_alone : has_no_dot (call_row (codes "define")) ≡ true
unfolding calls
define_alone = refl

pub live_loop_alone : has_no_dot (call_row (codes "live_loop")) ≡ true
unfolding calls
live_loop_alone = refl

-- nor is one of them the name of a function
pub cue_called : call_named (codes "cue") ≡ Some Cue
unfolding calls
cue_called = refl

pub set_called : call_named (codes "set") ≡ Some SetCall
unfolding calls
set_called = refl

pub define_called : call_named (codes "define") ≡ Some Define
unfolding calls
define_called = refl
