-- The rows of a map: one that is found, one more, one that is changed, all that are cut back.
use Rattle.std.proofs.Common.{◌≡◌, ℕ, zero, suc, ◌+◌, ◌<◌, ◌≤◌, List, [], ◌∷◌, ◌++◌, length, Bool, true, false, cond, true≢false, Option, Some, None, is_some, MatchOption, Result, Ok, Err, IfOk, OnErr, OnOk, ◌↔◌, ◌⊎◌, inl, inr, get_or, slice_get, take, refl, sym, ap, ◌∙◌, subst, arith}
use Rattle.std.specs.Prelude.{Vec}
use Rattle.std.specs.List.{Contains}
use Rattle.std.specs.Map.{keys_of, lookup, values_of}
use Rattle.std.specs.List.{IsDistinct, position}
use Rattle.std.specs.Option.{option_map}
use Rattle.std.specs.declared.alloc.Global.{Global}
use Rattle.std.proofs.lemmas.Bool.{cases_Bool, cases_eq, cases_lt}
use Rattle.std.proofs.lemmas.List.{length-map, take_at}
use Rattle.std.proofs.lemmas.List.Elements.{All-contains, All-from_recursion, Contains-append_left, Contains-push_cases}
use Rattle.std.proofs.lemmas.List.Quantifiers.{position-Some}
use Rattle.std.proofs.lemmas.Map.Keys.{IsDistinct-head, IsDistinct-tail}
use Rattle.std.proofs.lemmas.Option.{same_Some, slice_get-get_or, slice_get-map, slice_get_within}
use Rattle.vt_path.specs.Kept.{IsKeptPath}
use Rattle.vt_path.specs.Path.{path_text}
use Rattle.vt_path.proofs.OneKept.{one_kept_path}
use Rattle.vt_event.specs.Event.{EventView}
use Rattle.vt_state.specs.LookUps.{HaveOwnPlaces}
use Rattle.vt_state.proofs.OwnPlaces.{contains_at, index_of}
use Rattle.indexmap.specs.IndexMap.{insert_entry}
use Rattle.indexmap.specs.Layout.{set_value_at}
use Rattle.vt_index.specs.declared.row.Row.{Row}
use Rattle.vt_index.specs.private.Rows.{AreCutTo, AreNamed, AreRows, Entries, GoesTo, HasPosition, IsAdded, IsCutTo, IsIndexed, IsRising, IsRow, IsRowAdded, IsRowAt, IsRowNamed, IsSameRow, NoneNamed, StandsAt}
use Rattle.vt_index.proofs.PositionLemmas.{head_or, in_head, in_tail, none_in, rising_alike}
use Rattle.vt_index.proofs.RowLemmas.{cut_keeps, row_cut, row_of_more, row_within, same_row}

-- the key of an entry is among the keys
key_to : {K X : Type 0} (es : List (K × X)) (key : K) (row : X) → Contains es (key, row) → Contains (keys_of es) key
key_to [] key row listed = absurd (none_in (key, row) listed)
key_to {K} {X} (e ∷ es) key row listed = go (λ h. key_to es key row h) (head_or e es (key, row) listed)
  where
    go : (Contains es (key, row) → Contains (keys_of es) key) → (e ≡ (key, row)) ⊎ Contains es (key, row) → Contains (e.0 ∷ keys_of es) key
    go further (inl same) = subst (Contains (e.0 ∷ keys_of es)) (ap (λ (p : K × X). p.0) same) (in_head e.0 (keys_of es))
    go further (inr rest) = in_tail e.0 (keys_of es) key (further rest)

-- the entry at the index of the key that passes a test
pub found_at : {K X : Type 0} (test : K → Bool) (es : List (K × X)) (i : ℕ) → position test (keys_of es) ≡ Some i → (key : K) × (row : X) × (slice_get es i ≡ Some (key, row)) × (test key ≡ true)
found_at test [] i h = absurd (let z : None ≡ Some i = h in cc)
found_at {K} {X} test (e ∷ es) i h =
    let p = position-Some test (keys_of (e ∷ es)) i e.0 h in
    let n : length (keys_of (e ∷ es)) ≡ length (e ∷ es) = length-map (e ∷ es) (λ (x : K × X). x.0) in
    let at : slice_get (e ∷ es) i ≡ Some (get_or (e ∷ es) i e) = slice_get-get_or (e ∷ es) i e (omega (arith, p.0, n)) in
    let key : slice_get (keys_of (e ∷ es)) i ≡ Some (get_or (keys_of (e ∷ es)) i e.0) = slice_get-get_or (keys_of (e ∷ es)) i e.0 p.0 in
    let same : (get_or (e ∷ es) i e).0 ≡ get_or (keys_of (e ∷ es)) i e.0 =
    same_Some (get_or (e ∷ es) i e).0 (get_or (keys_of (e ∷ es)) i e.0) (sym (slice_get-map (λ (x : K × X). x.0) (e ∷ es) i ∙ ap (option_map (λ (x : K × X). x.0)) at) ∙ key) in
    ((get_or (e ∷ es) i e).0, (get_or (e ∷ es) i e).1, at, ap test same ∙ p.1)

-- no key passes
pub none_passes : {K X : Type 0} (test : K → Bool) (es : List (K × X)) → lookup test es ≡ None → (key : K) (row : X) → Contains es (key, row) → test key ≡ false
none_passes {K} {X} test [] h key row listed = absurd (none_in (key, row) listed)
none_passes {K} {X} test (e ∷ es) h key row listed = by (test e.0) refl (λ none rest. none_passes test es none key row rest)
  where
    go : test e.0 ≡ false → (lookup test es ≡ None → Contains es (key, row) → test key ≡ false) → (e ≡ (key, row)) ⊎ Contains es (key, row) → test key ≡ false
    go is further (inl same) = ap (λ (p : K × X). test p.0) (sym same) ∙ is
    go is further (inr rest) = further (sym (ap (λ (c : Bool). cond c (Some e.1) (lookup test es)) is) ∙ h) rest

    by : (b : Bool) → test e.0 ≡ b → (lookup test es ≡ None → Contains es (key, row) → test key ≡ false) → test key ≡ false
    by true is further = absurd (let z : Some e.1 ≡ None = sym (ap (λ (c : Bool). cond c (Some e.1) (lookup test es)) is) ∙ h in cc)
    by false is further = go is further (head_or e es (key, row) listed)

-- keys that are told apart have one value for each text
pub one_value : {K X : Type 0} (eq : K → K → Bool) (es : List (K × X)) → IsDistinct eq (keys_of es) → (key other : K) (row another : X) → Contains es (key, row) → Contains es (other, another) →
    eq key other ≡ true → eq other key ≡ true → another ≡ row
one_value {K} {X} eq [] apart key other row another listed listed' same same' = absurd (none_in (key, row) listed)
one_value {K} {X} eq (e ∷ es) apart key other row another listed listed' same same' =
    go (λ a b. one_value eq es (IsDistinct-tail eq e.0 (keys_of es) apart) key other row another a b same same') (head_or e es (key, row) listed) (head_or e es (other, another) listed')
  where
    first : (k : K) → Contains (keys_of es) k → eq e.0 k ≡ false
    first k at = All-contains (λ (y : K). eq e.0 y ≡ false) (keys_of es) k (All-from_recursion (λ (y : K). eq e.0 y ≡ false) (keys_of es) (IsDistinct-head eq e.0 (keys_of es) apart)) at

    go : (Contains es (key, row) → Contains es (other, another) → another ≡ row) → (e ≡ (key, row)) ⊎ Contains es (key, row) → (e ≡ (other, another)) ⊎ Contains es (other, another) → another ≡ row
    go further (inl a) (inl b) = ap (λ (p : K × X). p.1) (sym b ∙ a)
    go further (inl a) (inr b) = absurd (true≢false (sym same ∙ (ap (λ (p : K × X). eq p.0 other) (sym a) ∙ first other (key_to es other another b))))
    go further (inr a) (inl b) = absurd (true≢false (sym same' ∙ (ap (λ (p : K × X). eq p.0 key) (sym b) ∙ first key (key_to es key row a))))
    go further (inr a) (inr b) = further a b

-- the row of a text, by the answer of a look-up
pub found_row : (entries : Entries) (text : List ℕ) (eq : Vec ℕ Global → Vec ℕ Global → Bool) (test : Vec ℕ Global → Bool) (found : Option ℕ) → found ≡ position test (keys_of entries) →
    is_some found ≡ is_some (lookup test entries) → IsDistinct eq (keys_of entries) → ((key : Vec ℕ Global) → (test key ≡ true) ↔ (text ≡ key.items)) →
    ((key other : Vec ℕ Global) → key.items ≡ other.items → eq key other ≡ true) → MatchOption found (NoneNamed entries text) (λ index. IsRowNamed entries index text)
found_row entries text eq test None at told apart decides alike = λ key row listed named. true≢false (sym ((decides key).1 (sym named)) ∙ none_passes test entries (none (lookup test entries) told) key row listed)
  where
    none : (o : Option Row) → false ≡ is_some o → o ≡ None
    none None e = refl
    none (Some row) e = absurd (true≢false (sym e))
found_row entries text eq test (Some index) at told apart decides alike =
    let h = found_at test entries index (sym at) in
    let named : h.0.items ≡ text = sym ((decides h.0).0 h.3) in
    record {
      key = h.0;
      row = h.1;
      stands = h.2;
      named = named;
      one = λ other another listed same.
          one_value eq entries apart h.0 other h.1 another (contains_at entries index (h.0, h.1) h.2) listed (alike h.0 other (named ∙ sym same)) (alike other h.0 (same ∙ sym named));
    }

-- a new key goes last
pub insert_last : {K X : Type 0} (eq : K → K → Bool) (es : List (K × X)) (key : K) (row : X) → ((k : K) (r : X) → Contains es (k, r) → eq key k ≡ false) →
    insert_entry eq es key row ≡ es ++ (key, row) ∷ []
insert_last eq [] key row none = refl
insert_last eq (e ∷ es) key row none =
    ap (λ (c : Bool). cond c ((e.0, row) ∷ es) (e ∷ insert_entry eq es key row)) (none e.0 e.1 (in_head e es))
    ∙ ap (λ (rest : _). e ∷ rest) (insert_last eq es key row (λ k r listed. none k r (in_tail e es (k, r) listed)))

-- a value that is changed at an index
pub set_at_same : {K X : Type 0} (es : List (K × X)) (i : ℕ) (key : K) (row other : X) → slice_get es i ≡ Some (key, row) → slice_get (set_value_at es i other) i ≡ Some (key, other)
set_at_same [] i key row other h = absurd (let z : None ≡ Some (key, row) = h in cc)
set_at_same {K} {X} (e ∷ es) zero key row other h = ap (λ (p : K × X). Some (p.0, other)) (same_Some e (key, row) h)
set_at_same (e ∷ es) (suc i) key row other h = set_at_same es i key row other h

pub set_at_other : {K X : Type 0} (es : List (K × X)) (i j : ℕ) (other : X) → (j ≡ i → ⊥) → slice_get (set_value_at es i other) j ≡ slice_get es j
set_at_other [] i j other apart = refl
set_at_other (e ∷ es) zero zero other apart = absurd (apart refl)
set_at_other (e ∷ es) zero (suc j) other apart = refl
set_at_other (e ∷ es) (suc i) zero other apart = refl
set_at_other (e ∷ es) (suc i) (suc j) other apart = set_at_other es i j other (λ same. apart (ap suc same))

module _ (entries : Entries) (i : ℕ) (key : Vec ℕ Global) (row other : Row) (at : slice_get entries i ≡ Some (key, row)) where
  set_has : Contains (set_value_at entries i other) (key, other)
  set_has = contains_at (set_value_at entries i other) i (key, other) (set_at_same entries i key row other at)

  -- a row after the change is the changed one, or was there
  set_from_at : (j : ℕ) (k : Vec ℕ Global) (r : Row) → slice_get (set_value_at entries i other) j ≡ Some (k, r) → ((j ≡ i) × (key ≡ k) × (other ≡ r)) ⊎ ((j ≡ i → ⊥) × (slice_get entries j ≡ Some (k, r)))
  set_from_at j k r h = go (cases_eq j i)
    where
      go : (j ≡ i) ⊎ (j ≡ i → ⊥) → ((j ≡ i) × (key ≡ k) × (other ≡ r)) ⊎ ((j ≡ i → ⊥) × (slice_get entries j ≡ Some (k, r)))
      go (inr apart) = inr (apart, sym (set_at_other entries i j other apart) ∙ h)
      go (inl same) =
          let e : ◌≡◌ {A = Vec ℕ Global × Row} (key, other) (k, r) = same_Some (key, other) (k, r) (sym (set_at_same entries i key row other at) ∙ (ap (λ (n : ℕ). slice_get (set_value_at entries i other) n) (sym same) ∙ h)) in
          inl (same, ap (λ (p : Vec ℕ Global × Row). p.0) e, ap (λ (p : Vec ℕ Global × Row). p.1) e)

  set_from : (k : Vec ℕ Global) (r : Row) → Contains (set_value_at entries i other) (k, r) → ((key ≡ k) × (other ≡ r)) ⊎ Contains entries (k, r)
  set_from k r listed = let h = index_of (set_value_at entries i other) (k, r) listed in go h.0 (set_from_at h.0 k r h.1)
    where
      go : (j : ℕ) → ((j ≡ i) × (key ≡ k) × (other ≡ r)) ⊎ ((j ≡ i → ⊥) × (slice_get entries j ≡ Some (k, r))) → ((key ≡ k) × (other ≡ r)) ⊎ Contains entries (k, r)
      go j (inl same) = inl (same.1, same.2)
      go j (inr was) = inr (contains_at entries j (k, r) was.1)

  -- a row from before is the one that was changed, or is there
  set_to : (k : Vec ℕ Global) (r : Row) → Contains entries (k, r) → (row ≡ r) ⊎ Contains (set_value_at entries i other) (k, r)
  set_to k r listed = let h = index_of entries (k, r) listed in go h.0 h.1 (cases_eq h.0 i)
    where
      go : (j : ℕ) → slice_get entries j ≡ Some (k, r) → (j ≡ i) ⊎ (j ≡ i → ⊥) → (row ≡ r) ⊎ Contains (set_value_at entries i other) (k, r)
      go j e (inl same) = inl (ap (λ (p : Vec ℕ Global × Row). p.1) (same_Some (key, row) (k, r) (sym at ∙ (ap (λ (n : ℕ). slice_get entries n) (sym same) ∙ e))))
      go j e (inr apart) = inr (contains_at (set_value_at entries i other) j (k, r) (set_at_other entries i j other apart ∙ e))

  named_set : AreNamed entries → other.path ≡ row.path → AreNamed (set_value_at entries i other)
  named_set named same k r listed = go (set_from k r listed)
    where
      go : ((key ≡ k) × (other ≡ r)) ⊎ Contains entries (k, r) → (k.items ≡ path_text r.path) × IsKeptPath r.path
      go (inr was) = named k r was
      go (inl changed) =
          let own = named key row (contains_at entries i (key, row) at) in
          let path : row.path ≡ r.path = sym same ∙ ap (λ (x : Row). x.path) changed.1 in
          (ap (λ (x : Vec ℕ Global). x.items) (sym changed.0) ∙ (own.0 ∙ ap path_text path), subst IsKeptPath path own.1)

  -- a position that stood in a row stands in it where the changed row keeps it
  position_set : (path : List (List ℕ)) (position : ℕ) → other.path ≡ row.path → (Contains row.at.items position → Contains other.at.items position) →
      HasPosition entries path position → HasPosition (set_value_at entries i other) path position
  position_set path position same keeps h = go (set_to h.key h.row h.listed)
    where
      go : (row ≡ h.row) ⊎ Contains (set_value_at entries i other) (h.key, h.row) → HasPosition (set_value_at entries i other) path position
      go (inr there) = record { key = h.key; row = h.row; listed = there; same = h.same; stands = h.stands }
      go (inl changed) = record {
        key = key;
        row = other;
        listed = set_has;
        same = same ∙ (ap (λ (x : Row). x.path) changed ∙ h.same);
        stands = keeps (subst (λ (x : Row). Contains x.at.items position) (sym changed) h.stands);
      }

  -- the rows, with one of them changed
  pub rows_set : (events : List EventView) (n m : ℕ) → n ≤ m → AreRows events n entries → IsRow events m other → other.path ≡ row.path →
      ((position : ℕ) → Contains row.at.items position → Contains other.at.items position) →
      ((position : ℕ) (path : List (List ℕ)) → n ≤ position → position < m → StandsAt events path position → (row.path ≡ path) × Contains other.at.items position) →
      AreRows events m (set_value_at entries i other)
  rows_set events n m less rows own same keeps new = record {
    rows = λ k r listed. each k r (set_from k r listed);
    named = named_set rows.named same;
    all = λ position path below stands. all position path below stands (cases_lt position n);
  }
    where
      each : (k : Vec ℕ Global) (r : Row) → ((key ≡ k) × (other ≡ r)) ⊎ Contains entries (k, r) → IsRow events m r
      each k r (inl changed) = subst (IsRow events m) changed.1 own
      each k r (inr was) = row_of_more events n m r less (rows.rows k r was)

      all : (position : ℕ) (path : List (List ℕ)) → position < m → StandsAt events path position → (position < n) ⊎ (n ≤ position) → HasPosition (set_value_at entries i other) path position
      all position path below stands (inl old) = position_set path position same (keeps position) (rows.all position path old stands)
      all position path below stands (inr late) =
          let h = new position path late below stands in
          record { key = key; row = other; listed = set_has; same = same ∙ h.0; stands = h.1 }

  -- the rows that are cut back, and one more of them
  pub cut_set : (events : List EventView) (from n : ℕ) → from ≤ n → AreCutTo events from n i entries → IsCutTo from row other → AreCutTo events from n (i + 1) (set_value_at entries i other)
  cut_set events from n less cut own = record {
    rows = λ k r listed. each k r (set_from k r listed);
    cut = λ j k r below e. shorter j k r below (set_from_at j k r e);
    named = named_set cut.named own.same;
    all = λ position path below stands. position_set path position own.same (cut_keeps from row other own position below) (cut.all position path below stands);
  }
    where
      short : IsRow events from other
      short = row_cut events n from row other (cut.rows key row (contains_at entries i (key, row) at)) own

      each : (k : Vec ℕ Global) (r : Row) → ((key ≡ k) × (other ≡ r)) ⊎ Contains entries (k, r) → IsRow events n r
      each k r (inl changed) = subst (IsRow events n) changed.1 (row_of_more events from n other less short)
      each k r (inr was) = cut.rows k r was

      shorter : (j : ℕ) (k : Vec ℕ Global) (r : Row) → j < i + 1 → ((j ≡ i) × (key ≡ k) × (other ≡ r)) ⊎ ((j ≡ i → ⊥) × (slice_get entries j ≡ Some (k, r))) → IsRow events from r
      shorter j k r below (inl changed) = subst (IsRow events from) changed.2 short
      shorter j k r below (inr was) = cut.cut j k r (by (cases_lt j i)) was.1
        where
          by : (j < i) ⊎ (i ≤ j) → j < i
          by (inl before) = before
          by (inr not_before) = absurd (was.0 (omega arith))

pub cut_start : (events : List EventView) (from n : ℕ) (entries : Entries) → from ≤ n → AreRows events n entries → AreCutTo events from n 0 entries
cut_start events from n entries less rows = record {
  rows = rows.rows;
  cut = λ index key row below e. absurd (omega arith);
  named = rows.named;
  all = λ position path below stands. rows.all position path (omega arith) stands;
}

pub cut_end : (events : List EventView) (from n count : ℕ) (entries : Entries) → length entries ≤ count → AreCutTo events from n count entries → AreRows events from entries
cut_end events from n count entries all cut = record {
  rows = λ key row listed. let h = index_of entries (key, row) listed in let within : h.0 < length entries = slice_get_within entries h.0 (key, row) h.1 in cut.cut h.0 key row (omega arith) h.1;
  named = cut.named;
  all = cut.all;
}

-- an empty row more
pub rows_pushed : (events : List EventView) (n index : ℕ) (before after : Entries) (key : Vec ℕ Global) (path : List (List ℕ)) → key.items ≡ path_text path → IsKeptPath path →
    IsRowAdded before after index key path → AreRows events n before → AreRows events n after
rows_pushed events n index before after key path written kept added rows = subst (AreRows events n) (sym added.grown) (record {
  rows = λ k r listed. each k r (Contains-push_cases before (key, added.row) (k, r) listed);
  named = λ k r listed. named k r (Contains-push_cases before (key, added.row) (k, r) listed);
  all = λ position path below stands. let h = rows.all position path below stands in
      record { key = h.key; row = h.row; listed = Contains-append_left before ((key, added.row) ∷ []) (h.key, h.row) h.listed; same = h.same; stands = h.stands };
})
  where
    blank : IsRow events n added.row
    blank = record {
      each = λ position listed. absurd (none_in position (subst (λ (at : List ℕ). Contains at position) added.empty listed));
      rising = subst (IsRising events) (sym added.empty) tt;
    }

    row_is : (k : Vec ℕ Global) (r : Row) → ◌≡◌ {A = Vec ℕ Global × Row} (key, added.row) (k, r) → added.row ≡ r
    row_is k r same = ap (λ (p : Vec ℕ Global × Row). p.1) same

    each : (k : Vec ℕ Global) (r : Row) → Contains before (k, r) ⊎ (◌≡◌ {A = Vec ℕ Global × Row} (key, added.row) (k, r)) → IsRow events n r
    each k r (inl was) = rows.rows k r was
    each k r (inr same) = subst (IsRow events n) (row_is k r same) blank

    named : (k : Vec ℕ Global) (r : Row) → Contains before (k, r) ⊎ (◌≡◌ {A = Vec ℕ Global × Row} (key, added.row) (k, r)) → (k.items ≡ path_text r.path) × IsKeptPath r.path
    named k r (inl was) = rows.named k r was
    named k r (inr same) =
        let own : path ≡ r.path = sym added.same ∙ ap (λ (x : Row). x.path) (row_is k r same) in
        (ap (λ (p : Vec ℕ Global × Row). p.0.items) (sym same) ∙ (written ∙ ap path_text own), subst IsKeptPath own kept)

at_end : {X : Type 0} (xs : List X) (x : X) → slice_get (xs ++ x ∷ []) (length xs) ≡ Some x
at_end [] x = refl
at_end (y ∷ xs) x = at_end xs x

-- what `insert` leaves where the key is new
pub row_inserted : (before after : Entries) (index : ℕ) (key : Vec ℕ Global) (path : List (List ℕ)) (row : Row) (eq : Vec ℕ Global → Vec ℕ Global → Bool) → after ≡ insert_entry eq before key row →
    NoneNamed before key.items → ((a b : Vec ℕ Global) → eq a b ≡ true → a.items ≡ b.items) → row.path ≡ path → row.at.items ≡ [] → index ≡ length before → IsRowAdded before after index key path
row_inserted before after index key path row eq grown none decides same empty last = record {
  row = row;
  same = same;
  empty = empty;
  last = last;
  grown = grown ∙ insert_last eq before key row (λ k r listed. apart k r listed (cases_Bool (eq key k)));
}
  where
    apart : (k : Vec ℕ Global) (r : Row) → Contains before (k, r) → (eq key k ≡ true) ⊎ (eq key k ≡ false) → eq key k ≡ false
    apart k r listed (inr e) = e
    apart k r listed (inl e) = absurd (none k r listed (sym (decides key k e)))

-- after the call that adds a row, whatever it answers
pub grown_keeps : {E : Type 0} (r : Result ℕ E) (before after : Entries) (key : Vec ℕ Global) (path : List (List ℕ)) → key.items ≡ path_text path → IsKeptPath path →
    IfOk r (λ index. IsRowAdded before after index key path) → OnErr r (after ≡ before) → (events : List EventView) (n : ℕ) → AreRows events n before → AreRows events n after
grown_keeps (Ok index) before after key path written kept added same events n rows = rows_pushed events n index before after key path written kept added rows
grown_keeps (Err e) before after key path written kept added same events n rows = subst (AreRows events n) (sym same) rows

pub row_pushed : (before after : Entries) (index : ℕ) (key : Vec ℕ Global) (path : List (List ℕ)) → IsRowAdded before after index key path → IsRowAt after index path
row_pushed before after index key path added = record {
  key = key;
  row = added.row;
  stands = ap (λ (es : Entries). slice_get es index) added.grown ∙ (ap (λ (n : ℕ). slice_get (before ++ (key, added.row) ∷ []) n) added.last ∙ at_end before (key, added.row));
  same = added.same;
}

-- the row whose key is how the path is written is that of the path
pub grown_row : {E : Type 0} (r : Result ℕ E) (before after : Entries) (key : Vec ℕ Global) (path : List (List ℕ)) → IfOk r (λ index. IsRowAdded before after index key path) →
    IfOk r (λ index. AreNamed before → IsRowAt after index path)
grown_row (Ok index) before after key path added = λ _. row_pushed before after index key path added
grown_row (Err e) before after key path added = tt

pub row_of_text : (entries : Entries) (index : ℕ) (text : List ℕ) (path : List (List ℕ)) → text ≡ path_text path → IsKeptPath path → AreNamed entries → IsRowNamed entries index text →
    IsRowAt entries index path
row_of_text entries index text path written kept named found =
    let own = named found.key found.row (contains_at entries index (found.key, found.row) found.stands) in
    record {
      key = found.key;
      row = found.row;
      stands = found.stands;
      same = one_kept_path found.row.path path own.1 kept (sym own.0 ∙ (found.named ∙ written));
    }

-- the rows stay where the events do
stands_alike : (events others : List EventView) (path : List (List ℕ)) (position : ℕ) → slice_get events position ≡ slice_get others position → StandsAt events path position → StandsAt others path position
stands_alike events others path position alike s = record { event = s.event; stands = sym alike ∙ s.stands; goes = s.goes }

pub rows_alike : (events others : List EventView) (n : ℕ) (entries : Entries) → ((i : ℕ) → i < n → slice_get events i ≡ slice_get others i) → AreRows events n entries → AreRows others n entries
rows_alike events others n entries alike rows = record {
  rows = λ key row listed. let own = rows.rows key row listed in record {
    each = λ position at. let l = own.each position at in record { below = l.below; stands = stands_alike events others row.path position (alike position l.below) l.stands };
    rising = rising_alike events others n row.at.items alike (row_within events n row own) own.rising;
  };
  named = rows.named;
  all = λ position path below stands. rows.all position path below (stands_alike others events path position (sym (alike position below)) stands);
}

same_left : {X : Type 0} (xs ys : List X) (i : ℕ) → i < length xs → slice_get xs i ≡ slice_get (xs ++ ys) i
same_left [] ys i less = absurd (omega arith)
same_left (x ∷ xs) ys zero less = refl
same_left (x ∷ xs) ys (suc i) less = same_left xs ys i (omega arith)

-- more events behind
pub rows_before_more : (events more all : List EventView) (entries : Entries) → all ≡ events ++ more → AreRows events (length events) entries → AreRows all (length events) entries
rows_before_more events more all entries is rows = rows_alike events all (length events) entries (λ i less. same_left events more i less ∙ ap (λ (es : List EventView). slice_get es i) (sym is)) rows

pub rows_without_more : (events more all : List EventView) (entries : Entries) → all ≡ events ++ more → AreRows all (length events) entries → AreRows events (length events) entries
rows_without_more events more all entries is rows = rows_alike all events (length events) entries (λ i less. sym (same_left events more i less ∙ ap (λ (es : List EventView). slice_get es i) (sym is))) rows

-- no rows
pub no_rows : (entries : Entries) → entries ≡ [] → AreRows [] 0 entries
no_rows entries none = subst (AreRows [] 0) (sym none) (record {
  rows = λ key row listed. absurd (none_in (key, row) listed);
  named = λ key row listed. absurd (none_in (key, row) listed);
  all = λ position path below stands. absurd (omega arith);
})

-- an event that is found under no path
pub rows_skipped : (events : List EventView) (position : ℕ) (event : EventView) (entries : Entries) → slice_get events position ≡ Some event → ((path : List (List ℕ)) → GoesTo path event → ⊥) →
    AreRows events position entries → AreRows events (position + 1) entries
rows_skipped events position event entries e none rows = record {
  rows = λ key row listed. row_of_more events position (position + 1) row (omega arith) (rows.rows key row listed);
  named = rows.named;
  all = λ i path below stands. all i path below stands (cases_lt i position);
}
  where
    all : (i : ℕ) (path : List (List ℕ)) → i < position + 1 → StandsAt events path i → (i < position) ⊎ (position ≤ i) → HasPosition entries path i
    all i path below stands (inl old) = rows.all i path old stands
    all i path below stands (inr late) =
        let same : i ≡ position = omega arith in
        absurd (none path (subst (GoesTo path) (same_Some stands.event event (sym stands.stands ∙ (ap (λ (n : ℕ). slice_get events n) same ∙ e))) stands.goes))

-- two paths of one event are one
one_path_at : (events : List EventView) (path other : List (List ℕ)) (position : ℕ) → StandsAt events path position → StandsAt events other position → path ≡ other
one_path_at events path other position s t =
    let same : s.event ≡ t.event = same_Some s.event t.event (sym s.stands ∙ t.stands) in
    same_Some path other (sym s.goes.has ∙ (ap (λ (e : EventView). e.path) same ∙ t.goes.has))

-- the event added to its row
pub rows_added : (events : List EventView) (position index : ℕ) (entries : Entries) (key : Vec ℕ Global) (before after : Row) → slice_get entries index ≡ Some (key, before) →
    StandsAt events before.path position → IsAdded events position before after → AreRows events position entries → AreRows events (position + 1) (set_value_at entries index after)
rows_added events position index entries key before after at stands added rows =
    rows_set entries index key before after at events position (position + 1) (omega arith) rows added.row added.same added.keeps
    (λ i path late below s.
    let same : i ≡ position = omega arith in
    (one_path_at events before.path path position stands (subst (StandsAt events path) same s), subst (Contains after.at.items) (sym same) added.has))

-- want of memory: the row is as it was
pub rows_unchanged : (events : List EventView) (n index : ℕ) (entries : Entries) (key : Vec ℕ Global) (before after : Row) → slice_get entries index ≡ Some (key, before) →
    IsSameRow before after → AreRows events n entries → AreRows events n (set_value_at entries index after)
rows_unchanged events n index entries key before after at same rows =
    rows_set entries index key before after at events n n (omega arith) rows (same_row events n before after same (rows.rows key before (contains_at entries index (key, before) at))) same.same
    (λ position listed. subst (λ (l : List ℕ). Contains l position) (sym same.positions) listed)
    (λ position path late below s. absurd (omega arith))

-- the row of an entry
pub value_is : (entries : Entries) (i : ℕ) (key : Vec ℕ Global) (row now : Row) → slice_get entries i ≡ Some (key, row) → slice_get (values_of entries) i ≡ Some now → row ≡ now
value_is entries i key row now at value =
    same_Some row now (sym (slice_get-map (λ (e : Vec ℕ Global × Row). e.1) entries i ∙ ap (option_map (λ (e : Vec ℕ Global × Row). e.1)) at) ∙ value)

entry_of : (entries : Entries) (i : ℕ) → i < length entries → (key : Vec ℕ Global) × (row : Row) × (slice_get entries i ≡ Some (key, row))
entry_of [] i less = absurd (omega arith)
entry_of (e ∷ es) zero less = (e.0, e.1, refl)
entry_of (e ∷ es) (suc i) less = entry_of es i (omega arith)

-- one row more is cut back
pub cut_step : (entries : Entries) (index from : ℕ) (now other : Row) → index < length entries → slice_get (values_of entries) index ≡ Some now → IsCutTo from now other →
    (events : List EventView) (n : ℕ) → from ≤ n → AreCutTo events from n index entries → AreCutTo events from n (index + 1) (set_value_at entries index other)
cut_step entries index from now other within value own events n less cut =
    let e = entry_of entries index within in
    cut_set entries index e.0 e.1 other e.2 events from n less cut (subst (λ (r : Row). IsCutTo from r other) (sym (value_is entries index e.0 e.1 now e.2 value)) own)

-- the row at an index is one
pub row_found : (events : List EventView) (n index : ℕ) (entries : Entries) (key : Vec ℕ Global) (row now : Row) → slice_get entries index ≡ Some (key, row) → slice_get (values_of entries) index ≡ Some now →
    AreRows events n entries → IsRow events n now
row_found events n index entries key row now at value rows = subst (IsRow events n) (value_is entries index key row now at value) (rows.rows key row (contains_at entries index (key, row) at))

-- after the call that adds to a row, whatever it answers
pub added_ok : {A E : Type 0} (r : Result A E) (events : List EventView) (position index : ℕ) (entries : Entries) (path : List (List ℕ)) (now after : Row) (h : IsRowAt entries index path) →
    slice_get (values_of entries) index ≡ Some now → StandsAt events path position → OnOk r (IsAdded events position now after) → AreRows events position entries →
    OnOk r (AreRows events (position + 1) (set_value_at entries index after))
added_ok (Err e) events position index entries path now after h value stands added rows = tt
added_ok (Ok x) events position index entries path now after h value stands added rows =
    let is : h.row ≡ now = value_is entries index h.key h.row now h.stands value in
    rows_added events position index entries h.key h.row after h.stands (subst (λ (p : List (List ℕ)). StandsAt events p position) (sym h.same) stands)
    (subst (λ (r : Row). IsAdded events position r after) (sym is) added) rows

pub added_err : {A E : Type 0} (r : Result A E) (events : List EventView) (position index : ℕ) (entries : Entries) (path : List (List ℕ)) (now after : Row) (h : IsRowAt entries index path) →
    slice_get (values_of entries) index ≡ Some now → OnErr r (IsSameRow now after) → AreRows events position entries → OnErr r (AreRows events position (set_value_at entries index after))
added_err (Ok x) events position index entries path now after h value same rows = tt
added_err (Err e) events position index entries path now after h value same rows =
    rows_unchanged events position index entries h.key h.row after h.stands (subst (λ (r : Row). IsSameRow r after) (sym (value_is entries index h.key h.row now h.stands value)) same) rows

pub always_err : {A E : Type 0} (r : Result A E) (P : Type 0) → P → OnErr r P
always_err (Ok x) P p = tt
always_err (Err e) P p = p

-- the rows before the events that a list has more than another
pub rows_of_first : (events first more all : List EventView) (entries : Entries) → first ≡ events → all ≡ events ++ more → AreRows events (length events) entries → AreRows all (length first) entries
rows_of_first events first more all entries same is rows = subst (λ (es : List EventView). AreRows all (length es) entries) (sym same) (rows_before_more events more all entries is rows)

-- the events and rows from before, once what was added is taken out
pub indexed_again : (events first more all kept : List EventView) (entries : Entries) → first ≡ events → all ≡ events ++ more → kept ≡ take (length first) all → HaveOwnPlaces events →
    AreRows all (length first) entries → IsIndexed kept entries
indexed_again events first more all kept entries same is cut apart rows =
    let whole : kept ≡ events = cut ∙ (ap (λ (es : List EventView). take (length es) all) same ∙ (ap (λ (es : List EventView). take (length events) es) is ∙ take_at events more (length events) refl)) in
    subst (λ (es : List EventView). IsIndexed es entries) (sym whole)
    (record { apart = apart; rows = rows_without_more events more all entries is (subst (λ (es : List EventView). AreRows all (length es) entries) same rows) })
