-- What is nearest among rows is what a read or a wait finds.
use Rattle.std.proofs.Common.{◌≡◌, ℕ, ◌+◌, ◌<◌, ◌≤◌, List, [], ◌∷◌, ◌++◌, length, Option, Some, None, MatchOption, Bor, ◌⊎◌, inl, inr, slice_get, take, get_or, refl, sym, ap, ◌∙◌, subst}
use Rattle.std.specs.Prelude.{IsSomeAnd, Vec}
use Rattle.std.specs.List.{Contains}
use Rattle.std.specs.Map.{values_of}
use Rattle.std.specs.declared.alloc.Global.{Global}
use Rattle.std.proofs.lemmas.List.{take_all, take_more}
use Rattle.std.proofs.lemmas.List.Elements.{Contains-append_left, Contains-push, Contains-push_cases}
use Rattle.std.proofs.lemmas.Option.{same_Some, slice_get_within}
use Rattle.vt_path.specs.declared.pattern.Segment.{Segment}
use Rattle.vt_path.specs.Match.{Matches}
use Rattle.vt_path.specs.LiteralText.{IsWrittenAs}
use Rattle.vt_path.specs.Path.{path_text}
use Rattle.vt_path.proofs.LiteralLemmas.{literal_alone}
use Rattle.vt_path.proofs.OneKept.{one_kept_path}
use Rattle.vt_event.specs.declared.place.Place.{Place}
use Rattle.vt_event.specs.Event.{EventView}
use Rattle.vt_event.specs.Order.{IsBefore}
use Rattle.vt_event.specs.OrderLaws.{place_total}
use Rattle.vt_event.proofs.Order.{compared}
use Rattle.vt_state.specs.LookUps.{HaveOwnPlaces, IsFirstAbove, IsLastBelow, MatchesEvent, NoneAbove, NoneBelow}
use Rattle.vt_state.proofs.OwnPlaces.{contains_at, index_of}
use Rattle.vt_state.proofs.ScanLemmas.{one_want}
use Rattle.vt_index.specs.declared.row.Row.{Row}
use Rattle.vt_index.specs.declared.side.Side.{Side}
use Rattle.vt_index.specs.declared.side.Side.TheVariants.{Below, Above}
use Rattle.vt_index.specs.private.Nearest.{FitsPattern, FitsRows, FitsText, IsNearer, Lies, NearestOf, NoneLies, StandsIn}
use Rattle.vt_index.specs.private.Rows.{AreRows, Entries, GoesTo, IsRowNamed, NoneNamed}
use Rattle.vt_index.proofs.PositionLemmas.{head_or, in_head, in_tail, none_in}

nearer_trans : (side : Side) (a b c : EventView) → IsNearer side a b → IsNearer side b c → IsNearer side a c
nearer_trans Below a b c h k = place_total.trans c.place b.place a.place k h
nearer_trans Above a b c h k = place_total.trans a.place b.place c.place h k

-- of two events one is nearer, or they stand at one place
nearer_or : (side : Side) (a b : EventView) → IsNearer side a b ⊎ (a.place ≡ b.place) ⊎ IsNearer side b a
nearer_or Above a b = compared a.place b.place
nearer_or Below a b = turned (compared a.place b.place)
  where
    turned : IsBefore a.place b.place ⊎ (a.place ≡ b.place) ⊎ IsBefore b.place a.place → IsBefore b.place a.place ⊎ (a.place ≡ b.place) ⊎ IsBefore a.place b.place
    turned (inl before) = inr (inr before)
    turned (inr (inl same)) = inr (inl same)
    turned (inr (inr after)) = inl after

nearer_at : (side : Side) (a b c : EventView) → a.place ≡ b.place → IsNearer side b c → IsNearer side a c
nearer_at Below a b c same h = subst (λ (p : Place). IsBefore c.place p) (sym same) h
nearer_at Above a b c same h = subst (λ (p : Place). IsBefore p c.place) (sym same) h

-- the same events fit
pub nearest_of_same : (Fits Suits : EventView → Type 0) (side : Side) (place : Place) (found : Option (Bor EventView)) → ((event : EventView) → Fits event → Suits event) →
    ((event : EventView) → Suits event → Fits event) → NearestOf Fits side place found → NearestOf Suits side place found
nearest_of_same Fits Suits side place None to from nothing = λ event suits lies. nothing event (from event suits) lies
nearest_of_same Fits Suits side place (Some event) to from n = record {
  fits = to event.now n.fits;
  lies = n.lies;
  nearest = λ other suits lies. n.nearest other (from other suits) lies;
}

-- a row more, whose path does not match, or does
rows_cases : (events : List EventView) (seen : List Row) (row : Row) (pattern : List Segment) (event : EventView) → FitsRows events (seen ++ row ∷ []) pattern event →
    FitsRows events seen pattern event ⊎ (Matches pattern row.path × StandsIn events row.at.items event)
rows_cases events seen row pattern event f = go (Contains-push_cases seen row f.row f.listed)
  where
    go : Contains seen f.row ⊎ (row ≡ f.row) → FitsRows events seen pattern event ⊎ (Matches pattern row.path × StandsIn events row.at.items event)
    go (inl was) = inl (record { row = f.row; listed = was; matched = f.matched; stands = f.stands })
    go (inr same) = inr (subst (λ (r : Row). Matches pattern r.path × StandsIn events r.at.items event) (sym same) (f.matched, f.stands))

rows_left : (events : List EventView) (seen : List Row) (row : Row) (pattern : List Segment) (event : EventView) → FitsRows events seen pattern event → FitsRows events (seen ++ row ∷ []) pattern event
rows_left events seen row pattern event f = record { row = f.row; listed = Contains-append_left seen (row ∷ []) f.row f.listed; matched = f.matched; stands = f.stands }

rows_right : (events : List EventView) (seen : List Row) (row : Row) (pattern : List Segment) (event : EventView) → Matches pattern row.path → StandsIn events row.at.items event →
    FitsRows events (seen ++ row ∷ []) pattern event
rows_right events seen row pattern event matched stands = record { row = row; listed = Contains-push seen row; matched = matched; stands = stands }

module _ (events : List EventView) (seen : List Row) (row : Row) (pattern : List Segment) (side : Side) (place : Place) where
  -- the row's path does not match
  pub row_passed : (found : Option (Bor EventView)) → (Matches pattern row.path → ⊥) → NearestOf (FitsRows events seen pattern) side place found →
      NearestOf (FitsRows events (seen ++ row ∷ []) pattern) side place found
  row_passed found unmatched n =
      nearest_of_same (FitsRows events seen pattern) (FitsRows events (seen ++ row ∷ []) pattern) side place found (rows_left events seen row pattern)
      (λ event f. go event (rows_cases events seen row pattern event f)) n
    where
      go : (event : EventView) → FitsRows events seen pattern event ⊎ (Matches pattern row.path × StandsIn events row.at.items event) → FitsRows events seen pattern event
      go event (inl was) = was
      go event (inr h) = absurd (unmatched h.0)

  -- the row's event is nearer than what was found before
  pub row_taken : (found other : Option (Bor EventView)) → Matches pattern row.path →
      MatchOption other ⊥ (λ e. MatchOption found (Unit {0}) (λ o. IsNearer side e.now o.now)) →
      NearestOf (FitsRows events seen pattern) side place found → NearestOf (StandsIn events row.at.items) side place other →
      NearestOf (FitsRows events (seen ++ row ∷ []) pattern) side place other
  row_taken found None matched better n own = absurd better
  row_taken None (Some event) matched better nothing own = record {
    fits = rows_right events seen row pattern event.now matched own.fits;
    lies = own.lies;
    nearest = λ other f lies. go other lies (rows_cases events seen row pattern other f);
  }
    where
      go : (other : EventView) → Lies side place other → FitsRows events seen pattern other ⊎ (Matches pattern row.path × StandsIn events row.at.items other) →
          (other.place ≡ event.now.place) ⊎ IsNearer side event.now other
      go other lies (inl was) = absurd (nothing other was lies)
      go other lies (inr h) = own.nearest other h.1 lies
  row_taken (Some last) (Some event) matched better n own = record {
    fits = rows_right events seen row pattern event.now matched own.fits;
    lies = own.lies;
    nearest = λ other f lies. go other lies (rows_cases events seen row pattern other f);
  }
    where
      further : (other : EventView) → (other.place ≡ last.now.place) ⊎ IsNearer side last.now other → (other.place ≡ event.now.place) ⊎ IsNearer side event.now other
      further other (inr h) = inr (nearer_trans side event.now last.now other better h)
      further other (inl same) = inr (nearer_from side event.now last.now other (sym same) better)
        where
          nearer_from : (side : Side) (a b c : EventView) → b.place ≡ c.place → IsNearer side a b → IsNearer side a c
          nearer_from Below a b c same h = subst (λ (p : Place). IsBefore p a.place) same h
          nearer_from Above a b c same h = subst (λ (p : Place). IsBefore a.place p) same h

      go : (other : EventView) → Lies side place other → FitsRows events seen pattern other ⊎ (Matches pattern row.path × StandsIn events row.at.items other) →
          (other.place ≡ event.now.place) ⊎ IsNearer side event.now other
      go other lies (inl was) = further other (n.nearest other was lies)
      go other lies (inr h) = own.nearest other h.1 lies

  -- it is not
  pub row_kept : (found other : Option (Bor EventView)) → Matches pattern row.path →
      (MatchOption other ⊥ (λ e. MatchOption found (Unit {0}) (λ o. IsNearer side e.now o.now)) → ⊥) →
      NearestOf (FitsRows events seen pattern) side place found → NearestOf (StandsIn events row.at.items) side place other →
      NearestOf (FitsRows events (seen ++ row ∷ []) pattern) side place found
  row_kept None None matched stays nothing own = λ event f lies. go event lies (rows_cases events seen row pattern event f)
    where
      go : (event : EventView) → Lies side place event → FitsRows events seen pattern event ⊎ (Matches pattern row.path × StandsIn events row.at.items event) → ⊥
      go event lies (inl was) = nothing event was lies
      go event lies (inr h) = own event h.1 lies
  row_kept None (Some event) matched stays nothing own = absurd (stays tt)
  row_kept (Some last) None matched stays n own = record {
    fits = rows_left events seen row pattern last.now n.fits;
    lies = n.lies;
    nearest = λ other f lies. go other lies (rows_cases events seen row pattern other f);
  }
    where
      go : (other : EventView) → Lies side place other → FitsRows events seen pattern other ⊎ (Matches pattern row.path × StandsIn events row.at.items other) →
          (other.place ≡ last.now.place) ⊎ IsNearer side last.now other
      go other lies (inl was) = n.nearest other was lies
      go other lies (inr h) = absurd (own other h.1 lies)
  row_kept (Some last) (Some event) matched stays n own = record {
    fits = rows_left events seen row pattern last.now n.fits;
    lies = n.lies;
    nearest = λ other f lies. go other lies (rows_cases events seen row pattern other f);
  }
    where
      further : (other : EventView) → (other.place ≡ event.now.place) ⊎ IsNearer side event.now other →
          IsNearer side event.now last.now ⊎ (event.now.place ≡ last.now.place) ⊎ IsNearer side last.now event.now → (other.place ≡ last.now.place) ⊎ IsNearer side last.now other
      further other h (inl nearer) = absurd (stays nearer)
      further other (inl same) (inr (inl both)) = inl (same ∙ both)
      further other (inr h) (inr (inl both)) = inr (nearer_at side last.now event.now other (sym both) h)
      further other (inl same) (inr (inr less)) = inr (moved side last.now event.now other (sym same) less)
        where
          moved : (side : Side) (a b c : EventView) → b.place ≡ c.place → IsNearer side a b → IsNearer side a c
          moved Below a b c same h = subst (λ (p : Place). IsBefore p a.place) same h
          moved Above a b c same h = subst (λ (p : Place). IsBefore a.place p) same h
      further other (inr h) (inr (inr less)) = inr (nearer_trans side last.now event.now other less h)

      go : (other : EventView) → Lies side place other → FitsRows events seen pattern other ⊎ (Matches pattern row.path × StandsIn events row.at.items other) →
          (other.place ≡ last.now.place) ⊎ IsNearer side last.now other
      go other lies (inl was) = n.nearest other was lies
      go other lies (inr h) = further other (own.nearest other h.1 lies) (nearer_or side event.now last.now)

-- the loop over the rows
pub none_at_start : (events : List EventView) (pattern : List Segment) (side : Side) (place : Place) → NoneLies (FitsRows events [] pattern) side place
none_at_start events pattern side place event f lies = none_in f.row f.listed

pub rows_step : (events : List EventView) (rows : List Row) (k : ℕ) (row : Row) (pattern : List Segment) (side : Side) (place : Place) (found next : Option (Bor EventView)) →
    k < length rows → row ≡ get_or rows k row → NearestOf (FitsRows events (take k rows) pattern) side place found →
    ((seen : List Row) → NearestOf (FitsRows events seen pattern) side place found → NearestOf (FitsRows events (seen ++ row ∷ []) pattern) side place next) →
    NearestOf (FitsRows events (take (k + 1) rows) pattern) side place next
rows_step events rows k row pattern side place found next less is so_far step =
    subst (λ (seen : List Row). NearestOf (FitsRows events seen pattern) side place next)
    (ap (λ (r : Row). take k rows ++ r ∷ []) is ∙ sym (take_more rows k row less))
    (step (take k rows) so_far)

pub rows_end : (events : List EventView) (rows : List Row) (k : ℕ) (pattern : List Segment) (side : Side) (place : Place) (found : Option (Bor EventView)) →
    length rows ≤ k → NearestOf (FitsRows events (take k rows) pattern) side place found → NearestOf (FitsRows events rows pattern) side place found
rows_end events rows k pattern side place found all so_far = subst (λ (seen : List Row). NearestOf (FitsRows events seen pattern) side place found) (take_all k rows all) so_far

-- the rows of a map without their keys
pub value_from : {K X : Type 0} (es : List (K × X)) (x : X) → Contains (values_of es) x → (k : K) × Contains es (k, x)
value_from [] x listed = absurd (none_in x listed)
value_from {K} {X} (e ∷ es) x listed = go (λ h. value_from es x h) (head_or e.1 (values_of es) x listed)
  where
    go : (Contains (values_of es) x → (k : K) × Contains es (k, x)) → (e.1 ≡ x) ⊎ Contains (values_of es) x → (k : K) × Contains (e ∷ es) (k, x)
    go further (inl same) = (e.0, subst (λ (y : X). Contains (e ∷ es) (e.0, y)) same (in_head e es))
    go further (inr rest) = let h = further rest in (h.0, in_tail e es (h.0, x) h.1)

pub value_to : {K X : Type 0} (es : List (K × X)) (k : K) (x : X) → Contains es (k, x) → Contains (values_of es) x
value_to [] k x listed = absurd (none_in (k, x) listed)
value_to {K} {X} (e ∷ es) k x listed = go (λ h. value_to es k x h) (head_or e es (k, x) listed)
  where
    go : (Contains es (k, x) → Contains (values_of es) x) → (e ≡ (k, x)) ⊎ Contains es (k, x) → Contains (e.1 ∷ values_of es) x
    go further (inl same) = subst (Contains (e.1 ∷ values_of es)) (ap (λ (p : K × X). p.1) same) (in_head e.1 (values_of es))
    go further (inr rest) = in_tail e.1 (values_of es) x (further rest)

-- what the pattern matches has a path, and is no Took
path_matched : (pattern : List Segment) (event : EventView) → MatchesEvent pattern event → (path : List (List ℕ)) × GoesTo path event × Matches pattern path
path_matched pattern event m = go event.path refl
  where
    go : (o : Option (List (List ℕ))) → event.path ≡ o → (path : List (List ℕ)) × GoesTo path event × Matches pattern path
    go None e = absurd (subst (λ (o : Option (List (List ℕ))). IsSomeAnd o (λ path. Matches pattern path)) e m.matched)
    go (Some path) e = (path, record { not_took = m.not_took; has = e }, subst (λ (o : Option (List (List ℕ))). IsSomeAnd o (λ path. Matches pattern path)) e m.matched)

event_matched : (pattern : List Segment) (path : List (List ℕ)) (event : EventView) → GoesTo path event → Matches pattern path → MatchesEvent pattern event
event_matched pattern path event goes matched = record {
  not_took = goes.not_took;
  matched = subst (λ (o : Option (List (List ℕ))). IsSomeAnd o (λ path. Matches pattern path)) (sym goes.has) matched;
}

module _ (events : List EventView) (entries : Entries) (pattern : List Segment) (rows : AreRows events (length events) entries) where
  -- an event of a row has its path
  of_row : (key : Vec ℕ Global) (row : Row) → Contains entries (key, row) → (event : EventView) → StandsIn events row.at.items event → Contains events event × GoesTo row.path event
  of_row key row listed event (position, at, stands) =
      let s = ((rows.rows key row listed).each position at).stands in
      (contains_at events position event stands, subst (GoesTo row.path) (same_Some s.event event (sym s.stands ∙ stands)) s.goes)

  -- an event that the pattern matches stands in the row of its path
  to_row : (event : EventView) → FitsPattern events pattern event →
      (key : Vec ℕ Global) × (row : Row) × Contains entries (key, row) × Matches pattern row.path × GoesTo row.path event × StandsIn events row.at.items event
  to_row event f =
      let at = index_of events event f.listed in
      let p = path_matched pattern event f.matched in
      let within : at.0 < length events = slice_get_within events at.0 event at.1 in
      let h = rows.all at.0 p.0 within (record { event = event; stands = at.1; goes = p.1 }) in (
        h.key,
        h.row,
        h.listed,
        subst (Matches pattern) (sym h.same) p.2,
        subst (λ (path : List (List ℕ)). GoesTo path event) (sym h.same) p.1,
        (at.0, h.stands, at.1),
      )

  -- the look-up over the rows
  pub among_rows : (side : Side) (place : Place) (found : Option (Bor EventView)) → NearestOf (FitsRows events (values_of entries) pattern) side place found →
      NearestOf (FitsPattern events pattern) side place found
  among_rows side place found n =
      nearest_of_same (FitsRows events (values_of entries) pattern) (FitsPattern events pattern) side place found
      (λ event f.
      let k = value_from entries f.row f.listed in
      let h = of_row k.0 f.row k.1 event f.stands in
      record { listed = h.0; matched = event_matched pattern f.row.path event h.1 f.matched })
      (λ event f. let h = to_row event f in record { row = h.1; listed = value_to entries h.0 h.1 h.2; matched = h.3; stands = h.5 })
      n

  -- the look-up by the text of a literal pattern
  pub at_text : (text : List ℕ) (side : Side) (place : Place) (found : Option (Bor EventView)) → IsWrittenAs pattern text →
      NearestOf (FitsText events entries text) side place found → NearestOf (FitsPattern events pattern) side place found
  at_text text side place found w n = nearest_of_same (FitsText events entries text) (FitsPattern events pattern) side place found to from n
    where
      alone : (other : List (List ℕ)) → Matches pattern other → other ≡ w.path
      alone other m = (literal_alone w.path other).0 (subst (λ (p : List Segment). Matches p other) w.literal m)

      own : (other : List (List ℕ)) → other ≡ w.path → Matches pattern other
      own other same = subst (λ (p : List Segment). Matches p other) (sym w.literal) ((literal_alone w.path other).1 same)

      to : (event : EventView) → FitsText events entries text event → FitsPattern events pattern event
      to event f =
          let h = of_row f.key f.row f.listed event f.stands in
          let name = rows.named f.key f.row f.listed in
          let same : f.row.path ≡ w.path = one_kept_path f.row.path w.path name.1 w.kept (sym name.0 ∙ (f.named ∙ w.written)) in
          record { listed = h.0; matched = event_matched pattern f.row.path event h.1 (own f.row.path same) }

      from : (event : EventView) → FitsPattern events pattern event → FitsText events entries text event
      from event f =
          let h = to_row event f in
          let name = rows.named h.0 h.1 h.2 in
          record { key = h.0; row = h.1; listed = h.2; named = name.0 ∙ (ap path_text (alone h.1.path h.3) ∙ sym w.written); stands = h.5 }

-- the row of a text is found, or there is none
pub none_of_text : (events : List EventView) (entries : Entries) (text : List ℕ) (side : Side) (place : Place) → NoneNamed entries text → NoneLies (FitsText events entries text) side place
none_of_text events entries text side place none event f lies = none f.key f.row f.listed f.named

pub row_of_found : (events : List EventView) (entries : Entries) (text : List ℕ) (index : ℕ) (side : Side) (place : Place) (found : Option (Bor EventView)) (h : IsRowNamed entries index text) →
    NearestOf (StandsIn events h.row.at.items) side place found → NearestOf (FitsText events entries text) side place found
row_of_found events entries text index side place found h n =
    nearest_of_same (StandsIn events h.row.at.items) (FitsText events entries text) side place found
    (λ event stands. record { key = h.key; row = h.row; listed = contains_at entries index (h.key, h.row) h.stands; named = h.named; stands = stands })
    (λ event f. subst (λ (r : Row). StandsIn events r.at.items event) (h.one f.key f.row f.listed f.named) f.stands)
    n

one_event_at : (events : List EventView) → HaveOwnPlaces events → (event other : EventView) → Contains events event → Contains events other → event.place ≡ other.place → event ≡ other
one_event_at events apart event other listed listed' same =
    let h = index_of events event listed in
    let k = index_of events other listed' in
    let at : h.0 ≡ k.0 = apart h.0 k.0 event other h.1 k.1 same in
    same_Some event other (sym h.1 ∙ (ap (λ (n : ℕ). slice_get events n) at ∙ k.1))

-- a read
pub read_found : (events : List EventView) (pattern : List Segment) (place : Place) (found : Option (Bor EventView)) → HaveOwnPlaces events →
    NearestOf (FitsPattern events pattern) Below place found → MatchOption found (NoneBelow events place pattern) (λ event. IsLastBelow events place pattern event.now)
read_found events pattern place None apart nothing = λ event o. nothing event (record { listed = o.listed; matched = o.matched }) o.below
read_found events pattern place (Some event) apart n = record {
  found = record { listed = n.fits.listed; below = n.lies; matched = n.fits.matched };
  last = λ other o. go other o.listed (n.nearest other (record { listed = o.listed; matched = o.matched }) o.below);
}
  where
    go : (other : EventView) → Contains events other → (other.place ≡ event.now.place) ⊎ IsBefore other.place event.now.place → (other ≡ event.now) ⊎ IsBefore other.place event.now.place
    go other listed (inl same) = inl (one_event_at events apart other event.now listed n.fits.listed same)
    go other listed (inr before) = inr before

-- a wait
pub wait_found : (events : List EventView) (pattern : List Segment) (place : Place) (found : Option (Bor EventView)) → HaveOwnPlaces events →
    NearestOf (FitsPattern events pattern) Above place found → MatchOption found (NoneAbove events place (pattern ∷ [])) (λ event. IsFirstAbove events place (pattern ∷ []) event.now)
wait_found events pattern place None apart nothing = λ event o. nothing event (record { listed = o.listed; matched = (one_want pattern event).0 o.met }) o.above
wait_found events pattern place (Some event) apart n = record {
  found = record { listed = n.fits.listed; above = n.lies; met = (one_want pattern event.now).1 n.fits.matched };
  first = λ other o. go other o.listed (n.nearest other (record { listed = o.listed; matched = (one_want pattern other).0 o.met }) o.above);
}
  where
    go : (other : EventView) → Contains events other → (other.place ≡ event.now.place) ⊎ IsBefore event.now.place other.place → (other ≡ event.now) ⊎ IsBefore event.now.place other.place
    go other listed (inl same) = inl (one_event_at events apart other event.now listed n.fits.listed same)
    go other listed (inr after) = inr after
