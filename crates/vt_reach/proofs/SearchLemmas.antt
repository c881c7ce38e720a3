-- What a search through a graph keeps, and that it finds all.
use Rattle.std.proofs.Common.{◌≡◌, ◌<◌, ◌≤◌, ◌⊎◌, ℕ, zero, suc, ◌+◌, List, [], ◌∷◌, ◌++◌, length, get_or, take, Bool, true, false, cond, not, inl, inr, refl, sym, ap, ◌∙◌, subst, append_assoc, arith, true≢false}
use Rattle.std.proofs.lemmas.Bool.{ltb-true, ltb-false}
use Rattle.std.specs.Prelude.{◌-◌, Some, count_by, nat_lt, replicate, slice_get, slice_index_or, slice_set}
use Rattle.std.specs.List.{Contains}
use Rattle.std.proofs.lemmas.List.{append-nil, get_or-replicate, get_or_past, length-replicate, take_all, take_more}
use Rattle.std.proofs.lemmas.Option.{get_or_from_slice_get, slice_get_within}
use Rattle.std.proofs.lemmas.List.Elements.{Contains-append_cases, Contains-append_left, Contains-append_right, Contains-get_or, Contains-push, Contains-push_cases}
use Rattle.std.proofs.lemmas.List.Sums.{sum_by-set}
use Rattle.vt_reach.specs.private.Bodies.{list_at}
use Rattle.vt_reach.specs.private.Search.{Adds, AreWithin, IsMarked, IsReached, IsWithin, Leads, Searches, mark}
use Rattle.vt_reach.specs.private.Search.Leads.{itself, further}
use Rattle.vt_reach.proofs.Places.{below, at_item, at_append_back, at_append_left, at_contains, contains_at, one_some}

-- a place that is marked already
pub adds_none : (at : ℕ) (marks : List Bool) (found : List ℕ) → IsMarked found marks → mark marks at ≡ true → Adds (at ∷ []) marks marks found found
adds_none at marks found h is = record {
  rest = [];
  whole = sym (append-nil found);
  new = λ k c. absurd (let lt = c.1 in omega (arith, lt));
  all = λ k c. let e = one k c in subst (Contains found) e (h.each at is);
  marked = h;
  same = refl;
  count = refl;
}
  where
    one : (k : ℕ) → Contains (at ∷ []) k → at ≡ k
    one k c = elim (Contains-push_cases [] at k c) [ inl e ↦ absurd (let lt = e.1 in omega (arith, lt)) | inr e ↦ e ]

mark_set : (marks : List Bool) (at k : ℕ) → mark (slice_set marks at true) k ≡ true → (at ≡ k) ⊎ (mark marks k ≡ true)
mark_set [] at k h = inr h
mark_set (m ∷ marks) zero zero h = inl refl
mark_set (m ∷ marks) zero (suc k) h = inr h
mark_set (m ∷ marks) (suc at) zero h = inr h
mark_set (m ∷ marks) (suc at) (suc k) h = elim (mark_set marks at k h) [ inl e ↦ inl (ap suc e) | inr e ↦ inr e ]

mark_there : (marks : List Bool) (at : ℕ) → at < length marks → mark (slice_set marks at true) at ≡ true
mark_there [] at lt = absurd (omega (arith, lt))
mark_there (m ∷ marks) zero lt = refl
mark_there (m ∷ marks) (suc at) lt = mark_there marks at (omega (arith, lt))

mark_kept : (marks : List Bool) (at k : ℕ) → mark marks k ≡ true → mark (slice_set marks at true) k ≡ true
mark_kept [] at k h = h
mark_kept (m ∷ marks) zero zero h = refl
mark_kept (m ∷ marks) zero (suc k) h = h
mark_kept (m ∷ marks) (suc at) zero h = h
mark_kept (m ∷ marks) (suc at) (suc k) h = mark_kept marks at k h

length_set : {A : Type 0} (xs : List A) (i : ℕ) (v : A) → length (slice_set xs i v) ≡ length xs
length_set [] i v = refl
length_set (x ∷ xs) zero v = refl
length_set (x ∷ xs) (suc i) v = ap suc (length_set xs i v)

longer : {A : Type 0} (xs : List A) (x : A) → length (xs ++ x ∷ []) ≡ length xs + 1
longer [] x = refl
longer (y ∷ xs) x = let e = longer xs x in let z : suc (length (xs ++ x ∷ [])) ≡ suc (length xs) + 1 = omega (arith, e) in z

fewer : (marks : List Bool) (at : ℕ) → at < length marks → mark marks at ≡ false → count_by not (slice_set marks at true) + 1 ≡ count_by not marks
fewer marks at lt is =
    let f : Bool → ℕ = λ b. cond (not b) 1 0 in
    let s = sum_by-set f marks at true false lt in
    let g : f (get_or marks at false) ≡ 1 = ap f is in
    omega (arith, s, g)

-- a place that is marked now
pub adds_one : (at : ℕ) (marks : List Bool) (found : List ℕ) → at < length marks → IsMarked found marks → mark marks at ≡ false → Adds (at ∷ []) marks (slice_set marks at true) found (found ++ at ∷ [])
adds_one at marks found lt h is = record {
  rest = at ∷ [];
  whole = refl;
  new = λ k c. c;
  all = λ k c. Contains-append_right found (at ∷ []) k c;
  marked = record {
    each =
        λ k m.
        elim (mark_set marks at k m) [
          | inl e ↦ subst (Contains (found ++ at ∷ [])) e (Contains-push found at)
          | inr e ↦ Contains-append_left found (at ∷ []) k (h.each k e)
        ];
    all =
        λ k c.
        elim (Contains-push_cases found at k c) [
          | inl old ↦ mark_kept marks at k (h.all k old)
          | inr e ↦ subst (λ (x : ℕ). mark (slice_set marks at true) x ≡ true) e (mark_there marks at lt)
        ];
  };
  same = length_set marks at true;
  count = (let c = fewer marks at lt is in let l = longer found at in omega (arith, c, l));
}

-- nothing is asked for yet
pub adds_nothing : (marks : List Bool) (found : List ℕ) → IsMarked found marks → Adds [] marks marks found found
adds_nothing marks found h = record {
  rest = [];
  whole = sym (append-nil found);
  new = λ k c. c;
  all = λ k c. absurd (let lt = c.1 in omega (arith, lt));
  marked = h;
  same = refl;
  count = refl;
}

-- some places, and then some more
pub adds_then : (some more : List ℕ) (marks marks' marks'' : List Bool) (found found' found'' : List ℕ) → Adds some marks marks' found found' → Adds more marks' marks'' found' found'' → Adds (some ++ more) marks marks'' found found''
adds_then some more marks marks' marks'' found found' found'' g h = record {
  rest = g.rest ++ h.rest;
  whole = h.whole ∙ ap (λ xs. xs ++ h.rest) g.whole ∙ append_assoc found g.rest h.rest;
  new = λ k c. elim (Contains-append_cases g.rest h.rest k c) [ inl a ↦ Contains-append_left some more k (g.new k a) | inr b ↦ Contains-append_right some more k (h.new k b) ];
  all =
      λ k c.
      elim (Contains-append_cases some more k c) [
        | inl a ↦ subst (λ xs. Contains xs k) (sym h.whole) (Contains-append_left found' h.rest k (g.all k a))
        | inr b ↦ h.all k b
      ];
  marked = h.marked;
  same = h.same ∙ g.same;
  count = h.count ∙ g.count;
}

-- the search begins
pub searches_first : (graph : List (List ℕ)) (from : ℕ) (marks : List Bool) → from < length graph → length marks ≡ length graph → ((k : ℕ) → mark marks k ≡ false) →
    Searches graph from (from ∷ []) (slice_set marks from true) 0
searches_first graph from marks lt same clear =
    let empty : IsMarked [] marks = record { each = λ k m. absurd (true≢false (sym m ∙ clear k)); all = λ k c. absurd (let l = c.1 in omega (arith, l)) } in
    let first = adds_one from marks [] (omega (arith, lt, same)) empty (clear from) in
    record {
      each = λ k c. elim (Contains-push_cases [] from k c) [ inl e ↦ absurd (let l = e.1 in omega (arith, l)) | inr e ↦ subst (Leads graph from) e (itself from) ];
      start = Contains-push [] from;
      marked = first.marked;
      same = first.same ∙ same;
      within = omega arith;
      done = λ i at other l. absurd (omega (arith, l));
    }

-- one place more is done
pub searches_next : (graph : List (List ℕ)) (from at next : ℕ) (marks marks' : List Bool) (found found' : List ℕ) → Searches graph from found marks next → slice_get found next ≡ Some at →
    next < length found → Adds (list_at graph at) marks marks' found found' → Searches graph from found' marks' (next + 1)
searches_next graph from at next marks marks' found found' s is lt h = record {
  each =
      λ k c.
      elim (Contains-append_cases found h.rest k (subst (λ xs. Contains xs k) h.whole c)) [
        | inl old ↦ s.each k old
        | inr new ↦ further from at k (s.each at (at_contains found next at is)) (h.new k new)
      ];
  start = more from s.start;
  marked = h.marked;
  same = h.same ∙ s.same;
  within = (let l = grown in omega (arith, lt, l));
  done =
      λ i place other l there c.
      elim (below next i l) [
        | inl old ↦ more other (s.done i place other old (before i place (omega (arith, old, lt)) there) c)
        | inr e ↦
            (let one : place ≡ at = one_some (sym (before i place (omega (arith, e, lt)) there) ∙ ap (slice_get found) e ∙ is) in
            h.all other (subst (λ (p : ℕ). Contains (list_at graph p) other) one c))
      ];
}
  where
    more : (k : ℕ) → Contains found k → Contains found' k
    more k c = subst (λ xs. Contains xs k) (sym h.whole) (Contains-append_left found h.rest k c)

    before : (i place : ℕ) → i < length found → slice_get found' i ≡ Some place → slice_get found i ≡ Some place
    before i place l there = at_append_back found h.rest i place l (subst (λ xs. slice_get xs i ≡ Some place) h.whole there)

    long : {A : Type 0} (xs ys : List A) → length xs ≤ length (xs ++ ys)
    long [] ys = omega arith
    long (x ∷ xs) ys = let l = long xs ys in omega (arith, l)

    grown : length found ≤ length found'
    grown = subst (λ (xs : List ℕ). length found ≤ length xs) (sym h.whole) (long found h.rest)

-- all was found
pub searches_done : (graph : List (List ℕ)) (from next : ℕ) (marks : List Bool) (found : List ℕ) → Searches graph from found marks next → length found ≤ next → IsReached graph from found
searches_done graph from next marks found s le = record { each = s.each; all = all }
  where
    go : (start at : ℕ) → Leads graph start at → start ≡ from → Contains found at
    go start at (itself _) e = subst (Contains found) (sym e) s.start
    go start at (further _ place _ leads c) e =
        let h = go start place leads e in
        let i = contains_at found place h in
        s.done i.0 place at (let l = i.1 in let w = h.1 in within i.0 place l) i.1 c
      where
        within : (k p : ℕ) → slice_get found k ≡ Some p → k < next
        within k p is = let w = slice_get_within found k p is in omega (arith, w, le)

    all : (at : ℕ) → Leads graph from at → Contains found at
    all at leads = go from at leads refl

-- a place as it was read
pub adds_is : (place : ℕ) (marks : List Bool) (found found' : List ℕ) → place < length marks → IsMarked found marks → (value : Bool) → value ≡ get_or marks place value → value ≡ false → found' ≡ found ++ place ∷ [] →
    Adds (place ∷ []) marks (slice_set marks place true) found found'
adds_is place marks found found' lt h value read clear e =
    subst (λ (xs : List ℕ). Adds (place ∷ []) marks (slice_set marks place true) found xs) (sym e)
    (adds_one place marks found lt h (get_or_from_slice_get marks place value false (at_item marks place value lt read) ∙ clear))

-- the search begins, with marks that are all clear
all_clear : (n k : ℕ) → mark (replicate n false) k ≡ false
all_clear n k = go (nat_lt k n) refl
  where
    go : (b : Bool) → nat_lt k n ≡ b → mark (replicate n false) k ≡ false
    go true e = get_or-replicate n k false false (ltb-true k n e)
    go false e = get_or_past (replicate n false) k false (let le = ltb-false k n e in let l = length-replicate n false in omega (arith, le, l))

pub search_begins : (graph : List (List ℕ)) (from : ℕ) (marks : List Bool) (found nil : List ℕ) → from < length graph → marks ≡ replicate (length graph) false → found ≡ nil ++ from ∷ [] → nil ≡ [] →
    Searches graph from found (slice_set marks from true) 0
search_begins graph from marks found nil lt clear is none =
    subst (λ (xs : List ℕ). Searches graph from xs (slice_set marks from true) 0) (sym (is ∙ ap (λ xs. xs ++ from ∷ []) none))
    (searches_first graph from marks lt (ap length clear ∙ length-replicate (length graph) false) (λ k. ap (λ ms. mark ms k) clear ∙ all_clear (length graph) k))

longer_list : {A : Type 0} (xs ys : List A) → length xs ≤ length (xs ++ ys)
longer_list [] ys = omega arith
longer_list (x ∷ xs) ys = let l = longer_list xs ys in omega (arith, l)

pub search_smaller : (more : List ℕ) (marks marks' : List Bool) (found found' : List ℕ) (next : ℕ) → Adds more marks marks' found found' → next < length found → count_by not marks' + (length found' - (next + 1)) < count_by not marks + (length found - next)
search_smaller more marks marks' found found' next h lt =
    let same = h.count in
    let long = subst (λ (xs : List ℕ). length found ≤ length xs) (sym h.whole) (longer_list found h.rest) in
    omega (arith, same, long, lt)

pub more_within : (more : List ℕ) (marks marks' : List Bool) (i : ℕ) → IsWithin more (length marks) → length marks' ≡ length marks → i < length more → get_or more i 0 < length marks'
more_within more marks marks' i h same lt = let w = h (get_or more i 0) (Contains-get_or more i 0 lt) in omega (arith, w, same)

pub within_more : (graph : List (List ℕ)) (place : ℕ) (more : List ℕ) (marks : List Bool) → AreWithin graph → length marks ≡ length graph → list_at graph place ≡ more → IsWithin more (length marks)
within_more graph place more marks closed same e k c = let w = closed place k (subst (λ (xs : List ℕ). Contains xs k) (sym e) c) in omega (arith, w, same)

pub adds_more : (more : List ℕ) (i : ℕ) (marks marks' marks'' : List Bool) (found found' found'' : List ℕ) → Adds (take i more) marks marks' found found' → i < length more → Adds (get_or more i 0 ∷ []) marks' marks'' found' found'' →
    Adds (take (i + 1) more) marks marks'' found found''
adds_more more i marks marks' marks'' found found' found'' g lt h =
    subst (λ (xs : List ℕ). Adds xs marks marks'' found found'') (sym (take_more more i 0 lt)) (adds_then (take i more) (get_or more i 0 ∷ []) marks marks' marks'' found found' found'' g h)

pub adds_all : (more : List ℕ) (i : ℕ) (marks marks' : List Bool) (found found' : List ℕ) → Adds (take i more) marks marks' found found' → length more ≤ i → Adds more marks marks' found found'
adds_all more i marks marks' found found' g le = subst (λ (xs : List ℕ). Adds xs marks marks' found found') (take_all i more le) g
