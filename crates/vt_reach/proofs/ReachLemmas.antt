-- What the search finds is what the reach says.
use Rattle.std.proofs.Common.{◌≡◌, ◌<◌, ◌≤◌, ◌⊎◌, ◌↔◌, ℕ, zero, suc, ◌+◌, List, [], ◌∷◌, ◌++◌, length, get_or, Bool, true, false, Option, Some, None, inl, inr, refl, sym, ap, ◌∙◌, subst, arith, cond, nat_eq, not, true≢false}
use Rattle.std.specs.Prelude.{IfOk, Result, Ok, Err, slice_get, slice_index_or}
use Rattle.std.specs.List.{Contains}
use Rattle.std.specs.Bool.{MatchBool}
use Rattle.std.proofs.lemmas.Bool.{eq-eqb, eqb-true}
use Rattle.std.proofs.lemmas.List.Elements.{Contains-append_left, Contains-push, Contains-push_cases}
use Rattle.std.proofs.lemmas.List.{get_or_past}
use Rattle.std.proofs.lemmas.Option.{get_or_from_slice_get, slice_get_cases, slice_get_within}
use Rattle.vt_path.specs.declared.pattern.Segment.{Segment}
use Rattle.vt_reach.specs.declared.found.BlockUse.{BlockUse}
use Rattle.vt_reach.specs.declared.found.Row.{Row}
use Rattle.vt_reach.specs.declared.mention.Key.{Key}
use Rattle.vt_reach.specs.declared.mention.Mention.{Mention}
use Rattle.vt_reach.specs.declared.mention.Mention.TheVariants.{Writes, WritesAny, Runs}
use Rattle.vt_reach.specs.declared.reach.Built.{Built}
use Rattle.vt_reach.specs.Reach.{HasBlock, HasNoText, IsBlock, IsMet, MayWrite, Reaches, rows_from}
use Rattle.vt_reach.specs.Reach.Reaches.{mentioned, by_body}
use Rattle.vt_reach.specs.private.Bodies.{AreBodies, AreWritings, IsGraph, IsWriting, IsWritingGraph, RunsAt, RunsBody, WritesAt, list_at}
use Rattle.vt_reach.specs.private.Lists.{AreLists, AreWriters, HasSome, IsList, MeetsAt, MeetsList, MeetsMention, MeetsRow}
use Rattle.vt_reach.specs.private.Order.{AreInOrder, AreStarts, BeginsAt, BeginsNowhere, IsBlockAt, IsBuilt, IsFirst, StandsAt}
use Rattle.vt_reach.specs.private.Search.{AreWithin, IsReached, IsWithin, Leads}
use Rattle.vt_reach.specs.private.Search.Leads.{itself, further}
use Rattle.vt_reach.proofs.Places.{Fills, Picks, below, at_append_cases, at_append_left, at_append_right, at_contains, contains_at, one_some}

-- the key of a body that is run
key_run : (mentions : List Mention) (body_of : Option Key) → RunsBody mentions body_of → (key : Key) × (body_of ≡ Some key) × Contains mentions (Runs key)
key_run mentions None h = absurd h
key_run mentions (Some key) h = (key, refl, h)

run_key : (mentions : List Mention) (key : Key) (body_of : Option Key) → body_of ≡ Some key → Contains mentions (Runs key) → RunsBody mentions body_of
run_key mentions key body_of e h = subst (RunsBody mentions) (sym e) h

-- each step of the graph is a step of the reach
module _ (rows : List Row) (graph : List (List ℕ)) (is : IsGraph rows graph) where
  step_runs : (at next : ℕ) → Contains (list_at graph at) next → (block : Row) × (slice_get rows at ≡ Some block) × RunsAt rows block.mentions next
  step_runs at next c =
      elim ((slice_get_cases rows at).1) [
        | inl w ↦ (w.0, w.2, (is.bodies at w.0 w.2).each next c)
        | inr w ↦ absurd (let le = w.0 in let n = is.count in let past = get_or_past graph at [] (omega (arith, le, n)) in let lt = (subst (λ xs. Contains xs next) past c).1 in omega (arith, lt))
      ]

  pub graph_within : AreWithin graph
  graph_within at next c =
      let runs = (step_runs at next c).2 in
      let lt = slice_get_within rows next runs.body runs.there in
      let n = is.count in
      omega (arith, lt, n)

  -- what a block leads to is in its reach
  pub reaches_by : (from at : ℕ) (block other : Row) (mention : Mention) → Leads graph from at → slice_get rows from ≡ Some block → slice_get rows at ≡ Some other → Reaches rows other mention → Reaches rows block mention
  reaches_by from at block other mention (itself _) here there h = subst (λ (r : Row). Reaches rows r mention) (one_some (sym there ∙ here)) h
  reaches_by from at block other mention (further _ place _ leads c) here there h =
      let s = step_runs place at c in
      let k = key_run s.0.mentions s.2.body.body_of s.2.runs in
      let same : s.2.body ≡ other = one_some (sym s.2.there ∙ there) in
      reaches_by from place block s.0 mention leads here s.1
      (by_body s.0 k.0 s.2.body mention k.2 (at_contains rows at s.2.body s.2.there) k.1 (subst (λ (r : Row). Reaches rows r mention) (sym same) h))

  -- a step before
  leads_first : (from next at : ℕ) → Contains (list_at graph from) next → Leads graph next at → Leads graph from at
  leads_first from next at c (itself _) = further from from next (itself from) c
  leads_first from next at c (further _ place _ leads d) = further from place at (leads_first from next place c leads) d

  -- what is in the reach of a block is mentioned in a block that it leads to
  pub led_to : (block : Row) (mention : Mention) (from : ℕ) → Reaches rows block mention → slice_get rows from ≡ Some block →
      (at : ℕ) × (other : Row) × Leads graph from at × (slice_get rows at ≡ Some other) × Contains other.mentions mention
  led_to block mention from (mentioned _ _ c) here = (from, block, itself from, here, c)
  led_to block mention from (by_body _ key body _ runs among of_key h) here =
      let place = contains_at rows body among in
      let step = (is.bodies from block here).all place.0 (record { body = body; there = place.1; runs = run_key block.mentions key body.body_of of_key runs }) in
      let rest = led_to body mention place.0 h place.1 in
      (rest.0, rest.1, leads_first from place.0 rest.0 step rest.2, rest.3, rest.4)

-- what a pattern meets writes
met_writes : (pattern : List Segment) (mention : Mention) → IsMet pattern mention → IsWriting mention
met_writes pattern (Writes path) h = tt
met_writes pattern WritesAny h = tt
met_writes pattern (Runs key) h = absurd h

-- the place of a block of a text
pub place_of : (rows : List Row) (text block from at : ℕ) (found : Row) → AreInOrder rows → IsBlock rows text block found → BeginsAt rows text from → at ≡ from + block → slice_get rows at ≡ Some found
place_of rows text block from at found order is begins e =
    let p = contains_at rows found is.among in
    let n = order.numbered p.0 found p.1 in
    let same = order.alone text n.0 from (subst (λ (t : ℕ). BeginsAt rows t n.0) is.of_text n.2) begins in
    let sum = n.1 in
    let number = is.of_block in
    let there : at ≡ p.0 = (omega (arith, e, sum, number, same)) in
    ap (slice_get rows) there ∙ p.1

-- where its text begins
pub begins_of : (rows : List Row) (text block : ℕ) → AreInOrder rows → HasBlock rows text block → (from : ℕ) × BeginsAt rows text from
begins_of rows text block order (found, is) =
    let p = contains_at rows found is.among in
    let n = order.numbered p.0 found p.1 in
    (n.0, subst (λ (t : ℕ). BeginsAt rows t n.0) is.of_text n.2)

pub begins_somewhere : (rows : List Row) (text block : ℕ) → AreInOrder rows → HasBlock rows text block → BeginsNowhere rows text → ⊥
begins_somewhere rows text block order has none = let b = begins_of rows text block order has in none b.0 b.1

-- a first block of this text is where it begins
pub begins_first : (rows : List Row) (starts : List ℕ) (text at : ℕ) → AreStarts rows starts → Contains starts at → StandsAt rows text at → BeginsAt rows text at
begins_first rows starts text at s c stands =
    let first = s.each at c in
    let same : stands.block ≡ first.first = one_some (sym stands.there ∙ first.there) in
    record { first = first.first; there = first.there; of_text = ap (λ (r : Row). r.text) (sym same) ∙ stands.of_text; zeroth = first.zeroth }

pub begins_nowhere : (rows : List Row) (starts : List ℕ) (text : ℕ) → AreStarts rows starts → ((at : ℕ) → Contains starts at → StandsAt rows text at → ⊥) → BeginsNowhere rows text
begins_nowhere rows starts text s none from b =
    none from (s.all from (record { first = b.first; there = b.there; zeroth = b.zeroth })) (record { block = b.first; there = b.there; of_text = b.of_text })

pub place_within : (rows : List Row) (text block from at : ℕ) → AreInOrder rows → HasBlock rows text block → BeginsAt rows text from → at ≡ from + block → at < length rows
place_within rows text block from at order (found, is) begins e = slice_get_within rows at found (place_of rows text block from at found order is begins e)

-- what the look-up finds is what the block may write
pub may_write_is : (rows : List Row) (built : Built) (list : List ℕ) (text block from at : ℕ) (pattern : List Segment) (result : Bool) → AreInOrder rows → IsBuilt rows built → HasBlock rows text block → BeginsAt rows text from →
    at ≡ from + block → list ≡ list_at built.lists at → (result ≡ true) ↔ MeetsList rows list pattern → (result ≡ true) ↔ MayWrite rows text block pattern
may_write_is rows built list text block from at pattern result order b has begins e is (to, back) = (there, here)
  where
    lt : at < length rows
    lt = place_within rows text block from at order has begins e

    the_list : IsList built.graph built.writings at list
    the_list = subst (IsList built.graph built.writings at) (sym is) (b.lists.each at (let n = b.graph.count in let l = lt in omega (arith, l, n)))

    the_row : Row
    the_row = has.0

    at_row : slice_get rows at ≡ Some the_row
    at_row = place_of rows text block from at the_row order has.1 begins e

    there : result ≡ true → MayWrite rows text block pattern
    there t =
        let m = to t in
        let row = m.meets in
        let what = m.meets.meets in
        (the_row, what.mention, has.1, reaches_by rows built.graph b.graph at m.at the_row row.block what.mention (the_list.each m.at m.among) at_row row.there (mentioned row.block what.mention what.among), what.met)

    here : MayWrite rows text block pattern → result ≡ true
    here (found, mention, block_is, reaches, met) =
        let f = place_of rows text block from at found order block_is begins e in
        let l = led_to rows built.graph b.graph found mention at reaches f in
        let w = contains_at l.1.mentions mention l.4 in
        let writes = (b.writings.places l.0 l.1 l.3).all w.0 (record { mention = mention; there = w.1; writes = met_writes pattern mention met }) in
        back (record {
          at = l.0;
          among = the_list.all l.0 w.0 l.2 writes;
          meets = record { block = l.1; there = l.3; meets = record { mention = mention; among = l.4; met = met } };
        })

-- blocks of a text stand in order
rows_at : (text n : ℕ) (uses : List BlockUse) (k : ℕ) (row : Row) → slice_get (rows_from text n uses) k ≡ Some row → (row.text ≡ text) × (row.block ≡ n + k)
rows_at text n [] k row h = absurd (none_some h)
  where
    none_some : {A : Type 0} {x : A} → ◌≡◌ {A = Option A} None (Some x) → ⊥
    none_some h = cc
rows_at text n (found ∷ uses) zero row h = let e = one_some h in (ap (λ (r : Row). r.text) (sym e), (let b = ap (λ (r : Row). r.block) (sym e) in omega (arith, b)))
rows_at text n (found ∷ uses) (suc k) row h = let r = rows_at text (suc n) uses k row h in (r.0, (let b = r.1 in omega (arith, b)))

some_zeroth : (text n : ℕ) (uses : List BlockUse) (k : ℕ) (row : Row) → slice_get (rows_from text n uses) k ≡ Some row → (first : Row) × (slice_get (rows_from text n uses) 0 ≡ Some first)
some_zeroth text n [] k row h = absurd (none_some h)
  where
    none_some : {A : Type 0} {x : A} → ◌≡◌ {A = Option A} None (Some x) → ⊥
    none_some h = cc
some_zeroth text n (found ∷ uses) k row h = (_, refl)

pub order_none : AreInOrder []
order_none = record {
  numbered = λ at block h. absurd (none_some h);
  alone = λ text from other b c. absurd (none_some b.there);
}
  where
    none_some : {A : Type 0} {x : A} → ◌≡◌ {A = Option A} None (Some x) → ⊥
    none_some h = cc

pub order_more : (rows : List Row) (text : ℕ) (uses : List BlockUse) → AreInOrder rows → HasNoText rows text → AreInOrder (rows ++ rows_from text 0 uses)
order_more rows text uses h none = record {
  numbered =
      λ at block there.
      elim (at_append_cases rows added at block there) [
        | inl old ↦
            (let n = h.numbered at block old in
            (n.0, n.1, record { first = n.2.first; there = at_append_left rows added n.0 n.2.first n.2.there; of_text = n.2.of_text; zeroth = n.2.zeroth }))
        | inr new ↦ added_at at block new.0 new.1 new.2
      ];
  alone = alone;
}
  where
    added : List Row
    added = rows_from text 0 uses

    added_at : (at : ℕ) (block : Row) (k : ℕ) → at ≡ length rows + k → slice_get added k ≡ Some block → (from : ℕ) × (from + block.block ≡ at) × BeginsAt (rows ++ added) block.text from
    added_at at block k e there =
        let r = rows_at text 0 uses k block there in
        let z = some_zeroth text 0 uses k block there in
        let f = rows_at text 0 uses 0 z.0 z.1 in
        let number = r.1 in
        let zero_is = f.1 in (
          length rows,
          omega (arith, e, number),
          record {
            first = z.0;
            there = ap (slice_get (rows ++ added)) (let o : length rows ≡ length rows + 0 = omega arith in o) ∙ at_append_right rows added 0 z.0 z.1;
            of_text = f.0 ∙ sym r.0;
            zeroth = zero_is;
          },
        )

    Where : ℕ → ℕ → Type 0
    Where number from = ((number ≡ text) × (from ≡ length rows)) ⊎ ((number ≡ text → ⊥) × BeginsAt rows number from)

    where_is : (number from : ℕ) → BeginsAt (rows ++ added) number from → Where number from
    where_is number from b =
        elim (at_append_cases rows added from b.first b.there) [
          | inl old ↦ inr ((λ e. none b.first (at_contains rows from b.first old) (b.of_text ∙ e)), record { first = b.first; there = old; of_text = b.of_text; zeroth = b.zeroth })
          | inr new ↦
              (let r = rows_at text 0 uses new.0 b.first new.2 in
              let number_is = r.1 in let zero_is = b.zeroth in let place = new.1 in
              inl (sym b.of_text ∙ r.0, omega (arith, number_is, zero_is, place)))
        ]

    alone : (number from other : ℕ) → BeginsAt (rows ++ added) number from → BeginsAt (rows ++ added) number other → from ≡ other
    alone number from other b c = one (where_is number from b) (where_is number other c)
      where
        one : Where number from → Where number other → from ≡ other
        one (inl a) (inl d) = a.1 ∙ sym d.1
        one (inl a) (inr d) = absurd (d.0 a.0)
        one (inr a) (inl d) = absurd (a.0 d.0)
        one (inr a) (inr d) = h.alone number from other a.1 d.1

-- what was made of all blocks
pub built_is : (rows : List Row) (starts : List ℕ) (graph writings lists : List (List ℕ)) → AreStarts rows starts → IsGraph rows graph → IsWritingGraph rows writings → AreLists graph writings lists →
    IsBuilt rows (record { starts = starts; graph = graph; writings = writings; lists = lists })
built_is rows starts graph writings lists s g w l = record { starts = s; graph = g; writings = w; lists = l }

pub same_count : (rows : List Row) (graph writings : List (List ℕ)) → IsGraph rows graph → IsWritingGraph rows writings → length writings ≡ length graph
same_count rows graph writings g w = w.count ∙ sym g.count

-- the element at a place, and the list
pub list_is : (lists : List (List ℕ)) (at : ℕ) (list : List ℕ) → slice_get lists at ≡ Some list → list_at lists at ≡ list
list_is lists at list h = get_or_from_slice_get lists at list [] h

pub list_past : (lists : List (List ℕ)) (at : ℕ) → slice_get lists at ≡ None → list_at lists at ≡ []
list_past lists at h =
    elim ((slice_get_cases lists at).1) [
      | inl w ↦ absurd (let z : ◌≡◌ {A = Option (List ℕ)} None (Some w.0) = sym h ∙ w.2 in cc)
      | inr w ↦ get_or_past lists at [] w.0
    ]

-- picked places
pub are_bodies : (rows : List Row) (mentions : List Mention) (n : ℕ) (places : List ℕ) → Picks (RunsAt rows mentions) n places → length rows ≤ n → AreBodies rows mentions places
are_bodies rows mentions n places h le = record {
  each = λ k c. (h.each k c).1;
  all = λ k r. h.all k (let lt = slice_get_within rows k r.body r.there in omega (arith, lt, le)) r;
}

pub are_writings : (mentions : List Mention) (n : ℕ) (places : List ℕ) → Picks (WritesAt mentions) n places → length mentions ≤ n → AreWritings mentions places
are_writings mentions n places h le = record {
  each = λ k c. (h.each k c).1;
  all = λ k w. h.all k (let lt = slice_get_within mentions k w.mention w.there in omega (arith, lt, le)) w;
}

pub are_starts : (rows : List Row) (n : ℕ) (places : List ℕ) → Picks (IsFirst rows) n places → length rows ≤ n → AreStarts rows places
are_starts rows n places h le = record {
  each = λ k c. (h.each k c).1;
  all = λ k f. h.all k (let lt = slice_get_within rows k f.first f.there in omega (arith, lt, le)) f;
}

-- whether the element that a loop stands at is picked
pub runs_at : (rows : List Row) (mentions : List Mention) (at : ℕ) (body : Row) (picked : Bool) → slice_get rows at ≡ Some body → ((picked ≡ true) ↔ RunsBody mentions body.body_of) → (picked ≡ true) ↔ RunsAt rows mentions at
runs_at rows mentions at body picked there is = (
  λ e. record { body = body; there = there; runs = is.0 e },
  λ r. is.1 (subst (λ (b : Row). RunsBody mentions b.body_of) (one_some (sym r.there ∙ there)) r.runs),
)

pub writes_at : (mentions : List Mention) (at : ℕ) (mention : Mention) (picked : Bool) → slice_get mentions at ≡ Some mention → ((picked ≡ true) ↔ IsWriting mention) → (picked ≡ true) ↔ WritesAt mentions at
writes_at mentions at mention picked there is = (
  λ e. record { mention = mention; there = there; writes = is.0 e },
  λ w. is.1 (subst IsWriting (one_some (sym w.there ∙ there)) w.writes),
)

pub first_at : (rows : List Row) (at : ℕ) (row : Row) → slice_get rows at ≡ Some row → (nat_eq row.block 0 ≡ true) ↔ IsFirst rows at
first_at rows at row there = (
  λ e. record { first = row; there = there; zeroth = eqb-true row.block 0 e },
  λ f. eq-eqb row.block 0 (ap (λ (r : Row). r.block) (one_some (sym there ∙ f.there)) ∙ f.zeroth),
)

-- lists made for each block
pub graph_filled : (rows : List Row) (n : ℕ) (lists : List (List ℕ)) → Fills (λ at list. (block : Row) → slice_get rows at ≡ Some block → AreBodies rows block.mentions list) n lists → length rows ≡ n → IsGraph rows lists
graph_filled rows n lists h e = record { count = h.count ∙ sym e; bodies = λ at block there. h.each at (let lt = slice_get_within rows at block there in omega (arith, lt, e)) block there }

pub writings_filled : (rows : List Row) (n : ℕ) (lists : List (List ℕ)) → Fills (λ at list. (block : Row) → slice_get rows at ≡ Some block → AreWritings block.mentions list) n lists → length rows ≡ n → IsWritingGraph rows lists
writings_filled rows n lists h e = record { count = h.count ∙ sym e; places = λ at block there. h.each at (let lt = slice_get_within rows at block there in omega (arith, lt, e)) block there }

pub bodies_here : (rows : List Row) (at : ℕ) (row : Row) (list : List ℕ) → slice_get rows at ≡ Some row → AreBodies rows row.mentions list → (block : Row) → slice_get rows at ≡ Some block → AreBodies rows block.mentions list
bodies_here rows at row list there h block is = subst (λ (b : Row). AreBodies rows b.mentions list) (one_some (sym there ∙ is)) h

pub writings_here : (rows : List Row) (at : ℕ) (row : Row) (list : List ℕ) → slice_get rows at ≡ Some row → AreWritings row.mentions list → (block : Row) → slice_get rows at ≡ Some block → AreWritings block.mentions list
writings_here rows at row list there h block is = subst (λ (b : Row). AreWritings b.mentions list) (one_some (sym there ∙ is)) h

pub lists_filled : (graph writings lists : List (List ℕ)) (n : ℕ) → Fills (λ from list. IsList graph writings from list) n lists → length graph ≡ n → AreLists graph writings lists
lists_filled graph writings lists n h e = record { count = h.count ∙ sym e; each = λ from lt. h.each from (omega (arith, lt, e)) }

-- the list of a block, by a search and a choice
pub list_made : (graph writings : List (List ℕ)) (from : ℕ) (found list : List ℕ) → IsReached graph from found → AreWriters writings found list → IsList graph writings from list
list_made graph writings from found list r w = record { each = λ at c. r.each at (w.each at c); all = λ at other leads c. w.all at other (r.all at leads) c }

-- the writers among the first n of some places
pub record Writers (writings : List (List ℕ)) (places : List ℕ) (n : ℕ) (found : List ℕ) : Type 0 where
  pub each : (at : ℕ) → Contains found at → Contains places at
  pub all : (k at other : ℕ) → k < n → slice_get places k ≡ Some at → Contains (list_at writings at) other → Contains found at

pub writers_none : (writings : List (List ℕ)) (places : List ℕ) → Writers writings places 0 []
writers_none writings places = record { each = λ at c. absurd (let lt = c.1 in omega (arith, lt)); all = λ k at other lt. absurd (omega (arith, lt)) }

pub writers_next : (writings : List (List ℕ)) (places : List ℕ) (n place : ℕ) (found : List ℕ) (some : Bool) → Writers writings places n found → slice_get places n ≡ Some place → MatchBool some (HasSome (list_at writings place)) (HasSome (list_at writings place) → ⊥) →
    Writers writings places (n + 1) (cond some (found ++ place ∷ []) found)
writers_next writings places n place found true h there is = record {
  each = λ at c. elim (Contains-push_cases found place at c) [ inl old ↦ h.each at old | inr e ↦ subst (Contains places) e (at_contains places n place there) ];
  all =
      λ k at other lt here c.
      elim (below n k lt) [
        | inl old ↦ Contains-append_left found (place ∷ []) at (h.all k at other old here c)
        | inr e ↦ subst (Contains (found ++ place ∷ [])) (one_some (sym there ∙ ap (slice_get places) (sym e) ∙ here)) (Contains-push found place)
      ];
}
writers_next writings places n place found false h there is = record {
  each = h.each;
  all =
      λ k at other lt here c.
      elim (below n k lt) [
        | inl old ↦ h.all k at other old here c
        | inr e ↦ absurd (is (other, subst (λ (p : ℕ). Contains (list_at writings p) other) (one_some (sym here ∙ ap (slice_get places) e ∙ there)) c))
      ];
}

pub writers_last : (writings : List (List ℕ)) (places : List ℕ) (n : ℕ) (found : List ℕ) → Writers writings places n found → length places ≤ n → AreWriters writings places found
writers_last writings places n found h le = record {
  each = h.each;
  all = λ at other c d. let i = contains_at places at c in h.all i.0 at other (let lt = slice_get_within places i.0 at i.1 in omega (arith, lt, le)) i.1 d;
}

pub some_is : (list : List ℕ) → (list ≡ [] → ⊥) → HasSome list
some_is [] h = absurd (h refl)
some_is (x ∷ list) h = (x, at_contains (x ∷ list) 0 x refl)

pub some_none : (list : List ℕ) → list ≡ [] → HasSome list → ⊥
some_none list e (at, c) = let lt = (subst (λ xs. Contains xs at) e c).1 in omega (arith, lt)

-- met at a place
pub meets_there : (rows : List Row) (place : ℕ) (row : Row) (pattern : List Segment) (result : Bool) → slice_get rows place ≡ Some row → ((result ≡ true) ↔ MeetsRow row.mentions pattern) → (result ≡ true) ↔ MeetsAt rows place pattern
meets_there rows place row pattern result there is = (
  λ e. record { block = row; there = there; meets = is.0 e },
  λ m. is.1 (subst (λ (r : Row). MeetsRow r.mentions pattern) (one_some (sym m.there ∙ there)) m.meets),
)

pub meets_here : (mentions : List Mention) (place : ℕ) (mention : Mention) (pattern : List Segment) (result : Bool) → slice_get mentions place ≡ Some mention → ((result ≡ true) ↔ IsMet pattern mention) → (result ≡ true) ↔ MeetsMention mentions place pattern
meets_here mentions place mention pattern result there is = (
  λ e. record { mention = mention; there = there; met = is.0 e },
  λ m. is.1 (subst (IsMet pattern) (one_some (sym m.there ∙ there)) m.met),
)

pub meets_nothing : (P : Type 0) → (P → ⊥) → (false ≡ true) ↔ P
meets_nothing P none = ((λ e. let z : true ≡ false = sym e in absurd (true≢false z)), (λ p. absurd (none p)))

pub meets_something : (P : Type 0) → P → (true ≡ true) ↔ P
meets_something P p = ((λ e. p), (λ q. refl))

pub no_row : (rows : List Row) (place : ℕ) (pattern : List Segment) → slice_get rows place ≡ None → MeetsAt rows place pattern → ⊥
no_row rows place pattern h m = let z : ◌≡◌ {A = Option Row} None (Some m.block) = sym h ∙ m.there in cc

pub no_mention : (mentions : List Mention) (place : ℕ) (pattern : List Segment) → slice_get mentions place ≡ None → MeetsMention mentions place pattern → ⊥
no_mention mentions place pattern h m = let z : ◌≡◌ {A = Option Mention} None (Some m.mention) = sym h ∙ m.there in cc

-- where there is a row there is a list of its writings
pub list_there : (rows : List Row) (writings : List (List ℕ)) (place : ℕ) (row : Row) → IsWritingGraph rows writings → slice_get rows place ≡ Some row → slice_get writings place ≡ None → ⊥
list_there rows writings place row w there none =
    let lt = slice_get_within rows place row there in
    let n = w.count in
    elim ((slice_get_cases writings place).1) [
      | inl x ↦ (let z : ◌≡◌ {A = Option (List ℕ)} None (Some x.0) = sym none ∙ x.2 in cc)
      | inr x ↦ (let le = x.0 in omega (arith, lt, n, le))
    ]

pub writings_there : (rows : List Row) (writings : List (List ℕ)) (place : ℕ) (row : Row) (places : List ℕ) → IsWritingGraph rows writings → slice_get rows place ≡ Some row → slice_get writings place ≡ Some places → AreWritings row.mentions places
writings_there rows writings place row places w there is = subst (AreWritings row.mentions) (list_is writings place places is) (w.places place row there)

-- a mention that is met among the places that write
pub row_met : (mentions : List Mention) (writings : List ℕ) (place : ℕ) (pattern : List Segment) → MeetsMention mentions place pattern → MeetsRow mentions pattern
row_met mentions writings place pattern m = record { mention = m.mention; among = at_contains mentions place m.mention m.there; met = m.met }

pub row_unmet : (mentions : List Mention) (writings : List ℕ) (pattern : List Segment) → AreWritings mentions writings → ((place : ℕ) → Contains writings place → MeetsMention mentions place pattern → ⊥) → MeetsRow mentions pattern → ⊥
row_unmet mentions writings pattern w none m =
    let i = contains_at mentions m.mention m.among in
    none i.0 (w.all i.0 (record { mention = m.mention; there = i.1; writes = met_writes pattern m.mention m.met })) (record { mention = m.mention; there = i.1; met = m.met })

-- whether a text or a block is there
pub text_there : (rows : List Row) (text from : ℕ) → BeginsAt rows text from → HasBlock rows text 0
text_there rows text from b = (b.first, record { among = at_contains rows from b.first b.there; of_text = b.of_text; of_block = b.zeroth })

pub no_text_there : (rows : List Row) (text : ℕ) → AreInOrder rows → BeginsNowhere rows text → HasNoText rows text
no_text_there rows text order none found among e =
    let p = contains_at rows found among in
    let n = order.numbered p.0 found p.1 in
    none n.0 (subst (λ (t : ℕ). BeginsAt rows t n.0) e n.2)

pub begins_within : (rows : List Row) (text from : ℕ) → BeginsAt rows text from → from ≤ length rows
begins_within rows text from b = let lt = slice_get_within rows from b.first b.there in omega (arith, lt)

pub block_there : (rows : List Row) (text block from at : ℕ) (result : Bool) → AreInOrder rows → BeginsAt rows text from → at ≡ from + block → ((result ≡ true) ↔ IsBlockAt rows text block at) → (result ≡ true) ↔ HasBlock rows text block
block_there rows text block from at result order begins e is = (
  λ t. let b = is.0 t in (b.found, record { among = at_contains rows at b.found b.there; of_text = b.of_text; of_block = b.of_block }),
  λ (found, h). is.1 (record { found = found; there = place_of rows text block from at found order h begins e; of_text = h.of_text; of_block = h.of_block }),
)

pub no_block_there : (rows : List Row) (text block : ℕ) → AreInOrder rows → BeginsNowhere rows text → HasBlock rows text block → ⊥
no_block_there rows text block order none has = begins_somewhere rows text block order has none

pub past_block : (rows : List Row) (text block start : ℕ) → length rows ≤ start + block → IsBlockAt rows text block (start + block) → ⊥
past_block rows text block start le b = let lt = slice_get_within rows (start + block) b.found b.there in omega (arith, lt, le)

pub some_match : (list given : List ℕ) (empty : Bool) → list ≡ given → ((empty ≡ true) ↔ (given ≡ [])) → MatchBool (not empty) (HasSome list) (HasSome list → ⊥)
some_match list given true same is = some_none list (same ∙ is.0 refl)
some_match list given false same is = some_is list (λ e. let z : false ≡ true = is.1 (sym same ∙ e) in absurd (true≢false (sym z)))

pub match_true : (P : Type 0) (b : Bool) → MatchBool b P (P → ⊥) → b ≡ true → P
match_true P true h e = h
match_true P false h e = absurd (true≢false (sym e))

pub match_false : (P : Type 0) (b : Bool) → MatchBool b P (P → ⊥) → b ≡ false → P → ⊥
match_false P true h e = absurd (true≢false e)
match_false P false h e = h

pub list_ok : {E : Type 0} (graph writings : List (List ℕ)) (from : ℕ) (found : List ℕ) (r : Result (List ℕ) E) → IsReached graph from found → IfOk r (AreWriters writings found) → IfOk r (IsList graph writings from)
list_ok graph writings from found (Ok list) h w = list_made graph writings from found list h w
list_ok graph writings from found (Err e) h w = tt

pub no_list : (rows : List Row) (lists : List (List ℕ)) (at : ℕ) (pattern : List Segment) → slice_get lists at ≡ None → MeetsList rows (list_at lists at) pattern → ⊥
no_list rows lists at pattern h m = let lt = (subst (λ (xs : List ℕ). Contains xs m.at) (list_past lists at h) m.among).1 in omega (arith, lt)

pub no_block_row : (rows : List Row) (text block at : ℕ) → slice_get rows at ≡ None → IsBlockAt rows text block at → ⊥
no_block_row rows text block at h b = let z : ◌≡◌ {A = Option Row} None (Some b.found) = sym h ∙ b.there in cc

pub block_row : (rows : List Row) (text block at : ℕ) (row : Row) (result : Bool) → slice_get rows at ≡ Some row → ((result ≡ true) ↔ ((row.text ≡ text) × (row.block ≡ block))) → (result ≡ true) ↔ IsBlockAt rows text block at
block_row rows text block at row result there is = (
  λ e. let h = is.0 e in record { found = row; there = there; of_text = h.0; of_block = h.1 },
  λ b. let same = one_some (sym b.there ∙ there) in is.1 (ap (λ (r : Row). r.text) (sym same) ∙ b.of_text, ap (λ (r : Row). r.block) (sym same) ∙ b.of_block),
)
