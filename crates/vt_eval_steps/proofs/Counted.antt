-- How the next turn of a block begins, as a way: by its number, or by its item.
use Rattle.std.proofs.Common.{◌≡◌, ◌++◌, length, ◌⊎◌, inl, inr, ◌<◌, ◌≤◌, ℕ, zero, suc, ◌+◌, ℤ, pos, List, [], ◌∷◌, drop, map, Option, Some, None, refl, sym, ap, ◌∙◌, subst, append_assoc, arith}
use Rattle.std.specs.List.{range_with_len}
use Rattle.vt_value.specs.declared.value.Value.{Value}
use Rattle.vt_frac.specs.Fraction.{Fraction}
use Rattle.vt_value.specs.declared.value.Value.TheVariants.{Nil, Ring, Whole}
use Rattle.vt_value.specs.Arithmetic.{ring_within}
use Rattle.vt_run.specs.Actions.{or_fails}
use Rattle.vt_run.specs.calls.SettingCalls.{with_bpm}
use Rattle.vt_run.specs.declared.state.State.{State}
use Rattle.vt_run.specs.calls.LoopCalls.{loops, turn_begun, turns_over, unless_idle}
use Rattle.vt_run.specs.Environment.{Env}
use Rattle.vt_run.specs.Evaluation.{Ran, Spot, after, gives, tick}
use Rattle.vt_run.specs.Notes.{Notes}
use Rattle.vt_run.specs.Scopes.{BlockMeaning, runs}
use Rattle.vt_eval_steps.specs.declared.turns.Turns.{Turns}
use Rattle.vt_eval_steps.specs.declared.turns.Turns.TheVariants.{Density, Each, Loop, Map, Times}
use Rattle.vt_eval_steps.specs.Making.{Makes}
use Rattle.vt_eval_steps.specs.Turns.{Begins, count_of, loops_left, numbers_from, turn_ends, turns_run}
use Rattle.vt_eval_steps.specs.private.Beginning.{TakesItem, TakesNumber, TakesTurn}
use Rattle.vt_eval_steps.proofs.Ways.{makes_at, makes_trans}

-- behind so many numbers stands the next one
drop_range : (a k n : ℕ) → k < n → drop k (range_with_len a n) ≡ (a + k) ∷ drop (suc k) (range_with_len a n)
drop_range a k zero lt = absurd (omega (arith, lt))
drop_range a zero (suc n) lt =
    let e : a ≡ a + 0 = omega arith in
    ap (λ (x : ℕ). x ∷ range_with_len (a + 1) n) e
drop_range a (suc k) (suc n) lt =
    let e : a + 1 + k ≡ a + suc k = omega arith in
    drop_range (a + 1) k n (omega (arith, lt)) ∙ ap (λ (x : ℕ). x ∷ drop (suc k) (range_with_len (a + 1) n)) e

-- the numbers that are left begin with the next one
pub number_next : (next end : ℕ) → next < end → numbers_from next end ≡ Whole (pos next) ∷ numbers_from (next + 1) end
number_next next end lt =
    let first : 0 + next ≡ next = omega arith in
    let later : suc next ≡ next + 1 = omega arith in
    ap (λ (l : List ℕ). map (λ i. Whole (pos i)) l) (drop_range 0 next end lt)
    ∙ ap (λ (n : ℕ). Whole (pos n) ∷ numbers_from (suc next) end) first
    ∙ ap (λ (n : ℕ). Whole (pos next) ∷ numbers_from n end) later

-- the turn of the first of some values begins
pub over_begins : (item : Value) (items rest : List Value) (block : BlockMeaning) (env : Env) (at : Spot) (st : State) (go : List Value → State → Ran) (old new : Notes) → items ≡ item ∷ rest →
    ((ran : Ran) → Makes (tick ran) old ran new) →
    Makes (turns_over items block env at st go) old (after (runs block (item ∷ []) env at st) (λ value st. turns_over rest block env at st (λ values st. go (value ∷ values) st))) new
over_begins item items rest block env at st go old new is way =
    makes_trans (makes_at old (ap (λ (l : List Value). turns_over l block env at st go) is))
    (way (after (runs block (item ∷ []) env at st) (λ value st. turns_over rest block env at st (λ values st. go (value ∷ values) st))))

-- the turn of the next number of `times` begins
pub times_begins : (values : Option (List Value)) (next later : ℕ) (number : ℤ) (st : State) (old new : Notes) → TakesNumber values next (count_of number) old later new →
    Begins values (Times next number) st old (Times later number) st new
times_begins (Some values) next later number st old new h = (
  λ block env at.
      makes_trans
      (over_begins (Whole (pos next)) (numbers_from next (count_of number)) (numbers_from (next + 1) (count_of number)) block env at st (λ values st. gives (Whole number) st) old new (number_next next (count_of number) h.0) h.3)
      (makes_at new
      (ap (λ (vs : List Value). after (runs block vs env at st) (λ value end. turn_ends (Times (next + 1) number) value block env at end)) (sym h.2)
      ∙ ap (λ (k : ℕ). after (runs block values env at st) (λ value end. turn_ends (Times k number) value block env at end)) (sym h.1))),
  omega (arith, h.0, h.1),
)
times_begins None next later number st old new h = (
  λ block env at.
      subst (λ (n : Notes). Makes (turns_run (Times next number) block env at st) old (turns_run (Times later number) block env at st) n) (sym h.2)
      (makes_at old (ap (λ (k : ℕ). turns_run (Times k number) block env at st) (sym h.1))),
  inr (omega (arith, h.0, h.1)),
)

-- the turn of the next number of `density` begins
pub density_begins : (values : Option (List Value)) (next later end : ℕ) (bpm : Fraction) (st : State) (old new : Notes) → TakesNumber values next end old later new →
    Begins values (Density next end bpm) st old (Density later end bpm) st new
density_begins (Some values) next later end bpm st old new h = (
  λ block env at.
      makes_trans
      (over_begins (Whole (pos next)) (numbers_from next end) (numbers_from (next + 1) end) block env at st (λ values st. gives Nil (with_bpm bpm st)) old new (number_next next end h.0) h.3)
      (makes_at new
      (ap (λ (vs : List Value). after (runs block vs env at st) (λ value s. turn_ends (Density (next + 1) end bpm) value block env at s)) (sym h.2)
      ∙ ap (λ (k : ℕ). after (runs block values env at st) (λ value s. turn_ends (Density k end bpm) value block env at s)) (sym h.1))),
  omega (arith, h.0, h.1),
)
density_begins None next later end bpm st old new h = (
  λ block env at.
      subst (λ (n : Notes). Makes (turns_run (Density next end bpm) block env at st) old (turns_run (Density later end bpm) block env at st) n) (sym h.2)
      (makes_at old (ap (λ (k : ℕ). turns_run (Density k end bpm) block env at st) (sym h.1))),
  inr (omega (arith, h.0, h.1)),
)

-- the turn of the next item of `each` begins
pub each_begins : (values : Option (List Value)) (turns turned : Turns) (items later ring : _) (st : State) (old new : Notes) → turns ≡ Each items ring → turned ≡ Each later ring → TakesItem values items.now old later.now new →
    Begins values (Each items ring) st old (Each later ring) st new
each_begins (Some (item ∷ [])) turns turned items later ring st old new is becomes h = (
  λ block env at. over_begins item items.now later.now block env at st (λ values st. gives (Ring ring.now) st) old new h.0 h.1,
  let longer : length items.now ≡ length (item ∷ later.now) = ap length h.0 in omega (arith, longer),
)
each_begins (Some []) turns turned items later ring st old new is becomes h = absurd h
each_begins (Some (item ∷ other ∷ more)) turns turned items later ring st old new is becomes h = absurd h
each_begins None turns turned items later ring st old new is becomes h = (
  λ block env at.
      subst (λ (n : Notes). Makes (turns_run (Each items ring) block env at st) old (turns_run (Each later ring) block env at st) n) (sym h.2)
      (makes_at old (ap (λ (l : List Value). turns_over l block env at st (λ values st. gives (Ring ring.now) st)) (h.0 ∙ sym h.1))),
  inr (ap length h.1),
)

-- the turn of the next item of `map` begins
pub map_begins : (values : Option (List Value)) (turns turned : Turns) (items later : _) (made : List Value) (st : State) (old new : Notes) → turns ≡ Map items made → turned ≡ Map later made → TakesItem values items.now old later.now new →
    Begins values (Map items made) st old (Map later made) st new
map_begins (Some (item ∷ [])) turns turned items later made st old new is becomes h = (
  λ block env at.
      makes_trans (over_begins item items.now later.now block env at st (λ all st. or_fails (ring_within (made ++ all)) env at st (λ ring. gives ring st)) old new h.0 h.1)
      (makes_at new
      (ap (after (runs block (item ∷ []) env at st))
      (λ i value s. turns_over later.now block env at s (λ all s. or_fails (ring_within (sym (append_assoc made (value ∷ []) all) i)) env at s (λ ring. gives ring s))))),
  let longer : length items.now ≡ length (item ∷ later.now) = ap length h.0 in omega (arith, longer),
)
map_begins (Some []) turns turned items later made st old new is becomes h = absurd h
map_begins (Some (item ∷ other ∷ more)) turns turned items later made st old new is becomes h = absurd h
map_begins None turns turned items later made st old new is becomes h = (
  λ block env at.
      subst (λ (n : Notes). Makes (turns_run (Map items made) block env at st) old (turns_run (Map later made) block env at st) n) (sym h.2)
      (makes_at old (ap (λ (l : List Value). turns_over l block env at st (λ all st. or_fails (ring_within (made ++ all)) env at st (λ ring. gives ring st))) (h.0 ∙ sym h.1))),
  inr (ap length h.1),
)

-- the next turn of a loop begins
pub loop_begins : (values : Option (List Value)) (left later : Option ℕ) (st end : State) (old new : Notes) → TakesTurn values left st old later end new →
    Begins values (Loop left) st old (Loop later) end new
loop_begins (Some []) left later st end old new h = (
  λ block env at.
      let more : loops_left later + 1 ≡ suc (loops_left later) = omega arith in
      makes_trans (makes_at old (ap (λ (n : ℕ). loops n block env at st) (h.0 ∙ more)))
      (subst (λ (s : State). Makes (loops (suc (loops_left later)) block env at st) old (after (runs block [] env at s) (λ value e. turn_ends (Loop later) value block env at e)) new) (sym h.1)
      (h.2 (after (runs block [] env at (turn_begun st)) (λ value e. unless_idle env at e (loops (loops_left later) block env at))))),
  let fewer : loops_left left ≡ loops_left later + 1 = h.0 in omega (arith, fewer),
)
loop_begins (Some (value ∷ values)) left later st end old new h = absurd h
loop_begins None left later st end old new h = (
  λ block env at.
      subst (λ (n : Notes). Makes (turns_run (Loop left) block env at st) old (turns_run (Loop later) block env at end) n) (sym h.3)
      (makes_at old (ap (λ (l : Option ℕ). turns_run (Loop l) block env at st) (h.0 ∙ sym h.1) ∙ ap (λ (s : State). turns_run (Loop later) block env at s) (sym h.2))),
  inr (ap loops_left h.1),
)

-- the same of what is equal
pub begins_at : (values : Option (List Value)) (turns turns2 turned : Turns) (st end end2 : State) (old new : Notes) → turns ≡ turns2 → end ≡ end2 → Begins values turns2 st old turned end2 new → Begins values turns st old turned end new
begins_at values turns turns2 turned st end end2 old new is after_is h =
    subst (λ (t : Turns). Begins values t st old turned end new) (sym is) (subst (λ (s : State). Begins values turns2 st old turned s new) (sym after_is) h)
