-- The trace of one thread: its places, which rise from step to step, and how it is left.
use Rattle.std.proofs.Common.{◌≡◌, ℕ, ◌+◌, ◌<◌, ◌≤◌, List, [], ◌∷◌, ◌++◌, length, take, refl, sym, ◌∙◌, ap, inl, inr, arith, Bool, true, false, add-zero, add-suc, ◌-◌, zero, suc, subst, Option, Some, None}
use Rattle.std.specs.Prelude.{slice_get, cond, is_some, not, ◌&&◌, ◌||◌}
use Rattle.std.specs.List.{list_any}
use Rattle.vt_ring.specs.Exact.{is_positive}
use Rattle.std.proofs.lemmas.Option.{slice_get_cases}
use Rattle.std.proofs.lemmas.List.{take_all}
use Rattle.vt_event.specs.Event.{EventView}
use Rattle.vt_event.specs.declared.place.Place.{Place}
use Rattle.vt_frac.specs.Arithmetic.{sum_of}
use Rattle.vt_frac.specs.Fraction.{Fraction}
use Rattle.vt_path.specs.declared.pattern.Segment.{Segment}
use Rattle.vt_run.specs.Actions.{is_past}
use Rattle.vt_run.specs.Standing.{action_place, Asks, Asleep, next_step, Over, Ready, Stance, Waits}
use Rattle.vt_run.specs.declared.action.Action.{Action}
use Rattle.vt_run.specs.declared.action.Action.TheVariants.{Emit, End, Read, Rest, Spawn, Wait}
use Rattle.vt_run.specs.declared.action.Answer.{Answer}
use Rattle.vt_run.specs.declared.action.Answer.TheVariants.{Found, Nothing}
use Rattle.vt_run.specs.declared.start.Start.{Start}
use Rattle.vt_meaning.specs.LookUps.{is_took, matches_event, matches_some}
use Rattle.vt_meaning.specs.Places.{Before, Upto}
use Rattle.vt_meaning.specs.ThreadLaws.{IsLawful}
use Rattle.vt_meaning.specs.ThreadMeaning.{meets, patterns_of, ThreadMeaning, Wants}
use Rattle.vt_meaning.specs.Traces.{after_action, after_rest, after_step, after_wait, Entry, MovesOn, rested, stance_in, standing, stands, Thread, trace, wait_for, waiting, wake, woken_by}
use Rattle.vt_meaning.proofs.Order.{before-next_step, before-trans, before-upto, before-wake, before_upto, upto-trans, upto_same}
use Rattle.vt_meaning.proofs.Lists.{entry_at, take_one_more}

pub stands-append : (u : Fraction) (s : Stance) (entries : List Entry) (entry : Entry) → stands u s (entries ++ entry ∷ []) ≡ after_step u (stands u s entries) entry.step.action entry.answer
stands-append u s [] entry = refl
stands-append u s (y ∷ entries) entry = stands-append u (after_step u s y.step.action y.answer) entries entry

-- one step moves the stance as its action says
pub standing_more : (m : ThreadMeaning) (start : Start) (entries : List Entry) (i : ℕ) (entry : Entry) → slice_get entries i ≡ Some entry →
    standing m start (take (suc i) entries) ≡ after_step m.until (standing m start (take i entries)) entry.step.action entry.answer
unfolding standing
standing_more m start entries i entry e = rw (take_one_more entries i entry e) (stands-append m.until (Ready start.place) (take i entries) entry)

-- after so many steps it is ready at this place
abbrev pub At : ThreadMeaning → Thread → ℕ → Place → Type 0
At m t i p = standing m t.start (take i (trace m t)) ≡ Ready p

-- an answered wait was answered by an event above it, and with a path, and a rest moves on
pub record IsSane (m : ThreadMeaning) (thread : Thread) : Type 0 where
  pub woken : (i : ℕ) (entry : Entry) (place : Place) (wants : Wants) (answer : Answer) → slice_get (trace m thread) i ≡ Some entry → entry.step.action ≡ Some (wait_for place wants) → entry.answer ≡ Some answer → (event : EventView) × (answer ≡ Found event) × Before place event.place
  pub rests : (i : ℕ) (entry : Entry) (place : Place) (n : Fraction) → slice_get (trace m thread) i ≡ Some entry → entry.step.action ≡ Some (Rest place n) → MovesOn place n

abbrev Moved : Option Action → Place → Place → Type 0
Moved None p r = p ≡ r
Moved (Some a) p r = Before p r

-- a stance is at one place
pub one_ready : (place r : Place) → Ready place ≡ Ready r → place ≡ r
one_ready place r h = cc

moved : (u : Fraction) (place r : Place) (act : Option Action) (ans : Option Answer) →
    ((a : Action) → act ≡ Some a → action_place a ≡ place) →
    ((b : Place) (wants : Wants) (a : Answer) → act ≡ Some (wait_for b wants) → ans ≡ Some a → (event : EventView) × (a ≡ Found event) × Before b event.place) →
    ((b : Place) (n : Fraction) → act ≡ Some (Rest b n) → MovesOn b n) →
    after_step u (Ready place) act ans ≡ Ready r → Moved act place r
moved u place r None ans here woken rests h = one_ready place r h
moved u place r (Some (Emit event)) ans here woken rests h =
    subst (λ wants. Before wants r) (here _ refl) (subst (Before event.place) (one_ready (next_step event.place) r h) (before-next_step event.place))
moved u place r (Some (Rest b n)) ans here woken rests h = rest (is_past u (sum_of b.time n)) h
  where
    rest : (c : Bool) → after_rest c b n ≡ Ready r → Before place r
    rest false k = subst (λ wants. Before wants r) (here _ refl) (subst (Before b) (one_ready (rested b n) r k) (rests b n refl).above)
    rest true k = absurd (let z : Asleep (sum_of b.time n) ≡ Ready r = k in cc)
moved u place r (Some (Read b q)) None here woken rests h = absurd (let z : Asks b q ≡ Ready r = h in cc)
moved u place r (Some (Read b q)) (Some a) here woken rests h =
    subst (λ wants. Before wants r) (here _ refl) (subst (Before b) (one_ready (next_step b) r h) (before-next_step b))
moved u place r (Some (Wait b q c)) None here woken rests h = absurd (let z : Waits b q c ≡ Ready r = h in cc)
moved u place r (Some (Wait b q c)) (Some Nothing) here woken rests h = absurd (let z : Over ≡ Ready r = h in cc)
moved u place r (Some (Wait b q c)) (Some (Found event)) here woken rests h = wakes (is_some event.path) h
  where
    wakes : (d : Bool) → woken_by event d b ≡ Ready r → Before place r
    wakes true k =
        let wants = woken b (record { pattern = q; stop = c }) (Found event) refl refl in
        let same : event ≡ wants.0 = cc in
        let up : Before b event.place = subst (λ f. Before b f.place) (sym same) wants.2 in
        subst (λ wants. Before wants r) (here _ refl) (subst (Before b) (one_ready (wake event b) r k) (before-trans b event.place (wake event b) up (before-wake event b)))
    wakes false k = absurd (let z : Over ≡ Ready r = k in cc)
moved u place r (Some (Spawn b s)) ans here woken rests h =
    subst (λ wants. Before wants r) (here _ refl) (subst (Before b) (one_ready (next_step b) r h) (before-next_step b))
moved u place r (Some (End b reason)) ans here woken rests h = absurd (let z : Over ≡ Ready r = h in cc)

pub moved_upto : (act : Option Action) (place r : Place) → Moved act place r → Upto place r
moved_upto None place r h = upto_same place r h
moved_upto (Some a) place r h = before_upto place r h

-- no step leads down, and one with an action leads up
pub one_up : (m : ThreadMeaning) (law : IsLawful m) (thread : Thread) → IsSane m thread → (i : ℕ) (entry : Entry) (place r : Place) →
    slice_get (trace m thread) i ≡ Some entry → At m thread i place → At m thread (suc i) r → Moved entry.step.action place r
one_up m law thread sane i entry place r e a b =
    let here = law.placed thread i entry e in
    let same : here.0 ≡ place = cc (here.1, a) in
    moved m.until place r entry.step.action entry.answer (λ c k. here.2 c k ∙ same) (λ c q ans k l. sane.woken i entry c q ans e k l) (λ c n k. sane.rests i entry c n e k)
    (subst (λ s. after_step m.until s entry.step.action entry.answer ≡ Ready r) a (sym (standing_more m thread.start (trace m thread) i entry e) ∙ b))

pub rises : (m : ThreadMeaning) (law : IsLawful m) (thread : Thread) → IsSane m thread → (d i : ℕ) (place r : Place) →
    At m thread i place → At m thread (i + d) r → i + d ≤ length (trace m thread) → Upto place r
rises m law thread sane zero i place r a b le =
    let b' : At m thread i r = rw add-zero at b in
    upto_same place r (let z : Ready place ≡ Ready r = sym a ∙ b' in cc)
rises m law thread sane (suc d) i place r a b le =
    let x = entry_at (trace m thread) (i + d) (omega arith) in
    let here = law.placed thread (i + d) x.0 x.1 in
    let b' : At m thread (suc (i + d)) r = rw add-suc at b in
    upto-trans place here.0 r (rises m law thread sane d i place here.0 a here.1 (omega arith))
    (moved_upto _ here.0 r (one_up m law thread sane (i + d) x.0 here.0 r x.1 here.1 b'))

-- so what it did is below where it is later
pub rises_after : (m : ThreadMeaning) (law : IsLawful m) (thread : Thread) → IsSane m thread → (i k : ℕ) (entry : Entry) (c : Action) (place : Place) →
    slice_get (trace m thread) i ≡ Some entry → entry.step.action ≡ Some c → i < k → At m thread k place → k ≤ length (trace m thread) → Before (action_place c) place
rises_after m law thread sane i k entry c place e act lt b le = go (k - suc i) (omega arith)
  where
    here : (p : Place) × (standing m thread.start (take i (trace m thread)) ≡ Ready p) × ((a : Action) → entry.step.action ≡ Some a → action_place a ≡ p)
    here = law.placed thread i entry e

    first : (r' : Place) → At m thread (suc i) r' → Before (action_place c) r'
    first r' b' =
        let mv = one_up m law thread sane i entry here.0 r' e here.1 b' in
        let mv' : Before here.0 r' = subst (λ o. Moved o here.0 r') act mv in
        subst (λ w. Before w r') (sym (here.2 c act)) mv'

    go : (d : ℕ) → suc i + d ≡ k → Before (action_place c) place
    go zero q = first place (subst (λ j. At m thread j place) (sym q ∙ add-zero (suc i)) b)
    go (suc d) q =
        let y = entry_at (trace m thread) (suc i) (omega arith) in
        let there = law.placed thread (suc i) y.0 y.1 in
        before-upto (action_place c) there.0 place (first there.0 there.1)
        (rises m law thread sane (suc d) (suc i) there.0 place there.1 (subst (λ j. At m thread j place) (sym q) b) (omega arith))

pub at_start : (m : ThreadMeaning) (thread : Thread) → At m thread 0 thread.start.place
unfolding standing
at_start m thread = refl

-- more steps than there are are all of them
pub stand_at : (m : ThreadMeaning) (thread : Thread) (k : ℕ) → length (trace m thread) ≤ k → stance_in m thread ≡ standing m thread.start (take k (trace m thread))
stand_at m thread k le = ap (standing m thread.start) (sym (take_all k (trace m thread) le))

-- the last action of a thread that is not ready
pub last_open : (m : ThreadMeaning) (law : IsLawful m) (thread : Thread) (i : ℕ) (entry : Entry) (act : Action) → slice_get (trace m thread) i ≡ Some entry →
    entry.step.action ≡ Some act → entry.answer ≡ None → ((place : Place) → after_action m.until act None ≡ Ready place → ⊥) →
    stance_in m thread ≡ after_action m.until act None
last_open m law thread i entry act e is none stuck =
    let more : standing m thread.start (take (suc i) (trace m thread)) ≡ after_action m.until act None =
    standing_more m thread.start (trace m thread) i entry e
    ∙ ap (λ o. after_step m.until (standing m thread.start (take i (trace m thread))) o entry.answer) is
    ∙ ap (λ o. after_action m.until act o) none in
    elim ((slice_get_cases (trace m thread) (suc i)).1) [
      | inl w ↦
          (let here = law.placed thread (suc i) w.0 w.2 in
          absurd (stuck here.0 (sym more ∙ here.1)))
      | inr w ↦ stand_at m thread (suc i) w.0 ∙ more
    ]

pub at_nothing : (m : ThreadMeaning) (start : Start) → standing m start [] ≡ Ready start.place
unfolding standing
at_nothing m start = refl

-- a place has the list of its thread
abbrev pub InThread : List ℕ → Stance → Type 0
InThread l (Ready p) = p.thread ≡ l
InThread l (Asks p q) = p.thread ≡ l
InThread l (Waits p q c) = p.thread ≡ l
InThread l (Asleep n) = Unit {0}
InThread l Over = Unit {0}

in_thread_rest : (l : List ℕ) (place : Place) (n : Fraction) (positive : Bool) → place.thread ≡ l → (cond positive (record place { time = sum_of place.time n; micro = 0 }) place).thread ≡ l
in_thread_rest l place n true h = h
in_thread_rest l place n false h = h

in_thread_step : (u : Fraction) (l : List ℕ) (place : Place) (act : Option Action) (ans : Option Answer) →
    ((a : Action) → act ≡ Some a → action_place a ≡ place) → place.thread ≡ l → InThread l (after_step u (Ready place) act ans)
in_thread_step u l place None ans here h = h
in_thread_step u l place (Some (Emit e)) ans here h = ap (λ w. w.thread) (here _ refl) ∙ h
in_thread_step u l place (Some (Rest b n)) ans here h = rest (is_past u (sum_of b.time n))
  where
    rest : (c : Bool) → InThread l (after_rest c b n)
    rest false = in_thread_rest l b n (is_positive n) (ap (λ w. w.thread) (here _ refl) ∙ h)
    rest true = tt
in_thread_step u l place (Some (Read b q)) None here h = ap (λ w. w.thread) (here _ refl) ∙ h
in_thread_step u l place (Some (Read b q)) (Some a) here h = ap (λ w. w.thread) (here _ refl) ∙ h
in_thread_step u l place (Some (Wait b q c)) None here h = ap (λ w. w.thread) (here _ refl) ∙ h
in_thread_step u l place (Some (Wait b q c)) (Some Nothing) here h = tt
in_thread_step u l place (Some (Wait b q c)) (Some (Found e)) here h = wakes (is_some e.path)
  where
    wakes : (d : Bool) → InThread l (woken_by e d b)
    wakes true = ap (λ w. w.thread) (here _ refl) ∙ h
    wakes false = tt
in_thread_step u l place (Some (Spawn b s)) ans here h = ap (λ w. w.thread) (here _ refl) ∙ h
in_thread_step u l place (Some (End b reason)) ans here h = tt

pub in_thread : (m : ThreadMeaning) (law : IsLawful m) (thread : Thread) (i : ℕ) → i ≤ length (trace m thread) →
    InThread thread.start.place.thread (standing m thread.start (take i (trace m thread)))
in_thread m law thread zero le = subst (InThread thread.start.place.thread) (sym (at_start m thread)) refl
in_thread m law thread (suc i) le =
    let x = entry_at (trace m thread) i (omega arith) in
    let here = law.placed thread i x.0 x.1 in
    let before : here.0.thread ≡ thread.start.place.thread = subst (InThread thread.start.place.thread) here.1 (in_thread m law thread i (omega arith)) in
    subst (InThread thread.start.place.thread)
    (ap (λ s. after_step m.until s x.0.step.action x.0.answer) (sym here.1) ∙ sym (standing_more m thread.start (trace m thread) i x.0 x.1))
    (in_thread_step m.until thread.start.place.thread here.0 x.0.step.action x.0.answer here.2 before)

pub stand_in_thread : (m : ThreadMeaning) (law : IsLawful m) (thread : Thread) → InThread thread.start.place.thread (stance_in m thread)
stand_in_thread m law thread =
    subst (InThread thread.start.place.thread) (sym (stand_at m thread (length (trace m thread)) (omega arith))) (in_thread m law thread (length (trace m thread)) (omega arith))

pub asks_by : (u : Fraction) (place p : Place) (pattern : List Segment) (act : Option Action) (ans : Option Answer) → after_step u (Ready place) act ans ≡ Asks p pattern → (act ≡ Some (Read p pattern)) × (ans ≡ None)
asks_by u place p pattern None ans h = absurd (let z : Ready place ≡ Asks p pattern = h in cc)
asks_by u place p pattern (Some (Emit e)) ans h = absurd (let z : Ready (next_step e.place) ≡ Asks p pattern = h in cc)
asks_by u place p pattern (Some (Rest b n)) ans h = rest (is_past u (sum_of b.time n)) h
  where
    rest : (c : Bool) → after_rest c b n ≡ Asks p pattern → (◌≡◌ {A = Option Action} (Some (Rest b n)) (Some (Read p pattern))) × (ans ≡ None)
    rest false k = absurd (let z : Ready (rested b n) ≡ Asks p pattern = k in cc)
    rest true k = absurd (let z : Asleep (sum_of b.time n) ≡ Asks p pattern = k in cc)
asks_by u place p pattern (Some (Read b c)) None h = let z : Asks b c ≡ Asks p pattern = h in ((cc), refl)
asks_by u place p pattern (Some (Read b c)) (Some a) h = absurd (let z : Ready (next_step b) ≡ Asks p pattern = h in cc)
asks_by u place p pattern (Some (Wait b c d)) None h = absurd (let z : Waits b c d ≡ Asks p pattern = h in cc)
asks_by u place p pattern (Some (Wait b c d)) (Some Nothing) h = absurd (let z : Over ≡ Asks p pattern = h in cc)
asks_by u place p pattern (Some (Wait b c d)) (Some (Found e)) h = wakes (is_some e.path) h
  where
    wakes : (awake : Bool) → woken_by e awake b ≡ Asks p pattern → (◌≡◌ {A = Option Action} (Some (Wait b c d)) (Some (Read p pattern))) × (◌≡◌ {A = Option Answer} (Some (Found e)) None)
    wakes true k = absurd (let z : Ready (wake e b) ≡ Asks p pattern = k in cc)
    wakes false k = absurd (let z : Over ≡ Asks p pattern = k in cc)
asks_by u place p pattern (Some (Spawn b s)) ans h = absurd (let z : Ready (next_step b) ≡ Asks p pattern = h in cc)
asks_by u place p pattern (Some (End b reason)) ans h = absurd (let z : Over ≡ Asks p pattern = h in cc)

-- what a stance that waits says
one_wait : (place p : Place) (pattern wanted : List Segment) (d e : Option (List Segment)) → Waits place pattern d ≡ Waits p wanted e → ◌≡◌ {A = Option Action} (Some (Wait place pattern d)) (Some (Wait p wanted e))
one_wait place p pattern wanted d e h = cc

pub waits_by : (u : Fraction) (place p : Place) (wants : Wants) (act : Option Action) (ans : Option Answer) → after_step u (Ready place) act ans ≡ waiting p wants → (act ≡ Some (wait_for p wants)) × (ans ≡ None)
waits_by u place p wants None ans h = absurd (let z : Ready place ≡ Waits p wants.pattern wants.stop = h in cc)
waits_by u place p wants (Some (Emit e)) ans h = absurd (let z : Ready (next_step e.place) ≡ Waits p wants.pattern wants.stop = h in cc)
waits_by u place p wants (Some (Rest b n)) ans h = rest (is_past u (sum_of b.time n)) h
  where
    rest : (c : Bool) → after_rest c b n ≡ waiting p wants → (◌≡◌ {A = Option Action} (Some (Rest b n)) (Some (wait_for p wants))) × (ans ≡ None)
    rest false k = absurd (let z : Ready (rested b n) ≡ Waits p wants.pattern wants.stop = k in cc)
    rest true k = absurd (let z : Asleep (sum_of b.time n) ≡ Waits p wants.pattern wants.stop = k in cc)
waits_by u place p wants (Some (Wait b c d)) None h = (one_wait b p c wants.pattern d wants.stop h, refl)
waits_by u place p wants (Some (Wait b c d)) (Some Nothing) h = absurd (let z : Over ≡ Waits p wants.pattern wants.stop = h in cc)
waits_by u place p wants (Some (Wait b c d)) (Some (Found e)) h = wakes (is_some e.path) h
  where
    wakes : (awake : Bool) → woken_by e awake b ≡ waiting p wants → (◌≡◌ {A = Option Action} (Some (Wait b c d)) (Some (wait_for p wants))) × (◌≡◌ {A = Option Answer} (Some (Found e)) None)
    wakes true k = absurd (let z : Ready (wake e b) ≡ Waits p wants.pattern wants.stop = k in cc)
    wakes false k = absurd (let z : Over ≡ Waits p wants.pattern wants.stop = k in cc)
waits_by u place p wants (Some (Read b c)) None h = absurd (let z : Asks b c ≡ Waits p wants.pattern wants.stop = h in cc)
waits_by u place p wants (Some (Read b c)) (Some a) h = absurd (let z : Ready (next_step b) ≡ Waits p wants.pattern wants.stop = h in cc)
waits_by u place p wants (Some (Spawn b s)) ans h = absurd (let z : Ready (next_step b) ≡ Waits p wants.pattern wants.stop = h in cc)
waits_by u place p wants (Some (End b reason)) ans h = absurd (let z : Over ≡ Waits p wants.pattern wants.stop = h in cc)

-- a trace that is not empty, as its last entry and those before
pub record Last (m : ThreadMeaning) (thread : Thread) (s : Stance) : Type 0 where
  pub before : List Entry
  pub entry : Entry
  pub whole : trace m thread ≡ before ++ entry ∷ []
  pub place : Place
  pub stood : standing m thread.start before ≡ Ready place
  pub after : after_step m.until (Ready place) entry.step.action entry.answer ≡ s

pub last_step : (m : ThreadMeaning) (law : IsLawful m) (thread : Thread) (s : Stance) → stance_in m thread ≡ s → ((place : Place) → s ≡ Ready place → ⊥) → Last m thread s
last_step m law thread s h stuck = go (length (trace m thread)) refl
  where
    go : (n : ℕ) → length (trace m thread) ≡ n → Last m thread s
    go zero e =
        let start : stance_in m thread ≡ Ready thread.start.place = stand_at m thread 0 (omega arith) ∙ at_start m thread in
        absurd (stuck thread.start.place (sym h ∙ start))
    go (suc k) e =
        let x = entry_at (trace m thread) k (omega arith) in
        let here = law.placed thread k x.0 x.1 in
        record {
          before = take k (trace m thread);
          entry = x.0;
          whole = sym (take_all (suc k) (trace m thread) (omega arith)) ∙ take_one_more (trace m thread) k x.0 x.1;
          place = here.0;
          stood = here.1;
          after =
              ap (λ w. after_step m.until w x.0.step.action x.0.answer) (sym here.1) ∙ sym (standing_more m thread.start (trace m thread) k x.0 x.1)
              ∙ sym (stand_at m thread (suc k) (omega arith)) ∙ h;
        }

pub last_read : (m : ThreadMeaning) (thread : Thread) (place : Place) (pattern : List Segment) → (l : Last m thread (Asks place pattern)) → (l.entry.step.action ≡ Some (Read place pattern)) × (l.entry.answer ≡ None)
last_read m thread place pattern l = asks_by m.until l.place place pattern l.entry.step.action l.entry.answer l.after

pub last_wait : (m : ThreadMeaning) (thread : Thread) (place : Place) (wants : Wants) → (l : Last m thread (waiting place wants)) → (l.entry.step.action ≡ Some (wait_for place wants)) × (l.entry.answer ≡ None)
last_wait m thread place wants l = waits_by m.until l.place place wants l.entry.step.action l.entry.answer l.after

pub standing_snoc : (m : ThreadMeaning) (start : Start) (entries : List Entry) (entry : Entry) → standing m start (entries ++ entry ∷ []) ≡ after_step m.until (standing m start entries) entry.step.action entry.answer
unfolding standing
standing_snoc m start entries entry = stands-append m.until (Ready start.place) entries entry

any_some : (f : List Segment → Bool) (qs : List (List Segment)) → list_any f qs ≡ true → (pattern : List Segment) × (f pattern ≡ true)
any_some f [] h = absurd (let z : false ≡ true = h in cc)
any_some f (pattern ∷ qs) h = go (f pattern) refl h (any_some f qs)
  where
    go : (b : Bool) → f pattern ≡ b → (b || list_any f qs) ≡ true → (list_any f qs ≡ true → (pattern : List Segment) × (f pattern ≡ true)) → (pattern : List Segment) × (f pattern ≡ true)
    go true e h rest = (pattern, e)
    go false e h rest = rest h

-- an event that is wanted matches one of the patterns
pub met_pattern : (wants : Wants) (event : EventView) → meets wants event ≡ true → (pattern : List Segment) × (matches_event pattern event ≡ true)
unfolding meets
met_pattern wants event h = any_some (λ pattern. matches_event pattern event) (patterns_of wants) h

-- .. and so it has a path
matched_path : (pattern : List Segment) (event : EventView) → matches_event pattern event ≡ true → is_some event.path ≡ true
unfolding matches_event
matched_path pattern event h = go (not (is_took event.kind)) event.path h
  where
    go : (b : Bool) (path : Option (List (List ℕ))) → (b && matches_some pattern path) ≡ true → is_some path ≡ true
    go true None h = absurd (let z : false ≡ true = h in cc)
    go true (Some path) h = refl
    go false path h = absurd (let z : false ≡ true = h in cc)

-- so it wakes the thread that waits
pub after_met : (place : Place) (wants : Wants) (event : EventView) → meets wants event ≡ true → after_wait place wants (Some (Found event)) ≡ Ready (wake event place)
after_met place wants event h = let q = met_pattern wants event h in ap (λ b. woken_by event b place) (matched_path q.0 event q.1)
