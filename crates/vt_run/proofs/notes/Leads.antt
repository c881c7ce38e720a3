-- How one place of an evaluation leads to another.
use Rattle.std.proofs.Common.{◌≡◌, ◌<◌, ◌≤◌, ℕ, zero, suc, ◌+◌, ◌-◌, ◌^◌, min, List, [], ◌∷◌, ◌++◌, Bool, true, false, Option, Some, None, refl, sym, ap, ◌∙◌, subst, arith, append-nil, true≢false, lit≤}
use Rattle.std.specs.Prelude.{◌||◌, IsTrue, is_some, nat_le, slice_get}
use Rattle.std.proofs.lemmas.Bool.Decides.{nat_tests}
use Rattle.vt_path.specs.declared.pattern.Segment.{Segment}
use Rattle.vt_run.specs.declared.action.Action.{Action}
use Rattle.vt_run.specs.declared.action.Action.TheVariants.{Read, Wait}
use Rattle.vt_event.specs.Event.{EventView}
use Rattle.vt_run.specs.declared.action.Answer.{Answer}
use Rattle.vt_run.specs.declared.piece.Stop.{Stop}
use Rattle.vt_run.specs.declared.state.State.{State}
use Rattle.vt_run.specs.Actions.{acted, answered, place_of, reads, stop_pattern, waits, wakes_by}
use Rattle.vt_run.specs.Environment.{Env}
use Rattle.vt_run.specs.Leads.{Leads, LeadsOn}
use Rattle.vt_run.specs.Notes.{IsOpen, IsOver, Notes, capped, finished, kept_at, note, noted, seen, unless_over, unless_skipped, unless_stopped}
use Rattle.vt_run.specs.Pieces.{listed, or_more, stop_of}
use Rattle.vt_run.specs.Evaluation.{Left, Next, Ran, Step, after, does, goes_on, halts, step}
use Rattle.vt_run.specs.private.Passing.{IsNextKept}
use Rattle.vt_run.proofs.Composition.{after_assoc}

-- a place leads to itself
pub leads_refl : (ran : Ran) (notes : Notes) → Leads ran notes ran notes
leads_refl ran notes = record { by = λ next. refl }

-- to an equal place
pub leads_at : {a b : Ran} (notes : Notes) → a ≡ b → Leads a notes b notes
leads_at {a} notes same = subst (λ b. Leads a notes b notes) same (leads_refl a notes)

-- one way after another
pub leads_trans : {a b c : Ran} {x y z : Notes} → Leads a x b y → Leads b y c z → Leads a x c z
leads_trans first second = record { by = λ next. first.by next ∙ second.by next }

-- the same follows both
pub leads_after : {a b : Ran} {x y : Notes} (next : Next) → Leads a x b y → Leads (after a next) x (after b next) y
leads_after {a} {b} {x} {y} next way = record {
  by = λ last.
      ap (λ (ran : Ran). seen (noted x ran.steps)) (after_assoc a next last)
      ∙ way.by (λ value st. after (next value st) last)
      ∙ sym (ap (λ (ran : Ran). seen (noted y ran.steps)) (after_assoc b next last));
}

step_first : (s : Step) (steps : List Step) (left : Option Left) (next : Next) → (goes_on (s ∷ steps) left next).steps ≡ s ∷ (goes_on steps left next).steps
step_first s steps None next = refl
step_first s steps (Some l) next = refl

-- a step is noted
pub leads_step : (s : Step) (old new : Notes) → new ≡ note old s → (ran : Ran) → Leads (step s ran) old ran new
leads_step s old new same ran = record {
  by = λ next.
      ap (λ steps. seen (noted old steps)) (step_first s ran.steps ran.left next)
      ∙ ap (λ notes. seen (noted notes (after ran next).steps)) (sym same);
}

min_twice : (cost size most : ℕ) → min (cost + min size most) most ≡ min (cost + size) most
min_twice cost size most = omega arith

pub capped_twice : (cost size : ℕ) → capped (cost + capped size) ≡ capped (cost + size)
capped_twice cost size = min_twice cost size (2 ^ 64 - 1)

skipped_capped : (skip : ℕ) (notes : Notes) (size : ℕ) (action : Option Action) → unless_skipped skip notes (record { cost = capped size; action = action }) ≡ unless_skipped skip notes (record { cost = size; action = action })
skipped_capped zero notes size action = ap (λ cost. kept_at cost notes (record { cost = size; action = action })) (capped_twice notes.cost size)
skipped_capped (suc skip) notes size action = refl

stopped_capped : (stop : Option Stop) (notes : Notes) (size : ℕ) (action : Option Action) → unless_stopped stop notes (record { cost = capped size; action = action }) ≡ unless_stopped stop notes (record { cost = size; action = action })
stopped_capped None notes size action = skipped_capped notes.skip notes size action
stopped_capped (Some stop) notes size action = refl

over_capped : (over : Bool) (notes : Notes) (size : ℕ) (action : Option Action) → unless_over over notes (record { cost = capped size; action = action }) ≡ unless_over over notes (record { cost = size; action = action })
over_capped false notes size action = stopped_capped notes.stop notes size action
over_capped true notes size action = refl

-- what is noted of a step is the same by its cost and by its capped cost
pub note_capped : (notes : Notes) (size : ℕ) (action : Option Action) → note notes (record { cost = capped size; action = action }) ≡ note notes (record { cost = size; action = action })
note_capped notes size action = over_capped notes.over notes size action

-- a step is noted by its capped cost
pub leads_capped : (cost exact : ℕ) (action : Option Action) (old new : Notes) → new ≡ note old (record { cost = cost; action = action }) → capped exact ≡ cost → (ran : Ran) → Leads (step (record { cost = exact; action = action }) ran) old ran new
leads_capped cost exact action old new same cap ran =
    leads_step _ old new (same ∙ ap (λ cost. note old (record { cost = cost; action = action })) (sym cap) ∙ note_capped old exact action) ran

-- a step that is kept is noted so
pub note_kept : (old : Notes) (s : Step) (actions : List Action) (cost : ℕ) (stop : Option Stop) →
    old.over ≡ false → old.stop ≡ None → old.skip ≡ 0 →
    actions ≡ old.actions ++ listed s.action →
    cost ≡ capped (old.cost + s.cost) →
    stop ≡ or_more (stop_of old.until s.action) (nat_le old.limit cost) →
    record old { actions = actions; cost = cost; count = old.count + 1; stop = stop } ≡ note old s
note_kept old s actions cost stop goes_on_yet no_stop_yet none_skipped acted paid made =
    ap (λ (actions : List Action). record old { actions = actions; cost = cost; count = old.count + 1; stop = stop }) acted
    ∙ ap (λ (stop : Option Stop). record old { actions = old.actions ++ listed s.action; cost = cost; count = old.count + 1; stop = stop }) made
    ∙ ap (λ (cost : ℕ). kept_at cost old s) paid
    ∙ sym (ap (λ over. unless_over over old s) goes_on_yet ∙ ap (λ stop. unless_stopped stop old s) no_stop_yet ∙ ap (λ skip. unless_skipped skip old s) none_skipped)

pub no_stop : (stop : Option Stop) → is_some stop ≡ false → stop ≡ None
no_stop None h = refl
no_stop (Some stop) h = absurd (true≢false h)

not_full : (made : Option Stop) (full : Bool) → or_more made full ≡ None → full ≡ false
not_full None true h = cc
not_full None false h = refl
not_full (Some stop) full h = cc

below_limit : (limit cost : ℕ) → nat_le limit cost ≡ false → cost < limit
below_limit limit cost h = grind (arith, nat_tests)

paid_for : (count cost size limit most : ℕ) → count ≤ cost → count ≤ limit → limit ≤ 4096 → 4097 ≤ most → 1 ≤ size → count + 1 ≤ min (cost + size) most
paid_for count cost size limit most counted few limited great least = omega arith

-- notes are open after a step that is kept
pub kept_open : (old : Notes) (s : Step) (actions : List Action) (cost : ℕ) (stop : Option Stop) →
    IsOpen old → old.stop ≡ None → 1 ≤ s.cost →
    cost ≡ capped (old.cost + s.cost) →
    stop ≡ or_more (stop_of old.until s.action) (nat_le old.limit cost) →
    IsOpen (record old { actions = actions; cost = cost; count = old.count + 1; stop = stop })
kept_open old s actions cost stop was no_stop_yet least paid made =
    let low : old.cost < old.limit = was.below no_stop_yet in
    let great : 4097 ≤ 2 ^ 64 - 1 = lit≤ tt in
    let counted : old.count + 1 ≤ capped (old.cost + s.cost) = paid_for old.count old.cost s.cost old.limit (2 ^ 64 - 1) was.counted was.few was.limited great least in
    record {
      limited = was.limited;
      below = λ none. below_limit old.limit cost (not_full (stop_of old.until s.action) (nat_le old.limit cost) (sym made ∙ none));
      counted = subst (λ cost. old.count + 1 ≤ cost) (sym paid) counted;
      few = omega (arith, was.counted, low);
    }

over_on : (over : Bool) (stop : Option Stop) (notes : Notes) (s : Step) → IsTrue (over || is_some stop) → unless_over over (record notes { stop = stop; over = over }) s ≡ record notes { stop = stop; over = over }
over_on true stop notes s is_over = refl
over_on false None notes s is_over = absurd (true≢false (sym is_over))
over_on false (Some stop) notes s is_over = refl

pub noted_over : (notes : Notes) → IsOver notes → (steps : List Step) → noted notes steps ≡ notes
noted_over notes is_over [] = refl
noted_over notes is_over (s ∷ steps) = ap (λ notes. noted notes steps) (over_on notes.over notes.stop notes s is_over) ∙ noted_over notes is_over steps

-- where nothing more is noted, all places lead to each other
pub leads_over : (notes : Notes) → IsOver notes → (a b : Ran) → Leads a notes b notes
leads_over notes is_over a b = record { by = λ next. ap seen (noted_over notes is_over (after a next).steps ∙ sym (noted_over notes is_over (after b next).steps)) }

-- a thread that has nothing more to do: any place is as good
pub leads_halt : (old new : Notes) → new ≡ finished old → (to : Ran) → Leads halts old to new
leads_halt old new same to = record {
  by = λ next. ap seen (sym (ap (λ notes. noted notes (after to next).steps) same ∙ noted_over (finished old) refl (after to next).steps));
}

-- an action that asks, with the answer that the thread has for it
pub leads_found : (action : Action) (given : Option Answer) (answer : Answer) (st : State) (old new : Notes) →
    given ≡ Some answer →
    ((ran : Ran) → Leads (does 1 action ran) old ran new) →
    LeadsOn (Some answer) (λ go. does 1 action (answered given st go)) old (record st { used = st.used + 1 }) new
leads_found action given answer st old new is_given acted go = leads_trans (acted _) (leads_at new (ap (λ given. answered given st go) is_given))

-- a read that is answered
pub leads_read : (pattern : List Segment) (env : Env) (answer : Answer) (st : State) (old new : Notes) →
    slice_get env.answers st.used ≡ Some answer →
    ((ran : Ran) → Leads (does 1 (Read (place_of env st) pattern) ran) old ran new) →
    LeadsOn (Some answer) (reads pattern env st) old (record (acted st) { used = st.used + 1 }) new
leads_read pattern env answer st old new is_given made = leads_found (Read (place_of env st) pattern) (slice_get env.answers st.used) answer (acted st) old new is_given made

-- a wait that is answered
pub leads_wait : (pattern : List Segment) (env : Env) (answer : Answer) (st : State) (old new : Notes) →
    slice_get env.answers st.used ≡ Some answer →
    ((ran : Ran) → Leads (does 1 (Wait (place_of env st) pattern (stop_pattern env.start.role)) ran) old ran new) →
    (go : List (List ℕ) → EventView → State → Ran) → Leads (waits pattern env st go) old (wakes_by answer (record (acted st) { used = st.used + 1 }) go) new
leads_wait pattern env answer st old new is_given made go =
    leads_found (Wait (place_of env st) pattern (stop_pattern env.start.role)) (slice_get env.answers st.used) answer (acted st) old new is_given made (λ answer st. wakes_by answer st go)

-- an action that asks, where the thread has no further answer
pub leads_missing : (action : Action) (given : Option Answer) (st end : State) (old mid new : Notes) →
    given ≡ None →
    ((ran : Ran) → Leads (does 1 action ran) old ran mid) →
    new ≡ finished mid →
    LeadsOn None (λ go. does 1 action (answered given st go)) old end new
leads_missing action given st end old mid new is_none acted same go to =
    leads_trans (acted _) (leads_trans (leads_at mid (ap (λ given. answered given st go) is_none)) (leads_halt mid new same to))

halts_after : (steps : List Step) (left : Option Left) → (goes_on steps left (λ value st. halts)).steps ≡ steps
halts_after steps None = refl
halts_after steps (Some l) = append-nil steps

-- a run of which all steps are made
pub leads_all : (ran : Ran) (old new : Notes) → Leads ran old halts new → seen (noted old ran.steps) ≡ seen new
leads_all ran old new way = ap (λ steps. seen (noted old steps)) (sym (halts_after ran.steps ran.left)) ∙ way.by (λ value st. halts)

-- a step that is not kept changes nothing but how many are passed over
pub passed_over : (notes : Notes) → IsOver notes → (s : Step) → notes ≡ note notes s
passed_over notes is_over s = sym (over_on notes.over notes.stop notes s is_over)

pub passed_done : (notes : Notes) (k : ℕ) → notes.over ≡ false → notes.stop ≡ None → notes.skip ≡ suc k → (s : Step) → record notes { skip = k } ≡ note notes s
passed_done notes k goes_on_yet no_stop_yet done s =
    sym (ap (λ over. unless_over over notes s) goes_on_yet ∙ ap (λ stop. unless_stopped stop notes s) no_stop_yet ∙ ap (λ skip. unless_skipped skip notes s) done)

pub next_here : {old view : Notes} → old ≡ view → IsNextKept view → IsNextKept old
next_here same h = subst IsNextKept (sym same) h
