-- What is played, as steps on a way.
use Rattle.std.proofs.Common.{◌≡◌, ℕ, List, [], ◌∷◌, map, Option, Some, None, Result, Ok, Err, refl, sym, ap, ◌∙◌, subst}
use Rattle.std.specs.Prelude.{MatchOption, OnOk}
use Rattle.vt_event.specs.declared.place.Place.{Place}
use Rattle.vt_event.specs.Event.{EventView}
use Rattle.vt_event.specs.Pairs.{Pairs}
use Rattle.vt_frac.specs.Fraction.{Fraction}
use Rattle.vt_given.specs.Patterns.{sounding_item}
use Rattle.vt_value.specs.declared.fault.FaultKind.{FaultKind}
use Rattle.vt_value.specs.declared.fault.ValueFault.{ValueFault}
use Rattle.vt_value.specs.declared.fault.ValueFault.TheVariants.{Fault, NoMemory}
use Rattle.vt_value.specs.declared.value.Value.{Value}
use Rattle.vt_value.specs.declared.value.Value.TheVariants.{Nil}
use Rattle.vt_event.specs.EventsByKind.{fault_event}
use Rattle.vt_run.specs.Actions.{acted, emits_all, ends, fails, name_path, or_fails, place_of, rests, tells_end}
use Rattle.vt_run.specs.Costs.{emit_cost}
use Rattle.vt_run.specs.declared.action.Action.TheVariants.{Emit, End}
use Rattle.vt_run.specs.declared.action.EndReason.{EndReason}
use Rattle.vt_run.specs.declared.action.EndReason.TheVariants.{Faulted}
use Rattle.vt_run.specs.Environment.{Env}
use Rattle.vt_run.specs.Evaluation.{Next, Ran, Spot, after, does, gives, halts, tick}
use Rattle.vt_run.specs.Notes.{Notes}
use Rattle.vt_run.specs.calls.Deeds.{Deed, done}
use Rattle.vt_run.specs.calls.PatternCalls.{Item, plays_items}
use Rattle.vt_run.specs.calls.PlayCalls.{plays_note, plays_notes}
use Rattle.vt_run.specs.calls.TimeCalls.{rest_of}
use Rattle.vt_run.specs.declared.state.State.{State}
use Rattle.vt_effects.specs.Playing.{Plays}
use Rattle.vt_eval_steps.specs.declared.run.Run.{Run}
use Rattle.vt_eval_steps.specs.Items.{plays_item}
use Rattle.vt_eval_steps.specs.Making.{Comes, Makes}
use Rattle.vt_eval_steps.proofs.Ways.{comes_from, makes_after, makes_at, makes_refl, makes_trans, step_after}

-- a deed whose events are published
pub done_by : (deed : Result Deed FaultKind) (d : Deed) (env : Env) (at : Spot) (st : State) (old new : Notes) (to : Ran) → deed ≡ Ok d →
    Makes (emits_all d.events env d.state (gives d.value)) old to new → Makes (done deed env at st) old to new
done_by deed d env at st old new to same way = makes_trans (makes_at old (ap (λ r. done r env at st) same)) way

-- the fault of notes that are to be played
pub plays_fault : {E : Type 0} (deed : Result Deed FaultKind) (options : Pairs) (fault : ValueFault) (env : Env) (at : Spot) (st : State) (old : Notes) (r : Result Value E) (z : Run) →
    Plays deed options st (Err fault) →
    ((kind : FaultKind) → fault ≡ Fault kind → Comes (fails kind env at st) old r z) → OnOk r (fault ≡ NoMemory → ⊥) →
    Comes (done deed env at st) old r z
plays_fault deed options (Fault kind) env at st old r z same way memory = comes_from z r (makes_at old (ap (λ r. done r env at st) same)) (way kind refl)
plays_fault deed options NoMemory env at st old (Ok v) z same way memory = absurd (memory refl)
plays_fault deed options NoMemory env at st old (Err e) z same way memory = tt

-- an item whose step and whose notes are made: its rest is left
pub item_on : (notes : List Value) (beats : Fraction) (options : Pairs) (env : Env) (at : Spot) (st ticked played : State) (old mid new : Notes) → ticked ≡ st →
    ((ran : Ran) → Makes (tick ran) old ran mid) →
    ((go : State → Ran) → Makes (emits_all (map (plays_note options ticked.settings) notes) env ticked go) mid (go played) new) →
    (item : Item) → sounding_item item ≡ (notes, beats) →
    Makes (plays_item item options env at st) old (or_fails (rest_of played beats) env at played (λ seconds. rests seconds env played)) new
item_on notes beats options env at st ticked played old mid new same begun played_on item is =
    let go = λ (s : State). or_fails (rest_of s beats) env at s (λ seconds. rests seconds env s) in
    makes_trans (makes_at old (ap (λ (p : List Value × Fraction). tick (emits_all (map (plays_note options st.settings) p.0) env st (λ s. or_fails (rest_of s p.1) env at s (λ seconds. rests seconds env s)))) is))
    (makes_trans (begun (emits_all (map (plays_note options st.settings) notes) env st go))
    (subst (λ (s : State). Makes (emits_all (map (plays_note options s.settings) notes) env s go) mid (go played) new) same (played_on go)))

-- events one after another, and what comes next behind them
pub after_events : (events : List (Place → EventView)) (env : Env) (st : State) (go : State → Ran) (next : Next) →
    after (emits_all events env st go) next ≡ emits_all events env st (λ st. after (go st) next)
after_events [] env st go next = refl
after_events (event ∷ events) env st go next =
    step_after (record { cost = emit_cost (event (place_of env st)); action = Some (Emit (event (place_of env st))) }) (emits_all events env (acted st) go) next
    ∙ ap (λ ran. does (emit_cost (event (place_of env st))) (Emit (event (place_of env st))) ran) (after_events events env (acted st) go next)

-- nothing comes behind the end of a thread
after_told : (path : Option (List (List ℕ))) (reason : EndReason) (env : Env) (st : State) (next : Next) →
    after (tells_end path env st (λ st. does 1 (End (place_of env st) reason) halts)) next ≡ tells_end path env st (λ st. does 1 (End (place_of env st) reason) halts)
after_told None reason env st next = refl
after_told (Some path) reason env st next = refl

after_fails : (kind : FaultKind) (env : Env) (at : Spot) (st : State) (next : Next) → after (fails kind env at st) next ≡ fails kind env at st
after_fails kind env at st next =
    step_after (record { cost = emit_cost (fault_event (place_of env st) kind at.line); action = Some (Emit (fault_event (place_of env st) kind at.line)) }) (ends Faulted env (acted st)) next
    ∙ ap (λ ran. does (emit_cost (fault_event (place_of env st) kind at.line)) (Emit (fault_event (place_of env st) kind at.line)) ran) (after_told (name_path env.start.role) Faulted env (acted st) next)

after_or_fails : {A : Type 0} (answer : Result A FaultKind) (env : Env) (at : Spot) (st : State) (go : A → Ran) (next : Next) →
    after (or_fails answer env at st go) next ≡ or_fails answer env at st (λ value. after (go value) next)
after_or_fails (Ok value) env at st go next = refl
after_or_fails (Err kind) env at st go next = after_fails kind env at st next

-- an item, and then the others
pub item_then : (item : Item) (items : List Item) (options : Pairs) (env : Env) (at : Spot) (st : State) →
    plays_items (item ∷ items) options env at st ≡ after (plays_item item options env at st) (λ value st. plays_items items options env at st)
item_then item items options env at st =
    let next = λ (value : Value) (st : State). plays_items items options env at st in
    let events = plays_notes options st.settings item.0 in
    let go = λ (s : State). or_fails (rest_of s item.1) env at s (λ seconds. rests seconds env s) in
    let later = λ (s : State). or_fails (rest_of s item.1) env at s (λ seconds. after (rests seconds env s) next) in
    sym (step_after (record { cost = 1; action = None }) (emits_all events env st go) next
    ∙ ap (λ ran. tick ran) (after_events events env st go next ∙ ap (λ f. emits_all events env st f) (λ i s. after_or_fails (rest_of s item.1) env at s (λ seconds. rests seconds env s) next i)))

-- the items that are left, and the way to them
pub record LeftOf (all : List Item) (options : Pairs) (env : Env) (at : Spot) (st : State) (old : Notes) (left : List (List Value × Fraction)) (end : State) (new : Notes) : Type 0 where
  pub rest : List Item
  pub same : map sounding_item rest ≡ left
  pub way : Makes (plays_items all options env at st) old (plays_items rest options env at end) new

-- as it begins, all are left
pub left_all : (all : List Item) (options : Pairs) (env : Env) (at : Spot) (st : State) (old : Notes) (left : List (List Value × Fraction)) → map sounding_item all ≡ left → LeftOf all options env at st old left st old
left_all all options env at st old left same = record { rest = all; same = same; way = makes_refl _ old }

-- the next item is played
pub left_next : (all : List Item) (options : Pairs) (env : Env) (at : Spot) (st : State) (old : Notes) (left later : List (List Value × Fraction)) (notes : List Value) (beats : Fraction) (mid : State) (new : Notes) (value : Value) (z : Run) →
    left ≡ (notes, beats) ∷ later →
    ((item : Item) → sounding_item item ≡ (notes, beats) → Makes (plays_item item options env at mid) new (gives value z.state) z.notes) →
    LeftOf all options env at st old left mid new → LeftOf all options env at st old later z.state z.notes
left_next all options env at st old left later notes beats mid new value z is plays l = by_rest l.rest (l.same ∙ is) l.way
  where
    by_rest : (rest : List Item) → map sounding_item rest ≡ (notes, beats) ∷ later → Makes (plays_items all options env at st) old (plays_items rest options env at mid) new → LeftOf all options env at st old later z.state z.notes
    by_rest [] none way = absurd (cc none)
    by_rest (item ∷ rest) same way = record {
      rest = rest;
      same = cc same;
      way = makes_trans way (makes_trans (makes_at new (item_then item rest options env at mid)) (makes_after (λ value st. plays_items rest options env at st) (plays item (cc same))));
    }

-- none is left
pub left_none : (all : List Item) (options : Pairs) (env : Env) (at : Spot) (st : State) (old : Notes) (left : List (List Value × Fraction)) (end : State) (new : Notes) → left ≡ [] → LeftOf all options env at st old left end new →
    Makes (plays_items all options env at st) old (gives Nil end) new
left_none all options env at st old left end new none l = by_rest l.rest (l.same ∙ none) l.way
  where
    by_rest : (rest : List Item) → map sounding_item rest ≡ [] → Makes (plays_items all options env at st) old (plays_items rest options env at end) new → Makes (plays_items all options env at st) old (gives Nil end) new
    by_rest [] empty way = way
    by_rest (item ∷ rest) empty way = absurd (cc empty)

-- no item came: none is left
pub none_of : (found : Option (List Value × Fraction)) (left later : List (List Value × Fraction)) → MatchOption found (left ≡ []) (λ next. left ≡ next ∷ later) → ((next : List Value × Fraction) → found ≡ Some next → ⊥) → left ≡ []
none_of None left later h never = h
none_of (Some next) left later h never = absurd (never next refl)
