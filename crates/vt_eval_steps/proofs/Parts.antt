-- Rests, starts of threads, effects and notes, as steps on a way.
use Rattle.std.proofs.Common.{◌≡◌, ◌⊎◌, ◌<◌, ◌≤◌, ◌-◌, ◌^◌, ◌+◌, ℕ, zero, suc, List, [], ◌∷◌, ◌++◌, map, Bool, true, false, cond, Option, Some, None, Result, Ok, Err, refl, sym, ap, ◌∙◌, subst, arith, true≢false}
use Rattle.std.proofs.lemmas.Bool.Decides.{nat_tests}
use Rattle.std.specs.Prelude.{IsTrue, nat_le, nat_lt, pos}
use Rattle.vt_frac.specs.Arithmetic.{sum_of}
use Rattle.vt_frac.specs.Fraction.{Fraction}
use Rattle.vt_rand.specs.Draw.{after_draws}
use Rattle.vt_event.specs.declared.place.Place.{Place}
use Rattle.vt_event.specs.declared.references.FxId.{FxId}
use Rattle.vt_event.specs.Event.{EventView, IsEvent}
use Rattle.vt_event.specs.EventsByKind.{fx_event}
use Rattle.vt_event.specs.Pairs.{Pairs}
use Rattle.vt_value.specs.declared.value.Value.{Value}
use Rattle.vt_value.specs.declared.value.Value.TheVariants.{Nil}
use Rattle.vt_value.specs.Sizes.{size_of}
use Rattle.vt_run.specs.Actions.{acted, emits, emits_all, is_past, place_of, rested, rests, time_after}
use Rattle.vt_run.specs.Costs.{spawn_cost}
use Rattle.vt_run.specs.Environment.{Env}
use Rattle.vt_run.specs.Evaluation.{Ran, Spot, does, gives, halts}
use Rattle.vt_run.specs.Notes.{IsOver, Notes, capped, finished}
use Rattle.vt_run.specs.Scopes.{BlockMeaning}
use Rattle.vt_run.specs.calls.SettingCalls.{in_next_fx, with_stream}
use Rattle.vt_run.specs.calls.ThreadCalls.{child_of, has_spawned, spawns, spawns_timed}
use Rattle.vt_run.specs.declared.action.Action.TheVariants.{Emit, Rest, Spawn}
use Rattle.vt_run.specs.declared.role.Role.{Role}
use Rattle.vt_run.specs.declared.role.Role.TheVariants.{Timed}
use Rattle.vt_run.specs.declared.start.Start.{Start}
use Rattle.vt_run.specs.declared.state.State.{State}
use Rattle.vt_value.specs.declared.value.Value as V
use Rattle.vt_event.specs.Kinds.{goes_with}
use Rattle.vt_eval_steps.specs.Scenes.{inside_of}
use Rattle.vt_eval_steps.specs.Making.{Makes}
use Rattle.vt_eval_steps.specs.Numbers.{Child, Effect}
use Rattle.vt_eval_steps.proofs.Ways.{makes_at, makes_exceeds, makes_halt, makes_trans}

-- a rest: its step, and what comes of it
pub rests_to : (seconds : Fraction) (env : Env) (st rest : State) (place : Place) (old mid : Notes) → place ≡ place_of env st →
    ((go : State → Ran) → Makes (does 1 (Rest place seconds) (go (acted st))) old (go rest) mid) →
    Makes (rests seconds env st) old (cond (is_past env.start.until (time_after seconds rest)) halts (gives Nil (rested seconds rest))) mid
rests_to seconds env st rest place old mid here way =
    let go = λ (s : State). cond (is_past env.start.until (time_after seconds s)) halts (gives Nil (rested seconds s)) in
    subst (λ (p : Place). Makes (does 1 (Rest p seconds) (go (acted st))) old (go rest) mid) here (way go)

-- the time is at the horizon or past it: the thread has nothing more to do
pub rests_past : (seconds : Fraction) (env : Env) (st rest : State) (place : Place) (old mid new : Notes) (to : Ran) → place ≡ place_of env st →
    ((go : State → Ran) → Makes (does 1 (Rest place seconds) (go (acted st))) old (go rest) mid) →
    is_past env.start.until (time_after seconds rest) ≡ true → new ≡ finished mid →
    Makes (rests seconds env st) old to new
rests_past seconds env st rest place old mid new to here way past same =
    makes_trans (rests_to seconds env st rest place old mid here way)
    (makes_trans (makes_at mid (ap (λ b. cond b halts (gives Nil (rested seconds rest))) past)) (makes_halt mid new same to))

-- it is not: the thread goes on behind the rest
pub rests_on : (seconds : Fraction) (env : Env) (st rest : State) (place : Place) (old mid : Notes) → place ≡ place_of env st →
    ((go : State → Ran) → Makes (does 1 (Rest place seconds) (go (acted st))) old (go rest) mid) →
    is_past env.start.until (time_after seconds rest) ≡ false →
    Makes (rests seconds env st) old (gives Nil (rested seconds rest)) mid
rests_on seconds env st rest place old mid here way past =
    makes_trans (rests_to seconds env st rest place old mid here way) (makes_at mid (ap (λ b. cond b halts (gives Nil (rested seconds rest))) past))

-- a child is started as the definition says
pub spawns_by : (role : Role) (handed cost : ℕ) (body : BlockMeaning) (env : Env) (st spawned end : State) (place : Place) (child : Start) (old mid new : Notes) →
    place ≡ place_of env st → child ≡ child_of role body env st → acted spawned ≡ has_spawned st → mid ≡ old →
    ((exact : ℕ) → capped exact ≡ cost → (go : State → Ran) → Makes (does exact (Spawn place child) (go (acted spawned))) mid (go end) new) →
    capped (spawn_cost st.locals handed) ≡ cost →
    (go : State → Ran) → Makes (spawns role handed body env st go) old (go end) new
spawns_by role handed cost body env st spawned end place child old mid new here born then same way cap go =
    let exact = spawn_cost st.locals handed in
    subst (λ (n : Notes). Makes (spawns role handed body env st go) n (go end) new) same
    (subst (λ (s : State). Makes (does exact (Spawn (place_of env st) (child_of role body env st)) (go s)) mid (go end) new) then
    (subst (λ (c : Start). Makes (does exact (Spawn (place_of env st) c) (go (acted spawned))) mid (go end) new) born
    (subst (λ (p : Place). Makes (does exact (Spawn p child) (go (acted spawned))) mid (go end) new) here (way exact cap go))))

-- a child whose number has more than 32 bits
pub spawns_exceed : (role : Role) (handed : ℕ) (body : BlockMeaning) (env : Env) (st : State) (go : State → Ran) (old new : Notes) (to : Ran) →
    (IsOver old → ⊥) → old.count ≤ 4096 → 2 ^ 32 ≤ st.children + 1 → Makes (spawns role handed body env st go) old to new
spawns_exceed role handed body env st go old new to goes_on few great =
    makes_exceeds _ (Spawn (place_of env st) (child_of role body env st)) _ old new to goes_on few
    (Child (record { starter = env.start.place.thread; number = st.children + 1; list = refl; great = great }))

pub spawned_is : (st child : State) (number : ℕ) → child ≡ with_stream (after_draws 2 st.stream) st → number ≡ st.children + 1 → acted (record child { children = number }) ≡ has_spawned st
spawned_is st child number same next =
    ap (λ (s : State). acted (record s { children = number })) same
    ∙ ap (λ n. acted (record (with_stream (after_draws 2 st.stream) st) { children = n })) next

not_both : (number : ℕ) → 2 ^ 32 ≤ number → nat_lt number (2 ^ 32) ≡ true → ⊥
not_both number great few = grind (arith, nat_tests)

-- a number of an effect has 32 bits
effect_counts : (place : Place) (name : List ℕ) (number : ℕ) (options : Pairs) (fx : Option FxId) → IsTrue (goes_with (fx_event place name number options fx).kind (fx_event place name number options fx).value) → IsTrue (nat_lt number (2 ^ 32))
unfolding V.out-Value denote.Hole.Carrier.out
effect_counts place name number options fx h = h

no_effect : (place : Place) (name : List ℕ) (number : ℕ) (options : Pairs) (fx : Option FxId) → 2 ^ 32 ≤ number → IsEvent (fx_event place name number options fx) → ⊥
no_effect place name number options fx great event =
    let counted : IsTrue (nat_lt number (2 ^ 32)) = effect_counts place name number options fx event.value_with_kind in
    not_both number great counted

-- an effect whose number has more than 32 bits
pub fx_exceeds : (name : List ℕ) (options : Pairs) (env : Env) (st : State) (go : State → Ran) (old new : Notes) (to : Ran) →
    (IsOver old → ⊥) → old.count ≤ 4096 → st.step < 2 ^ 32 → 2 ^ 32 ≤ st.effects + 1 →
    Makes (emits (λ place. fx_event place name (st.effects + 1) options st.settings.fx) env st go) old to new
fx_exceeds name options env st go old new to goes_on few step great =
    makes_exceeds _ (Emit (fx_event (place_of env st) name (st.effects + 1) options st.settings.fx)) _ old new to goes_on few
    (Effect (record { kind = refl; step = step; great = no_effect (place_of env st) name (st.effects + 1) options st.settings.fx great }))

-- inside some pairs of parentheses
pub inside_some : (n : ℕ) (at : Spot) → (n ≡ 0 → ⊥) → cond (nat_le (at.depth + n) 256) (Some (record at { depth = at.depth + n })) None ≡ inside_of n at
inside_some zero at some = absurd (some refl)
inside_some (suc n) at some = refl

-- a thread in its next effect, by what code writes
pub fx_is : (env : Env) (st begun : State) (thread : List ℕ) (number : ℕ) (fx : Option FxId) → fx ≡ Some (record { thread = thread; number = number }) → thread ≡ env.start.place.thread → number ≡ st.effects + 1 →
    in_next_fx env st begun ≡ record begun { settings = record begun.settings { fx = fx }; effects = number }
fx_is env st begun thread number fx made own next =
    sym (ap (λ (fx : Option FxId). record begun { settings = record begun.settings { fx = fx }; effects = number }) made
    ∙ ap (λ (n : ℕ). record begun { settings = record begun.settings { fx = Some (record { thread = thread; number = n }) }; effects = n }) next
    ∙ ap (λ (t : List ℕ). record begun { settings = record begun.settings { fx = Some (record { thread = t; number = st.effects + 1 }) }; effects = st.effects + 1 }) own)

pub below_of : (a b : ℕ) → nat_lt a b ≡ true → a < b
below_of a b h = grind (arith, nat_tests)

-- the next child of `at`, and the others behind it
pub timed_on : (rest : Fraction) (value : Value) (left timings : List (Fraction × Value)) (body : BlockMeaning) (env : Env) (at : Spot) (st end : State) (old new : Notes) → left ≡ (rest, value) ∷ timings →
    ((go : State → Ran) → Makes (spawns (Timed rest value at.line) (size_of value) body env st go) old (go end) new) →
    Makes (spawns_timed left body env at st) old (spawns_timed timings body env at end) new
timed_on rest value left timings body env at st end old new same way =
    makes_trans (makes_at old (ap (λ l. spawns_timed l body env at st) same)) (way (λ st. spawns_timed timings body env at st))
