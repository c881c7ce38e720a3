-- What stands behind the last turn of a call.
use Rattle.std.proofs.Common.{◌≡◌, ◌⊎◌, inl, inr, ℕ, ◌+◌, ◌-◌, ◌≤◌, List, [], ◌∷◌, ◌++◌, map, drop, length, true, false, Option, Some, None, refl, sym, ap, ◌∙◌, subst, arith, pos}
use Rattle.std.proofs.lemmas.List.{append-nil, drop_all}
use Rattle.std.proofs.lemmas.List.FromFn.{length-range_with_len}
use Rattle.vt_frac.specs.Fraction.{Fraction}
use Rattle.vt_ring.specs.Items.{indices}
use Rattle.vt_value.specs.declared.value.Value.{Value}
use Rattle.vt_value.specs.declared.value.Value.TheVariants.{Nil, Ring, Whole}
use Rattle.vt_value.specs.Arithmetic.{ring_within}
use Rattle.vt_run.specs.Actions.{or_fails}
use Rattle.vt_run.specs.calls.LoopCalls.{turns_over}
use Rattle.vt_run.specs.calls.SettingCalls.{with_bpm}
use Rattle.vt_run.specs.Environment.{Env}
use Rattle.vt_run.specs.Evaluation.{Ran, Spot, gives, halts}
use Rattle.vt_run.specs.Notes.{IsOver, Notes, finished, seen}
use Rattle.vt_run.specs.Scopes.{BlockMeaning}
use Rattle.vt_run.specs.declared.state.State.{State}
use Rattle.vt_eval_steps.specs.declared.turns.Before.{Before}
use Rattle.vt_eval_steps.specs.declared.turns.Turns.{Turns}
use Rattle.vt_eval_steps.specs.declared.turns.Turns.TheVariants.{Density, Each, Loop, Map, Once, Times}
use Rattle.vt_eval_steps.specs.Making.{Closing, Makes}
use Rattle.vt_eval_steps.specs.Turns.{count_of, loops_left, numbers_from, set_to, turns_left, turns_run}
use Rattle.vt_eval_steps.proofs.Ways.{leaves_refl, makes_at, makes_halt, makes_over_at}

none_left : {A : Type 0} (xs : List A) → length xs ≡ 0 → xs ≡ []
none_left [] none = refl
none_left (x ∷ xs) none = absurd (let z : length (x ∷ xs) ≡ 0 = none in omega (arith, z))

no_numbers : (next end : ℕ) → end - next ≡ 0 → numbers_from next end ≡ []
no_numbers next end none =
    let few : end ≤ next = omega (arith, none) in
    ap (map (λ i. Whole (pos i))) (drop_all next (indices end) (subst (λ n. n ≤ next) (sym (length-range_with_len 0 end)) few))

-- where nothing more is noted, or the two places are one
pub ends_at : (old new : Notes) (a b : Ran) (left : ℕ) → IsOver old ⊎ (left ≡ 0) → new ≡ old → (left ≡ 0 → a ≡ b) → Makes a old b new
ends_at old new a b left (inl over) is same = makes_over_at old new over is a b
ends_at old new a b left (inr none) is same = subst (λ notes. Makes a old b notes) (sym is) (makes_at old (same none))

-- the block was run once, and something is set back
pub once_done : (turns : Turns) (before : Before) (begun : _) (block : BlockMeaning) (env : Env) (at : Spot) (st : State) → turns ≡ Once before begun → turns_left turns ≡ 0 →
    turns_run turns block env at st ≡ gives Nil (set_to before st)
once_done turns before false block env at st is none = absurd (let z : 1 ≡ 0 = sym (ap turns_left is) ∙ none in omega (arith, z))
once_done turns before true block env at st is none = ap (λ (t : Turns). turns_run t block env at st) is

-- no turn of a loop is left, so it leaves nothing
pub loop_done : (turns : Turns) (left : Option ℕ) (block : BlockMeaning) (env : Env) (at : Spot) (st : State) (old new : Notes) (to : Ran) → turns ≡ Loop left → IsOver old ⊎ (turns_left turns ≡ 0) →
    new ≡ finished old → Makes (turns_run turns block env at st) old to new
loop_done turns left block env at st old new to is (inl over) same =
    Closing (record { made = []; rest = turns_run turns block env at st; way = leaves_refl (turns_run turns block env at st); notes = ap seen same; over = subst IsOver (sym same) refl; all = inl over })
loop_done turns (Some n) block env at st old new to is (inr none) same = absurd (let z : n + 1 ≡ 0 = sym (ap turns_left is) ∙ none in omega (arith, z))
loop_done turns None block env at st old new to is (inr none) same =
    subst (λ (t : Turns). Makes (turns_run t block env at st) old to new) (sym is) (makes_halt old new same to)

pub times_done : (turns : Turns) (next : ℕ) (number : _) (block : BlockMeaning) (env : Env) (at : Spot) (st : State) → turns ≡ Times next number → turns_left turns ≡ 0 →
    turns_run turns block env at st ≡ gives (Whole number) st
times_done turns next number block env at st is none =
    ap (λ (t : Turns). turns_run t block env at st) is
    ∙ ap (λ items. turns_over items block env at st (λ values st. gives (Whole number) st)) (no_numbers next (count_of number) (sym (ap turns_left is) ∙ none))

pub density_done : (turns : Turns) (next end : ℕ) (bpm : Fraction) (block : BlockMeaning) (env : Env) (at : Spot) (st : State) → turns ≡ Density next end bpm → turns_left turns ≡ 0 →
    turns_run turns block env at st ≡ gives Nil (with_bpm bpm st)
density_done turns next end bpm block env at st is none =
    ap (λ (t : Turns). turns_run t block env at st) is
    ∙ ap (λ items. turns_over items block env at st (λ values st. gives Nil (with_bpm bpm st))) (no_numbers next end (sym (ap turns_left is) ∙ none))

pub each_done : (turns : Turns) (items ring : _) (block : BlockMeaning) (env : Env) (at : Spot) (st : State) → turns ≡ Each items ring → turns_left turns ≡ 0 →
    turns_run turns block env at st ≡ gives (Ring ring.now) st
each_done turns items ring block env at st is none =
    ap (λ (t : Turns). turns_run t block env at st) is
    ∙ ap (λ values. turns_over values block env at st (λ values st. gives (Ring ring.now) st)) (none_left items.now (sym (ap turns_left is) ∙ none))

pub map_done : (turns : Turns) (items values : _) (block : BlockMeaning) (env : Env) (at : Spot) (st : State) → turns ≡ Map items values → turns_left turns ≡ 0 →
    turns_run turns block env at st ≡ or_fails (ring_within values) env at st (λ ring. gives ring st)
map_done turns items values block env at st is none =
    ap (λ (t : Turns). turns_run t block env at st) is
    ∙ ap (λ later. turns_over later block env at st (λ later st. or_fails (ring_within (values ++ later)) env at st (λ ring. gives ring st))) (none_left items.now (sym (ap turns_left is) ∙ none))
    ∙ ap (λ all. or_fails (ring_within all) env at st (λ ring. gives ring st)) (append-nil values)
