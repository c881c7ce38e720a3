-- How the calls that change something for their block begin, as ways.
use Rattle.std.proofs.Common.{◌≡◌, ℕ, ◌+◌, pos, List, [], false, Option, Some, Ok, sym, ap, ◌∙◌}
use Rattle.vt_frac.specs.Fraction.{Fraction}
use Rattle.vt_value.specs.declared.value.Value.TheVariants.{Nil}
use Rattle.vt_event.specs.declared.references.FxId.{FxId}
use Rattle.vt_event.specs.EventsByKind.{fx_event}
use Rattle.vt_run.specs.declared.state.State.{State}
use Rattle.vt_run.specs.Actions.{emits, or_fails}
use Rattle.vt_run.specs.calls.Arguments.{Given, a_symbol, all_args}
use Rattle.vt_run.specs.calls.LoopCalls.{density_call, density_of, numbers_below, turns_over}
use Rattle.vt_run.specs.calls.SettingCalls.{in_next_fx, set_back, with_bpm, with_fx, with_fx_call, with_synth, with_synth_call}
use Rattle.vt_run.specs.Environment.{Env}
use Rattle.vt_run.specs.Evaluation.{Ran, Spot, gives}
use Rattle.vt_run.specs.Notes.{Notes}
use Rattle.vt_run.specs.Scopes.{BlockMeaning, runs}
use Rattle.vt_eval_steps.specs.declared.turns.Before.{Before}
use Rattle.vt_eval_steps.specs.declared.turns.Before.TheVariants as before
use Rattle.vt_eval_steps.specs.declared.turns.Turns.{Turns}
use Rattle.vt_eval_steps.specs.declared.turns.Turns.TheVariants.{Density, Once}
use Rattle.vt_eval_steps.specs.Making.{Makes}
use Rattle.vt_eval_steps.specs.Turns.{set_to, turns_run}
use Rattle.vt_eval_steps.proofs.Turned.{after_turns}
use Rattle.vt_eval_steps.proofs.Ways.{makes_at, makes_trans}

-- with another synth
pub synth_begins : (given : Given) (block : BlockMeaning) (name synth : List ℕ) (env : Env) (at : Spot) (st end : State) (notes : Notes) → a_symbol (all_args given) ≡ Ok name →
    synth ≡ st.settings.synth → end ≡ with_synth name st →
    Makes (with_synth_call given (Some block) env at st) notes (turns_run (Once (before.Synth synth) false) block env at end) notes
unfolding with_synth_call
synth_begins given block name synth env at st end notes is old new =
    makes_at notes
    (ap (λ answer. or_fails answer env at st (λ name. set_back (with_synth st.settings.synth) (runs block [] env at (with_synth name st)))) is
    ∙ ap (λ (s : State). set_back (with_synth st.settings.synth) (runs block [] env at s)) (sym new)
    ∙ ap (λ (synth : List ℕ). set_back (with_synth synth) (runs block [] env at end)) (sym old))

-- in an effect
pub fx_begins : (given : Given) (block : BlockMeaning) (name : List ℕ) (fx : Option FxId) (env : Env) (at : Spot) (st end : State) (old new : Notes) → a_symbol (all_args given) ≡ Ok name →
    fx ≡ st.settings.fx →
    ((go : State → Ran) → Makes (emits (λ place. fx_event place name (st.effects + 1) given.options st.settings.fx) env st (λ begun. go (in_next_fx env st begun))) old (go end) new) →
    Makes (with_fx_call given (Some block) env at st) old (turns_run (Once (before.Effect fx) false) block env at end) new
unfolding with_fx_call
fx_begins given block name fx env at st end old new is same way =
    let inside = λ (s : State). set_back (with_fx st.settings.fx) (runs block [] env at s) in
    makes_trans
    (makes_at old (ap (λ answer. or_fails answer env at st (λ name. emits (λ place. fx_event place name (st.effects + 1) given.options st.settings.fx) env st (λ begun. inside (in_next_fx env st begun)))) is))
    (makes_trans (way inside) (makes_at new (ap (λ (fx : Option FxId). set_back (with_fx fx) (runs block [] env at end)) (sym same))))

-- at a greater tempo
pub density_begins : (given : Given) (block : BlockMeaning) (n : ℕ) (faster bpm : Fraction) (env : Env) (at : Spot) (st end : State) (notes : Notes) → density_of given st.settings.bpm ≡ Ok (n, faster) →
    bpm ≡ st.settings.bpm → end ≡ with_bpm faster st →
    Makes (density_call given (Some block) env at st) notes (turns_run (Density 0 n bpm) block env at end) notes
unfolding density_call
density_begins given block n faster bpm env at st end notes is old new =
    let turns = λ (s : State). set_back (with_bpm st.settings.bpm) (turns_over (numbers_below (pos n)) block env at s (λ values st. gives Nil st)) in
    makes_at notes
    (ap (λ answer. or_fails answer env at st (λ (n, faster). set_back (with_bpm st.settings.bpm) (turns_over (numbers_below (pos n)) block env at (with_bpm faster st) (λ values st. gives Nil st)))) is
    ∙ ap turns (sym new)
    ∙ after_turns (numbers_below (pos n)) block env at end (λ values st. gives Nil st) (λ value end. gives Nil (with_bpm st.settings.bpm end))
    ∙ ap (λ (bpm : Fraction). turns_over (numbers_below (pos n)) block env at end (λ values st. gives Nil (with_bpm bpm st))) (sym old))
