use Rattle.std.proofs.Common.{◌≡◌, Option, Some, refl, sym, ap, ◌∙◌, subst}
use Rattle.std.specs.Prelude.{IfOk}
use Rattle.vt_table.specs.declared.calls.CallName.TheVariants as calls
use Rattle.vt_run.specs.calls.Arguments.{Given}
use Rattle.vt_run.specs.calls.EffectTable.{performed}
use Rattle.vt_run.specs.calls.LoopCalls.{density_call, each_call, map_call, times_call}
use Rattle.vt_run.specs.calls.SettingCalls.{with_bpm_call, with_fx_call, with_random_seed_call, with_synth_call}
use Rattle.vt_run.specs.Environment.{Meaning}
use Rattle.vt_run.specs.Scopes.{BlockMeaning}
use Rattle.vt_eval_steps.specs.Scenes.{env_at}
use Rattle.vt_eval_steps.specs.Turns.{IsBegunBy}
use Rattle.vt_eval_steps.proofs.Turned.{is_loop}
use Rattle.vt_eval_steps.proofs.Ways.{makes_at}
use Rattle.vt_eval_steps.proofs.scene.Scene.turns.Goals as goal

is_density : (given : Given) → density_call given ≡ performed calls.Density given
unfolding performed
is_density given = refl

is_each : (given : Given) → each_call given ≡ performed calls.Each given
unfolding performed
is_each given = refl

is_map : (given : Given) → map_call given ≡ performed calls.Map given
unfolding performed
is_map given = refl

is_times : (given : Given) → times_call given ≡ performed calls.Times given
unfolding performed
is_times given = refl

is_with_bpm : (given : Given) → with_bpm_call given ≡ performed calls.WithBpm given
unfolding performed
is_with_bpm given = refl

is_with_fx : (given : Given) → with_fx_call given ≡ performed calls.WithFx given
unfolding performed
is_with_fx given = refl

is_with_random_seed : (given : Given) → with_random_seed_call given ≡ performed calls.WithRandomSeed given
unfolding performed
is_with_random_seed given = refl

is_with_synth : (given : Given) → with_synth_call given ≡ performed calls.WithSynth given
unfolding performed
is_with_synth given = refl

pub returns-in-Density : goal.returns-in-Density
returns-in-Density c =
    subst (λ (call : Option BlockMeaning → Meaning). IfOk c.density.result (λ turns. IsBegunBy call turns c.args.at (env_at c.args.self.now) c.args.run.now.state c.args.run.now.notes c.density.new.run.state c.density.new.run.notes)) (is_density c.args.given.now ∙ ap (λ which. performed which c.args.given.now) (sym c.in-Density.is)) c.density.ensures

pub returns-in-Each : goal.returns-in-Each
returns-in-Each c =
    subst (λ (call : Option BlockMeaning → Meaning). IfOk c.each.result (λ turns. IsBegunBy call turns c.args.at (env_at c.args.self.now) c.args.run.now.state c.args.run.now.notes c.each.new.run.state c.each.new.run.notes)) (is_each c.args.given.now ∙ ap (λ which. performed which c.args.given.now) (sym c.in-Each.is)) c.each.ensures

pub returns-in-Map : goal.returns-in-Map
returns-in-Map c =
    subst (λ (call : Option BlockMeaning → Meaning). IfOk c.map.result (λ turns. IsBegunBy call turns c.args.at (env_at c.args.self.now) c.args.run.now.state c.args.run.now.notes c.map.new.run.state c.map.new.run.notes)) (is_map c.args.given.now ∙ ap (λ which. performed which c.args.given.now) (sym c.in-Map.is)) c.map.ensures

pub returns-in-Times : goal.returns-in-Times
returns-in-Times c =
    subst (λ (call : Option BlockMeaning → Meaning). IfOk c.times.result (λ turns. IsBegunBy call turns c.args.at (env_at c.args.self.now) c.args.run.now.state c.args.run.now.notes c.times.new.run.state c.times.new.run.notes)) (is_times c.args.given.now ∙ ap (λ which. performed which c.args.given.now) (sym c.in-Times.is)) c.times.ensures

pub returns-in-WithBpm : goal.returns-in-WithBpm
returns-in-WithBpm c =
    subst (λ (call : Option BlockMeaning → Meaning). IfOk c.with_bpm.result (λ turns. IsBegunBy call turns c.args.at (env_at c.args.self.now) c.args.run.now.state c.args.run.now.notes c.with_bpm.new.run.state c.with_bpm.new.run.notes)) (is_with_bpm c.args.given.now ∙ ap (λ which. performed which c.args.given.now) (sym c.in-WithBpm.is)) c.with_bpm.ensures

pub returns-in-WithFx : goal.returns-in-WithFx
returns-in-WithFx c =
    subst (λ (call : Option BlockMeaning → Meaning). IfOk c.with_fx.result (λ turns. IsBegunBy call turns c.args.at (env_at c.args.self.now) c.args.run.now.state c.args.run.now.notes c.with_fx.new.run.state c.with_fx.new.run.notes)) (is_with_fx c.args.given.now ∙ ap (λ which. performed which c.args.given.now) (sym c.in-WithFx.is)) c.with_fx.ensures

pub returns-in-WithRandomSeed : goal.returns-in-WithRandomSeed
returns-in-WithRandomSeed c =
    subst (λ (call : Option BlockMeaning → Meaning). IfOk c.with_random_seed.result (λ turns. IsBegunBy call turns c.args.at (env_at c.args.self.now) c.args.run.now.state c.args.run.now.notes c.with_random_seed.new.run.state c.with_random_seed.new.run.notes)) (is_with_random_seed c.args.given.now ∙ ap (λ which. performed which c.args.given.now) (sym c.in-WithRandomSeed.is)) c.with_random_seed.ensures

pub returns-in-WithSynth : goal.returns-in-WithSynth
returns-in-WithSynth c =
    subst (λ (call : Option BlockMeaning → Meaning). IfOk c.with_synth.result (λ turns. IsBegunBy call turns c.args.at (env_at c.args.self.now) c.args.run.now.state c.args.run.now.notes c.with_synth.new.run.state c.with_synth.new.run.notes)) (is_with_synth c.args.given.now ∙ ap (λ which. performed which c.args.given.now) (sym c.in-WithSynth.is)) c.with_synth.ensures

pub returns-in-Loop : goal.returns-in-Loop
returns-in-Loop c = λ block.
    makes_at c.args.run.now.notes (ap (λ which. performed which c.args.given.now (Some block) (env_at c.args.self.now) c.args.at c.args.run.now.state) c.in-Loop.is ∙ is_loop c.args.given.now block (env_at c.args.self.now) c.args.at c.args.run.now.state)
