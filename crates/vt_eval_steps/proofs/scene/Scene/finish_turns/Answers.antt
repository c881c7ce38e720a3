use Rattle.std.proofs.Common.{refl, sym, ap, ◌∙◌, subst}
use Rattle.vt_value.specs.declared.value.Value.TheVariants.{Nil, Ring, Whole}
use Rattle.vt_value.specs.Arithmetic.{ring_within}
use Rattle.vt_run.specs.Actions.{or_fails}
use Rattle.vt_run.specs.calls.SettingCalls.{with_bpm}
use Rattle.vt_run.specs.Evaluation.{gives}
use Rattle.vt_eval_steps.specs.Making.{Comes}
use Rattle.vt_eval_steps.specs.Scenes.{env_at}
use Rattle.vt_eval_steps.specs.Turns.{turns_left, turns_run}
use Rattle.vt_eval_steps.proofs.Ended.{density_done, each_done, ends_at, loop_done, map_done, once_done, times_done}
use Rattle.vt_eval_steps.proofs.Ways.{comes_copied, comes_from}
use Rattle.vt_eval_steps.proofs.scene.Scene.finish_turns.Goals as goal

pub returns-in-Once : goal.returns-in-Once
returns-in-Once c = λ block.
    ends_at c.args.run.now.notes c.set_back.new.run.notes (turns_run c.args.turns block (env_at c.args.self.now) c.args.at c.args.run.now.state) (gives Nil c.set_back.new.run.state) (turns_left c.args.turns) c.requires c.set_back.ensures.notes
    (λ none. once_done c.args.turns c.in-Once.before c.in-Once.begun block (env_at c.args.self.now) c.args.at c.args.run.now.state c.in-Once.is none ∙ ap (λ st. gives Nil st) (sym c.set_back.ensures.state))

pub returns-in-Loop : goal.returns-in-Loop
returns-in-Loop c = λ block.
    loop_done c.args.turns c.in-Loop.left block (env_at c.args.self.now) c.args.at c.args.run.now.state c.args.run.now.notes c.finish.new.self _ c.in-Loop.is c.requires c.finish.ensures.value

pub returns-in-Times : goal.returns-in-Times
returns-in-Times c = λ block.
    ends_at c.args.run.now.notes c.args.run.now.notes (turns_run c.args.turns block (env_at c.args.self.now) c.args.at c.args.run.now.state) (gives (Whole c.in-Times.number) c.args.run.now.state) (turns_left c.args.turns) c.requires refl
    (λ none. times_done c.args.turns c.in-Times.next c.in-Times.number block (env_at c.args.self.now) c.args.at c.args.run.now.state c.in-Times.is none)

pub returns-in-Density : goal.returns-in-Density
returns-in-Density c = λ block.
    ends_at c.args.run.now.notes c.args.run.now.notes (turns_run c.args.turns block (env_at c.args.self.now) c.args.at c.args.run.now.state) (gives Nil (with_bpm c.in-Density.bpm c.args.run.now.state)) (turns_left c.args.turns) c.requires refl
    (λ none. density_done c.args.turns c.in-Density.next c.in-Density.end c.in-Density.bpm block (env_at c.args.self.now) c.args.at c.args.run.now.state c.in-Density.is none)

pub returns-in-Each : goal.returns-in-Each
returns-in-Each c = λ block.
    comes_from c.args.run.now c.ring_of.result
    (ends_at c.args.run.now.notes c.args.run.now.notes (turns_run c.args.turns block (env_at c.args.self.now) c.args.at c.args.run.now.state) (gives (Ring c.in-Each.ring.now) c.args.run.now.state) (turns_left c.args.turns) c.requires refl
    (λ none. each_done c.args.turns c.in-Each.items c.in-Each.ring block (env_at c.args.self.now) c.args.at c.args.run.now.state c.in-Each.is none))
    (comes_copied (Ring c.in-Each.ring.now) (Ring c.in-Each.ring.now) refl c.ring_of.result c.args.run.now c.ring_of.ensures)

pub returns-in-Map : goal.returns-in-Map
returns-in-Map c = λ block.
    comes_from c.or_fault.new.run c.or_fault.result
    (ends_at c.args.run.now.notes c.args.run.now.notes (turns_run c.args.turns block (env_at c.args.self.now) c.args.at c.args.run.now.state) (or_fails (ring_within c.in-Map.values) (env_at c.args.self.now) c.args.at c.args.run.now.state (λ ring. gives ring c.args.run.now.state)) (turns_left c.args.turns) c.requires refl
    (λ none. map_done c.args.turns c.in-Map.items c.in-Map.values block (env_at c.args.self.now) c.args.at c.args.run.now.state c.in-Map.is none))
    (subst (λ answer. Comes (or_fails answer (env_at c.args.self.now) c.args.at c.args.run.now.state (λ value. gives value c.args.run.now.state)) c.args.run.now.notes c.or_fault.result c.or_fault.new.run) c.of_items.ensures c.or_fault.ensures)
