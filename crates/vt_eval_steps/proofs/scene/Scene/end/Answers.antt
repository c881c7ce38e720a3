use Rattle.vt_eval_steps.specs.Scenes.{env_at}
use Rattle.vt_eval_steps.proofs.Acts.{ends_by, place_at}
use Rattle.vt_eval_steps.proofs.scene.Scene.end.Goals as goal

pub returns : goal.returns
returns c = ends_by c.args.reason (env_at c.args.self.now) c.args.run.now.state c.tell_end.new.run.state c.act.new.run.state _ c.args.run.now.notes c.tell_end.new.run.notes c.act.new.run.notes _
    c.in_ok-tell_end.ensures
    (place_at c.thread.result.now (env_at c.args.self.now) c.tell_end.new.run.state _ c.in_ok-place.ensures c.thread.ensures)
    (c.in_ok-act.ensures.makes 1 cc)
    c.finish.ensures.value
