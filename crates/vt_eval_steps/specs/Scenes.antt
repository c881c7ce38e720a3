-- Where an evaluator stands, as the environment and the spot of the definitions. The project's own.
use Rattle.std.specs.Prelude.{ℕ, zero, suc, ◌+◌, List, cond, nat_le, nat_lt, Option, Some, None}
use Rattle.vt_run.specs.Environment.{Env}
use Rattle.vt_run.specs.Evaluation.{Spot}
use Rattle.vt_run.specs.Threads.{called, env_of}
use Rattle.vt_eval_steps.specs.declared.scene.Scene.{Scene}

-- The environment in which a block is evaluated: a loop makes at most one turn more than calls may stand within one another.
abbrev pub env_at : Scene → Env
env_at scene = env_of scene.start.now scene.text scene.answers.now (scene.left + 1) (called scene.texts.now scene.start.now scene.answers.now scene.left)

-- the environment of the thread itself, whose first block and whose turns are calls
abbrev pub thread_env : Scene → Env
thread_env scene = env_of scene.start.now scene.text scene.answers.now (scene.left + 1) (called scene.texts.now scene.start.now scene.answers.now (scene.left + 1))

-- one deeper, where that is not too deep
abbrev pub deeper_of : Spot → Option Spot
deeper_of at = cond (nat_lt at.depth 256) (Some (record at { depth = at.depth + 1 })) None

-- so many pairs of parentheses deeper
abbrev pub inside_of : ℕ → Spot → Option Spot
inside_of zero at = Some at
inside_of (suc n) at = cond (nat_le (at.depth + suc n) 256) (Some (record at { depth = at.depth + suc n })) None
