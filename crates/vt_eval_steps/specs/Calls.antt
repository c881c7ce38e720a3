-- Which calls run a block of the text, and what a call of a function finds. The project's own.
use Rattle.std.specs.Prelude.{ℕ, zero, suc, Bool, true, false}
use Rattle.vt_table.specs.declared.calls.CallName.{CallName}
use Rattle.vt_table.specs.declared.calls.CallName.TheVariants.{Density, Each, Loop, Map, Times, WithBpm, WithFx, WithRandomSeed, WithSynth}
use Rattle.vt_run.specs.Environment.{Body}
use Rattle.vt_run.specs.Threads.{bounded_body, body_in, called, env_of}
use Rattle.vt_run.specs.TreeMeaning.{block_meaning}
use Rattle.vt_run.specs.calls.FunctionCalls.{FoundBody}
use Rattle.vt_eval_steps.specs.declared.scene.Scene.{Scene}
use Rattle.vt_eval_steps.specs.declared.calls.Found.{Found}

-- a call that runs its block where it stands
abbrev pub runs_block : CallName → Bool
runs_block Density = true
runs_block Each = true
runs_block Loop = true
runs_block Map = true
runs_block Times = true
runs_block WithBpm = true
runs_block WithFx = true
runs_block WithRandomSeed = true
runs_block WithSynth = true
runs_block _ = false

-- the body of a block that was found, where calls stand at most so many times within one another
abbrev pub body_within : Scene → Found → ℕ → Body
body_within scene found zero = bounded_body (block_meaning found.block.now)
body_within scene found (suc n) = body_in (env_of scene.start.now found.text scene.answers.now (suc n) (called scene.texts.now scene.start.now scene.answers.now n)) (block_meaning found.block.now)

-- what was found, as the definitions see it
abbrev pub found_within : Scene → Found → ℕ → FoundBody
found_within scene found n = record { body = body_within scene found n; locals = found.locals.now; line = found.line }
