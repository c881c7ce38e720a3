-- What stays the same while a block of a thread is evaluated.
use Rattle.std.specs.Prelude.{ℕ, List, Option}
use Rattle.vt_event.specs.declared.references.BlockRef.{BlockRef}
use Rattle.vt_run.specs.declared.action.Answer.{Answer}
use Rattle.vt_run.specs.declared.start.Start.{Start}
use Rattle.vt_run.specs.Evaluation.{Evaluation}

-- a block that a call runs: its parameters, and what its statements do
pub record Body : Type 0 where
  pub params : List (List ℕ)
  pub run : Evaluation

pub record Env : Type 0 where
  -- how the thread started
  pub start : Start
  -- the text in which the block stands
  pub text : ℕ
  -- the answers of the thread's reads and waits, in order; the state counts how many of them are used
  pub answers : List Answer
  -- how many turns a loop makes at most
  pub turns : ℕ
  -- the blocks of the texts, as calls run them
  pub body : BlockRef → Option Body

-- the meaning of a part of a text: its evaluation, in an environment
abbrev pub Meaning : Type 0
Meaning = Env → Evaluation
