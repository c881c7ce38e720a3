-- The world of a session: its threads, and what has come of them. After FARM 2014 for the threads; answers, steps and costs are own.
--
-- What has happened in a world, and what it cost, is not kept beside its threads: it follows from the steps that they have done.
use Rattle.std.specs.Prelude.{ℕ, ◌+◌, List, [], ◌∷◌, ◌++◌, map, Option, Some, slice_set, sum_by}
use Rattle.vt_event.specs.Event.{EventView}
use Rattle.vt_run.specs.declared.action.Action.{Action}
use Rattle.vt_run.specs.declared.action.Action.TheVariants.{Emit, Spawn}
use Rattle.vt_run.specs.declared.action.Answer.{Answer}
use Rattle.vt_run.specs.declared.start.Start.{Start}
use Rattle.vt_meaning.specs.ThreadMeaning.{ThreadMeaning}
use Rattle.vt_meaning.specs.Traces.{Entry, Thread, cost_in, trace}

-- what a session begins with: how its first threads start, what has happened before any thread acts, and what all may cost
pub record Opening : Type 0 where
  pub starts : List Start
  pub given : List EventView
  pub budget : ℕ

-- the threads, each behind those that were there before it
abbrev pub World : Type 0
World = List Thread

-- a thread that has done nothing
abbrev pub begun : Start → Thread
begun start = record { start = start; answers = []; done = 0 }

-- the world before any thread acts
abbrev pub opening_world : Opening → World
opening_world opening = map begun opening.starts

abbrev pub emitted_one : Option Action → List EventView
emitted_one (Some (Emit event)) = event ∷ []
emitted_one _ = []

-- the events that entries publish, in order
abbrev pub emitted_in : List Entry → List EventView
emitted_in [] = []
emitted_in (entry ∷ entries) = emitted_one entry.step.action ++ emitted_in entries

-- the events that threads have published
abbrev pub emitted_by : ThreadMeaning → World → List EventView
emitted_by m [] = []
emitted_by m (thread ∷ threads) = emitted_in (trace m thread) ++ emitted_by m threads

-- all that has happened: what is given with the session, and what the threads have published
abbrev pub events_of : ThreadMeaning → Opening → World → List EventView
events_of m opening world = opening.given ++ emitted_by m world

-- what the steps of all threads have cost
unfoldable pub total_of : ThreadMeaning → World → ℕ
total_of m world = sum_by (cost_in m) world

-- the thread that an action starts
abbrev pub started_by : Option Action → List Thread
started_by (Some (Spawn place start)) = begun start ∷ []
started_by _ = []

-- one evaluation step more
abbrev pub one_more : Thread → Thread
one_more thread = record { start = thread.start; answers = thread.answers; done = thread.done + 1 }

-- one answer more
abbrev pub told : Answer → Thread → Thread
told answer thread = record { start = thread.start; answers = thread.answers ++ answer ∷ []; done = thread.done }

-- the thread with this number is this one now, and what its action started is there behind the others
abbrev pub moved_on : World → ℕ → Thread → Option Action → World
moved_on world number thread action = slice_set world number thread ++ started_by action
