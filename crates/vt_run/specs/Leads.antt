-- From one place of an evaluation to another: what code does between the two, whatever comes after. The project's own.
use Rattle.std.specs.Prelude.{◌≡◌, Option, Some, None}
use Rattle.vt_run.specs.declared.action.Answer.{Answer}
use Rattle.vt_run.specs.declared.state.State.{State}
use Rattle.vt_run.specs.Notes.{Notes, noted, seen}
use Rattle.vt_run.specs.Evaluation.{Next, Ran, after}

-- To make all steps of one run and of what follows it, from the old notes, is to make those of the other and of what follows it, from the new notes: the same is noted.
pub record Leads (from : Ran) (old : Notes) (to : Ran) (new : Notes) : Type 0 where
  pub by : (next : Next) → seen (noted old (after from next).steps) ≡ seen (noted new (after to next).steps)

-- What a read or a wait leads to: with an answer, to what comes of it, where the thread then stands. Without one the list of the thread ends, and nothing more is noted.
abbrev pub LeadsOn : Option Answer → ((Answer → State → Ran) → Ran) → Notes → State → Notes → Type 0
LeadsOn (Some answer) asks old st new = (go : Answer → State → Ran) → Leads (asks go) old (go answer st) new
LeadsOn None asks old st new = (go : Answer → State → Ran) (to : Ran) → Leads (asks go) old to new
