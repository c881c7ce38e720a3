-- What a thread whose block is a row of the reach may do, as rules of the induction over threads.
use Rattle.std.proofs.Common.{◌≡◌, ℕ, List, Some, false}
use Rattle.std.specs.List.{Contains}
use Rattle.vt_path.specs.declared.pattern.Segment.{Segment}
use Rattle.vt_path.specs.Match.{Matches, is_inner}
use Rattle.vt_event.specs.declared.kind.Kind.TheVariants.{Took}
use Rattle.vt_event.specs.declared.references.BlockRef.{BlockRef}
use Rattle.vt_event.specs.Event.{EventView}
use Rattle.vt_check.specs.Conditions.{has_no_dot}
use Rattle.vt_table.specs.Calls.{call_row}
use Rattle.vt_reach.specs.declared.found.Row.{Row}
use Rattle.vt_reach.specs.declared.mention.Mention.{Mention}
use Rattle.vt_reach.specs.declared.mention.Mention.TheVariants.{Writes, WritesAny, Runs}
use Rattle.vt_reach.specs.Reach.{Reaches}
use Rattle.vt_run.specs.declared.action.Answer.{Answer}
use Rattle.vt_run.specs.declared.action.Answer.TheVariants.{Found}
use Rattle.vt_run.specs.declared.role.Role.{Role}
use Rattle.vt_run.specs.declared.texts.Texts.{Texts}
use Rattle.vt_run.proofs.growth.Rules.{Rules}
use Rattle.vt_reached.specs.Fit.{FitsBody, FitsRole, IsRow, rows_of_texts}
use Rattle.vt_reached.specs.Leading.{IsHeard}

-- the mention is of the path, or of any that is not inner
abbrev pub IsOfPath : Mention → List (List ℕ) → Type 0
IsOfPath (Writes written) path = written ≡ path
IsOfPath WritesAny path = is_inner path ≡ false
IsOfPath (Runs key) path = ⊥

-- a block from which a path is reached
pub record WritesPath (texts : Texts) (from : Row) (path : List (List ℕ)) : Type 0 where
  pub mention : Mention
  pub reached : Reaches (rows_of_texts texts) from mention
  pub is : IsOfPath mention path

-- all that this block reaches is reached
abbrev pub Covers : Texts → Row → Row → Type 0
Covers texts from block = (mention : Mention) → Reaches (rows_of_texts texts) block mention → Reaches (rows_of_texts texts) from mention

-- all of these mentions are reached
abbrev pub AllReached : Texts → Row → List Mention → Type 0
AllReached texts from mentions = (mention : Mention) → Contains mentions mention → Reaches (rows_of_texts texts) from mention

-- a block of the texts whose reach is within that of the thread
pub record IsCovered (texts : Texts) (from : Row) (ref : BlockRef) : Type 0 where
  pub block : Row
  pub is : IsRow texts ref block
  pub covers : Covers texts from block

-- what the thread tells, where a pattern can find it, is what the texts can lead to, and at a path of its reach
pub record MayTell (texts : Texts) (from : Row) (event : EventView) : Type 0 where
  pub known : (path : List (List ℕ)) → event.path ≡ Some path → FitsBody texts event.path event.body
  pub writes : (path : List (List ℕ)) → event.path ≡ Some path → WritesPath texts from path

abbrev pub reach_rules : Texts → Row → Rules
reach_rules texts from = record {
  Tells = λ event. (event.kind ≡ Took → ⊥) → MayTell texts from event;
  Starts = λ role ref. (found : IsCovered texts from ref) × FitsRole role found.block;
  Runs = IsCovered texts from;
  Hears = λ pattern answer. (event : EventView) → answer ≡ Found event → IsHeard texts pattern event;
  Dotted = λ name. has_no_dot (call_row name) ≡ false;
}
