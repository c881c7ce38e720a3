-- The limits of the language on what a thread is given, holds and does: own.
use Rattle.std.specs.Prelude.{◌≡◌, ◌⊎◌, ℕ, ◌<◌, ◌^◌, List, false, Option, Some, None, IsTrue}
use Rattle.std.specs.List.{AllByRecursion}
use Rattle.vt_frac.specs.Arithmetic.{sum_of}
use Rattle.vt_frac.specs.Fraction.{Fraction, IsFraction}
use Rattle.vt_path.specs.declared.pattern.Segment.{Segment}
use Rattle.vt_path.specs.Inner.{IsInner}
use Rattle.vt_path.specs.Match.{literal_of}
use Rattle.vt_path.specs.Path.{IsPath}
use Rattle.vt_path.specs.Pattern.{IsPattern}
use Rattle.vt_ring.specs.Exact.{is_negative}
use Rattle.vt_check.specs.Checked.{IsChecked}
use Rattle.vt_tree.specs.declared.statement.Block.{Block}
use Rattle.vt_value.specs.declared.value.Value.{Value}
use Rattle.vt_frac.specs.Names.{is_label_name, is_symbol_name}
use Rattle.vt_value.specs.Limits.{IsWithin}
use Rattle.vt_event.specs.declared.references.BlockRef.{BlockRef}
use Rattle.vt_event.specs.Event.{EventView}
use Rattle.vt_event.specs.Kinds.{has_name}
use Rattle.vt_event.specs.Pairs.{Pairs}
use Rattle.vt_run.specs.declared.action.Action.{Action}
use Rattle.vt_run.specs.declared.action.Action.TheVariants.{Emit, Rest, Read, Wait, Spawn, End}
use Rattle.vt_run.specs.declared.action.Answer.{Answer}
use Rattle.vt_run.specs.declared.action.Answer.TheVariants.{Nothing, Found}
use Rattle.vt_run.specs.declared.role.Role.{Role}
use Rattle.vt_run.specs.declared.role.Role.TheVariants.{Plain, Named, Looped, Timed}
use Rattle.vt_run.specs.declared.settings.Settings.{Settings}
use Rattle.vt_run.specs.declared.start.Start.{Start}
use Rattle.vt_run.specs.declared.texts.Texts.{Texts}
use Rattle.vt_run.specs.Delays.{is_delay}
use Rattle.vt_run.specs.Tempo.{is_tempo}
use Rattle.vt_run.specs.Threads.{text_at, tree_in}

-- a local or an option: its name is one of a label
pub record IsPairWithin (pair : List ℕ × Value) : Type 0 where
  pub name : IsTrue (is_label_name pair.0)
  pub value : IsWithin pair.1

abbrev pub ArePairsWithin : Pairs → Type 0
ArePairsWithin pairs = AllByRecursion IsPairWithin pairs

-- a tempo above 0, the name of a synth, and defaults
pub record AreSettingsWithin (settings : Settings) : Type 0 where
  pub bpm : IsFraction settings.bpm
  pub tempo : IsTrue (is_tempo settings.bpm)
  pub synth : IsTrue (is_symbol_name settings.synth)
  pub defaults : ArePairsWithin settings.defaults

-- a path that a user may write, or an inner one
abbrev pub IsPathWithin : List (List ℕ) → Type 0
IsPathWithin path = IsPath path ⊎ IsInner path

-- the literal pattern of an inner path
pub record IsInnerPattern (pattern : List Segment) : Type 0 where
  pub path : List (List ℕ)
  pub inner : IsInner path
  pub whole : pattern ≡ literal_of path

-- a pattern that a user may write, or that of an inner path
abbrev pub IsPatternWithin : List Segment → Type 0
IsPatternWithin pattern = IsPattern pattern ⊎ IsInnerPattern pattern

abbrev pub IsWaitWithin : Option (List Segment) → Type 0
IsWaitWithin None = Unit {0}
IsWaitWithin (Some pattern) = IsPattern pattern

-- the name of a thread; what a live loop waits for, and the value for its first turn; the rest of a thread of `at`, and the value that it is given
abbrev pub IsRoleWithin : Role → Type 0
IsRoleWithin Plain = Unit {0}
IsRoleWithin (Named name) = IsTrue (is_symbol_name name)
IsRoleWithin (Looped name wait init) = IsTrue (is_symbol_name name) × IsWaitWithin wait × IsWithin init
IsRoleWithin (Timed rest given line) = IsFraction rest × IsTrue (is_delay rest) × IsWithin given

pub record IsStartWithin (start : Start) : Type 0 where
  pub time : IsFraction start.place.time
  pub locals : ArePairsWithin start.locals
  pub settings : AreSettingsWithin start.settings
  pub seed : start.seed < 2 ^ 64
  pub role : IsRoleWithin start.role
  pub until : IsFraction start.until

abbrev pub IsSomePathWithin : Option (List (List ℕ)) → Type 0
IsSomePathWithin None = Unit {0}
IsSomePathWithin (Some path) = IsPathWithin path

abbrev pub IsBodyWithin : Option (BlockRef × Pairs) → Type 0
IsBodyWithin None = Unit {0}
IsBodyWithin (Some body) = ArePairsWithin body.1

pub record IsEventWithin (event : EventView) : Type 0 where
  pub time : IsFraction event.place.time
  pub path : IsSomePathWithin event.path
  pub name : IsTrue (has_name event.kind) → IsTrue (is_symbol_name event.name)
  pub value : IsWithin event.value
  pub options : ArePairsWithin event.options
  pub body : IsBodyWithin event.body

abbrev pub IsAnswerWithin : Answer → Type 0
IsAnswerWithin Nothing = Unit {0}
IsAnswerWithin (Found event) = IsEventWithin event

-- a rest of at least 0 seconds
pub record IsRestWithin (seconds : Fraction) : Type 0 where
  pub fraction : IsFraction seconds
  pub forward : is_negative seconds ≡ false

-- the pattern of a stop is the literal one of an inner path
abbrev pub IsStopWithin : Option (List Segment) → Type 0
IsStopWithin None = Unit {0}
IsStopWithin (Some pattern) = IsInnerPattern pattern

-- An action, with what stands in it. The time after a rest fits too. The lists of threads and the numbers of effects in it are kept within their limits by their types.
abbrev pub IsActionWithin : Action → Type 0
IsActionWithin (Emit event) = IsEventWithin event
IsActionWithin (Rest place seconds) = IsFraction place.time × IsRestWithin seconds × IsFraction (sum_of place.time seconds)
IsActionWithin (Read place pattern) = IsFraction place.time × IsPatternWithin pattern
IsActionWithin (Wait place pattern stop) = IsFraction place.time × IsPattern pattern × IsStopWithin stop
IsActionWithin (Spawn place start) = IsFraction place.time × IsStartWithin start
IsActionWithin (End place reason) = IsFraction place.time

-- each text that is not refused is a tree that the checks allow
abbrev pub AreChecked : Texts → Type 0
AreChecked texts = (number : ℕ) (tree : Block) → tree_in (text_at texts number) ≡ Some tree → IsChecked tree
