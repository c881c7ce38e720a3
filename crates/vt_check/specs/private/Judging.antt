-- What a walk over a tree has to find.
use Rattle.std.specs.Prelude.{List, Result, Ok, Err, Option, Some, None}
use Rattle.std.specs.List.{All}
use Rattle.vt_tree.specs.Parts.{Part, Context, Site, sites_of}
use Rattle.vt_tree.specs.declared.expression.Call.{Call}
use Rattle.vt_check.specs.declared.fault.CheckKind.{CheckKind}
use Rattle.vt_check.specs.declared.fault.CheckFault.{CheckFault}
use Rattle.vt_check.specs.declared.fault.CheckFault.TheVariants.{At, NoMemory}
use Rattle.vt_check.specs.Allowed.{IsSound, IsFaultOf, FirstFault}

-- Ok where the calls among these parts have no fault, else the first fault of theirs
abbrev pub Judgement : {U : Type 0} → List Part → Result U CheckFault → Type 0
Judgement parts (Ok u) = All IsSound (sites_of parts)
Judgement parts (Err (At line kind)) = FirstFault (sites_of parts) line kind
Judgement parts (Err NoMemory) = Unit {0}

-- the same, as a fact whose parts and result are seen
pub record Judges {U : Type 0} (parts : List Part) (r : Result U CheckFault) : Type 0 where
  pub judged : Judgement parts r

-- the fault of one call, if it has one
abbrev pub JudgesCall : Site → Option CheckKind → Type 0
JudgesCall site None = IsSound site
JudgesCall site (Some kind) = IsFaultOf site kind

-- a call in a context
abbrev pub site_of : Context → Call → Site
site_of context call = record { context = context; call = call }
