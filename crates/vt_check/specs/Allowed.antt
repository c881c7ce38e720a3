-- Which trees are allowed, and what the others are refused for.
use Rattle.std.specs.Prelude.{◌≡◌, ℕ, true, List, [], ◌∷◌, ◌++◌, ◌⊎◌}
use Rattle.std.specs.List.{All}
use Rattle.vt_tree.specs.declared.statement.Block.{Block}
use Rattle.vt_tree.specs.Parts.{Site, sites}
use Rattle.vt_check.specs.declared.fault.CheckKind.{CheckKind}
use Rattle.vt_check.specs.declared.fault.CheckKind.TheVariants.{DefinePlace, Name, Taken, Method, Count, Opt, Block as WrongBlock, Params, Path}
use Rattle.vt_check.specs.Conditions.{is_misplaced, is_misnamed, is_taken, is_no_method, is_miscounted, has_bad_option, has_wrong_block, has_wrong_params, HasRefusedPath}

-- the call has the fault that this check speaks of
abbrev pub Fails : CheckKind → Site → Type 0
Fails DefinePlace s = is_misplaced s ≡ true
Fails Name s = is_misnamed s ≡ true
Fails Taken s = is_taken s ≡ true
Fails Method s = is_no_method s ≡ true
Fails Count s = is_miscounted s ≡ true
Fails Opt s = has_bad_option s ≡ true
Fails WrongBlock s = has_wrong_block s ≡ true
Fails Params s = has_wrong_params s ≡ true
Fails Path s = HasRefusedPath s

-- the checks, in the order in which they are answered at one call
unfoldable pub checks : List CheckKind
checks = DefinePlace ∷ Name ∷ Taken ∷ Method ∷ Count ∷ Opt ∷ WrongBlock ∷ Params ∷ Path ∷ []

-- the call has no fault of these
abbrev pub HasNone : List CheckKind → Site → Type 0
HasNone [] s = Unit {0}
HasNone (kind ∷ kinds) s = (Fails kind s → ⊥) × HasNone kinds s

-- this is the first of these faults that the call has
abbrev pub HasFirst : List CheckKind → Site → CheckKind → Type 0
HasFirst [] s found = ⊥
HasFirst (kind ∷ kinds) s found = (Fails kind s × (found ≡ kind)) ⊎ ((Fails kind s → ⊥) × HasFirst kinds s found)

-- a call without a fault
unfoldable pub IsSound : Site → Type 0
IsSound s = HasNone checks s

-- the fault that is answered at a call: the first in the order of the checks
unfoldable pub IsFaultOf : Site → CheckKind → Type 0
IsFaultOf s kind = HasFirst checks s kind

-- Of these calls, in the order of the tokens, the first with a fault stands in a statement of this line and has this one.
pub record FirstFault (calls : List Site) (line : ℕ) (kind : CheckKind) : Type 0 where
  pub before : List Site
  pub call : Site
  pub after : List Site
  pub whole : calls ≡ before ++ call ∷ after
  pub sound : All IsSound before
  pub fault : IsFaultOf call kind
  pub here : line ≡ call.context.line

-- a tree all of whose calls are without a fault
unfoldable pub IsAllowed : Block → Type 0
IsAllowed tree = All IsSound (sites tree)

-- what a tree is refused for
unfoldable pub CheckRefuses : Block → ℕ → CheckKind → Type 0
CheckRefuses tree line kind = FirstFault (sites tree) line kind
