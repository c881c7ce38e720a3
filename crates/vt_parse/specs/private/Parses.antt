-- What the parser's functions answer.
use Rattle.std.specs.Prelude.{ℕ, Bool, false, ◌&&◌, List, [], ◌∷◌, Option, Some, None, Result, Ok, Err}
use Rattle.vt_grammar.specs.declared.terminals.Terminal.{Terminal}
use Rattle.vt_build.specs.declared.fault.Fault.{Fault}
use Rattle.vt_build.specs.declared.fault.Fault.TheVariants.{Here, NoMemory}
use Rattle.vt_grammar.specs.Form.{Form}
use Rattle.vt_grammar.specs.private.Parsing.{Read, Stuck}
use Rattle.vt_grammar.specs.Marks.{Mark}
use Rattle.vt_grammar.specs.Grammar.{leads, is_set}
use Rattle.vt_grammar.specs.private.Sets.{ArgStarts, just}
use Rattle.vt_grammar.specs.declared.terminals.Terminal.TheVariants as terminals

-- the terminal of the token that stands first
abbrev pub peeked : List Mark → Option Terminal
peeked [] = None
peeked (t ∷ ts) = Some t.terminal

-- whether the terminal of the first token is in the set
abbrev pub peeked_in : (Terminal → Bool) → List Mark → Bool
peeked_in F [] = false
peeked_in F (t ∷ ts) = F t.terminal

-- whether a blank stands before the second token, and its terminal
abbrev pub peeked_second : List Mark → Option (Bool × Terminal)
peeked_second [] = None
peeked_second (t ∷ []) = None
peeked_second (t ∷ u ∷ ts) = Some (u.gap, u.terminal)

-- where something more may be opened or not
abbrev pub leads_second : Bool → Option (Bool × Terminal) → Bool
leads_second b None = false
leads_second b (Some (gap, w)) = gap && (leads w && ArgStarts b w)

-- the first token is the head of a command, and an argument may begin after it
abbrev pub is_command : Bool → List Mark → Bool
is_command b tokens = peeked_in (just terminals.Name) tokens && leads_second b (peeked_second tokens)

abbrev pub sets_second : Option (Bool × Terminal) → Bool
sets_second None = false
sets_second (Some (gap, w)) = is_set w

-- an assignment begins here
abbrev pub is_assign : List Mark → Bool
is_assign tokens = peeked_in (just terminals.Name) tokens && sets_second (peeked_second tokens)

-- the line of the token that stands first
abbrev pub peeked_line : List Mark → Option ℕ
peeked_line [] = None
peeked_line (t ∷ ts) = Some t.line

-- No memory, or no token more could be read.
abbrev pub Fails : {V : Type 0} → Form Mark V → List Mark → List Mark → Fault → Type 0
Fails a old new Here = Stuck a old new
Fails a old new NoMemory = Unit {0}

-- The form was read from a prefix of old and new is left, or it failed at new.
abbrev pub Parses : {V : Type 0} → Form Mark V → List Mark → List Mark → Result V Fault → Type 0
Parses a old new (Ok v) = Read a old new v
Parses a old new (Err e) = Fails a old new e
