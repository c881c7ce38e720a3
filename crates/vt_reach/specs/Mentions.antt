-- What a call, a name and an assignment mention: a path that an event is published at, or a function or a live loop that is run. What `cue`, `set`, `define`, `in_thread` and `live_loop` publish is after the Sonic Pi tutorial, chapters 5, 9 and 10; the inner paths are own.
use Rattle.std.specs.Prelude.{ℕ, List, [], ◌∷◌, bytes_eq, codes, cond, option_and_then, Option, Some, None}
use Rattle.std.specs.List.{flat_map}
use Rattle.vt_frac.specs.Names.{is_symbol_name}
use Rattle.vt_table.specs.Calls.{call_row}
use Rattle.vt_table.specs.declared.calls.CallRow.{CallRow}
use Rattle.vt_path.specs.Inner.{inner_of}
use Rattle.vt_path.specs.declared.inner_path.InnerKind.TheVariants.{Body as BodyPath, Def as DefPath, Named as NamedPath, Looped as LoopedPath}
use Rattle.vt_path.proofs.PathDecided.{path_of}
use Rattle.vt_tree.specs.declared.expression.Literal.{Literal}
use Rattle.vt_tree.specs.declared.expression.Literal.TheVariants.{Text, Sym}
use Rattle.vt_tree.specs.declared.statement.AssignOp.{AssignOp}
use Rattle.vt_tree.specs.declared.statement.AssignOp.TheVariants as assign_by
use Rattle.vt_check.specs.Conditions.{begins_with_slash}
use Rattle.vt_reach.specs.declared.mention.Key.{Key}
use Rattle.vt_reach.specs.declared.mention.Key.TheVariants.{Function, Loop}
use Rattle.vt_reach.specs.declared.mention.Mention.{Mention}
use Rattle.vt_reach.specs.declared.mention.Mention.TheVariants.{Writes, WritesAny, Runs}

-- An argument as it stands in the text: the literal that it is, if it is one; parentheses round it do not count.
abbrev pub Argument : Type 0
Argument = Option Literal

-- the name of a literal symbol; in a tree that is read from a text each has the form of one
abbrev pub name_in : Literal → Option (List ℕ)
name_in (Sym name) = cond (is_symbol_name name) (Some name) None
name_in _ = None

abbrev pub name_of : Argument → Option (List ℕ)
name_of argument = option_and_then name_in argument

-- the name that the first argument is, if there is one and it is a literal symbol
abbrev pub name_given : Option Argument → Option (List ℕ)
name_given first = option_and_then name_of first

-- nothing is mentioned where there is no name
abbrev pub if_named : (List ℕ → List Mention) → Option (List ℕ) → List Mention
if_named mentions None = []
if_named mentions (Some name) = mentions name

-- a function is run where the name is in no call table
abbrev pub runs_unless : Option CallRow → List ℕ → List Mention
runs_unless None name = Runs (Function name) ∷ []
runs_unless (Some row) name = []

-- a name that is called: alone, with arguments, or before `+=`, `-=` or `*=`
abbrev pub runs_name : List ℕ → List Mention
runs_name name = runs_unless (call_row name) name

-- `x += e` calls the name as `x` alone does, and so do `-=` and `*=`; `x = e` does not
abbrev pub assigns : AssignOp → List ℕ → List Mention
assigns assign_by.Set name = []
assigns assign_by.Add name = runs_name name
assigns assign_by.Sub name = runs_name name
assigns assign_by.Mul name = runs_name name

-- the path of a name under this word
abbrev pub named_path : List ℕ → List ℕ → Option (List (List ℕ))
named_path word name = cond (is_symbol_name name) (Some (word ∷ name ∷ [])) None

-- the path that a literal text stands for in `cue` and `set`: with a leading `/` the one that it is, and else that of a name under this word
abbrev pub text_path : List ℕ → List ℕ → Option (List (List ℕ))
text_path word text = cond (begins_with_slash text) (path_of text) (named_path word text)

abbrev pub writes_if : Option (List (List ℕ)) → List Mention
writes_if None = []
writes_if (Some path) = Writes path ∷ []

-- what `cue` and `set` write, by their first argument: the path of a literal name or path, and else any
abbrev pub sends_literal : List ℕ → Literal → List Mention
sends_literal word (Sym name) = writes_if (named_path word name)
sends_literal word (Text text) = writes_if (text_path word text)
sends_literal word _ = WritesAny ∷ []

abbrev pub sends_argument : List ℕ → Argument → List Mention
sends_argument word None = WritesAny ∷ []
sends_argument word (Some literal) = sends_literal word literal

-- without an argument they write nothing
abbrev pub sends : List ℕ → Option Argument → List Mention
sends word None = []
sends word (Some argument) = sends_argument word argument

-- `define :f` tells the function
abbrev pub defines : List ℕ → List Mention
defines name = Writes (inner_of DefPath name) ∷ []

-- what a call itself mentions, by its name and its first argument
unfoldable pub call_mentions : List ℕ → Option Argument → List Mention
call_mentions name first =
    cond (bytes_eq (codes "cue") name) (sends (codes "cue") first)
    (cond (bytes_eq (codes "set") name) (sends (codes "set") first)
    (cond (bytes_eq (codes "define") name) (if_named defines (name_given first))
    (runs_name name)))

-- The block of `live_loop :x` cues each turn, tells the body and the thread, and runs whatever body the loop has by then.
abbrev pub loops : List ℕ → List Mention
loops name =
    Writes (codes "live_loop" ∷ name ∷ []) ∷ Writes (inner_of BodyPath name) ∷ Writes (inner_of LoopedPath name) ∷ Runs (Loop name) ∷ []

-- the block of `in_thread name: :x` tells of its thread
abbrev pub names_thread : List ℕ → List Mention
names_thread name = Writes (inner_of NamedPath name) ∷ []

-- an option, by its label
abbrev pub names_by : List ℕ × Argument → List Mention
names_by option = cond (bytes_eq (codes "name") option.0) (if_named names_thread (name_of option.1)) []

-- what the block of a call mentions besides what stands in it, by the call's name, first argument and options
unfoldable pub block_mentions : List ℕ → Option Argument → List (List ℕ × Argument) → List Mention
block_mentions name first options =
    cond (bytes_eq (codes "live_loop") name) (if_named loops (name_given first))
    (cond (bytes_eq (codes "in_thread") name) (flat_map names_by options)
    [])

abbrev pub key_by : (List ℕ → Key) → Option (List ℕ) → Option Key
key_by key None = None
key_by key (Some name) = Some (key name)

-- the function or the live loop whose body the block of a call is, if it is one
unfoldable pub block_key : List ℕ → Option Argument → Option Key
block_key name first =
    cond (bytes_eq (codes "live_loop") name) (key_by Loop (name_given first))
    (cond (bytes_eq (codes "define") name) (key_by Function (name_given first))
    None)
