-- What the checks see of a call: its name, the row that the table has for it, and how it is written.
use Rattle.std.specs.Prelude.{ℕ, ◌+◌, Bool, true, false, ◌||◌, not, cond, List, [], ◌∷◌, length, codes, bytes_eq, Option, Some, None, option_and_then}
use Rattle.std.specs.List.{list_any}
use Rattle.vt_table.specs.Calls.{call_row}
use Rattle.vt_table.specs.declared.calls.CallRow.{CallRow}
use Rattle.vt_tree.specs.declared.expression.Node.{out-Node}
use Rattle.vt_tree.specs.declared.expression.Node.TheOpen.{Node-F}
use Rattle.vt_tree.specs.declared.expression.Call.{out-Call}
use Rattle.vt_tree.specs.declared.expression.Expr.{Expr, out-Expr}
use Rattle.vt_tree.specs.declared.expression.Literal.{Literal}
use Rattle.vt_tree.specs.declared.expression.Literal.TheVariants.{Text, Sym}
use Rattle.vt_tree.specs.declared.statement.Block.{Block}
use Rattle.vt_tree.specs.Parts.{Site}
use Rattle.vt_tree.specs.Layers.{OfTrees}

-- the name of a call
abbrev pub name_of : Site → List ℕ
name_of s = (out-Call s.call).name

-- the call has this name
abbrev pub is_call : List ℕ → Site → Bool
is_call name s = bytes_eq name (name_of s)

-- the call has one of these names
abbrev pub is_among : List (List ℕ) → Site → Bool
is_among names s = list_any (λ name. is_call name s) names

-- the calls that are made after a dot only
abbrev pub methods : List (List ℕ)
methods = codes "times" ∷ codes "each" ∷ codes "map" ∷ []

-- what the call table says of the call, if its name is there
abbrev pub row_of : Site → Option CallRow
row_of s = call_row (name_of s)

-- its positional arguments, without the receiver of a dot
abbrev pub args_of : Site → List Expr
args_of s = (out-Call s.call).args

-- its labelled arguments
abbrev pub options_of : Site → List (List ℕ × Expr)
options_of s = (out-Call s.call).options

-- its block, if it has one
abbrev pub block_of : Site → Option Block
block_of s = (out-Call s.call).block

abbrev pub is_empty : {X : Type 0} → List X → Bool
is_empty [] = true
is_empty (x ∷ xs) = false

-- it is written with arguments, labelled ones too, or with parentheses
abbrev pub has_arguments : Site → Bool
has_arguments s = (out-Call s.call).wrapped || not (is_empty (args_of s)) || not (is_empty (options_of s))

-- it is written with arguments, parentheses or a dot
abbrev pub is_written_out : Site → Bool
is_written_out s = has_arguments s || s.context.dotted

-- the count of its positional arguments; the receiver of a dot counts as the first
abbrev pub count_of : Site → ℕ
count_of s = cond s.context.dotted 1 0 + length (args_of s)

-- the literal that a node is
abbrev pub literal_at : OfTrees Node-F → Option Literal
literal_at (Node-F.Literal value) = Some value
literal_at _ = None

-- the literal that an expression is, with or without parentheses round it
abbrev pub literal_of : Expr → Option Literal
literal_of e = literal_at (out-Node (out-Expr e).node)

-- the name of a literal symbol
abbrev pub symbol_in : Literal → Option (List ℕ)
symbol_in (Sym name) = Some name
symbol_in _ = None

-- the value of a literal text
abbrev pub text_in : Literal → Option (List ℕ)
text_in (Text value) = Some value
text_in _ = None

-- the name of the literal symbol that an expression is
abbrev pub symbol_of : Expr → Option (List ℕ)
symbol_of e = option_and_then symbol_in (literal_of e)

-- the value of the literal text that an expression is
abbrev pub text_of : Expr → Option (List ℕ)
text_of e = option_and_then text_in (literal_of e)

-- the first argument, if there is one
abbrev pub first_of : {X : Type 0} → List X → Option X
first_of [] = None
first_of (x ∷ xs) = Some x

-- two of these have the same name
abbrev pub has_twice : {X : Type 0} → (X → List ℕ) → List X → Bool
has_twice name [] = false
has_twice name (x ∷ xs) = list_any (λ y. bytes_eq (name x) (name y)) xs || has_twice name xs
