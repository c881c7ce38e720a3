-- The trees that the rules of the grammar are read given.
use Rattle.std.specs.Prelude.{ℕ, suc, ◌-◌, Bool, true, false, ◌&&◌, cond, nat_eq, is_none, List, [], ◌∷◌, ◌++◌, codes, bytes_eq, Option, Some, None}
use Rattle.vt_tree.specs.declared.expression.Expr.{Expr, out-Expr, roll-Expr}
use Rattle.vt_tree.specs.declared.expression.Node.{Node, out-Node}
use Rattle.vt_tree.specs.declared.expression.Node.TheOpen.{Node-F}
use Rattle.vt_tree.specs.declared.expression.Node.TheVariants as nodes
use Rattle.vt_tree.specs.declared.expression.Call.{Call, out-Call, roll-Call}
use Rattle.vt_tree.specs.declared.expression.Link.{Link, roll-Link}
use Rattle.vt_tree.specs.declared.expression.UnaryOp.{UnaryOp}
use Rattle.vt_tree.specs.declared.expression.UnaryOp.TheVariants as unaries
use Rattle.vt_tree.specs.declared.expression.ChainKind.{ChainKind}
use Rattle.vt_tree.specs.declared.expression.ChainKind.TheVariants as chains
use Rattle.vt_tree.specs.declared.expression.ChainOp.{ChainOp}
use Rattle.vt_tree.specs.declared.expression.ChainOp.TheVariants as ops
use Rattle.vt_tree.specs.declared.statement.Arm.{Arm, roll-Arm}
use Rattle.vt_tree.specs.declared.statement.AssignOp.{AssignOp}
use Rattle.vt_tree.specs.declared.statement.AssignOp.TheVariants as sets
use Rattle.vt_tree.specs.declared.statement.Block.{Block, roll-Block}
use Rattle.vt_tree.specs.declared.statement.Simple.{Simple}
use Rattle.vt_tree.specs.declared.statement.Stmt.{Stmt, roll-Stmt}
use Rattle.vt_tree.specs.declared.statement.StmtForm.{StmtForm}
use Rattle.vt_tree.specs.declared.statement.StmtForm.TheVariants as forms
use Rattle.vt_tree.specs.Layers.{OfTrees}
use Rattle.vt_grammar.specs.declared.parts.Arguments.{Arguments}
use Rattle.vt_grammar.specs.declared.parts.Part.{Part}
use Rattle.vt_grammar.specs.declared.parts.Part.TheVariants as parts
use Rattle.vt_grammar.specs.declared.terminals.Terminal.{Terminal}
use Rattle.vt_grammar.specs.declared.terminals.Terminal.TheVariants as terminals
use Rattle.vt_grammar.specs.Marks.{Mark}

-- a node without parentheses round it
abbrev pub plain : Node → Expr
plain node = roll-Expr (record { wraps = 0; node = node })

-- the expression with one more pair of parentheses directly round it
abbrev pub wrapped : Expr → Expr
wrapped e = roll-Expr (record { wraps = suc (out-Expr e).wraps; node = (out-Expr e).node })

-- an argument, with its label where it has one
abbrev pub Argument : Type 0
Argument = Option (List ℕ) × Expr

abbrev pub positional : List Argument → List Expr
positional [] = []
positional ((None, e) ∷ given) = e ∷ positional given
positional ((Some label, e) ∷ given) = positional given

abbrev pub labelled : List Argument → List (List ℕ × Expr)
labelled [] = []
labelled ((None, e) ∷ given) = labelled given
labelled ((Some label, e) ∷ given) = (label, e) ∷ labelled given

-- the arguments after those that were found, each kind in its list
abbrev pub gathered : Arguments → List Argument → Arguments
gathered found given = record { args = found.args ++ positional given; options = found.options ++ labelled given }

abbrev pub no_arguments : Arguments
no_arguments = record { args = []; options = [] }

-- the call of a name with these arguments
abbrev pub call_of : List ℕ → Bool → Arguments → Option Block → Call
call_of name in_parentheses given block =
    roll-Call (record { name = name; wrapped = in_parentheses; args = given.args; options = given.options; block = block })

-- the call with this block
abbrev pub call_with : Call → Block → Call
call_with c b = let call = out-Call c in
    roll-Call (record { name = call.name; wrapped = call.wrapped; args = call.args; options = call.options; block = Some b })

-- a name alone, or with arguments in parentheses the call of it
abbrev pub named_tree : List ℕ → Option Arguments → Expr
named_tree name None = plain (nodes.Name name)
named_tree name (Some given) = plain (nodes.Call (call_of name true given None))

-- what follows a dot, with the arguments in parentheses and the block in braces where they are there
abbrev pub dot_call : List ℕ → Option Arguments → Option Block → Call
dot_call name None block = call_of name false no_arguments block
dot_call name (Some given) block = call_of name true given block

-- the name `get`
abbrev pub is_get : OfTrees Node-F → Bool
is_get (Node-F.Name name) = bytes_eq (codes "get") name
is_get _ = false

-- the name `get` alone, without parentheses round it
unfoldable pub is_bare_get : Expr → Bool
is_bare_get e = nat_eq (out-Expr e).wraps 0 && is_get (out-Node (out-Expr e).node)

-- the value with an index or a dot after it. After a bare `get` an index makes the call of `get` with it.
unfoldable pub with_part : Expr → Part → Expr
with_part e (parts.Index at) =
    cond (is_bare_get e) (plain (nodes.Call (call_of (codes "get") true (record { args = at ∷ []; options = [] }) None))) (plain (nodes.Index e at))
with_part e (parts.Dot call) = plain (nodes.Dot e call)

-- how many indexes and dots may follow this one. The index that makes a call of a bare `get` isn't counted.
abbrev pub left_after : ℕ → Bool → Part → ℕ
left_after n fresh (parts.Index at) = cond fresh n (n - 1)
left_after n fresh (parts.Dot call) = n - 1

abbrev pub with_parts : Expr → List Part → Expr
with_parts e [] = e
with_parts e (p ∷ ps) = with_parts (with_part e p) ps

-- how many indexes and dots more may follow, and whether a bare `get` stands before them
abbrev pub Left : Type 0
Left = ℕ × Bool

abbrev pub sign_of : Terminal → UnaryOp
sign_of terminals.Minus = unaries.Minus
sign_of terminals.TightMinus = unaries.Minus
sign_of _ = unaries.Not

-- an operand after its sign
abbrev pub signed_tree : Mark × Expr → Expr
signed_tree (t, e) = plain (nodes.Unary (sign_of t.terminal) e)

abbrev pub op_of : Terminal → ChainOp
op_of terminals.And = ops.And
op_of terminals.Or = ops.Or
op_of terminals.Either = ops.Or
op_of terminals.Both = ops.And
op_of terminals.Same = ops.Eq
op_of terminals.Differs = ops.Ne
op_of terminals.Below = ops.Lt
op_of terminals.AtMost = ops.Le
op_of terminals.Above = ops.Gt
op_of terminals.AtLeast = ops.Ge
op_of terminals.Plus = ops.Add
op_of terminals.Minus = ops.Sub
op_of terminals.TightMinus = ops.Sub
op_of terminals.Star = ops.Mul
op_of terminals.Slash = ops.Div
op_of _ = ops.Rem

abbrev pub link_tree : Mark × Expr → Link
link_tree (t, e) = roll-Link (record { op = op_of t.terminal; part = e })

-- a part alone, or one node for a chain with at least one operator
abbrev pub chain_tree : ChainKind → Expr → List Link → Expr
chain_tree kind e [] = e
chain_tree kind e (l ∷ ls) = plain (nodes.Chain kind e (l ∷ ls))

-- the same of a comparison or none
abbrev pub comparison : Expr → Option Link → Expr
comparison e None = e
comparison e (Some l) = plain (nodes.Chain chains.Comp e (l ∷ []))

abbrev pub node_takes_block : OfTrees Node-F → Bool
node_takes_block (Node-F.Name name) = true
node_takes_block (Node-F.Call call) = true
node_takes_block (Node-F.Dot of call) = is_none (out-Call call).block
node_takes_block _ = false

-- Whether a `do` may follow: after a command, a bare name, a call with parentheses, or a value whose last part is a dot
-- without braces, each given a whole and without parentheses round it.
unfoldable pub takes_block : Expr → Bool
takes_block e = nat_eq (out-Expr e).wraps 0 && node_takes_block (out-Node (out-Expr e).node)

abbrev pub node_with_block : Node → OfTrees Node-F → Block → Node
node_with_block node (Node-F.Name name) b = nodes.Call (call_of name false no_arguments (Some b))
node_with_block node (Node-F.Call call) b = nodes.Call (call_with call b)
node_with_block node (Node-F.Dot of call) b = nodes.Dot of (call_with call b)
node_with_block node _ b = node

-- the block goes to the command, the name, the call or the last dot before it
unfoldable pub with_block : Expr → Option Block → Expr
with_block e None = e
with_block e (Some b) = let node = (out-Expr e).node in plain (node_with_block node (out-Node node) b)

abbrev pub set_of : Terminal → AssignOp
set_of terminals.SetPlus = sets.Add
set_of terminals.SetMinus = sets.Sub
set_of terminals.SetTimes = sets.Mul
set_of _ = sets.Set

abbrev pub is_unless : Terminal → Bool
is_unless terminals.Unless = true
is_unless _ = false

-- a statement, with `if` or `unless` and a condition after it where they are there
abbrev pub form_tree : Simple → Option (Bool × Expr) → StmtForm
form_tree simple None = forms.Plain simple
form_tree simple (Some (unless, cond)) = forms.Guarded simple unless cond

abbrev pub stmt_tree : ℕ × StmtForm → Stmt
stmt_tree (line, form) = roll-Stmt (record { line = line; form = form })

abbrev pub arm_tree : Bool → Expr → List Stmt → Arm
arm_tree unless cond stmts = roll-Arm (record { unless = unless; cond = cond; stmts = stmts })

abbrev pub block_tree : ℕ → Option (List (List ℕ)) → List Stmt → Block
block_tree number None stmts = roll-Block (record { number = number; params = []; stmts = stmts })
block_tree number (Some params) stmts = roll-Block (record { number = number; params = params; stmts = stmts })

-- the statements of lines, of which some have none
abbrev pub present : List (Option Stmt) → List Stmt
present [] = []
present (None ∷ os) = present os
present (Some s ∷ os) = s ∷ present os
