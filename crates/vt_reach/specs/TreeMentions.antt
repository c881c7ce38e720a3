-- What is found in each part of a tree, layer by layer, with what is found in each child in its place. Own.
use Rattle.std.specs.Prelude.{ℕ, List, [], ◌∷◌, map, Option, Some, None}
use Rattle.std.specs.Option.{option_map}
use Rattle.vt_tree.specs.declared.expression.Node.{Node}
use Rattle.vt_tree.specs.declared.expression.Node.TheOpen.{Node-F, Simple-F, StmtForm-F, Call-F, Expr-F, Link-F, Arm-F, Block-F, Stmt-F}
use Rattle.vt_tree.specs.declared.expression.Node.TheFolds.{fold-Node, fold-Simple, fold-StmtForm, fold-Call, fold-Expr, fold-Link, fold-Arm, fold-Block, fold-Stmt}
use Rattle.vt_tree.specs.declared.expression.Call.{Call}
use Rattle.vt_tree.specs.declared.expression.Expr.{Expr}
use Rattle.vt_tree.specs.declared.expression.Link.{Link}
use Rattle.vt_tree.specs.declared.statement.Arm.{Arm}
use Rattle.vt_tree.specs.declared.statement.Block.{Block}
use Rattle.vt_tree.specs.declared.statement.Simple.{Simple}
use Rattle.vt_tree.specs.declared.statement.Stmt.{Stmt}
use Rattle.vt_tree.specs.declared.statement.StmtForm.{StmtForm}
use Rattle.vt_check.specs.Written.{first_of}
use Rattle.vt_reach.specs.declared.found.BlockUse.{BlockUse}
use Rattle.vt_reach.specs.declared.found.Found.{Found}
use Rattle.vt_reach.specs.Founds.{all_of, if_found, in_block, joined, nothing, only}
use Rattle.vt_reach.specs.Mentions.{Argument, assigns, block_key, block_mentions, call_mentions, runs_name}

-- an expression: what is found in it, and the literal that it is, if it is one
pub record Seen : Type 0 where
  pub found : Found
  pub literal : Argument

-- a layer of the tree, with what is found in each child in its place
abbrev pub OfFound : (Type 0 → Type 0 → Type 0 → Type 0 → Type 0 → Type 0 → Type 0 → Type 0 → Type 0 → Type 0) → Type 0
OfFound Layer = Layer Seen Found Found Found Seen Found Found Found Found

-- what is said of all types of children, of these
abbrev pub at_found : {P : Type 0 → Type 0 → Type 0 → Type 0 → Type 0 → Type 0 → Type 0 → Type 0 → Type 0 → Type 0} → ((A B C D E F G H I : Type 0) → P A B C D E F G H I) → P Seen Found Found Found Seen Found Found Found Found
at_found f = f Seen Found Found Found Seen Found Found Found Found

-- what is found in expressions, one after another
abbrev pub all_seen : List Seen → Found
all_seen seen = all_of (map (λ e. e.found) seen)

-- a bare name may be a call
abbrev pub node_found : OfFound Node-F → Found
node_found (Node-F.Literal value) = nothing
node_found (Node-F.Name name) = only (runs_name name)
node_found (Node-F.Call call) = call
node_found (Node-F.List items) = all_seen items
node_found (Node-F.Index of at) = joined of.found at.found
node_found (Node-F.Dot of call) = joined of.found call
node_found (Node-F.Unary op of) = of.found
node_found (Node-F.Chain kind first rest) = joined first.found (all_of rest)

abbrev pub node_literal : OfFound Node-F → Argument
node_literal (Node-F.Literal value) = Some value
node_literal (Node-F.Name name) = None
node_literal (Node-F.Call call) = None
node_literal (Node-F.List items) = None
node_literal (Node-F.Index of at) = None
node_literal (Node-F.Dot of call) = None
node_literal (Node-F.Unary op of) = None
node_literal (Node-F.Chain kind first rest) = None

abbrev pub node_layer : OfFound Node-F → Seen
node_layer node = record { found = node_found node; literal = node_literal node }

-- parentheses change nothing
abbrev pub expr_layer : OfFound Expr-F → Seen
expr_layer expr = expr.node

abbrev pub link_layer : OfFound Link-F → Found
link_layer link = link.part.found

-- an option, with its label
abbrev pub labelled : List ℕ × Seen → List ℕ × Argument
labelled option = (option.0, option.1.literal)

-- the first argument of a call, as it stands in the text
abbrev pub first_given : OfFound Call-F → Option Argument
first_given call = option_map (λ e. e.literal) (first_of call.args)

-- the block of a call
abbrev pub block_found : OfFound Call-F → Found → Found
block_found call inside =
    in_block (block_key call.name (first_given call)) (block_mentions call.name (first_given call) (map labelled call.options)) inside

-- a call: what it mentions itself, and what stands in its arguments, its options and its block
abbrev pub call_layer : OfFound Call-F → Found
call_layer call =
    joined (joined (joined (only (call_mentions call.name (first_given call)))
    (all_seen call.args))
    (all_of (map (λ (o : List ℕ × Seen). o.1.found) call.options)))
    (if_found (option_map (block_found call) call.block))

abbrev pub arm_layer : OfFound Arm-F → Found
arm_layer arm = joined arm.cond.found (all_of arm.stmts)

abbrev pub simple_layer : OfFound Simple-F → Found
simple_layer (Simple-F.Iff arms other) = joined (all_of arms) (if_found (option_map all_of other))
simple_layer (Simple-F.Assign name op value) = joined (only (assigns op name)) value.found
simple_layer (Simple-F.Value value) = value.found

abbrev pub form_layer : OfFound StmtForm-F → Found
form_layer (StmtForm-F.Plain simple) = simple
form_layer (StmtForm-F.Guarded simple unless condition) = joined simple condition.found

abbrev pub stmt_layer : OfFound Stmt-F → Found
stmt_layer stmt = stmt.form

-- what stands inside a block: its statements
abbrev pub block_layer : OfFound Block-F → Found
block_layer block = all_of block.stmts

-- what is said of all layers, of these
abbrev pub by_layers : {P : (OfFound Node-F → Seen) → (OfFound Simple-F → Found) → (OfFound StmtForm-F → Found) → (OfFound Call-F → Found) → (OfFound Expr-F → Seen) → (OfFound Link-F → Found) → (OfFound Arm-F → Found) → (OfFound Block-F → Found) → (OfFound Stmt-F → Found) → Type 0} → ((node : OfFound Node-F → Seen) (simple : OfFound Simple-F → Found) (form : OfFound StmtForm-F → Found) (call : OfFound Call-F → Found) (expr : OfFound Expr-F → Seen) (link : OfFound Link-F → Found) (arm : OfFound Arm-F → Found) (block : OfFound Block-F → Found) (stmt : OfFound Stmt-F → Found) → P node simple form call expr link arm block stmt) → P node_layer simple_layer form_layer call_layer expr_layer link_layer arm_layer block_layer stmt_layer
by_layers f = f node_layer simple_layer form_layer call_layer expr_layer link_layer arm_layer block_layer stmt_layer

-- what is found in each part of a tree
unfoldable pub node_seen : Node → Seen
node_seen = by_layers (at_found fold-Node)

unfoldable pub expr_seen : Expr → Seen
expr_seen = by_layers (at_found fold-Expr)

unfoldable pub simple_found : Simple → Found
simple_found = by_layers (at_found fold-Simple)

unfoldable pub form_found : StmtForm → Found
form_found = by_layers (at_found fold-StmtForm)

unfoldable pub call_found : Call → Found
call_found = by_layers (at_found fold-Call)

unfoldable pub link_found : Link → Found
link_found = by_layers (at_found fold-Link)

unfoldable pub arm_found : Arm → Found
arm_found = by_layers (at_found fold-Arm)

-- inside a block, without what the block itself mentions for the call that it belongs to
unfoldable pub inside_found : Block → Found
inside_found = by_layers (at_found fold-Block)

unfoldable pub stmt_found : Stmt → Found
stmt_found = by_layers (at_found fold-Stmt)

-- the blocks of a text, itself the first, in the order of their first tokens: so each stands at its number
abbrev pub uses_of : Block → List BlockUse
uses_of tree = (in_block None [] (inside_found tree)).blocks
