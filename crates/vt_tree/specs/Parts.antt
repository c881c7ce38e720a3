-- The calls and the blocks of a tree, in the order of the tokens of its text. All of this is the project's own.
use Rattle.std.specs.Prelude.{ℕ, Bool, true, false, List, [], ◌∷◌, ◌++◌, Option, Some, None}
use Rattle.std.specs.List.{flat_map}
use Rattle.vt_tree.specs.declared.expression.Node.{Node}
use Rattle.vt_tree.specs.declared.expression.Node.TheOpen.{Node-F, Simple-F, StmtForm-F, Call-F, Expr-F, Link-F, Arm-F, Block-F, Stmt-F}
use Rattle.vt_tree.specs.declared.expression.Node.TheFolds.{rec-Node, rec-Simple, rec-StmtForm, rec-Call, rec-Expr, rec-Link, rec-Arm, rec-Block, rec-Stmt}
use Rattle.vt_tree.specs.declared.expression.Call.{Call}
use Rattle.vt_tree.specs.declared.expression.Expr.{Expr}
use Rattle.vt_tree.specs.declared.expression.Link.{Link}
use Rattle.vt_tree.specs.declared.statement.Arm.{Arm}
use Rattle.vt_tree.specs.declared.statement.Block.{Block}
use Rattle.vt_tree.specs.declared.statement.Simple.{Simple}
use Rattle.vt_tree.specs.declared.statement.Stmt.{Stmt}
use Rattle.vt_tree.specs.declared.statement.StmtForm.{StmtForm}
use Rattle.vt_tree.specs.Layers.{Layers}

-- the context in which a part of a tree stands
pub record Context : Type 0 where
  -- the line of the innermost statement round it
  pub line : ℕ
  -- whether it is a whole statement of the text itself, with or without a condition after it
  pub outermost : Bool
  -- whether a dot stands before it
  pub dotted : Bool

-- a call where it stands
pub record Site : Type 0 where
  pub context : Context
  pub call : Call

-- a call, which stands at its name, or a block, which stands at its first token
pub data Part : Type 0 where
  called : Site → Part
  opened : Block → Part

-- the parts of something, by the context in which it stands
abbrev pub Walk : Type 0
Walk = Context → List Part

-- inside a statement, but not the whole of it
abbrev pub inside : Context → Context
inside context = record { line = context.line; outermost = false; dotted = false }

-- the same after a dot
abbrev pub after_dot : Context → Context
after_dot context = record { line = context.line; outermost = false; dotted = true }

-- a statement that begins on this line
abbrev pub at_line : ℕ → Context → Context
at_line line context = record { line = line; outermost = context.outermost; dotted = false }

-- What stands in the children of one layer of a tree, whose children have these types.
pub record Children (N S F C E L A B T : Type 0) : Type 0 where
  pub as_call : C → Call
  pub as_block : B → Block
  pub node : N → Walk
  pub simple : S → Walk
  pub form : F → Walk
  pub call : C → Walk
  pub expr : E → Walk
  pub link : L → Walk
  pub arm : A → Walk
  pub block : B → Walk
  pub stmt : T → Walk

-- children one after another
abbrev pub each : {X : Type 0} → (X → Walk) → List X → Walk
each parts xs context = flat_map (λ x. parts x context) xs

-- a call, and then what stands in it
abbrev pub site : {N S F C E L A B T : Type 0} → Children N S F C E L A B T → C → Walk
site in_its c context = called (record { context = context; call = in_its.as_call c }) ∷ in_its.call c context

-- what is there, if anything
abbrev pub if_there : {X : Type 0} → (X → Walk) → Option X → Walk
if_there parts None context = []
if_there parts (Some x) context = parts x context

-- a block, and then what stands in it
abbrev pub whole_block : {N S F C E L A B T : Type 0} → Children N S F C E L A B T → B → Walk
whole_block in_its b context = opened (in_its.as_block b) ∷ in_its.block b context

-- an expression: the receiver stands before the name of its call, and a chain's parts in their order
abbrev pub node_parts : {N S F C E L A B T : Type 0} → Children N S F C E L A B T → Node-F N S F C E L A B T → Walk
node_parts in_its (Node-F.Literal value) context = []
node_parts in_its (Node-F.Name name) context = []
node_parts in_its (Node-F.Call call) context = site in_its call context
node_parts in_its (Node-F.List items) context = each in_its.expr items (inside context)
node_parts in_its (Node-F.Index of at) context = in_its.expr of (inside context) ++ in_its.expr at (inside context)
node_parts in_its (Node-F.Dot of call) context = in_its.expr of (inside context) ++ site in_its call (after_dot context)
node_parts in_its (Node-F.Unary op of) context = in_its.expr of (inside context)
node_parts in_its (Node-F.Chain kind first rest) context = in_its.expr first (inside context) ++ each in_its.link rest (inside context)

-- parentheses change nothing
abbrev pub expr_parts : {N S F C E L A B T : Type 0} → Children N S F C E L A B T → Expr-F N S F C E L A B T → Walk
expr_parts in_its e context = in_its.node e.node context

-- an operator and the part after it: what stands in that part
abbrev pub link_parts : {N S F C E L A B T : Type 0} → Children N S F C E L A B T → Link-F N S F C E L A B T → Walk
link_parts in_its l context = in_its.expr l.part context

-- inside a call: its arguments, its options and its block
abbrev pub call_parts : {N S F C E L A B T : Type 0} → Children N S F C E L A B T → Call-F N S F C E L A B T → Walk
call_parts in_its c context =
    each in_its.expr c.args (inside context) ++ (each (λ o. in_its.expr o.1) c.options (inside context) ++ if_there (whole_block in_its) c.block (inside context))

-- inside a block: its statements
abbrev pub block_parts : {N S F C E L A B T : Type 0} → Children N S F C E L A B T → Block-F N S F C E L A B T → Walk
block_parts in_its b context = each in_its.stmt b.stmts context

-- a statement: what stands in its form, on its line
abbrev pub stmt_parts : {N S F C E L A B T : Type 0} → Children N S F C E L A B T → Stmt-F N S F C E L A B T → Walk
stmt_parts in_its s context = in_its.form s.form (at_line s.line context)

-- a condition after a statement stands after it
abbrev pub form_parts : {N S F C E L A B T : Type 0} → Children N S F C E L A B T → StmtForm-F N S F C E L A B T → Walk
form_parts in_its (StmtForm-F.Plain simple) context = in_its.simple simple context
form_parts in_its (StmtForm-F.Guarded simple unless cond) context = in_its.simple simple context ++ in_its.expr cond (inside context)

-- the statements of a branch are none of the text itself
abbrev pub simple_parts : {N S F C E L A B T : Type 0} → Children N S F C E L A B T → Simple-F N S F C E L A B T → Walk
simple_parts in_its (Simple-F.Iff arms other) context = each in_its.arm arms (inside context) ++ if_there (each in_its.stmt) other (inside context)
simple_parts in_its (Simple-F.Assign name op value) context = in_its.expr value (inside context)
simple_parts in_its (Simple-F.Value value) context = in_its.expr value context

-- a branch: its condition, and then its statements
abbrev pub arm_parts : {N S F C E L A B T : Type 0} → Children N S F C E L A B T → Arm-F N S F C E L A B T → Walk
arm_parts in_its a context = in_its.expr a.cond context ++ each in_its.stmt a.stmts context

-- The recursion over a tree goes by the layers above. What it holds of each tree is the parts in it, in a record: the kit's recursion asks for a type above that of the data.
pub record Held : Type 1 where
  pub parts : Walk

-- one step of the recursion: of a layer, whose children stand for trees and hold their parts, what it holds itself
abbrev pub Step : Layers → Type 1
Step F = (N S G C E L A B T : Type 0) → (N → Node) → (S → Simple) → (G → StmtForm) → (C → Call) → (E → Expr) → (L → Link) → (A → Arm) → (B → Block) → (T → Stmt) →
    (N → Held) → (S → Held) → (G → Held) → (C → Held) → (E → Held) → (L → Held) → (A → Held) → (B → Held) → (T → Held) → F N S G C E L A B T → Held

-- the step that takes the parts of a layer from those of its children
abbrev pub by : {F : Layers} → ((N S G C E L A B T : Type 0) → Children N S G C E L A B T → F N S G C E L A B T → Walk) → Step F
by parts N S G C E L A B T node_of simple_of form_of call_of expr_of link_of arm_of block_of stmt_of n s g c e l a b t x =
    record {
      parts = parts N S G C E L A B T (record {
        as_call = call_of;
        as_block = block_of;
        node = λ y. (n y).parts;
        simple = λ y. (s y).parts;
        form = λ y. (g y).parts;
        call = λ y. (c y).parts;
        expr = λ y. (e y).parts;
        link = λ y. (l y).parts;
        arm = λ y. (a y).parts;
        block = λ y. (b y).parts;
        stmt = λ y. (t y).parts;
      }) x;
    }

-- the step at each type of layer
abbrev pub node_step : Step Node-F
node_step = by (λ N S G C E L A B T. node_parts)

abbrev pub simple_step : Step Simple-F
simple_step = by (λ N S G C E L A B T. simple_parts)

abbrev pub form_step : Step StmtForm-F
form_step = by (λ N S G C E L A B T. form_parts)

abbrev pub call_step : Step Call-F
call_step = by (λ N S G C E L A B T. call_parts)

abbrev pub expr_step : Step Expr-F
expr_step = by (λ N S G C E L A B T. expr_parts)

abbrev pub link_step : Step Link-F
link_step = by (λ N S G C E L A B T. link_parts)

abbrev pub arm_step : Step Arm-F
arm_step = by (λ N S G C E L A B T. arm_parts)

abbrev pub block_step : Step Block-F
block_step = by (λ N S G C E L A B T. block_parts)

abbrev pub stmt_step : Step Stmt-F
stmt_step = by (λ N S G C E L A B T. stmt_parts)

-- The calls and the blocks in a tree of each type, in the order of their tokens, by the context in which the tree stands. They obey the layers above: the parts in a node are `node_parts` of its layer, and so on.
unfoldable pub in_node : Node → Walk
in_node x = (rec-Node Held Held Held Held Held Held Held Held Held node_step simple_step form_step call_step expr_step link_step arm_step block_step stmt_step x).parts

unfoldable pub in_simple : Simple → Walk
in_simple x = (rec-Simple Held Held Held Held Held Held Held Held Held node_step simple_step form_step call_step expr_step link_step arm_step block_step stmt_step x).parts

unfoldable pub in_form : StmtForm → Walk
in_form x = (rec-StmtForm Held Held Held Held Held Held Held Held Held node_step simple_step form_step call_step expr_step link_step arm_step block_step stmt_step x).parts

unfoldable pub in_call : Call → Walk
in_call x = (rec-Call Held Held Held Held Held Held Held Held Held node_step simple_step form_step call_step expr_step link_step arm_step block_step stmt_step x).parts

unfoldable pub in_expr : Expr → Walk
in_expr x = (rec-Expr Held Held Held Held Held Held Held Held Held node_step simple_step form_step call_step expr_step link_step arm_step block_step stmt_step x).parts

unfoldable pub in_link : Link → Walk
in_link x = (rec-Link Held Held Held Held Held Held Held Held Held node_step simple_step form_step call_step expr_step link_step arm_step block_step stmt_step x).parts

unfoldable pub in_arm : Arm → Walk
in_arm x = (rec-Arm Held Held Held Held Held Held Held Held Held node_step simple_step form_step call_step expr_step link_step arm_step block_step stmt_step x).parts

unfoldable pub in_block : Block → Walk
in_block x = (rec-Block Held Held Held Held Held Held Held Held Held node_step simple_step form_step call_step expr_step link_step arm_step block_step stmt_step x).parts

unfoldable pub in_stmt : Stmt → Walk
in_stmt x = (rec-Stmt Held Held Held Held Held Held Held Held Held node_step simple_step form_step call_step expr_step link_step arm_step block_step stmt_step x).parts

-- what stands in the children of a layer of a tree
abbrev pub children : Children Node Simple StmtForm Call Expr Link Arm Block Stmt
children = record {
  as_call = λ call. call;
  as_block = λ block. block;
  node = in_node;
  simple = in_simple;
  form = in_form;
  call = in_call;
  expr = in_expr;
  link = in_link;
  arm = in_arm;
  block = in_block;
  stmt = in_stmt;
}

-- the calls among parts
abbrev pub sites_of : List Part → List Site
sites_of [] = []
sites_of (called site ∷ parts) = site ∷ sites_of parts
sites_of (opened block ∷ parts) = sites_of parts

-- the blocks among parts
abbrev pub blocks_of : List Part → List Block
blocks_of [] = []
blocks_of (called site ∷ parts) = blocks_of parts
blocks_of (opened block ∷ parts) = block ∷ blocks_of parts

-- the context of the statements of the text itself
abbrev pub in_text : Context
in_text = record { line = 0; outermost = true; dotted = false }

-- the calls of a text's tree
abbrev pub sites : Block → List Site
sites tree = sites_of (in_block tree in_text)

-- the blocks of a text, itself the first, in the order of their first tokens
abbrev pub blocks : Block → List Block
blocks tree = tree ∷ blocks_of (in_block tree in_text)
