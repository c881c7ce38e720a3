-- What each part of a tree does, layer by layer, with the meaning of each child in its place. After Ruby and the Sonic Pi tutorial; costs, depth and lines of faults are own.
use Rattle.std.specs.Prelude.{ℕ, List, [], ◌∷◌, map, Bool, true, false, cond, not, Option, Some, None}
use Rattle.vt_table.specs.Calls.{call_named}
use Rattle.vt_tree.specs.declared.expression.Node.TheOpen.{Node-F, Simple-F, StmtForm-F, Call-F, Expr-F, Link-F, Arm-F, Block-F, Stmt-F}
use Rattle.vt_tree.specs.declared.expression.Node.TheFolds.{fold-Block, fold-Stmt}
use Rattle.vt_tree.specs.declared.expression.ChainOp.TheVariants.{Add, Mul, Sub}
use Rattle.vt_tree.specs.declared.statement.AssignOp.{AssignOp}
use Rattle.vt_tree.specs.declared.statement.AssignOp.TheVariants as assign_by
use Rattle.vt_tree.specs.declared.statement.Block.{Block}
use Rattle.vt_tree.specs.declared.statement.Stmt.{Stmt}
use Rattle.vt_tree.specs.Layers.{Layers}
use Rattle.vt_value.specs.declared.value.Value.{Value}
use Rattle.vt_value.specs.declared.value.Value.TheVariants.{Nil}
use Rattle.vt_value.specs.Arithmetic.{ring_within}
use Rattle.vt_value.specs.Kinds.{is_truthy}
use Rattle.vt_event.specs.Pairs.{Pairs}
use Rattle.vt_run.specs.declared.state.State.{State}
use Rattle.vt_run.specs.Actions.{or_fails}
use Rattle.vt_run.specs.calls.Arguments.{no_arguments}
use Rattle.vt_run.specs.Costs.{node_size}
use Rattle.vt_run.specs.calls.EffectTable.{calls_name}
use Rattle.vt_run.specs.Environment.{Env, Meaning}
use Rattle.vt_run.specs.Operators.{index_of, linked, links, literal_value, unary_of}
use Rattle.vt_run.specs.Scopes.{BlockMeaning, assigned, branch, enters, inside_pairs, lookup, pair_if, row, with_locals}
use Rattle.vt_run.specs.Evaluation.{Ran, Next, Spot, gives, after, charges, tick}

-- what a call does, with the value before its dot, if there is one
abbrev pub CallMeaning : Type 0
CallMeaning = Option Value → Meaning

-- what an operator and the part after it make of the value before them
abbrev pub LinkMeaning : Type 0
LinkMeaning = Value → Meaning

-- what a branch with a condition does, with what stands behind it
abbrev pub ArmMeaning : Type 0
ArmMeaning = Meaning → Meaning

-- a layer of the tree, with the meaning of each child in its place
abbrev pub OfMeanings : Layers → Type 0
OfMeanings Layer = Layer Meaning Meaning Meaning CallMeaning Meaning LinkMeaning ArmMeaning BlockMeaning Meaning

-- what is said of all types of meanings, of these
abbrev pub at_meanings : {P : Layers} → ((A B C D E F G H I : Type 0) → P A B C D E F G H I) → P Meaning Meaning Meaning CallMeaning Meaning LinkMeaning ArmMeaning BlockMeaning Meaning
at_meanings f = f Meaning Meaning Meaning CallMeaning Meaning LinkMeaning ArmMeaning BlockMeaning Meaning

-- the size of a node's value, as the value is known
abbrev pub sized : Next
sized value st = charges (node_size value) (gives value st)

-- a node: its step, what it does, and the size of its value
abbrev pub noded : Meaning → Meaning
noded part env at st = tick (after (part env at st) sized)

-- parts from left to right, and then what comes next of their values
abbrev pub values_of : List Meaning → Env → Spot → State → (List Value → State → Ran) → Ran
values_of [] env at st go = go [] st
values_of (part ∷ parts) env at st go = after (part env at st) (λ value st. values_of parts env at st (λ values st. go (value ∷ values) st))

-- labelled parts from left to right
abbrev pub options_of : List (List ℕ × Meaning) → Env → Spot → State → (Pairs → State → Ran) → Ran
options_of [] env at st go = go [] st
options_of (labelled ∷ rest) env at st go =
    after (labelled.1 env at st) (λ value st. options_of rest env at st (λ options st. go ((labelled.0, value) ∷ options) st))

-- a bare name is a local where there is one, and else a call without arguments
abbrev pub local_or_call : Option Value → List ℕ → Meaning
local_or_call (Some value) name env at st = gives value st
local_or_call None name env at st = calls_name (call_named name) name no_arguments None env at st

abbrev pub bare_name : List ℕ → Meaning
bare_name name env at st = local_or_call (lookup name st.locals) name env at st

-- a chain: its first part, and then its links
abbrev pub chained : Meaning → List LinkMeaning → Meaning
chained first rest env at st = after (first env at st) (λ value st. links rest value env at st)

-- what a node does after its step; the brackets of an index and of a list are one deeper
abbrev pub node_body : OfMeanings Node-F → Meaning
node_body (Node-F.Literal literal) env at st = gives (literal_value literal) st
node_body (Node-F.Name name) env at st = bare_name name env at st
node_body (Node-F.Call call) env at st = call None env at st
node_body (Node-F.List items) env at st =
    enters env at st (λ deep. values_of items env deep st (λ values st. or_fails (ring_within values) env at st (λ ring. gives ring st)))
node_body (Node-F.Index of index) env at st =
    after (of env at st) (λ value st.
    enters env at st (λ deep.
    after (index env deep st) (λ place st.
    or_fails (index_of value place) env at st (λ item. gives item st))))
node_body (Node-F.Dot of call) env at st = after (of env at st) (λ value st. call (Some value) env at st)
node_body (Node-F.Unary op of) env at st = after (of env at st) (λ value st. or_fails (unary_of op value) env at st (λ result. gives result st))
node_body (Node-F.Chain kind first rest) env at st = chained first rest env at st

abbrev pub node_layer : OfMeanings Node-F → Meaning
node_layer node env at st = noded (node_body node) env at st

-- each pair of parentheses round a node is one deeper, and no node
abbrev pub expr_layer : OfMeanings Expr-F → Meaning
expr_layer expr env at st = inside_pairs expr.wraps expr.node env at st

abbrev pub link_layer : OfMeanings Link-F → LinkMeaning
link_layer link value env at st = linked link.op value link.part env at st

-- a call: its arguments and then its options, one deeper where they stand in parentheses; the parentheses are left before the call is done
abbrev pub call_layer : OfMeanings Call-F → CallMeaning
call_layer call receiver env at st =
    pair_if call.wrapped env at st (λ inner.
    values_of call.args env inner st (λ args st.
    options_of call.options env inner st (λ options st.
    calls_name (call_named call.name) call.name (record { receiver = receiver; args = args; options = options }) call.block env at st)))

-- whether a condition holds: with `unless` where its value is untrue
abbrev pub is_met : Bool → Value → Bool
is_met true value = not (is_truthy value)
is_met false value = is_truthy value

-- a branch is done where its condition holds, and else what stands behind it
abbrev pub arm_layer : OfMeanings Arm-F → ArmMeaning
arm_layer arm other env at st = after (arm.cond env at st) (λ value st. cond (is_met arm.unless value) (branch arm.stmts env at st) (other env at st))

-- the first branch whose condition holds, and else what stands behind them
abbrev pub branches : List ArmMeaning → Meaning → Meaning
branches [] other env at st = other env at st
branches (arm ∷ arms) other env at st = arm (branches arms other) env at st

-- `else`; nil where there is none
abbrev pub otherwise : Option (List Meaning) → Meaning
otherwise None env at st = gives Nil st
otherwise (Some stmts) env at st = branch stmts env at st

-- `x += e` is evaluated as `x = x + e`, and so are `-=` and `*=`: with the nodes of the chain and of the name
abbrev pub assigned_value : AssignOp → List ℕ → Meaning → Meaning
assigned_value assign_by.Set name value = value
assigned_value assign_by.Add name value = noded (chained (noded (bare_name name)) ((λ before. linked Add before value) ∷ []))
assigned_value assign_by.Sub name value = noded (chained (noded (bare_name name)) ((λ before. linked Sub before value) ∷ []))
assigned_value assign_by.Mul name value = noded (chained (noded (bare_name name)) ((λ before. linked Mul before value) ∷ []))

-- a statement without what may follow it; an assignment gives the value assigned
abbrev pub simple_layer : OfMeanings Simple-F → Meaning
simple_layer (Simple-F.Iff arms other) env at st = branches arms (otherwise other) env at st
simple_layer (Simple-F.Assign name op value) env at st =
    after (assigned_value op name value env at st) (λ value st. gives value (with_locals (assigned name value st.locals) st))
simple_layer (Simple-F.Value value) env at st = value env at st

-- a statement with a condition after it is done where that holds, and else gives nil
abbrev pub form_layer : OfMeanings StmtForm-F → Meaning
form_layer (StmtForm-F.Plain simple) env at st = simple env at st
form_layer (StmtForm-F.Guarded simple unless condition) env at st =
    after (condition env at st) (λ value st. cond (is_met unless value) (simple env at st) (gives Nil st))

-- a statement: its step, and what it does on its line
abbrev pub stmt_layer : OfMeanings Stmt-F → Meaning
stmt_layer stmt env at st = tick (stmt.form env (record at { line = stmt.line }) st)

-- a block: what its statements do one after another; nil where there is none
abbrev pub block_layer : OfMeanings Block-F → BlockMeaning
block_layer block = record { number = block.number; params = block.params; run = row block.stmts Nil }

-- what is said of all layers, of these
abbrev pub by_layers : {P : (OfMeanings Node-F → Meaning) → (OfMeanings Simple-F → Meaning) → (OfMeanings StmtForm-F → Meaning) → (OfMeanings Call-F → CallMeaning) → (OfMeanings Expr-F → Meaning) → (OfMeanings Link-F → LinkMeaning) → (OfMeanings Arm-F → ArmMeaning) → (OfMeanings Block-F → BlockMeaning) → (OfMeanings Stmt-F → Meaning) → Type 0} → ((node : OfMeanings Node-F → Meaning) (simple : OfMeanings Simple-F → Meaning) (form : OfMeanings StmtForm-F → Meaning) (call : OfMeanings Call-F → CallMeaning) (expr : OfMeanings Expr-F → Meaning) (link : OfMeanings Link-F → LinkMeaning) (arm : OfMeanings Arm-F → ArmMeaning) (block : OfMeanings Block-F → BlockMeaning) (stmt : OfMeanings Stmt-F → Meaning) → P node simple form call expr link arm block stmt) → P node_layer simple_layer form_layer call_layer expr_layer link_layer arm_layer block_layer stmt_layer
by_layers f = f node_layer simple_layer form_layer call_layer expr_layer link_layer arm_layer block_layer stmt_layer

-- what a statement does
unfoldable pub stmt_meaning : Stmt → Meaning
stmt_meaning = by_layers (at_meanings fold-Stmt)

-- what a block does
unfoldable pub block_meaning : Block → BlockMeaning
block_meaning = by_layers (at_meanings fold-Block)

-- what statements do one after another, after this value
abbrev pub stmts_meaning : List Stmt → Value → Meaning
stmts_meaning stmts value = row (map stmt_meaning stmts) value
