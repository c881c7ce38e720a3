-- What may be told of the trees that the rules of the grammar give: a relation for each type of tree, between a tree and what the
-- marks show that it is read from, and a lemma for each way to build one. `FactRules` has the induction along the rules.
use Rattle.std.proofs.Common.{◌≡◌, ℕ, Bool, true, IsTrue, codes, List, [], ◌∷◌, ◌++◌, length, Option, Some, None, refl, sym, append-nil}
use Rattle.vt_tree.specs.declared.expression.Call.{Call}
use Rattle.vt_tree.specs.declared.expression.Expr.{Expr}
use Rattle.vt_tree.specs.declared.expression.Link.{Link, roll-Link}
use Rattle.vt_tree.specs.declared.expression.Node.TheVariants as nodes
use Rattle.vt_tree.specs.declared.expression.ChainKind.{ChainKind}
use Rattle.vt_tree.specs.declared.expression.ChainOp.{ChainOp}
use Rattle.vt_tree.specs.declared.expression.UnaryOp.{UnaryOp}
use Rattle.vt_tree.specs.declared.statement.Arm.{Arm}
use Rattle.vt_tree.specs.declared.statement.AssignOp.{AssignOp}
use Rattle.vt_tree.specs.declared.statement.Block.{Block, roll-Block}
use Rattle.vt_tree.specs.declared.statement.Simple.{Simple}
use Rattle.vt_tree.specs.declared.statement.Simple.TheVariants as simples
use Rattle.vt_tree.specs.declared.statement.Stmt.{Stmt}
use Rattle.vt_tree.specs.declared.statement.StmtForm.{StmtForm}
use Rattle.vt_tree.specs.WellFormed.{is_op_of, IsLinkCount}
use Rattle.vt_grammar.specs.declared.parts.Arguments.{Arguments}
use Rattle.vt_grammar.specs.declared.terminals.Terminal.TheVariants as terminals
use Rattle.vt_grammar.specs.Marks.{Mark, begins_block}
use Rattle.vt_grammar.specs.Values.{literal_of, label_name}
use Rattle.vt_grammar.specs.Trees.{plain, wrapped, call_of, no_arguments, is_bare_get, takes_block, with_block, form_tree, stmt_tree, arm_tree}
use Rattle.vt_grammar.specs.Grammar.{is_literal, names_of}
use Rattle.vt_grammar.proofs.Tells.{Measure, IsHead, InOrder, Maybe}

-- a mark that is a name
abbrev pub IsNamed : {X : Type 0} → Measure X → Mark → List X → Type 0
IsNamed m = IsHead m (λ t. t.terminal ≡ terminals.Name)

-- a mark that begins a block
abbrev pub IsBegun : {X : Type 0} → Measure X → Mark → List X → Type 0
IsBegun m = IsHead m (λ t. begins_block t.terminal ≡ true)

-- the arguments without a label, and then those with one
pub record AreGiven {X : Type 0} (IsValue : Expr → List X → Type 0) (IsOption : List ℕ × Expr → List X → Type 0) (given : Arguments) (ns : List X) : Type 0 where
  pub prefix : List X
  pub rest : List X
  pub whole : ns ≡ prefix ++ rest
  pub args : InOrder IsValue given.args prefix
  pub options : InOrder IsOption given.options rest

pub no_given : {X : Type 0} (IsValue : Expr → List X → Type 0) (IsOption : List ℕ × Expr → List X → Type 0) (ns : List X) → ns ≡ []
    → AreGiven IsValue IsOption no_arguments ns
no_given IsValue IsOption ns e = record { prefix = []; rest = []; whole = e; args = refl; options = refl }

-- one argument alone, without a label
pub given_alone : {X : Type 0} (IsValue : Expr → List X → Type 0) (IsOption : List ℕ × Expr → List X → Type 0) (e : Expr) (ns : List X) → IsValue e ns
    → AreGiven IsValue IsOption (record { args = e ∷ []; options = [] }) ns
given_alone IsValue IsOption e ns h = record {
  prefix = ns;
  rest = [];
  whole = sym (append-nil ns);
  args = record { prefix = ns; rest = []; whole = sym (append-nil ns); first = h; second = refl };
  options = refl;
}

-- a condition after a statement
pub record IsGuard {X : Type 0} (IsValue : Expr → List X → Type 0) (guard : Bool × Expr) (ns : List X) : Type 0 where
  pub cond : IsValue guard.1 ns

pub record Facts {X : Type 0} (m : Measure X) : Type 1 where
  -- an expression before anything more is known of it, and one that stands in another tree
  pub IsExpr : Expr → List X → Type 0
  pub IsValue : Expr → List X → Type 0
  pub IsOption : List ℕ × Expr → List X → Type 0
  pub IsCall : Call → List X → Type 0
  pub IsLink : ChainKind → Link → List X → Type 0
  pub IsWhole : Block → List X → Type 0
  pub IsSimple : Simple → List X → Type 0
  pub IsForm : StmtForm → List X → Type 0
  pub IsStmt : Stmt → List X → Type 0
  pub IsArm : Arm → List X → Type 0
  pub as_value : (e : Expr) (ns : List X) → IsExpr e ns → IsValue e ns
  pub literal_is : (t : Mark) → is_literal t.terminal ≡ true → m.IsGood t → IsExpr (plain (nodes.Literal (literal_of t))) []
  pub name_is : (t : Mark) (ns : List X) → IsNamed m t ns → IsExpr (plain (nodes.Name t.bytes)) ns
  pub list_is : (items : List Expr) (ns : List X) → InOrder IsValue items ns → IsExpr (plain (nodes.List items)) ns
  pub index_is : (of at : Expr) (ns ms : List X) → IsValue of ns → IsValue at ms → IsExpr (plain (nodes.Index of at)) (ns ++ ms)
  -- a bare `get` with an index after it
  pub get_is : (e at : Expr) (ns ms : List X) → is_bare_get e ≡ true → IsExpr e ns → IsValue at ms
      → IsExpr (plain (nodes.Call (call_of (codes "get") true (record { args = at ∷ []; options = [] }) None))) (ns ++ ms)
  pub dot_is : (of : Expr) (call : Call) (ns ms : List X) → IsValue of ns → IsCall call ms → IsExpr (plain (nodes.Dot of call)) (ns ++ ms)
  pub unary_is : (op : UnaryOp) (of : Expr) (ns : List X) → IsValue of ns → IsExpr (plain (nodes.Unary op of)) ns
  pub link_is : (kind : ChainKind) (op : ChainOp) (part : Expr) (ns : List X) → IsTrue (is_op_of kind op) → IsValue part ns
      → IsLink kind (roll-Link (record { op = op; part = part })) ns
  pub chain_is : (kind : ChainKind) (first : Expr) (links : List Link) (ns ms : List X) → IsLinkCount kind (length links) → IsValue first ns → InOrder (IsLink kind) links ms
      → IsExpr (plain (nodes.Chain kind first links)) (ns ++ ms)
  pub wrapped_is : (e : Expr) (ns : List X) → IsExpr e ns → IsExpr (wrapped e) ns
  pub option_is : (t : Mark) (e : Expr) (ns : List X) → t.terminal ≡ terminals.Label → m.IsGood t → IsValue e ns → IsOption (label_name t.bytes, e) ns
  -- a call with its block, and one that is an expression
  pub call_is : (t : Mark) (w : Bool) (given : Arguments) (block : Option Block) (ns ms ks : List X) → IsNamed m t ns → AreGiven IsValue IsOption given ms → Maybe IsWhole block ks
      → IsCall (call_of t.bytes w given block) (ns ++ (ms ++ ks))
  pub called_is : (t : Mark) (w : Bool) (given : Arguments) (ns ms : List X) → IsNamed m t ns → AreGiven IsValue IsOption given ms
      → IsExpr (plain (nodes.Call (call_of t.bytes w given None))) (ns ++ ms)
  pub with_block_is : (e : Expr) (b : Block) (ns ms : List X) → IsExpr e ns → takes_block e ≡ true → IsWhole b ms → IsValue (with_block e (Some b)) (ns ++ ms)
  pub value_is : (e : Expr) (ns : List X) → IsValue e ns → IsSimple (simples.Value e) ns
  pub assign_is : (t : Mark) (op : AssignOp) (e : Expr) (ns ms : List X) → IsNamed m t ns → IsValue e ms → IsSimple (simples.Assign t.bytes op e) (ns ++ ms)
  pub arm_is : (unless : Bool) (cond : Expr) (stmts : List Stmt) (ns ms : List X) → IsValue cond ns → InOrder IsStmt stmts ms → IsArm (arm_tree unless cond stmts) (ns ++ ms)
  pub iff_is : (arm : Arm) (arms : List Arm) (other : Option (List Stmt)) (ns ms : List X) → InOrder IsArm (arm ∷ arms) ns → Maybe (InOrder IsStmt) other ms
      → IsSimple (simples.Iff (arm ∷ arms) other) (ns ++ ms)
  pub form_is : (simple : Simple) (guard : Option (Bool × Expr)) (ns ms : List X) → IsSimple simple ns → Maybe (IsGuard IsValue) guard ms → IsForm (form_tree simple guard) (ns ++ ms)
  pub stmt_is : (line : ℕ) (form : StmtForm) (ns : List X) → IsForm form ns → IsStmt (stmt_tree (line, form)) ns
  pub block_is : (t : Mark) (names : List Mark) (stmts : List Stmt) (ns ms ks : List X) → IsBegun m t ns → InOrder (IsNamed m) names ms → InOrder IsStmt stmts ks
      → IsWhole (roll-Block (record { number = t.number; params = names_of names; stmts = stmts })) (ns ++ (ms ++ ks))
