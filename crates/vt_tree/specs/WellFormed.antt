-- What holds of each tree that is read from a text. The project's own.
use Rattle.std.specs.Prelude.{◌≡◌, ℕ, ◌<◌, Bool, true, false, List, length, Some, slice_get, IsTrue}
use Rattle.std.specs.List.{All}
use Rattle.vt_tree.specs.declared.expression.ChainKind.{ChainKind}
use Rattle.vt_tree.specs.declared.expression.ChainKind.TheVariants.{Expr as LooseChain, Disj, Conj, Comp, Sum, Term}
use Rattle.vt_tree.specs.declared.expression.ChainOp.{ChainOp}
use Rattle.vt_tree.specs.declared.expression.ChainOp.TheVariants.{And, Or, Eq, Ne, Lt, Le, Gt, Ge, Add, Sub, Mul, Div, Rem}
use Rattle.vt_tree.specs.declared.expression.Node.{Node}
use Rattle.vt_tree.specs.declared.expression.Node.TheOpen.{Node-F, Simple-F, StmtForm-F, Call-F, Expr-F, Link-F, Arm-F, Block-F, Stmt-F}
use Rattle.vt_tree.specs.declared.expression.Node.TheFolds.{every-Node, every-Simple, every-StmtForm, every-Call, every-Expr, every-Link, every-Arm, every-Block, every-Stmt}
use Rattle.vt_tree.specs.declared.expression.Call.{Call}
use Rattle.vt_tree.specs.declared.expression.Expr.{Expr}
use Rattle.vt_tree.specs.declared.expression.Link.{Link, out-Link}
use Rattle.vt_tree.specs.declared.statement.Arm.{Arm}
use Rattle.vt_tree.specs.declared.statement.Block.{Block, out-Block}
use Rattle.vt_tree.specs.declared.statement.Simple.{Simple}
use Rattle.vt_tree.specs.declared.statement.Stmt.{Stmt}
use Rattle.vt_tree.specs.declared.statement.StmtForm.{StmtForm}
use Rattle.vt_frac.specs.Names.{IsName, is_label_name}
use Rattle.vt_tree.specs.Forms.{IsLiteral}
use Rattle.vt_tree.specs.Parts.{blocks}
use Rattle.vt_tree.specs.Layers.{OfTrees}

-- the operators of each kind of chain
abbrev pub is_op_of : ChainKind → ChainOp → Bool
is_op_of LooseChain And = true
is_op_of LooseChain Or = true
is_op_of Disj Or = true
is_op_of Conj And = true
is_op_of Comp Eq = true
is_op_of Comp Ne = true
is_op_of Comp Lt = true
is_op_of Comp Le = true
is_op_of Comp Gt = true
is_op_of Comp Ge = true
is_op_of Sum Add = true
is_op_of Sum Sub = true
is_op_of Term Mul = true
is_op_of Term Div = true
is_op_of Term Rem = true
is_op_of _ _ = false

-- as many links as a chain of this kind may have
abbrev pub IsLinkCount : ChainKind → ℕ → Type 0
IsLinkCount Comp n = n ≡ 1
IsLinkCount _ n = 0 < n

-- the links of a chain
pub record AreLinks (kind : ChainKind) (links : List Link) : Type 0 where
  pub count : IsLinkCount kind (length links)
  pub ops : All (λ link. IsTrue (is_op_of kind (out-Link link).op)) links

-- What is asked of one layer of each type, beside its children: of a node the form of its literal, its name or its links
abbrev pub GoodNode : OfTrees Node-F → Type 0
GoodNode (Node-F.Literal value) = IsLiteral value
GoodNode (Node-F.Name name) = IsName name
GoodNode (Node-F.Call call) = Unit {0}
GoodNode (Node-F.List items) = Unit {0}
GoodNode (Node-F.Index of at) = Unit {0}
GoodNode (Node-F.Dot of call) = Unit {0}
GoodNode (Node-F.Unary op of) = Unit {0}
GoodNode (Node-F.Chain kind first rest) = AreLinks kind rest

-- an `if` or `unless` has a branch with a condition
abbrev pub GoodSimple : OfTrees Simple-F → Type 0
GoodSimple (Simple-F.Iff arms other) = 0 < length arms
GoodSimple (Simple-F.Assign name op value) = IsName name
GoodSimple (Simple-F.Value value) = Unit {0}

-- the names of a call and of its options
pub record GoodCall (call : OfTrees Call-F) : Type 0 where
  pub name : IsName call.name
  pub labels : All (λ option. IsTrue (is_label_name option.0)) call.options

-- the names of a block's parameters
abbrev pub GoodBlock : OfTrees Block-F → Type 0
GoodBlock block = All IsName block.params

-- of the other types nothing is asked beyond their children
abbrev pub GoodForm : OfTrees StmtForm-F → Type 0
GoodForm form = Unit {0}

abbrev pub GoodExpr : OfTrees Expr-F → Type 0
GoodExpr expr = Unit {0}

abbrev pub GoodLink : OfTrees Link-F → Type 0
GoodLink link = Unit {0}

abbrev pub GoodArm : OfTrees Arm-F → Type 0
GoodArm arm = Unit {0}

abbrev pub GoodStmt : OfTrees Stmt-F → Type 0
GoodStmt stmt = Unit {0}

-- A tree of which this holds in each of its layers: each chain has its links and only the operators of its kind, each `if` a
-- branch, and the names, labels, symbols and literals their forms.
unfoldable pub IsFormedNode : Node → Type 0
IsFormedNode = every-Node GoodNode GoodSimple GoodForm GoodCall GoodExpr GoodLink GoodArm GoodBlock GoodStmt

unfoldable pub IsFormedSimple : Simple → Type 0
IsFormedSimple = every-Simple GoodNode GoodSimple GoodForm GoodCall GoodExpr GoodLink GoodArm GoodBlock GoodStmt

unfoldable pub IsFormedStmtForm : StmtForm → Type 0
IsFormedStmtForm = every-StmtForm GoodNode GoodSimple GoodForm GoodCall GoodExpr GoodLink GoodArm GoodBlock GoodStmt

unfoldable pub IsFormedCall : Call → Type 0
IsFormedCall = every-Call GoodNode GoodSimple GoodForm GoodCall GoodExpr GoodLink GoodArm GoodBlock GoodStmt

unfoldable pub IsFormedExpr : Expr → Type 0
IsFormedExpr = every-Expr GoodNode GoodSimple GoodForm GoodCall GoodExpr GoodLink GoodArm GoodBlock GoodStmt

unfoldable pub IsFormedLink : Link → Type 0
IsFormedLink = every-Link GoodNode GoodSimple GoodForm GoodCall GoodExpr GoodLink GoodArm GoodBlock GoodStmt

unfoldable pub IsFormedArm : Arm → Type 0
IsFormedArm = every-Arm GoodNode GoodSimple GoodForm GoodCall GoodExpr GoodLink GoodArm GoodBlock GoodStmt

unfoldable pub IsFormedBlock : Block → Type 0
IsFormedBlock = every-Block GoodNode GoodSimple GoodForm GoodCall GoodExpr GoodLink GoodArm GoodBlock GoodStmt

unfoldable pub IsFormedStmt : Stmt → Type 0
IsFormedStmt = every-Stmt GoodNode GoodSimple GoodForm GoodCall GoodExpr GoodLink GoodArm GoodBlock GoodStmt

-- the blocks of a text are numbered in the order of their first tokens, the text itself 0
abbrev pub IsNumbered : Block → Type 0
IsNumbered tree = (number : ℕ) (block : Block) → slice_get (blocks tree) number ≡ Some block → (out-Block block).number ≡ number

-- a tree that may be checked: every tree that a text is read as
pub record IsWellFormed (tree : Block) : Type 0 where
  pub numbered : IsNumbered tree
  pub formed : IsFormedBlock tree
