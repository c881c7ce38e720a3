-- The layers of a tree. For each of its types the kit has that type with its children taken out, `Node-F` to `Stmt-F`: a layer is a value of it, over some types of children. The project's own.
use Rattle.vt_tree.specs.declared.expression.Node.{Node}
use Rattle.vt_tree.specs.declared.expression.Call.{Call}
use Rattle.vt_tree.specs.declared.expression.Expr.{Expr}
use Rattle.vt_tree.specs.declared.expression.Link.{Link}
use Rattle.vt_tree.specs.declared.statement.Arm.{Arm}
use Rattle.vt_tree.specs.declared.statement.Block.{Block}
use Rattle.vt_tree.specs.declared.statement.Simple.{Simple}
use Rattle.vt_tree.specs.declared.statement.Stmt.{Stmt}
use Rattle.vt_tree.specs.declared.statement.StmtForm.{StmtForm}

-- a type of layers, by the types of the children
abbrev pub Layers : Type 1
Layers = Type 0 → Type 0 → Type 0 → Type 0 → Type 0 → Type 0 → Type 0 → Type 0 → Type 0 → Type 0

-- the layers whose children are trees
abbrev pub OfTrees : Layers → Type 0
OfTrees Layer = Layer Node Simple StmtForm Call Expr Link Arm Block Stmt
