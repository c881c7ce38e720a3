-- The trees that the rules of the grammar give: that each has its form, and which blocks stand in it in their order.
use Rattle.std.proofs.Common.{◌≡◌, ℕ, suc, Bool, true, false, true≢false, ◌&&◌, IsTrue, cond, nat_eq, is_none, List, [], ◌∷◌, ◌++◌, length, map, Option, Some, None, refl, sym, ap, ◌∙◌, subst, append-nil, append_assoc, arith}
use Rattle.std.specs.List.{All, AllByRecursion}
use Rattle.std.proofs.lemmas.List.Elements.{All-from_recursion, recursion_from_All}
use Rattle.vt_tree.specs.declared.expression.Node.{Node, out-Node, roll-Node, out-roll-Node, map-Node}
use Rattle.vt_tree.specs.declared.expression.Node.TheVariants as nodes
use Rattle.vt_tree.specs.declared.expression.Node.TheOpen.{Node-F, Simple-F, StmtForm-F, Call-F, Expr-F, Link-F, Arm-F, Block-F, Stmt-F}
use Rattle.vt_tree.specs.declared.expression.Node.TheFolds.{every_made-Node, every_made-Simple, every_made-StmtForm, every_made-Call, every_made-Expr, every_made-Link, every_made-Arm, every_made-Block, every_made-Stmt, every_here-Node, every_here-Call, every_held-Node, every_held-Call, every_held-Expr, every-Node, every-Simple, every-StmtForm, every-Call, every-Expr, every-Link, every-Arm, every-Block, every-Stmt}
use Rattle.vt_tree.specs.declared.expression.Call.{Call, out-Call, roll-Call, out-roll-Call, map-Call}
use Rattle.vt_tree.specs.declared.expression.Expr.{Expr, out-Expr, roll-Expr, out-roll-Expr, map-Expr}
use Rattle.vt_tree.specs.declared.expression.Link.{Link, out-Link, roll-Link, out-roll-Link, map-Link}
use Rattle.vt_tree.specs.declared.expression.Literal.{Literal}
use Rattle.vt_tree.specs.declared.expression.UnaryOp.{UnaryOp}
use Rattle.vt_tree.specs.declared.expression.ChainKind.{ChainKind}
use Rattle.vt_tree.specs.declared.expression.ChainOp.{ChainOp}
use Rattle.vt_tree.specs.declared.statement.Arm.{Arm, roll-Arm, map-Arm}
use Rattle.vt_tree.specs.declared.statement.AssignOp.{AssignOp}
use Rattle.vt_tree.specs.declared.statement.Block.{Block, out-Block, roll-Block, out-roll-Block, map-Block}
use Rattle.vt_tree.specs.declared.statement.Simple.{Simple, roll-Simple, map-Simple}
use Rattle.vt_tree.specs.declared.statement.Simple.TheVariants as simples
use Rattle.vt_tree.specs.declared.statement.Stmt.{Stmt, roll-Stmt, map-Stmt}
use Rattle.vt_tree.specs.declared.statement.StmtForm.{StmtForm, roll-StmtForm, map-StmtForm}
use Rattle.vt_tree.specs.declared.statement.StmtForm.TheVariants as forms
use Rattle.vt_frac.specs.Names.{IsName, is_label_name}
use Rattle.vt_tree.specs.Forms.{IsLiteral}
use Rattle.vt_tree.specs.Parts.{Part as TreePart, called, opened, Context, Walk, children, each, if_there, whole_block, inside, after_dot, at_line, node_parts, in_simple, in_form, in_call, in_expr, in_link, in_arm, in_stmt}
use Rattle.vt_tree.specs.WellFormed.{is_op_of, IsLinkCount, GoodNode, GoodSimple, GoodForm, GoodCall, GoodExpr, GoodLink, GoodArm, GoodBlock, GoodStmt, IsFormedNode, IsFormedSimple, IsFormedStmtForm, IsFormedCall, IsFormedExpr, IsFormedLink, IsFormedArm, IsFormedBlock, IsFormedStmt}
use Rattle.vt_tree.proofs.PartsLemmas.{in_node-is, in_node-out, in_simple-is, in_form-is, in_call-is, in_call-out, in_expr-is, in_expr-out, in_link-is, in_arm-is, in_block-is, in_stmt-is}
use Rattle.vt_tree.specs.Layers.{OfTrees}
use Rattle.vt_grammar.specs.declared.parts.Arguments.{Arguments}
use Rattle.vt_grammar.specs.Trees.{plain, wrapped, call_of, call_with, no_arguments, is_get, is_bare_get, node_takes_block, takes_block, node_with_block, with_block, form_tree, stmt_tree, arm_tree}
use Rattle.vt_grammar.proofs.Facts.{AreGiven, IsGuard}
use Rattle.vt_grammar.proofs.Tells.{InOrder, Maybe}

-- the numbers of the blocks among parts
abbrev pub numbers : List TreePart → List ℕ
numbers [] = []
numbers (called site ∷ parts) = numbers parts
numbers (opened block ∷ parts) = (out-Block block).number ∷ numbers parts

pub numbers-append : (x y : List TreePart) → numbers (x ++ y) ≡ numbers x ++ numbers y
numbers-append [] y = refl
numbers-append (called site ∷ x) y = numbers-append x y
numbers-append (opened block ∷ x) y = ap (λ z. (out-Block block).number ∷ z) (numbers-append x y)

-- the numbers in two walks, one after the other
numbers_of_two : (x y : List TreePart) {ns ms : List ℕ} → numbers x ≡ ns → numbers y ≡ ms → numbers (x ++ y) ≡ ns ++ ms
numbers_of_two x y {ns = ns} {ms = ms} e f = numbers-append x y ∙ ap (λ z. z ++ numbers y) e ∙ ap (λ z. ns ++ z) f

-- The value has its form, and these are the numbers of the blocks in it, wherever it stands.
pub record Is {X : Type 0} (F : X → Type 0) (W : X → Walk) (x : X) (ns : List ℕ) : Type 0 where
  pub formed : F x
  pub numbered : (p : Context) → numbers (W x p) ≡ ns

-- lists

pub each_is : {X : Type 0} (F : X → Type 0) (W : X → Walk) (xs : List X) (ns : List ℕ) → InOrder (Is F W) xs ns → Is (AllByRecursion F) (each W) xs ns
each_is F W [] ns h = record { formed = tt; numbered = λ p. sym h }
each_is F W (x ∷ xs) ns h =
    let later = each_is F W xs h.rest h.second in
    record {
      formed = (h.first.formed, later.formed);
      numbered = λ p. numbers_of_two (W x p) (each W xs p) (h.first.numbered p) (later.numbered p) ∙ sym h.whole;
    }

-- a value together with a fact of it
abbrev With : {X : Type 0} → (X → Type 0) → Type 0
With F = (x : _) × F x

record Paired {X : Type 0} (F : X → Type 0) (xs : List X) : Type 0 where
  pairs : List (With F)
  are : map (λ y. y.0) pairs ≡ xs

paired : {X : Type 0} {F : X → Type 0} (xs : List X) → AllByRecursion F xs → Paired F xs
paired [] h = record { pairs = []; are = refl }
paired (x ∷ xs) h =
    let later = paired xs h.1 in
    record { pairs = (x, h.0) ∷ later.pairs; are = ap (λ z. x ∷ z) later.are }

unpaired : {X : Type 0} {F : X → Type 0} (ys : List (With F)) → AllByRecursion F (map (λ y. y.0) ys)
unpaired [] = tt
unpaired (y ∷ ys) = (y.1, unpaired ys)

-- One layer of each type: whose children have their form, the same without those facts, and that it makes a value that has its form.

abbrev HeldNode : Type 0
HeldNode = Node-F (With IsFormedNode) (With IsFormedSimple) (With IsFormedStmtForm) (With IsFormedCall) (With IsFormedExpr) (With IsFormedLink) (With IsFormedArm) (With IsFormedBlock) (With IsFormedStmt)

abbrev bare_node : HeldNode → OfTrees Node-F
bare_node = map-Node (With IsFormedNode) (With IsFormedSimple) (With IsFormedStmtForm) (With IsFormedCall) (With IsFormedExpr) (With IsFormedLink) (With IsFormedArm) (With IsFormedBlock) (With IsFormedStmt) Node Simple StmtForm Call Expr Link Arm Block Stmt (λ z. z.0) (λ z. z.0) (λ z. z.0) (λ z. z.0) (λ z. z.0) (λ z. z.0) (λ z. z.0) (λ z. z.0) (λ z. z.0)

made_node : (x : Node) (layer : OfTrees Node-F) (held : HeldNode) → x ≡ roll-Node layer → bare_node held ≡ layer → GoodNode layer → IsFormedNode x
unfolding IsFormedNode IsFormedSimple IsFormedStmtForm IsFormedCall IsFormedExpr IsFormedLink IsFormedArm IsFormedBlock IsFormedStmt
made_node x layer held e m g = subst (every-Node GoodNode GoodSimple GoodForm GoodCall GoodExpr GoodLink GoodArm GoodBlock GoodStmt) (sym e) (every_made-Node GoodNode GoodSimple GoodForm GoodCall GoodExpr GoodLink GoodArm GoodBlock GoodStmt layer held m g)

abbrev HeldSimple : Type 0
HeldSimple = Simple-F (With IsFormedNode) (With IsFormedSimple) (With IsFormedStmtForm) (With IsFormedCall) (With IsFormedExpr) (With IsFormedLink) (With IsFormedArm) (With IsFormedBlock) (With IsFormedStmt)

abbrev bare_simple : HeldSimple → OfTrees Simple-F
bare_simple = map-Simple (With IsFormedNode) (With IsFormedSimple) (With IsFormedStmtForm) (With IsFormedCall) (With IsFormedExpr) (With IsFormedLink) (With IsFormedArm) (With IsFormedBlock) (With IsFormedStmt) Node Simple StmtForm Call Expr Link Arm Block Stmt (λ z. z.0) (λ z. z.0) (λ z. z.0) (λ z. z.0) (λ z. z.0) (λ z. z.0) (λ z. z.0) (λ z. z.0) (λ z. z.0)

made_simple : (x : Simple) (layer : OfTrees Simple-F) (held : HeldSimple) → x ≡ roll-Simple layer → bare_simple held ≡ layer → GoodSimple layer → IsFormedSimple x
unfolding IsFormedNode IsFormedSimple IsFormedStmtForm IsFormedCall IsFormedExpr IsFormedLink IsFormedArm IsFormedBlock IsFormedStmt
made_simple x layer held e m g = subst (every-Simple GoodNode GoodSimple GoodForm GoodCall GoodExpr GoodLink GoodArm GoodBlock GoodStmt) (sym e) (every_made-Simple GoodNode GoodSimple GoodForm GoodCall GoodExpr GoodLink GoodArm GoodBlock GoodStmt layer held m g)

abbrev HeldStmtForm : Type 0
HeldStmtForm = StmtForm-F (With IsFormedNode) (With IsFormedSimple) (With IsFormedStmtForm) (With IsFormedCall) (With IsFormedExpr) (With IsFormedLink) (With IsFormedArm) (With IsFormedBlock) (With IsFormedStmt)

abbrev bare_form : HeldStmtForm → OfTrees StmtForm-F
bare_form = map-StmtForm (With IsFormedNode) (With IsFormedSimple) (With IsFormedStmtForm) (With IsFormedCall) (With IsFormedExpr) (With IsFormedLink) (With IsFormedArm) (With IsFormedBlock) (With IsFormedStmt) Node Simple StmtForm Call Expr Link Arm Block Stmt (λ z. z.0) (λ z. z.0) (λ z. z.0) (λ z. z.0) (λ z. z.0) (λ z. z.0) (λ z. z.0) (λ z. z.0) (λ z. z.0)

made_form : (x : StmtForm) (layer : OfTrees StmtForm-F) (held : HeldStmtForm) → x ≡ roll-StmtForm layer → bare_form held ≡ layer → GoodForm layer → IsFormedStmtForm x
unfolding IsFormedNode IsFormedSimple IsFormedStmtForm IsFormedCall IsFormedExpr IsFormedLink IsFormedArm IsFormedBlock IsFormedStmt
made_form x layer held e m g = subst (every-StmtForm GoodNode GoodSimple GoodForm GoodCall GoodExpr GoodLink GoodArm GoodBlock GoodStmt) (sym e) (every_made-StmtForm GoodNode GoodSimple GoodForm GoodCall GoodExpr GoodLink GoodArm GoodBlock GoodStmt layer held m g)

abbrev HeldCall : Type 0
HeldCall = Call-F (With IsFormedNode) (With IsFormedSimple) (With IsFormedStmtForm) (With IsFormedCall) (With IsFormedExpr) (With IsFormedLink) (With IsFormedArm) (With IsFormedBlock) (With IsFormedStmt)

abbrev bare_call : HeldCall → OfTrees Call-F
bare_call = map-Call (With IsFormedNode) (With IsFormedSimple) (With IsFormedStmtForm) (With IsFormedCall) (With IsFormedExpr) (With IsFormedLink) (With IsFormedArm) (With IsFormedBlock) (With IsFormedStmt) Node Simple StmtForm Call Expr Link Arm Block Stmt (λ z. z.0) (λ z. z.0) (λ z. z.0) (λ z. z.0) (λ z. z.0) (λ z. z.0) (λ z. z.0) (λ z. z.0) (λ z. z.0)

made_call : (x : Call) (layer : OfTrees Call-F) (held : HeldCall) → x ≡ roll-Call layer → bare_call held ≡ layer → GoodCall layer → IsFormedCall x
unfolding IsFormedNode IsFormedSimple IsFormedStmtForm IsFormedCall IsFormedExpr IsFormedLink IsFormedArm IsFormedBlock IsFormedStmt
made_call x layer held e m g = subst (every-Call GoodNode GoodSimple GoodForm GoodCall GoodExpr GoodLink GoodArm GoodBlock GoodStmt) (sym e) (every_made-Call GoodNode GoodSimple GoodForm GoodCall GoodExpr GoodLink GoodArm GoodBlock GoodStmt layer held m g)

abbrev HeldExpr : Type 0
HeldExpr = Expr-F (With IsFormedNode) (With IsFormedSimple) (With IsFormedStmtForm) (With IsFormedCall) (With IsFormedExpr) (With IsFormedLink) (With IsFormedArm) (With IsFormedBlock) (With IsFormedStmt)

abbrev bare_expr : HeldExpr → OfTrees Expr-F
bare_expr = map-Expr (With IsFormedNode) (With IsFormedSimple) (With IsFormedStmtForm) (With IsFormedCall) (With IsFormedExpr) (With IsFormedLink) (With IsFormedArm) (With IsFormedBlock) (With IsFormedStmt) Node Simple StmtForm Call Expr Link Arm Block Stmt (λ z. z.0) (λ z. z.0) (λ z. z.0) (λ z. z.0) (λ z. z.0) (λ z. z.0) (λ z. z.0) (λ z. z.0) (λ z. z.0)

made_expr : (x : Expr) (layer : OfTrees Expr-F) (held : HeldExpr) → x ≡ roll-Expr layer → bare_expr held ≡ layer → GoodExpr layer → IsFormedExpr x
unfolding IsFormedNode IsFormedSimple IsFormedStmtForm IsFormedCall IsFormedExpr IsFormedLink IsFormedArm IsFormedBlock IsFormedStmt
made_expr x layer held e m g = subst (every-Expr GoodNode GoodSimple GoodForm GoodCall GoodExpr GoodLink GoodArm GoodBlock GoodStmt) (sym e) (every_made-Expr GoodNode GoodSimple GoodForm GoodCall GoodExpr GoodLink GoodArm GoodBlock GoodStmt layer held m g)

abbrev HeldLink : Type 0
HeldLink = Link-F (With IsFormedNode) (With IsFormedSimple) (With IsFormedStmtForm) (With IsFormedCall) (With IsFormedExpr) (With IsFormedLink) (With IsFormedArm) (With IsFormedBlock) (With IsFormedStmt)

abbrev bare_link : HeldLink → OfTrees Link-F
bare_link = map-Link (With IsFormedNode) (With IsFormedSimple) (With IsFormedStmtForm) (With IsFormedCall) (With IsFormedExpr) (With IsFormedLink) (With IsFormedArm) (With IsFormedBlock) (With IsFormedStmt) Node Simple StmtForm Call Expr Link Arm Block Stmt (λ z. z.0) (λ z. z.0) (λ z. z.0) (λ z. z.0) (λ z. z.0) (λ z. z.0) (λ z. z.0) (λ z. z.0) (λ z. z.0)

made_link : (x : Link) (layer : OfTrees Link-F) (held : HeldLink) → x ≡ roll-Link layer → bare_link held ≡ layer → GoodLink layer → IsFormedLink x
unfolding IsFormedNode IsFormedSimple IsFormedStmtForm IsFormedCall IsFormedExpr IsFormedLink IsFormedArm IsFormedBlock IsFormedStmt
made_link x layer held e m g = subst (every-Link GoodNode GoodSimple GoodForm GoodCall GoodExpr GoodLink GoodArm GoodBlock GoodStmt) (sym e) (every_made-Link GoodNode GoodSimple GoodForm GoodCall GoodExpr GoodLink GoodArm GoodBlock GoodStmt layer held m g)

abbrev HeldArm : Type 0
HeldArm = Arm-F (With IsFormedNode) (With IsFormedSimple) (With IsFormedStmtForm) (With IsFormedCall) (With IsFormedExpr) (With IsFormedLink) (With IsFormedArm) (With IsFormedBlock) (With IsFormedStmt)

abbrev bare_arm : HeldArm → OfTrees Arm-F
bare_arm = map-Arm (With IsFormedNode) (With IsFormedSimple) (With IsFormedStmtForm) (With IsFormedCall) (With IsFormedExpr) (With IsFormedLink) (With IsFormedArm) (With IsFormedBlock) (With IsFormedStmt) Node Simple StmtForm Call Expr Link Arm Block Stmt (λ z. z.0) (λ z. z.0) (λ z. z.0) (λ z. z.0) (λ z. z.0) (λ z. z.0) (λ z. z.0) (λ z. z.0) (λ z. z.0)

made_arm : (x : Arm) (layer : OfTrees Arm-F) (held : HeldArm) → x ≡ roll-Arm layer → bare_arm held ≡ layer → GoodArm layer → IsFormedArm x
unfolding IsFormedNode IsFormedSimple IsFormedStmtForm IsFormedCall IsFormedExpr IsFormedLink IsFormedArm IsFormedBlock IsFormedStmt
made_arm x layer held e m g = subst (every-Arm GoodNode GoodSimple GoodForm GoodCall GoodExpr GoodLink GoodArm GoodBlock GoodStmt) (sym e) (every_made-Arm GoodNode GoodSimple GoodForm GoodCall GoodExpr GoodLink GoodArm GoodBlock GoodStmt layer held m g)

abbrev HeldBlock : Type 0
HeldBlock = Block-F (With IsFormedNode) (With IsFormedSimple) (With IsFormedStmtForm) (With IsFormedCall) (With IsFormedExpr) (With IsFormedLink) (With IsFormedArm) (With IsFormedBlock) (With IsFormedStmt)

abbrev bare_block : HeldBlock → OfTrees Block-F
bare_block = map-Block (With IsFormedNode) (With IsFormedSimple) (With IsFormedStmtForm) (With IsFormedCall) (With IsFormedExpr) (With IsFormedLink) (With IsFormedArm) (With IsFormedBlock) (With IsFormedStmt) Node Simple StmtForm Call Expr Link Arm Block Stmt (λ z. z.0) (λ z. z.0) (λ z. z.0) (λ z. z.0) (λ z. z.0) (λ z. z.0) (λ z. z.0) (λ z. z.0) (λ z. z.0)

made_block : (x : Block) (layer : OfTrees Block-F) (held : HeldBlock) → x ≡ roll-Block layer → bare_block held ≡ layer → GoodBlock layer → IsFormedBlock x
unfolding IsFormedNode IsFormedSimple IsFormedStmtForm IsFormedCall IsFormedExpr IsFormedLink IsFormedArm IsFormedBlock IsFormedStmt
made_block x layer held e m g = subst (every-Block GoodNode GoodSimple GoodForm GoodCall GoodExpr GoodLink GoodArm GoodBlock GoodStmt) (sym e) (every_made-Block GoodNode GoodSimple GoodForm GoodCall GoodExpr GoodLink GoodArm GoodBlock GoodStmt layer held m g)

abbrev HeldStmt : Type 0
HeldStmt = Stmt-F (With IsFormedNode) (With IsFormedSimple) (With IsFormedStmtForm) (With IsFormedCall) (With IsFormedExpr) (With IsFormedLink) (With IsFormedArm) (With IsFormedBlock) (With IsFormedStmt)

abbrev bare_stmt : HeldStmt → OfTrees Stmt-F
bare_stmt = map-Stmt (With IsFormedNode) (With IsFormedSimple) (With IsFormedStmtForm) (With IsFormedCall) (With IsFormedExpr) (With IsFormedLink) (With IsFormedArm) (With IsFormedBlock) (With IsFormedStmt) Node Simple StmtForm Call Expr Link Arm Block Stmt (λ z. z.0) (λ z. z.0) (λ z. z.0) (λ z. z.0) (λ z. z.0) (λ z. z.0) (λ z. z.0) (λ z. z.0) (λ z. z.0)

made_stmt : (x : Stmt) (layer : OfTrees Stmt-F) (held : HeldStmt) → x ≡ roll-Stmt layer → bare_stmt held ≡ layer → GoodStmt layer → IsFormedStmt x
unfolding IsFormedNode IsFormedSimple IsFormedStmtForm IsFormedCall IsFormedExpr IsFormedLink IsFormedArm IsFormedBlock IsFormedStmt
made_stmt x layer held e m g = subst (every-Stmt GoodNode GoodSimple GoodForm GoodCall GoodExpr GoodLink GoodArm GoodBlock GoodStmt) (sym e) (every_made-Stmt GoodNode GoodSimple GoodForm GoodCall GoodExpr GoodLink GoodArm GoodBlock GoodStmt layer held m g)

held_node : (x : Node) → IsFormedNode x → (y : HeldNode) × (bare_node y ≡ out-Node x)
unfolding IsFormedNode IsFormedSimple IsFormedStmtForm IsFormedCall IsFormedExpr IsFormedLink IsFormedArm IsFormedBlock IsFormedStmt
held_node x h = every_held-Node GoodNode GoodSimple GoodForm GoodCall GoodExpr GoodLink GoodArm GoodBlock GoodStmt x h

here_node : (x : Node) → IsFormedNode x → GoodNode (out-Node x)
unfolding IsFormedNode IsFormedSimple IsFormedStmtForm IsFormedCall IsFormedExpr IsFormedLink IsFormedArm IsFormedBlock IsFormedStmt
here_node x h = every_here-Node GoodNode GoodSimple GoodForm GoodCall GoodExpr GoodLink GoodArm GoodBlock GoodStmt x h

held_call : (x : Call) → IsFormedCall x → (y : HeldCall) × (bare_call y ≡ out-Call x)
unfolding IsFormedNode IsFormedSimple IsFormedStmtForm IsFormedCall IsFormedExpr IsFormedLink IsFormedArm IsFormedBlock IsFormedStmt
held_call x h = every_held-Call GoodNode GoodSimple GoodForm GoodCall GoodExpr GoodLink GoodArm GoodBlock GoodStmt x h

here_call : (x : Call) → IsFormedCall x → GoodCall (out-Call x)
unfolding IsFormedNode IsFormedSimple IsFormedStmtForm IsFormedCall IsFormedExpr IsFormedLink IsFormedArm IsFormedBlock IsFormedStmt
here_call x h = every_here-Call GoodNode GoodSimple GoodForm GoodCall GoodExpr GoodLink GoodArm GoodBlock GoodStmt x h

held_expr : (x : Expr) → IsFormedExpr x → (y : HeldExpr) × (bare_expr y ≡ out-Expr x)
unfolding IsFormedNode IsFormedSimple IsFormedStmtForm IsFormedCall IsFormedExpr IsFormedLink IsFormedArm IsFormedBlock IsFormedStmt
held_expr x h = every_held-Expr GoodNode GoodSimple GoodForm GoodCall GoodExpr GoodLink GoodArm GoodBlock GoodStmt x h

-- Expressions

abbrev HasNoBlock : OfTrees Node-F → Type 0
HasNoBlock (Node-F.Call call) = (out-Call call).block ≡ None
HasNoBlock _ = Unit {0}

-- An expression that has its form, whose blocks have these numbers. Where it is a call, that has no block.
pub record IsExpr (e : Expr) (ns : List ℕ) : Type 0 where
  pub formed : IsFormedExpr e
  pub numbered : (p : Context) → numbers (in_expr e p) ≡ ns
  pub no_block : HasNoBlock (out-Node (out-Expr e).node)

abbrev pub IsValue : Expr → List ℕ → Type 0
IsValue = Is IsFormedExpr in_expr

pub as_value : (e : Expr) (ns : List ℕ) → IsExpr e ns → IsValue e ns
as_value e ns h = record { formed = h.formed; numbered = h.numbered }

plain_formed : (n : Node) → IsFormedNode n → IsFormedExpr (plain n)
plain_formed n h = made_expr (plain n) (record { wraps = 0; node = n }) (record { wraps = 0; node = (n, h) }) refl refl tt

plain_numbers : (n : Node) (layer : OfTrees Node-F) (ns : List ℕ) → n ≡ roll-Node layer → ((p : Context) → numbers (node_parts children layer p) ≡ ns)
    → (p : Context) → numbers (in_expr (plain n) p) ≡ ns
plain_numbers n layer ns e h p =
    ap (λ z. numbers z) (in_expr-is (plain n) (record { wraps = 0; node = n }) p refl ∙ in_node-is n layer p e) ∙ h p

pub plain_layer : (n : Node) (layer : OfTrees Node-F) → n ≡ roll-Node layer → out-Node (out-Expr (plain n)).node ≡ layer
plain_layer n layer e =
    ap (λ (x : OfTrees Expr-F). out-Node x.node) (out-roll-Expr (record { wraps = 0; node = n }))
    ∙ ap out-Node e ∙ out-roll-Node layer

plain_is : (n : Node) (layer : OfTrees Node-F) (ns : List ℕ) → n ≡ roll-Node layer → IsFormedNode n → ((p : Context) → numbers (node_parts children layer p) ≡ ns)
    → HasNoBlock layer → IsExpr (plain n) ns
plain_is n layer ns e f h b = record {
  formed = plain_formed n f;
  numbered = plain_numbers n layer ns e h;
  no_block = subst HasNoBlock (sym (plain_layer n layer e)) b;
}

pub literal_is : (value : Literal) → IsLiteral value → IsExpr (plain (nodes.Literal value)) []
literal_is value h =
    plain_is (nodes.Literal value) (Node-F.Literal value) [] (sym (nodes.rolls-Literal value))
    (made_node (nodes.Literal value) (Node-F.Literal value) (Node-F.Literal value) (sym (nodes.rolls-Literal value)) refl h) (λ p. refl) tt

pub name_is : (name : List ℕ) → IsName name → IsExpr (plain (nodes.Name name)) []
name_is name h =
    plain_is (nodes.Name name) (Node-F.Name name) [] (sym (nodes.rolls-Name name))
    (made_node (nodes.Name name) (Node-F.Name name) (Node-F.Name name) (sym (nodes.rolls-Name name)) refl h) (λ p. refl) tt

abbrev pub AreExprs : List Expr → List ℕ → Type 0
AreExprs = Is (AllByRecursion IsFormedExpr) (each in_expr)

pub list_is : (items : List Expr) (ns : List ℕ) → AreExprs items ns → IsExpr (plain (nodes.List items)) ns
list_is items ns h =
    let ys = paired items h.formed in
    plain_is (nodes.List items) (Node-F.List items) ns (sym (nodes.rolls-List items))
    (made_node (nodes.List items) (Node-F.List items) (Node-F.List ys.pairs) (sym (nodes.rolls-List items)) (ap (λ z. Node-F.List z) ys.are) tt)
    (λ p. h.numbered (inside p)) tt

pub index_is : (of at : Expr) (ns ms : List ℕ) → IsValue of ns → IsValue at ms → IsExpr (plain (nodes.Index of at)) (ns ++ ms)
index_is of at ns ms h g =
    plain_is (nodes.Index of at) (Node-F.Index of at) (ns ++ ms) (sym (nodes.rolls-Index of at))
    (made_node (nodes.Index of at) (Node-F.Index of at) (Node-F.Index (of, h.formed) (at, g.formed)) (sym (nodes.rolls-Index of at)) refl tt)
    (λ p. numbers_of_two (in_expr of (inside p)) (in_expr at (inside p)) (h.numbered (inside p)) (g.numbered (inside p))) tt

abbrev pub IsCall : Call → List ℕ → Type 0
IsCall = Is IsFormedCall in_call

dot_formed : (of : Expr) (call : Call) → IsFormedExpr of → IsFormedCall call → IsFormedNode (nodes.Dot of call)
dot_formed of call h g = made_node (nodes.Dot of call) (Node-F.Dot of call) (Node-F.Dot (of, h) (call, g)) (sym (nodes.rolls-Dot of call)) refl tt

pub dot_is : (of : Expr) (call : Call) (ns ms : List ℕ) → IsValue of ns → IsCall call ms → IsExpr (plain (nodes.Dot of call)) (ns ++ ms)
dot_is of call ns ms h g =
    plain_is (nodes.Dot of call) (Node-F.Dot of call) (ns ++ ms) (sym (nodes.rolls-Dot of call)) (dot_formed of call h.formed g.formed)
    (λ p. numbers_of_two (in_expr of (inside p)) (called (record { context = after_dot p; call = call }) ∷ in_call call (after_dot p)) (h.numbered (inside p)) (g.numbered (after_dot p))) tt

pub unary_is : (op : UnaryOp) (of : Expr) (ns : List ℕ) → IsValue of ns → IsExpr (plain (nodes.Unary op of)) ns
unary_is op of ns h =
    plain_is (nodes.Unary op of) (Node-F.Unary op of) ns (sym (nodes.rolls-Unary op of))
    (made_node (nodes.Unary op of) (Node-F.Unary op of) (Node-F.Unary op (of, h.formed)) (sym (nodes.rolls-Unary op of)) refl tt)
    (λ p. h.numbered (inside p)) tt

-- a link with an operator of this kind of chain
pub record IsLink (kind : ChainKind) (link : Link) (ns : List ℕ) : Type 0 where
  pub formed : IsFormedLink link
  pub op : IsTrue (is_op_of kind (out-Link link).op)
  pub numbered : (p : Context) → numbers (in_link link p) ≡ ns

pub link_is : (kind : ChainKind) (op : ChainOp) (part : Expr) (ns : List ℕ) → IsTrue (is_op_of kind op) → IsValue part ns → IsLink kind (roll-Link (record { op = op; part = part })) ns
link_is kind op part ns o h = record {
  formed = made_link (roll-Link (record { op = op; part = part })) (record { op = op; part = part }) (record { op = op; part = (part, h.formed) }) refl refl tt;
  op = subst (λ (x : OfTrees Link-F). IsTrue (is_op_of kind x.op)) (sym (out-roll-Link (record { op = op; part = part }))) o;
  numbered = λ p. ap (λ z. numbers z) (in_link-is (roll-Link (record { op = op; part = part })) (record { op = op; part = part }) p refl) ∙ h.numbered p;
}

record AreChained (kind : ChainKind) (links : List Link) (ns : List ℕ) : Type 0 where
  formed : AllByRecursion IsFormedLink links
  ops : AllByRecursion (λ link. IsTrue (is_op_of kind (out-Link link).op)) links
  numbered : (p : Context) → numbers (each in_link links p) ≡ ns

are_chained : (kind : ChainKind) (links : List Link) (ns : List ℕ) → InOrder (IsLink kind) links ns → AreChained kind links ns
are_chained kind [] ns h = record { formed = tt; ops = tt; numbered = λ p. sym h }
are_chained kind (l ∷ ls) ns h =
    let later = are_chained kind ls h.rest h.second in
    record {
      formed = (h.first.formed, later.formed);
      ops = (h.first.op, later.ops);
      numbered = λ p. numbers_of_two (in_link l p) (each in_link ls p) (h.first.numbered p) (later.numbered p) ∙ sym h.whole;
    }

pub chain_is : (kind : ChainKind) (first : Expr) (links : List Link) (ns ms : List ℕ) → IsLinkCount kind (length links) → IsValue first ns → InOrder (IsLink kind) links ms
    → IsExpr (plain (nodes.Chain kind first links)) (ns ++ ms)
chain_is kind first links ns ms c h g =
    let rest = are_chained kind links ms g in
    let ys = paired links rest.formed in
    plain_is (nodes.Chain kind first links) (Node-F.Chain kind first links) (ns ++ ms) (sym (nodes.rolls-Chain kind first links))
    (made_node (nodes.Chain kind first links) (Node-F.Chain kind first links) (Node-F.Chain kind (first, h.formed) ys.pairs) (sym (nodes.rolls-Chain kind first links))
    (ap (λ z. Node-F.Chain kind first z) ys.are)
    (record { count = c; ops = All-from_recursion (λ link. IsTrue (is_op_of kind (out-Link link).op)) links rest.ops }))
    (λ p. numbers_of_two (in_expr first (inside p)) (each in_link links (inside p)) (h.numbered (inside p)) (rest.numbered (inside p))) tt

-- parentheses change neither
pub wrapped_is : (e : Expr) (ns : List ℕ) → IsExpr e ns → IsExpr (wrapped e) ns
wrapped_is e ns h =
    let node = (out-Expr e).node in
    let held = held_expr e h.formed in
    let same : held.0.node.0 ≡ node = ap (λ (x : OfTrees Expr-F). x.node) held.1 in
    let layer : OfTrees Expr-F = record { wraps = suc (out-Expr e).wraps; node = node } in
    record {
      formed = made_expr (wrapped e) layer (record { wraps = suc (out-Expr e).wraps; node = (node, subst IsFormedNode same held.0.node.1) }) refl refl tt;
      numbered = λ p. ap (λ z. numbers z) (in_expr-is (wrapped e) layer p refl ∙ sym (in_expr-out e p)) ∙ h.numbered p;
      no_block = subst (λ (x : OfTrees Expr-F). HasNoBlock (out-Node x.node)) (sym (out-roll-Expr layer)) h.no_block;
    }

-- Calls

abbrev pub IsWhole : Block → List ℕ → Type 0
IsWhole = Is IsFormedBlock (whole_block children)

pub record IsFormedOption (o : List ℕ × Expr) : Type 0 where
  pub label : IsTrue (is_label_name o.0)
  pub value : IsFormedExpr o.1

pub record IsArguments (given : Arguments) (ns : List ℕ) : Type 0 where
  pub args : AllByRecursion IsFormedExpr given.args
  pub options : AllByRecursion IsFormedOption given.options
  pub numbered : (p : Context) → numbers (each in_expr given.args p ++ each (λ (o : List ℕ × Expr). in_expr o.1) given.options p) ≡ ns

-- an argument with a label
abbrev pub IsOption : List ℕ × Expr → List ℕ → Type 0
IsOption = Is IsFormedOption (λ o. in_expr o.1)

pub given_are : (given : Arguments) (ns : List ℕ) → AreGiven IsValue IsOption given ns → IsArguments given ns
given_are given ns h =
    let args = each_is IsFormedExpr in_expr given.args h.prefix h.args in
    let options = each_is IsFormedOption (λ o. in_expr o.1) given.options h.rest h.options in
    record {
      args = args.formed;
      options = options.formed;
      numbered = λ p. numbers_of_two (each in_expr given.args p) (each (λ (o : List ℕ × Expr). in_expr o.1) given.options p) (args.numbered p) (options.numbered p) ∙ sym h.whole;
    }

record PairedOptions (options : List (List ℕ × Expr)) : Type 0 where
  pairs : List (List ℕ × With IsFormedExpr)
  are : map (λ o. (o.0, o.1.0)) pairs ≡ options

paired_options : (options : List (List ℕ × Expr)) → AllByRecursion IsFormedOption options → PairedOptions options
paired_options [] h = record { pairs = []; are = refl }
paired_options (o ∷ options) h =
    let later = paired_options options h.1 in
    record { pairs = (o.0, (o.1, h.0.value)) ∷ later.pairs; are = ap (λ z. o ∷ z) later.are }

labels_of : (options : List (List ℕ × Expr)) → AllByRecursion IsFormedOption options → AllByRecursion (λ (o : List ℕ × Expr). IsTrue (is_label_name o.0)) options
labels_of [] h = tt
labels_of (o ∷ options) h = (h.0.label, labels_of options h.1)

abbrev IsFormedIfThere : Option Block → Type 0
IsFormedIfThere None = Unit {0}
IsFormedIfThere (Some b) = IsFormedBlock b

call_formed : (name : List ℕ) (w : Bool) (given : Arguments) (block : Option Block) → IsName name → AllByRecursion IsFormedExpr given.args
    → AllByRecursion IsFormedOption given.options → IsFormedIfThere block → IsFormedCall (call_of name w given block)
call_formed name w given None n a o b =
    let ys = paired given.args a in
    let zs = paired_options given.options o in
    made_call (call_of name w given None) (record { name = name; wrapped = w; args = given.args; options = given.options; block = None })
    (record { name = name; wrapped = w; args = ys.pairs; options = zs.pairs; block = None }) refl
    (λ i. record { name = name; wrapped = w; args = ys.are i; options = zs.are i; block = None })
    (record { name = n; labels = All-from_recursion (λ (o : List ℕ × Expr). IsTrue (is_label_name o.0)) given.options (labels_of given.options o) })
call_formed name w given (Some block) n a o b =
    let ys = paired given.args a in
    let zs = paired_options given.options o in
    made_call (call_of name w given (Some block)) (record { name = name; wrapped = w; args = given.args; options = given.options; block = Some block })
    (record { name = name; wrapped = w; args = ys.pairs; options = zs.pairs; block = Some (block, b) }) refl
    (λ i. record { name = name; wrapped = w; args = ys.are i; options = zs.are i; block = Some block })
    (record { name = n; labels = All-from_recursion (λ (o : List ℕ × Expr). IsTrue (is_label_name o.0)) given.options (labels_of given.options o) })

-- the arguments of a call, and then its block
abbrev pub arguments_parts : Arguments → Walk
arguments_parts given p = each in_expr given.args p ++ each (λ (o : List ℕ × Expr). in_expr o.1) given.options p

pub call_of_parts : (name : List ℕ) (w : Bool) (given : Arguments) (block : Option Block) (p : Context)
    → in_call (call_of name w given block) p ≡ arguments_parts given (inside p) ++ if_there (whole_block children) block (inside p)
call_of_parts name w given block p =
    in_call-is (call_of name w given block) (record { name = name; wrapped = w; args = given.args; options = given.options; block = block }) p refl
    ∙ sym (append_assoc (each in_expr given.args (inside p)) (each (λ (o : List ℕ × Expr). in_expr o.1) given.options (inside p)) (if_there (whole_block children) block (inside p)))

there_formed : (block : Option Block) (ms : List ℕ) → Maybe IsWhole block ms → IsFormedIfThere block
there_formed None ms h = tt
there_formed (Some b) ms h = h.is.formed

there_numbers : (block : Option Block) (ms : List ℕ) → Maybe IsWhole block ms → (p : Context) → numbers (if_there (whole_block children) block p) ≡ ms
there_numbers None ms h p = sym h.is
there_numbers (Some b) ms h p = h.is.numbered p

pub call_is : (name : List ℕ) (w : Bool) (given : Arguments) (block : Option Block) (ns ms : List ℕ) → IsName name → IsArguments given ns → Maybe IsWhole block ms
    → IsCall (call_of name w given block) (ns ++ ms)
call_is name w given block ns ms n h b = record {
  formed = call_formed name w given block n h.args h.options (there_formed block ms b);
  numbered = λ p. ap (λ z. numbers z) (call_of_parts name w given block p)
      ∙ numbers_of_two (arguments_parts given (inside p)) (if_there (whole_block children) block (inside p)) (h.numbered (inside p)) (there_numbers block ms b (inside p));
}

call_node_formed : (call : Call) → IsFormedCall call → IsFormedNode (nodes.Call call)
call_node_formed call h = made_node (nodes.Call call) (Node-F.Call call) (Node-F.Call (call, h)) (sym (nodes.rolls-Call call)) refl tt

pub call_node_is : (name : List ℕ) (w : Bool) (given : Arguments) (ns : List ℕ) → IsName name → IsArguments given ns → IsExpr (plain (nodes.Call (call_of name w given None))) ns
call_node_is name w given ns n h =
    let call = call_of name w given None in
    let is : IsCall call (ns ++ []) = call_is name w given None ns [] n h (record { is = refl }) in
    plain_is (nodes.Call call) (Node-F.Call call) ns (sym (nodes.rolls-Call call)) (call_node_formed call is.formed)
    (λ p. is.numbered p ∙ append-nil ns)
    (ap (λ (x : OfTrees Call-F). x.block) (out-roll-Call (record { name = name; wrapped = w; args = given.args; options = given.options; block = None })))

-- A block after a value

-- the arguments of a call, as they stand in it
abbrev pub arguments_in : Call → Arguments
arguments_in call = record { args = (out-Call call).args; options = (out-Call call).options }

args_formed : (call : Call) → IsFormedCall call → AllByRecursion IsFormedExpr (out-Call call).args
args_formed call h =
    let held = held_call call h in
    subst (AllByRecursion IsFormedExpr) (ap (λ (x : OfTrees Call-F). x.args) held.1) (unpaired held.0.args)

options_formed : (call : Call) → IsFormedCall call → AllByRecursion IsFormedOption (out-Call call).options
options_formed call h =
    let held = held_call call h in
    let values : AllByRecursion (λ (o : List ℕ × Expr). IsFormedExpr o.1) (out-Call call).options =
    subst (AllByRecursion (λ (o : List ℕ × Expr). IsFormedExpr o.1)) (ap (λ (x : OfTrees Call-F). x.options) held.1) (values_of held.0.options) in
    together (out-Call call).options (recursion_from_All (λ (o : List ℕ × Expr). IsTrue (is_label_name o.0)) (out-Call call).options (here_call call h).labels) values
  where
    values_of : (ys : List (List ℕ × With IsFormedExpr)) → AllByRecursion (λ (o : List ℕ × Expr). IsFormedExpr o.1) (map (λ o. (o.0, o.1.0)) ys)
    values_of [] = tt
    values_of (y ∷ ys) = (y.1.1, values_of ys)

    together : (os : List (List ℕ × Expr)) → AllByRecursion (λ (o : List ℕ × Expr). IsTrue (is_label_name o.0)) os → AllByRecursion (λ (o : List ℕ × Expr). IsFormedExpr o.1) os
        → AllByRecursion IsFormedOption os
    together [] l v = tt
    together (o ∷ os) l v = (record { label = l.0; value = v.0 }, together os l.1 v.1)

with_formed : (call : Call) (b : Block) → IsFormedCall call → IsFormedBlock b → IsFormedCall (call_with call b)
with_formed call b h g =
    call_formed (out-Call call).name (out-Call call).wrapped (arguments_in call) (Some b) (here_call call h).name (args_formed call h) (options_formed call h) g

with_numbers : (call : Call) (b : Block) (ms : List ℕ) → (out-Call call).block ≡ None → IsWhole b ms → (p : Context) → numbers (in_call (call_with call b) p) ≡ numbers (in_call call p) ++ ms
with_numbers call b ms e h p =
    let given = arguments_in call in
    let rest : if_there (whole_block children) (out-Call call).block (inside p) ≡ [] = ap (λ o. if_there (whole_block children) o (inside p)) e in
    let before : in_call call p ≡ arguments_parts given (inside p) =
    in_call-out call p
    ∙ sym (append_assoc (each in_expr given.args (inside p)) (each (λ (o : List ℕ × Expr). in_expr o.1) given.options (inside p)) (if_there (whole_block children) (out-Call call).block (inside p)))
    ∙ ap (λ z. arguments_parts given (inside p) ++ z) rest ∙ append-nil (arguments_parts given (inside p)) in
    ap (λ z. numbers z) (call_of_parts (out-Call call).name (out-Call call).wrapped given (Some b) p)
    ∙ numbers_of_two (arguments_parts given (inside p)) (whole_block children b (inside p)) (ap (λ z. numbers z) (sym before)) (h.numbered (inside p))

is_none-none : (o : Option Block) → is_none o ≡ true → o ≡ None
is_none-none None e = refl
is_none-none (Some b) e = absurd (true≢false (sym e))

call_child : (call : Call) (y : HeldNode) → bare_node y ≡ Node-F.Call call → IsFormedCall call
call_child call (Node-F.Call held) e = let same : held.0 ≡ call = cc in subst IsFormedCall same held.1
call_child call (Node-F.Literal value) e = absurd (cc)
call_child call (Node-F.Name name) e = absurd (cc)
call_child call (Node-F.List items) e = absurd (cc)
call_child call (Node-F.Index of at) e = absurd (cc)
call_child call (Node-F.Dot of held) e = absurd (cc)
call_child call (Node-F.Unary op of) e = absurd (cc)
call_child call (Node-F.Chain kind first rest) e = absurd (cc)

dot_child : (of : Expr) (call : Call) (y : HeldNode) → bare_node y ≡ Node-F.Dot of call → IsFormedExpr of × IsFormedCall call
dot_child of call (Node-F.Dot held_of held) e =
    let same_of : held_of.0 ≡ of = cc in
    let same : held.0 ≡ call = cc in
    (subst IsFormedExpr same_of held_of.1, subst IsFormedCall same held.1)
dot_child of call (Node-F.Literal value) e = absurd (cc)
dot_child of call (Node-F.Name name) e = absurd (cc)
dot_child of call (Node-F.Call held) e = absurd (cc)
dot_child of call (Node-F.List items) e = absurd (cc)
dot_child of call (Node-F.Index held at) e = absurd (cc)
dot_child of call (Node-F.Unary op held) e = absurd (cc)
dot_child of call (Node-F.Chain kind first rest) e = absurd (cc)

pub no_arguments_are : IsArguments no_arguments []
no_arguments_are = record { args = tt; options = tt; numbered = λ p. refl }

-- the block goes into the node, after what stands there
node_with : (node : Node) (layer : OfTrees Node-F) (b : Block) (ns ms : List ℕ) → out-Node node ≡ layer → node_takes_block layer ≡ true → HasNoBlock layer → IsFormedNode node
    → ((p : Context) → numbers (node_parts children layer p) ≡ ns) → IsWhole b ms → IsValue (plain (node_with_block node layer b)) (ns ++ ms)
node_with node (Node-F.Name name) b ns ms e t n f h g =
    let call = call_of name false no_arguments (Some b) in
    let good : IsName name = subst GoodNode e (here_node node f) in
    let is : IsCall call ([] ++ ms) = call_is name false no_arguments (Some b) [] ms good no_arguments_are (record { is = g }) in
    record {
      formed = plain_formed (nodes.Call call) (call_node_formed call is.formed);
      numbered = plain_numbers (nodes.Call call) (Node-F.Call call) (ns ++ ms) (sym (nodes.rolls-Call call))
          (λ p. is.numbered p ∙ ap (λ z. z ++ ms) (h p));
    }
node_with node (Node-F.Call call) b ns ms e t n f h g =
    let old : IsFormedCall call = let held = held_node node f in call_child call held.0 (held.1 ∙ e) in
    record {
      formed = plain_formed (nodes.Call (call_with call b)) (call_node_formed (call_with call b) (with_formed call b old g.formed));
      numbered = plain_numbers (nodes.Call (call_with call b)) (Node-F.Call (call_with call b)) (ns ++ ms) (sym (nodes.rolls-Call (call_with call b)))
          (λ p. with_numbers call b ms n g p ∙ ap (λ z. z ++ ms) (h p));
    }
node_with node (Node-F.Dot of call) b ns ms e t n f h g =
    let held = held_node node f in
    let old = dot_child of call held.0 (held.1 ∙ e) in
    record {
      formed = plain_formed (nodes.Dot of (call_with call b)) (dot_formed of (call_with call b) old.0 (with_formed call b old.1 g.formed));
      numbered = plain_numbers (nodes.Dot of (call_with call b)) (Node-F.Dot of (call_with call b)) (ns ++ ms) (sym (nodes.rolls-Dot of (call_with call b)))
          (λ p. dotted p (h p));
    }
  where
    dotted : (p : Context) → numbers (in_expr of (inside p) ++ (called (record { context = after_dot p; call = call }) ∷ in_call call (after_dot p))) ≡ ns
        → numbers (in_expr of (inside p) ++ (called (record { context = after_dot p; call = call_with call b }) ∷ in_call (call_with call b) (after_dot p))) ≡ ns ++ ms
    dotted p at =
        let before = numbers (in_expr of (inside p)) in
        let inner = numbers (in_call call (after_dot p)) in
        numbers-append (in_expr of (inside p)) (called (record { context = after_dot p; call = call_with call b }) ∷ in_call (call_with call b) (after_dot p))
        ∙ ap (λ z. before ++ z) (with_numbers call b ms (is_none-none (out-Call call).block t) g (after_dot p))
        ∙ sym (append_assoc before inner ms)
        ∙ ap (λ z. z ++ ms) (sym (numbers-append (in_expr of (inside p)) (called (record { context = after_dot p; call = call }) ∷ in_call call (after_dot p))) ∙ at)
node_with node (Node-F.Literal value) b ns ms e t n f h g = absurd (true≢false (sym t))
node_with node (Node-F.List items) b ns ms e t n f h g = absurd (true≢false (sym t))
node_with node (Node-F.Index of at) b ns ms e t n f h g = absurd (true≢false (sym t))
node_with node (Node-F.Unary op of) b ns ms e t n f h g = absurd (true≢false (sym t))
node_with node (Node-F.Chain kind first rest) b ns ms e t n f h g = absurd (true≢false (sym t))

-- what the node of an expression has
node_of_formed : (e : Expr) → IsFormedExpr e → IsFormedNode (out-Expr e).node
node_of_formed e h =
    let held = held_expr e h in
    let same : held.0.node.0 ≡ (out-Expr e).node = ap (λ (x : OfTrees Expr-F). x.node) held.1 in
    subst IsFormedNode same held.0.node.1

node_of_numbers : (e : Expr) (ns : List ℕ) → ((p : Context) → numbers (in_expr e p) ≡ ns) → (p : Context) → numbers (node_parts children (out-Node (out-Expr e).node) p) ≡ ns
node_of_numbers e ns h p = ap (λ z. numbers z) (sym (in_expr-out e p ∙ in_node-out (out-Expr e).node p)) ∙ h p

pub and_second : (a b : Bool) → a && b ≡ true → b ≡ true
and_second true b e = e
and_second false b e = absurd (true≢false (sym e))

pub with_block_is : (e : Expr) (b : Block) (ns ms : List ℕ) → IsExpr e ns → takes_block e ≡ true → IsWhole b ms → IsValue (with_block e (Some b)) (ns ++ ms)
unfolding takes_block with_block
with_block_is e b ns ms h t g =
    let node = (out-Expr e).node in
    node_with node (out-Node node) b ns ms refl (and_second (nat_eq (out-Expr e).wraps 0) (node_takes_block (out-Node node)) t) h.no_block
    (node_of_formed e h.formed) (node_of_numbers e ns h.numbered) g

-- a bare `get` has no block
get_numbers : (layer : OfTrees Node-F) → is_get layer ≡ true → (p : Context) → numbers (node_parts children layer p) ≡ []
get_numbers (Node-F.Name name) e p = refl
get_numbers (Node-F.Literal value) e p = absurd (true≢false (sym e))
get_numbers (Node-F.Call call) e p = absurd (true≢false (sym e))
get_numbers (Node-F.List items) e p = absurd (true≢false (sym e))
get_numbers (Node-F.Index of at) e p = absurd (true≢false (sym e))
get_numbers (Node-F.Dot of call) e p = absurd (true≢false (sym e))
get_numbers (Node-F.Unary op of) e p = absurd (true≢false (sym e))
get_numbers (Node-F.Chain kind first rest) e p = absurd (true≢false (sym e))

pub bare_get_numbers : (e : Expr) (ns : List ℕ) → is_bare_get e ≡ true → IsExpr e ns → (p : Context) → ns ≡ []
unfolding is_bare_get
bare_get_numbers e ns b h p =
    let node = (out-Expr e).node in
    sym (node_of_numbers e ns h.numbered p) ∙ get_numbers (out-Node node) (and_second (nat_eq (out-Expr e).wraps 0) (is_get (out-Node node)) b) p

-- Statements

abbrev pub IsSimple : Simple → List ℕ → Type 0
IsSimple = Is IsFormedSimple in_simple

abbrev pub IsStmt : Stmt → List ℕ → Type 0
IsStmt = Is IsFormedStmt in_stmt

abbrev pub IsForm : StmtForm → List ℕ → Type 0
IsForm = Is IsFormedStmtForm in_form

abbrev pub AreStmts : List Stmt → List ℕ → Type 0
AreStmts = Is (AllByRecursion IsFormedStmt) (each in_stmt)

abbrev pub IsArm : Arm → List ℕ → Type 0
IsArm = Is IsFormedArm in_arm

abbrev pub AreArms : List Arm → List ℕ → Type 0
AreArms = Is (AllByRecursion IsFormedArm) (each in_arm)

pub value_is : (e : Expr) (ns : List ℕ) → IsValue e ns → IsSimple (simples.Value e) ns
value_is e ns h = record {
  formed = made_simple (simples.Value e) (Simple-F.Value e) (Simple-F.Value (e, h.formed)) (sym (simples.rolls-Value e)) refl tt;
  numbered = λ p. ap (λ z. numbers z) (in_simple-is (simples.Value e) (Simple-F.Value e) p (sym (simples.rolls-Value e))) ∙ h.numbered p;
}

pub assign_is : (name : List ℕ) (op : AssignOp) (e : Expr) (ns : List ℕ) → IsName name → IsValue e ns → IsSimple (simples.Assign name op e) ns
assign_is name op e ns n h = record {
  formed = made_simple (simples.Assign name op e) (Simple-F.Assign name op e) (Simple-F.Assign name op (e, h.formed)) (sym (simples.rolls-Assign name op e)) refl n;
  numbered = λ p. ap (λ z. numbers z) (in_simple-is (simples.Assign name op e) (Simple-F.Assign name op e) p (sym (simples.rolls-Assign name op e))) ∙ h.numbered (inside p);
}

pub arm_is : (unless : Bool) (cond : Expr) (stmts : List Stmt) (ns ms : List ℕ) → IsValue cond ns → AreStmts stmts ms → IsArm (arm_tree unless cond stmts) (ns ++ ms)
arm_is unless cond stmts ns ms h g =
    let ys = paired stmts g.formed in
    let layer : OfTrees Arm-F = record { unless = unless; cond = cond; stmts = stmts } in
    record {
      formed = made_arm (arm_tree unless cond stmts) layer (record { unless = unless; cond = (cond, h.formed); stmts = ys.pairs }) refl
          (λ i. record { unless = unless; cond = cond; stmts = ys.are i }) tt;
      numbered = λ p. ap (λ z. numbers z) (in_arm-is (arm_tree unless cond stmts) layer p refl)
          ∙ numbers_of_two (in_expr cond p) (each in_stmt stmts p) (h.numbered p) (g.numbered p);
    }

pub iff_is : (arm : Arm) (arms : List Arm) (other : Option (List Stmt)) (ns ms : List ℕ) → AreArms (arm ∷ arms) ns → Maybe AreStmts other ms
    → IsSimple (simples.Iff (arm ∷ arms) other) (ns ++ ms)
iff_is arm arms None ns ms h g =
    let ys = paired (arm ∷ arms) h.formed in
    record {
      formed = made_simple (simples.Iff (arm ∷ arms) None) (Simple-F.Iff (arm ∷ arms) None) (Simple-F.Iff ys.pairs None) (sym (simples.rolls-Iff (arm ∷ arms) None))
          (ap (λ z. Simple-F.Iff z None) ys.are) (omega arith);
      numbered = λ p. ap (λ z. numbers z) (in_simple-is (simples.Iff (arm ∷ arms) None) (Simple-F.Iff (arm ∷ arms) None) p (sym (simples.rolls-Iff (arm ∷ arms) None)))
          ∙ numbers_of_two (each in_arm (arm ∷ arms) (inside p)) [] (h.numbered (inside p)) (sym g.is);
    }
iff_is arm arms (Some other) ns ms h g =
    let ys = paired (arm ∷ arms) h.formed in
    let zs = paired other g.is.formed in
    record {
      formed = made_simple (simples.Iff (arm ∷ arms) (Some other)) (Simple-F.Iff (arm ∷ arms) (Some other)) (Simple-F.Iff ys.pairs (Some zs.pairs)) (sym (simples.rolls-Iff (arm ∷ arms) (Some other)))
          (λ i. Simple-F.Iff (ys.are i) (Some (zs.are i))) (omega arith);
      numbered = λ p. ap (λ z. numbers z) (in_simple-is (simples.Iff (arm ∷ arms) (Some other)) (Simple-F.Iff (arm ∷ arms) (Some other)) p (sym (simples.rolls-Iff (arm ∷ arms) (Some other))))
          ∙ numbers_of_two (each in_arm (arm ∷ arms) (inside p)) (each in_stmt other (inside p)) (h.numbered (inside p)) (g.is.numbered (inside p));
    }

pub form_is : (simple : Simple) (guard : Option (Bool × Expr)) (ns ms : List ℕ) → IsSimple simple ns → Maybe (IsGuard IsValue) guard ms → IsForm (form_tree simple guard) (ns ++ ms)
form_is simple None ns ms h g = record {
  formed = made_form (forms.Plain simple) (StmtForm-F.Plain simple) (StmtForm-F.Plain (simple, h.formed)) (sym (forms.rolls-Plain simple)) refl tt;
  numbered = λ p. ap (λ z. numbers z) (in_form-is (forms.Plain simple) (StmtForm-F.Plain simple) p (sym (forms.rolls-Plain simple)))
      ∙ h.numbered p ∙ sym (ap (λ z. ns ++ z) g.is ∙ append-nil ns);
}
form_is simple (Some (unless, cond)) ns ms h g = record {
  formed = made_form (forms.Guarded simple unless cond) (StmtForm-F.Guarded simple unless cond) (StmtForm-F.Guarded (simple, h.formed) unless (cond, g.is.cond.formed))
      (sym (forms.rolls-Guarded simple unless cond)) refl tt;
  numbered = λ p. ap (λ z. numbers z) (in_form-is (forms.Guarded simple unless cond) (StmtForm-F.Guarded simple unless cond) p (sym (forms.rolls-Guarded simple unless cond)))
      ∙ numbers_of_two (in_simple simple p) (in_expr cond (inside p)) (h.numbered p) (g.is.cond.numbered (inside p));
}

pub stmt_is : (line : ℕ) (form : StmtForm) (ns : List ℕ) → IsForm form ns → IsStmt (stmt_tree (line, form)) ns
stmt_is line form ns h = record {
  formed = made_stmt (stmt_tree (line, form)) (record { line = line; form = form }) (record { line = line; form = (form, h.formed) }) refl refl tt;
  numbered = λ p. ap (λ z. numbers z) (in_stmt-is (stmt_tree (line, form)) (record { line = line; form = form }) p refl) ∙ h.numbered (at_line line p);
}

-- Blocks

pub block_is : (number : ℕ) (params : List (List ℕ)) (stmts : List Stmt) (ns : List ℕ) → All IsName params → AreStmts stmts ns
    → IsWhole (roll-Block (record { number = number; params = params; stmts = stmts })) (number ∷ ns)
block_is number params stmts ns n h =
    let ys = paired stmts h.formed in
    let layer : OfTrees Block-F = record { number = number; params = params; stmts = stmts } in
    record {
      formed = made_block (roll-Block layer) layer (record { number = number; params = params; stmts = ys.pairs }) refl
          (λ i. record { number = number; params = params; stmts = ys.are i }) n;
      numbered = λ p.
          ap (λ z. (out-Block (roll-Block layer)).number ∷ z) (ap (λ z. numbers z) (in_block-is (roll-Block layer) layer p refl) ∙ h.numbered p)
          ∙ ap (λ (x : OfTrees Block-F). x.number ∷ ns) (out-roll-Block layer);
    }
