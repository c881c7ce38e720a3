-- One induction over the tree, of which something may be known in each layer: the fact is at hand at each step.
use Rattle.std.proofs.Common.{◌≡◌, ℕ, List, [], ◌∷◌, map, Option, Some, None, IfSome, refl, sym, ap, ◌∙◌, subst}
use Rattle.std.specs.List.{AllByRecursion}
use Rattle.vt_tree.specs.declared.expression.Node.{Node, out-Node, roll-Node, out-roll-Node, roll-out-Node, map-Node}
use Rattle.vt_tree.specs.declared.statement.Simple.{Simple, out-Simple, roll-Simple, out-roll-Simple, roll-out-Simple, map-Simple}
use Rattle.vt_tree.specs.declared.statement.StmtForm.{StmtForm, out-StmtForm, roll-StmtForm, out-roll-StmtForm, roll-out-StmtForm, map-StmtForm}
use Rattle.vt_tree.specs.declared.expression.Call.{Call, out-Call, roll-Call, out-roll-Call, roll-out-Call, map-Call}
use Rattle.vt_tree.specs.declared.expression.Expr.{Expr, out-Expr, roll-Expr, out-roll-Expr, roll-out-Expr, map-Expr}
use Rattle.vt_tree.specs.declared.expression.Link.{Link, out-Link, roll-Link, out-roll-Link, roll-out-Link, map-Link}
use Rattle.vt_tree.specs.declared.statement.Arm.{Arm, out-Arm, roll-Arm, out-roll-Arm, roll-out-Arm, map-Arm}
use Rattle.vt_tree.specs.declared.statement.Block.{Block, out-Block, roll-Block, out-roll-Block, roll-out-Block, map-Block}
use Rattle.vt_tree.specs.declared.statement.Stmt.{Stmt, out-Stmt, roll-Stmt, out-roll-Stmt, roll-out-Stmt, map-Stmt}
use Rattle.vt_tree.specs.declared.expression.Node.TheOpen.{Node-F, Simple-F, StmtForm-F, Call-F, Expr-F, Link-F, Arm-F, Block-F, Stmt-F}
use Rattle.vt_tree.specs.declared.expression.Node.TheFolds.{every-Node, every-Simple, every-StmtForm, every-Call, every-Expr, every-Link, every-Arm, every-Block, every-Stmt, every_here-Node, every_here-Simple, every_here-StmtForm, every_here-Call, every_here-Expr, every_here-Link, every_here-Arm, every_here-Block, every_here-Stmt, every_held-Node, every_held-Simple, every_held-StmtForm, every_held-Call, every_held-Expr, every_held-Link, every_held-Arm, every_held-Block, every_held-Stmt, every_made-Node, every_made-Simple, every_made-StmtForm, every_made-Call, every_made-Expr, every_made-Link, every_made-Arm, every_made-Block, every_made-Stmt, ind-Block}
use Rattle.vt_tree.specs.Layers.{OfTrees}

-- a statement about each type of a tree
pub record Predicates : Type 1 where
  pub node : Node → Type 0
  pub simple : Simple → Type 0
  pub form : StmtForm → Type 0
  pub call : Call → Type 0
  pub expr : Expr → Type 0
  pub link : Link → Type 0
  pub arm : Arm → Type 0
  pub block : Block → Type 0
  pub stmt : Stmt → Type 0

-- a statement about one layer of each type, whose children are trees
pub record LayerPredicates : Type 1 where
  pub node : OfTrees Node-F → Type 0
  pub simple : OfTrees Simple-F → Type 0
  pub form : OfTrees StmtForm-F → Type 0
  pub call : OfTrees Call-F → Type 0
  pub expr : OfTrees Expr-F → Type 0
  pub link : OfTrees Link-F → Type 0
  pub arm : OfTrees Arm-F → Type 0
  pub block : OfTrees Block-F → Type 0
  pub stmt : OfTrees Stmt-F → Type 0

-- that it holds in each layer of a tree
abbrev pub every_layer : LayerPredicates → Predicates
every_layer P = record {
  node = every-Node P.node P.simple P.form P.call P.expr P.link P.arm P.block P.stmt;
  simple = every-Simple P.node P.simple P.form P.call P.expr P.link P.arm P.block P.stmt;
  form = every-StmtForm P.node P.simple P.form P.call P.expr P.link P.arm P.block P.stmt;
  call = every-Call P.node P.simple P.form P.call P.expr P.link P.arm P.block P.stmt;
  expr = every-Expr P.node P.simple P.form P.call P.expr P.link P.arm P.block P.stmt;
  link = every-Link P.node P.simple P.form P.call P.expr P.link P.arm P.block P.stmt;
  arm = every-Arm P.node P.simple P.form P.call P.expr P.link P.arm P.block P.stmt;
  block = every-Block P.node P.simple P.form P.call P.expr P.link P.arm P.block P.stmt;
  stmt = every-Stmt P.node P.simple P.form P.call P.expr P.link P.arm P.block P.stmt;
}

-- where the premise gives the first, the second holds
abbrev pub where_given : Type 0 → Predicates → Predicates → Predicates
where_given L F G = record {
  node = λ x. (L → F.node x) → G.node x;
  simple = λ x. (L → F.simple x) → G.simple x;
  form = λ x. (L → F.form x) → G.form x;
  call = λ x. (L → F.call x) → G.call x;
  expr = λ x. (L → F.expr x) → G.expr x;
  link = λ x. (L → F.link x) → G.link x;
  arm = λ x. (L → F.arm x) → G.arm x;
  block = λ x. (L → F.block x) → G.block x;
  stmt = λ x. (L → F.stmt x) → G.stmt x;
}

-- a value together with a fact of it
abbrev pub With : {X : Type 0} → (X → Type 0) → Type 0
With F = (x : _) × F x

-- One layer of each type: whose children stand with a fact of each, the same without those facts, and that each child has its fact.

abbrev pub HeldNode : Predicates → Type 0
HeldNode F = Node-F (With F.node) (With F.simple) (With F.form) (With F.call) (With F.expr) (With F.link) (With F.arm) (With F.block) (With F.stmt)

abbrev pub bare_node : (F : Predicates) → HeldNode F → OfTrees Node-F
bare_node F = map-Node (With F.node) (With F.simple) (With F.form) (With F.call) (With F.expr) (With F.link) (With F.arm) (With F.block) (With F.stmt) Node Simple StmtForm Call Expr Link Arm Block Stmt (λ z. z.0) (λ z. z.0) (λ z. z.0) (λ z. z.0) (λ z. z.0) (λ z. z.0) (λ z. z.0) (λ z. z.0) (λ z. z.0)

abbrev pub AllNode : Predicates → OfTrees Node-F → Type 0
AllNode F (Node-F.Literal value) = Unit {0}
AllNode F (Node-F.Name name) = Unit {0}
AllNode F (Node-F.Call call) = F.call call
AllNode F (Node-F.List items) = AllByRecursion F.expr items
AllNode F (Node-F.Index of at) = F.expr of × F.expr at
AllNode F (Node-F.Dot of call) = F.expr of × F.call call
AllNode F (Node-F.Unary op of) = F.expr of
AllNode F (Node-F.Chain kind first rest) = F.expr first × AllByRecursion F.link rest

abbrev pub HeldSimple : Predicates → Type 0
HeldSimple F = Simple-F (With F.node) (With F.simple) (With F.form) (With F.call) (With F.expr) (With F.link) (With F.arm) (With F.block) (With F.stmt)

abbrev pub bare_simple : (F : Predicates) → HeldSimple F → OfTrees Simple-F
bare_simple F = map-Simple (With F.node) (With F.simple) (With F.form) (With F.call) (With F.expr) (With F.link) (With F.arm) (With F.block) (With F.stmt) Node Simple StmtForm Call Expr Link Arm Block Stmt (λ z. z.0) (λ z. z.0) (λ z. z.0) (λ z. z.0) (λ z. z.0) (λ z. z.0) (λ z. z.0) (λ z. z.0) (λ z. z.0)

abbrev pub AllSimple : Predicates → OfTrees Simple-F → Type 0
AllSimple F (Simple-F.Iff arms other) = AllByRecursion F.arm arms × IfSome other (AllByRecursion F.stmt)
AllSimple F (Simple-F.Assign name op value) = F.expr value
AllSimple F (Simple-F.Value value) = F.expr value

abbrev pub HeldStmtForm : Predicates → Type 0
HeldStmtForm F = StmtForm-F (With F.node) (With F.simple) (With F.form) (With F.call) (With F.expr) (With F.link) (With F.arm) (With F.block) (With F.stmt)

abbrev pub bare_form : (F : Predicates) → HeldStmtForm F → OfTrees StmtForm-F
bare_form F = map-StmtForm (With F.node) (With F.simple) (With F.form) (With F.call) (With F.expr) (With F.link) (With F.arm) (With F.block) (With F.stmt) Node Simple StmtForm Call Expr Link Arm Block Stmt (λ z. z.0) (λ z. z.0) (λ z. z.0) (λ z. z.0) (λ z. z.0) (λ z. z.0) (λ z. z.0) (λ z. z.0) (λ z. z.0)

abbrev pub AllStmtForm : Predicates → OfTrees StmtForm-F → Type 0
AllStmtForm F (StmtForm-F.Plain simple) = F.simple simple
AllStmtForm F (StmtForm-F.Guarded simple unless cond) = F.simple simple × F.expr cond

abbrev pub HeldCall : Predicates → Type 0
HeldCall F = Call-F (With F.node) (With F.simple) (With F.form) (With F.call) (With F.expr) (With F.link) (With F.arm) (With F.block) (With F.stmt)

abbrev pub bare_call : (F : Predicates) → HeldCall F → OfTrees Call-F
bare_call F = map-Call (With F.node) (With F.simple) (With F.form) (With F.call) (With F.expr) (With F.link) (With F.arm) (With F.block) (With F.stmt) Node Simple StmtForm Call Expr Link Arm Block Stmt (λ z. z.0) (λ z. z.0) (λ z. z.0) (λ z. z.0) (λ z. z.0) (λ z. z.0) (λ z. z.0) (λ z. z.0) (λ z. z.0)

abbrev pub AllCall : Predicates → OfTrees Call-F → Type 0
AllCall F call = AllByRecursion F.expr call.args × AllByRecursion (λ (o : List ℕ × Expr). F.expr o.1) call.options × IfSome call.block F.block

abbrev pub HeldExpr : Predicates → Type 0
HeldExpr F = Expr-F (With F.node) (With F.simple) (With F.form) (With F.call) (With F.expr) (With F.link) (With F.arm) (With F.block) (With F.stmt)

abbrev pub bare_expr : (F : Predicates) → HeldExpr F → OfTrees Expr-F
bare_expr F = map-Expr (With F.node) (With F.simple) (With F.form) (With F.call) (With F.expr) (With F.link) (With F.arm) (With F.block) (With F.stmt) Node Simple StmtForm Call Expr Link Arm Block Stmt (λ z. z.0) (λ z. z.0) (λ z. z.0) (λ z. z.0) (λ z. z.0) (λ z. z.0) (λ z. z.0) (λ z. z.0) (λ z. z.0)

abbrev pub AllExpr : Predicates → OfTrees Expr-F → Type 0
AllExpr F expr = F.node expr.node

abbrev pub HeldLink : Predicates → Type 0
HeldLink F = Link-F (With F.node) (With F.simple) (With F.form) (With F.call) (With F.expr) (With F.link) (With F.arm) (With F.block) (With F.stmt)

abbrev pub bare_link : (F : Predicates) → HeldLink F → OfTrees Link-F
bare_link F = map-Link (With F.node) (With F.simple) (With F.form) (With F.call) (With F.expr) (With F.link) (With F.arm) (With F.block) (With F.stmt) Node Simple StmtForm Call Expr Link Arm Block Stmt (λ z. z.0) (λ z. z.0) (λ z. z.0) (λ z. z.0) (λ z. z.0) (λ z. z.0) (λ z. z.0) (λ z. z.0) (λ z. z.0)

abbrev pub AllLink : Predicates → OfTrees Link-F → Type 0
AllLink F link = F.expr link.part

abbrev pub HeldArm : Predicates → Type 0
HeldArm F = Arm-F (With F.node) (With F.simple) (With F.form) (With F.call) (With F.expr) (With F.link) (With F.arm) (With F.block) (With F.stmt)

abbrev pub bare_arm : (F : Predicates) → HeldArm F → OfTrees Arm-F
bare_arm F = map-Arm (With F.node) (With F.simple) (With F.form) (With F.call) (With F.expr) (With F.link) (With F.arm) (With F.block) (With F.stmt) Node Simple StmtForm Call Expr Link Arm Block Stmt (λ z. z.0) (λ z. z.0) (λ z. z.0) (λ z. z.0) (λ z. z.0) (λ z. z.0) (λ z. z.0) (λ z. z.0) (λ z. z.0)

abbrev pub AllArm : Predicates → OfTrees Arm-F → Type 0
AllArm F arm = F.expr arm.cond × AllByRecursion F.stmt arm.stmts

abbrev pub HeldBlock : Predicates → Type 0
HeldBlock F = Block-F (With F.node) (With F.simple) (With F.form) (With F.call) (With F.expr) (With F.link) (With F.arm) (With F.block) (With F.stmt)

abbrev pub bare_block : (F : Predicates) → HeldBlock F → OfTrees Block-F
bare_block F = map-Block (With F.node) (With F.simple) (With F.form) (With F.call) (With F.expr) (With F.link) (With F.arm) (With F.block) (With F.stmt) Node Simple StmtForm Call Expr Link Arm Block Stmt (λ z. z.0) (λ z. z.0) (λ z. z.0) (λ z. z.0) (λ z. z.0) (λ z. z.0) (λ z. z.0) (λ z. z.0) (λ z. z.0)

abbrev pub AllBlock : Predicates → OfTrees Block-F → Type 0
AllBlock F block = AllByRecursion F.stmt block.stmts

abbrev pub HeldStmt : Predicates → Type 0
HeldStmt F = Stmt-F (With F.node) (With F.simple) (With F.form) (With F.call) (With F.expr) (With F.link) (With F.arm) (With F.block) (With F.stmt)

abbrev pub bare_stmt : (F : Predicates) → HeldStmt F → OfTrees Stmt-F
bare_stmt F = map-Stmt (With F.node) (With F.simple) (With F.form) (With F.call) (With F.expr) (With F.link) (With F.arm) (With F.block) (With F.stmt) Node Simple StmtForm Call Expr Link Arm Block Stmt (λ z. z.0) (λ z. z.0) (λ z. z.0) (λ z. z.0) (λ z. z.0) (λ z. z.0) (λ z. z.0) (λ z. z.0) (λ z. z.0)

abbrev pub AllStmt : Predicates → OfTrees Stmt-F → Type 0
AllStmt F stmt = F.form stmt.form

-- lists and options

pub record Paired {X : Type 0} (F : X → Type 0) (xs : List X) : Type 0 where
  pub pairs : List (With F)
  pub are : map (λ y. y.0) pairs ≡ xs

paired : {X : Type 0} (F : X → Type 0) (xs : List X) → AllByRecursion F xs → Paired F xs
paired F [] h = record { pairs = []; are = refl }
paired F (x ∷ xs) h =
    let later = paired F xs h.1 in
    record { pairs = (x, h.0) ∷ later.pairs; are = ap (λ z. x ∷ z) later.are }

unpaired : {X : Type 0} (F : X → Type 0) (ys : List (With F)) → AllByRecursion F (map (λ y. y.0) ys)
unpaired F [] = tt
unpaired F (y ∷ ys) = (y.1, unpaired F ys)

record PairedOptions (F : Expr → Type 0) (options : List (List ℕ × Expr)) : Type 0 where
  pairs : List (List ℕ × With F)
  are : map (λ o. (o.0, o.1.0)) pairs ≡ options

paired_options : (F : Expr → Type 0) (options : List (List ℕ × Expr)) → AllByRecursion (λ (o : List ℕ × Expr). F o.1) options → PairedOptions F options
paired_options F [] h = record { pairs = []; are = refl }
paired_options F (o ∷ options) h =
    let later = paired_options F options h.1 in
    record { pairs = (o.0, (o.1, h.0)) ∷ later.pairs; are = ap (λ z. o ∷ z) later.are }

unpaired_options : (F : Expr → Type 0) (ys : List (List ℕ × With F)) → AllByRecursion (λ (o : List ℕ × Expr). F o.1) (map (λ o. (o.0, o.1.0)) ys)
unpaired_options F [] = tt
unpaired_options F (y ∷ ys) = (y.1.1, unpaired_options F ys)

given_list : {X : Type 0} (L : Type 0) (F G : X → Type 0) (xs : List X) → AllByRecursion (λ x. (L → F x) → G x) xs → (L → AllByRecursion F xs) → AllByRecursion G xs
given_list L F G [] m h = tt
given_list L F G (x ∷ xs) m h = (m.0 (λ l. (h l).0), given_list L F G xs m.1 (λ l. (h l).1))

-- what holds of the children that stand with their facts

pub all_node : (F : Predicates) (y : HeldNode F) → AllNode F (bare_node F y)
all_node F (Node-F.Literal value) = tt
all_node F (Node-F.Name name) = tt
all_node F (Node-F.Call call) = call.1
all_node F (Node-F.List items) = unpaired F.expr items
all_node F (Node-F.Index of at) = (of.1, at.1)
all_node F (Node-F.Dot of call) = (of.1, call.1)
all_node F (Node-F.Unary op of) = of.1
all_node F (Node-F.Chain kind first rest) = (first.1, unpaired F.link rest)

pub all_simple : (F : Predicates) (y : HeldSimple F) → AllSimple F (bare_simple F y)
all_simple F (Simple-F.Iff arms None) = (unpaired F.arm arms, tt)
all_simple F (Simple-F.Iff arms (Some other)) = (unpaired F.arm arms, unpaired F.stmt other)
all_simple F (Simple-F.Assign name op value) = value.1
all_simple F (Simple-F.Value value) = value.1

pub all_form : (F : Predicates) (y : HeldStmtForm F) → AllStmtForm F (bare_form F y)
all_form F (StmtForm-F.Plain simple) = simple.1
all_form F (StmtForm-F.Guarded simple unless cond) = (simple.1, cond.1)

block_there : (F : Predicates) (y : HeldCall F) (o : Option (With F.block)) → IfSome (bare_call F (record y { block = o })).block F.block
block_there F y None = tt
block_there F y (Some block) = block.1

pub all_call : (F : Predicates) (y : HeldCall F) → AllCall F (bare_call F y)
all_call F y = (unpaired F.expr y.args, unpaired_options F.expr y.options, block_there F y y.block)

pub all_expr : (F : Predicates) (y : HeldExpr F) → AllExpr F (bare_expr F y)
all_expr F y = y.node.1

pub all_link : (F : Predicates) (y : HeldLink F) → AllLink F (bare_link F y)
all_link F y = y.part.1

pub all_arm : (F : Predicates) (y : HeldArm F) → AllArm F (bare_arm F y)
all_arm F y = (y.cond.1, unpaired F.stmt y.stmts)

pub all_block : (F : Predicates) (y : HeldBlock F) → AllBlock F (bare_block F y)
all_block F y = unpaired F.stmt y.stmts

pub all_stmt : (F : Predicates) (y : HeldStmt F) → AllStmt F (bare_stmt F y)
all_stmt F y = y.form.1

-- the children of a layer with the facts that hold of them

pub held_node : (F : Predicates) (x : OfTrees Node-F) → AllNode F x → (y : HeldNode F) × (bare_node F y ≡ x)
held_node F (Node-F.Literal value) h = (Node-F.Literal value, refl)
held_node F (Node-F.Name name) h = (Node-F.Name name, refl)
held_node F (Node-F.Call call) h = (Node-F.Call (call, h), refl)
held_node F (Node-F.List items) h = let ys = paired F.expr items h in (Node-F.List ys.pairs, ap (λ z. Node-F.List z) ys.are)
held_node F (Node-F.Index of at) h = (Node-F.Index (of, h.0) (at, h.1), refl)
held_node F (Node-F.Dot of call) h = (Node-F.Dot (of, h.0) (call, h.1), refl)
held_node F (Node-F.Unary op of) h = (Node-F.Unary op (of, h), refl)
held_node F (Node-F.Chain kind first rest) h = let ys = paired F.link rest h.1 in (Node-F.Chain kind (first, h.0) ys.pairs, ap (λ z. Node-F.Chain kind first z) ys.are)

pub held_simple : (F : Predicates) (x : OfTrees Simple-F) → AllSimple F x → (y : HeldSimple F) × (bare_simple F y ≡ x)
held_simple F (Simple-F.Iff arms None) h = let ys = paired F.arm arms h.0 in (Simple-F.Iff ys.pairs None, ap (λ z. Simple-F.Iff z None) ys.are)
held_simple F (Simple-F.Iff arms (Some other)) h =
    let ys = paired F.arm arms h.0 in
    let zs = paired F.stmt other h.1 in
    (Simple-F.Iff ys.pairs (Some zs.pairs), λ i. Simple-F.Iff (ys.are i) (Some (zs.are i)))
held_simple F (Simple-F.Assign name op value) h = (Simple-F.Assign name op (value, h), refl)
held_simple F (Simple-F.Value value) h = (Simple-F.Value (value, h), refl)

pub held_form : (F : Predicates) (x : OfTrees StmtForm-F) → AllStmtForm F x → (y : HeldStmtForm F) × (bare_form F y ≡ x)
held_form F (StmtForm-F.Plain simple) h = (StmtForm-F.Plain (simple, h), refl)
held_form F (StmtForm-F.Guarded simple unless cond) h = (StmtForm-F.Guarded (simple, h.0) unless (cond, h.1), refl)

held_call_with : (F : Predicates) (x : OfTrees Call-F) (o : Option Block) → AllCall F (record x { block = o }) → (y : HeldCall F) × (bare_call F y ≡ record x { block = o })
held_call_with F x None h =
    let ys = paired F.expr x.args h.0 in
    let zs = paired_options F.expr x.options h.1 in (
      record { name = x.name; wrapped = x.wrapped; args = ys.pairs; options = zs.pairs; block = None },
      λ i. record { name = x.name; wrapped = x.wrapped; args = ys.are i; options = zs.are i; block = None },
    )
held_call_with F x (Some block) h =
    let ys = paired F.expr x.args h.0 in
    let zs = paired_options F.expr x.options h.1 in (
      record { name = x.name; wrapped = x.wrapped; args = ys.pairs; options = zs.pairs; block = Some (block, h.2) },
      λ i. record { name = x.name; wrapped = x.wrapped; args = ys.are i; options = zs.are i; block = Some block },
    )

pub held_call : (F : Predicates) (x : OfTrees Call-F) → AllCall F x → (y : HeldCall F) × (bare_call F y ≡ x)
held_call F x h = held_call_with F x x.block h

pub held_expr : (F : Predicates) (x : OfTrees Expr-F) → AllExpr F x → (y : HeldExpr F) × (bare_expr F y ≡ x)
held_expr F x h = (record { wraps = x.wraps; node = (x.node, h) }, refl)

pub held_link : (F : Predicates) (x : OfTrees Link-F) → AllLink F x → (y : HeldLink F) × (bare_link F y ≡ x)
held_link F x h = (record { op = x.op; part = (x.part, h) }, refl)

pub held_arm : (F : Predicates) (x : OfTrees Arm-F) → AllArm F x → (y : HeldArm F) × (bare_arm F y ≡ x)
held_arm F x h =
    let ys = paired F.stmt x.stmts h.1 in
    (record { unless = x.unless; cond = (x.cond, h.0); stmts = ys.pairs }, λ i. record { unless = x.unless; cond = x.cond; stmts = ys.are i })

pub held_block : (F : Predicates) (x : OfTrees Block-F) → AllBlock F x → (y : HeldBlock F) × (bare_block F y ≡ x)
held_block F x h =
    let ys = paired F.stmt x.stmts h in
    (record { number = x.number; params = x.params; stmts = ys.pairs }, λ i. record { number = x.number; params = x.params; stmts = ys.are i })

pub held_stmt : (F : Predicates) (x : OfTrees Stmt-F) → AllStmt F x → (y : HeldStmt F) × (bare_stmt F y ≡ x)
held_stmt F x h = (record { line = x.line; form = (x.form, h) }, refl)

-- What holds in the layer of a tree, and in each layer of its children, holds in each layer of the tree.

pub made_node : (P : LayerPredicates) (x : Node) → AllNode (every_layer P) (out-Node x) → P.node (out-Node x) → every-Node P.node P.simple P.form P.call P.expr P.link P.arm P.block P.stmt x
made_node P x h here =
    let held = held_node (every_layer P) (out-Node x) h in
    subst (every-Node P.node P.simple P.form P.call P.expr P.link P.arm P.block P.stmt) (roll-out-Node x) (every_made-Node P.node P.simple P.form P.call P.expr P.link P.arm P.block P.stmt (out-Node x) held.0 held.1 here)

pub made_simple : (P : LayerPredicates) (x : Simple) → AllSimple (every_layer P) (out-Simple x) → P.simple (out-Simple x) → every-Simple P.node P.simple P.form P.call P.expr P.link P.arm P.block P.stmt x
made_simple P x h here =
    let held = held_simple (every_layer P) (out-Simple x) h in
    subst (every-Simple P.node P.simple P.form P.call P.expr P.link P.arm P.block P.stmt) (roll-out-Simple x) (every_made-Simple P.node P.simple P.form P.call P.expr P.link P.arm P.block P.stmt (out-Simple x) held.0 held.1 here)

pub made_form : (P : LayerPredicates) (x : StmtForm) → AllStmtForm (every_layer P) (out-StmtForm x) → P.form (out-StmtForm x) → every-StmtForm P.node P.simple P.form P.call P.expr P.link P.arm P.block P.stmt x
made_form P x h here =
    let held = held_form (every_layer P) (out-StmtForm x) h in
    subst (every-StmtForm P.node P.simple P.form P.call P.expr P.link P.arm P.block P.stmt) (roll-out-StmtForm x) (every_made-StmtForm P.node P.simple P.form P.call P.expr P.link P.arm P.block P.stmt (out-StmtForm x) held.0 held.1 here)

pub made_call : (P : LayerPredicates) (x : Call) → AllCall (every_layer P) (out-Call x) → P.call (out-Call x) → every-Call P.node P.simple P.form P.call P.expr P.link P.arm P.block P.stmt x
made_call P x h here =
    let held = held_call (every_layer P) (out-Call x) h in
    subst (every-Call P.node P.simple P.form P.call P.expr P.link P.arm P.block P.stmt) (roll-out-Call x) (every_made-Call P.node P.simple P.form P.call P.expr P.link P.arm P.block P.stmt (out-Call x) held.0 held.1 here)

pub made_expr : (P : LayerPredicates) (x : Expr) → AllExpr (every_layer P) (out-Expr x) → P.expr (out-Expr x) → every-Expr P.node P.simple P.form P.call P.expr P.link P.arm P.block P.stmt x
made_expr P x h here =
    let held = held_expr (every_layer P) (out-Expr x) h in
    subst (every-Expr P.node P.simple P.form P.call P.expr P.link P.arm P.block P.stmt) (roll-out-Expr x) (every_made-Expr P.node P.simple P.form P.call P.expr P.link P.arm P.block P.stmt (out-Expr x) held.0 held.1 here)

pub made_link : (P : LayerPredicates) (x : Link) → AllLink (every_layer P) (out-Link x) → P.link (out-Link x) → every-Link P.node P.simple P.form P.call P.expr P.link P.arm P.block P.stmt x
made_link P x h here =
    let held = held_link (every_layer P) (out-Link x) h in
    subst (every-Link P.node P.simple P.form P.call P.expr P.link P.arm P.block P.stmt) (roll-out-Link x) (every_made-Link P.node P.simple P.form P.call P.expr P.link P.arm P.block P.stmt (out-Link x) held.0 held.1 here)

pub made_arm : (P : LayerPredicates) (x : Arm) → AllArm (every_layer P) (out-Arm x) → P.arm (out-Arm x) → every-Arm P.node P.simple P.form P.call P.expr P.link P.arm P.block P.stmt x
made_arm P x h here =
    let held = held_arm (every_layer P) (out-Arm x) h in
    subst (every-Arm P.node P.simple P.form P.call P.expr P.link P.arm P.block P.stmt) (roll-out-Arm x) (every_made-Arm P.node P.simple P.form P.call P.expr P.link P.arm P.block P.stmt (out-Arm x) held.0 held.1 here)

pub made_block : (P : LayerPredicates) (x : Block) → AllBlock (every_layer P) (out-Block x) → P.block (out-Block x) → every-Block P.node P.simple P.form P.call P.expr P.link P.arm P.block P.stmt x
made_block P x h here =
    let held = held_block (every_layer P) (out-Block x) h in
    subst (every-Block P.node P.simple P.form P.call P.expr P.link P.arm P.block P.stmt) (roll-out-Block x) (every_made-Block P.node P.simple P.form P.call P.expr P.link P.arm P.block P.stmt (out-Block x) held.0 held.1 here)

pub made_stmt : (P : LayerPredicates) (x : Stmt) → AllStmt (every_layer P) (out-Stmt x) → P.stmt (out-Stmt x) → every-Stmt P.node P.simple P.form P.call P.expr P.link P.arm P.block P.stmt x
made_stmt P x h here =
    let held = held_stmt (every_layer P) (out-Stmt x) h in
    subst (every-Stmt P.node P.simple P.form P.call P.expr P.link P.arm P.block P.stmt) (roll-out-Stmt x) (every_made-Stmt P.node P.simple P.form P.call P.expr P.link P.arm P.block P.stmt (out-Stmt x) held.0 held.1 here)

-- the children of a layer, where the premise gives a first fact of each, which gives a second

given_node : (L : Type 0) (F G : Predicates) (x : OfTrees Node-F) → AllNode (where_given L F G) x → (L → AllNode F x) → AllNode G x
given_node L F G (Node-F.Literal value) m h = tt
given_node L F G (Node-F.Name name) m h = tt
given_node L F G (Node-F.Call call) m h = m h
given_node L F G (Node-F.List items) m h = given_list L F.expr G.expr items m h
given_node L F G (Node-F.Index of at) m h = (m.0 (λ l. (h l).0), m.1 (λ l. (h l).1))
given_node L F G (Node-F.Dot of call) m h = (m.0 (λ l. (h l).0), m.1 (λ l. (h l).1))
given_node L F G (Node-F.Unary op of) m h = m h
given_node L F G (Node-F.Chain kind first rest) m h = (m.0 (λ l. (h l).0), given_list L F.link G.link rest m.1 (λ l. (h l).1))

given_simple : (L : Type 0) (F G : Predicates) (x : OfTrees Simple-F) → AllSimple (where_given L F G) x → (L → AllSimple F x) → AllSimple G x
given_simple L F G (Simple-F.Iff arms None) m h = (given_list L F.arm G.arm arms m.0 (λ l. (h l).0), tt)
given_simple L F G (Simple-F.Iff arms (Some other)) m h = (given_list L F.arm G.arm arms m.0 (λ l. (h l).0), given_list L F.stmt G.stmt other m.1 (λ l. (h l).1))
given_simple L F G (Simple-F.Assign name op value) m h = m h
given_simple L F G (Simple-F.Value value) m h = m h

given_form : (L : Type 0) (F G : Predicates) (x : OfTrees StmtForm-F) → AllStmtForm (where_given L F G) x → (L → AllStmtForm F x) → AllStmtForm G x
given_form L F G (StmtForm-F.Plain simple) m h = m h
given_form L F G (StmtForm-F.Guarded simple unless cond) m h = (m.0 (λ l. (h l).0), m.1 (λ l. (h l).1))

given_options : (L : Type 0) (F G : Expr → Type 0) (options : List (List ℕ × Expr)) → AllByRecursion (λ (o : List ℕ × Expr). (L → F o.1) → G o.1) options → (L → AllByRecursion (λ (o : List ℕ × Expr). F o.1) options) → AllByRecursion (λ (o : List ℕ × Expr). G o.1) options
given_options L F G options m h = given_list L (λ (o : List ℕ × Expr). F o.1) (λ (o : List ℕ × Expr). G o.1) options m h

given_there : (L : Type 0) (F G : Block → Type 0) (o : Option Block) → IfSome o (λ x. (L → F x) → G x) → (L → IfSome o F) → IfSome o G
given_there L F G None m h = tt
given_there L F G (Some block) m h = m h

given_call : (L : Type 0) (F G : Predicates) (x : OfTrees Call-F) → AllCall (where_given L F G) x → (L → AllCall F x) → AllCall G x
given_call L F G x m h =
    (given_list L F.expr G.expr x.args m.0 (λ l. (h l).0), given_options L F.expr G.expr x.options m.1 (λ l. (h l).1), given_there L F.block G.block x.block m.2 (λ l. (h l).2))

given_expr : (L : Type 0) (F G : Predicates) (x : OfTrees Expr-F) → AllExpr (where_given L F G) x → (L → AllExpr F x) → AllExpr G x
given_expr L F G x m h = m h

given_link : (L : Type 0) (F G : Predicates) (x : OfTrees Link-F) → AllLink (where_given L F G) x → (L → AllLink F x) → AllLink G x
given_link L F G x m h = m h

given_arm : (L : Type 0) (F G : Predicates) (x : OfTrees Arm-F) → AllArm (where_given L F G) x → (L → AllArm F x) → AllArm G x
given_arm L F G x m h = (m.0 (λ l. (h l).0), given_list L F.stmt G.stmt x.stmts m.1 (λ l. (h l).1))

given_block : (L : Type 0) (F G : Predicates) (x : OfTrees Block-F) → AllBlock (where_given L F G) x → (L → AllBlock F x) → AllBlock G x
given_block L F G x m h = given_list L F.stmt G.stmt x.stmts m h

given_stmt : (L : Type 0) (F G : Predicates) (x : OfTrees Stmt-F) → AllStmt (where_given L F G) x → (L → AllStmt F x) → AllStmt G x
given_stmt L F G x m h = m h

-- One step of the induction for each type: from the children with what holds of them, the layer that they make, and what the premise gives of that layer.
pub record TreeSteps (P : LayerPredicates) (G : Predicates) (L : Type 0) : Type 0 where
  pub node : (x : Node) (y : HeldNode G) → bare_node G y ≡ out-Node x → (L → P.node (bare_node G y)) → G.node x
  pub simple : (x : Simple) (y : HeldSimple G) → bare_simple G y ≡ out-Simple x → (L → P.simple (bare_simple G y)) → G.simple x
  pub form : (x : StmtForm) (y : HeldStmtForm G) → bare_form G y ≡ out-StmtForm x → (L → P.form (bare_form G y)) → G.form x
  pub call : (x : Call) (y : HeldCall G) → bare_call G y ≡ out-Call x → (L → P.call (bare_call G y)) → G.call x
  pub expr : (x : Expr) (y : HeldExpr G) → bare_expr G y ≡ out-Expr x → (L → P.expr (bare_expr G y)) → G.expr x
  pub link : (x : Link) (y : HeldLink G) → bare_link G y ≡ out-Link x → (L → P.link (bare_link G y)) → G.link x
  pub arm : (x : Arm) (y : HeldArm G) → bare_arm G y ≡ out-Arm x → (L → P.arm (bare_arm G y)) → G.arm x
  pub block : (x : Block) (y : HeldBlock G) → bare_block G y ≡ out-Block x → (L → P.block (bare_block G y)) → G.block x
  pub stmt : (x : Stmt) (y : HeldStmt G) → bare_stmt G y ≡ out-Stmt x → (L → P.stmt (bare_stmt G y)) → G.stmt x

module _ (P : LayerPredicates) (G : Predicates) (L : Type 0) (steps : TreeSteps P G L) where
  node_step : (x : Node) (y : HeldNode (where_given L (every_layer P) G)) → bare_node (where_given L (every_layer P) G) y ≡ out-Node x → (L → every-Node P.node P.simple P.form P.call P.expr P.link P.arm P.block P.stmt x) → G.node x
  node_step x y is h =
      let layer = bare_node (where_given L (every_layer P) G) y in
      let facts : L → AllNode (every_layer P) layer = λ l.
      let held = every_held-Node P.node P.simple P.form P.call P.expr P.link P.arm P.block P.stmt x (h l) in
      subst (AllNode (every_layer P)) (held.1 ∙ sym is) (all_node (every_layer P) held.0) in
      let made = held_node G layer (given_node L (every_layer P) G layer (all_node (where_given L (every_layer P) G) y) facts) in
      steps.node x made.0 (made.1 ∙ is) (λ l. subst P.node (sym (made.1 ∙ is)) (every_here-Node P.node P.simple P.form P.call P.expr P.link P.arm P.block P.stmt x (h l)))

  simple_step : (x : Simple) (y : HeldSimple (where_given L (every_layer P) G)) → bare_simple (where_given L (every_layer P) G) y ≡ out-Simple x → (L → every-Simple P.node P.simple P.form P.call P.expr P.link P.arm P.block P.stmt x) → G.simple x
  simple_step x y is h =
      let layer = bare_simple (where_given L (every_layer P) G) y in
      let facts : L → AllSimple (every_layer P) layer = λ l.
      let held = every_held-Simple P.node P.simple P.form P.call P.expr P.link P.arm P.block P.stmt x (h l) in
      subst (AllSimple (every_layer P)) (held.1 ∙ sym is) (all_simple (every_layer P) held.0) in
      let made = held_simple G layer (given_simple L (every_layer P) G layer (all_simple (where_given L (every_layer P) G) y) facts) in
      steps.simple x made.0 (made.1 ∙ is) (λ l. subst P.simple (sym (made.1 ∙ is)) (every_here-Simple P.node P.simple P.form P.call P.expr P.link P.arm P.block P.stmt x (h l)))

  form_step : (x : StmtForm) (y : HeldStmtForm (where_given L (every_layer P) G)) → bare_form (where_given L (every_layer P) G) y ≡ out-StmtForm x → (L → every-StmtForm P.node P.simple P.form P.call P.expr P.link P.arm P.block P.stmt x) → G.form x
  form_step x y is h =
      let layer = bare_form (where_given L (every_layer P) G) y in
      let facts : L → AllStmtForm (every_layer P) layer = λ l.
      let held = every_held-StmtForm P.node P.simple P.form P.call P.expr P.link P.arm P.block P.stmt x (h l) in
      subst (AllStmtForm (every_layer P)) (held.1 ∙ sym is) (all_form (every_layer P) held.0) in
      let made = held_form G layer (given_form L (every_layer P) G layer (all_form (where_given L (every_layer P) G) y) facts) in
      steps.form x made.0 (made.1 ∙ is) (λ l. subst P.form (sym (made.1 ∙ is)) (every_here-StmtForm P.node P.simple P.form P.call P.expr P.link P.arm P.block P.stmt x (h l)))

  call_step : (x : Call) (y : HeldCall (where_given L (every_layer P) G)) → bare_call (where_given L (every_layer P) G) y ≡ out-Call x → (L → every-Call P.node P.simple P.form P.call P.expr P.link P.arm P.block P.stmt x) → G.call x
  call_step x y is h =
      let layer = bare_call (where_given L (every_layer P) G) y in
      let facts : L → AllCall (every_layer P) layer = λ l.
      let held = every_held-Call P.node P.simple P.form P.call P.expr P.link P.arm P.block P.stmt x (h l) in
      subst (AllCall (every_layer P)) (held.1 ∙ sym is) (all_call (every_layer P) held.0) in
      let made = held_call G layer (given_call L (every_layer P) G layer (all_call (where_given L (every_layer P) G) y) facts) in
      steps.call x made.0 (made.1 ∙ is) (λ l. subst P.call (sym (made.1 ∙ is)) (every_here-Call P.node P.simple P.form P.call P.expr P.link P.arm P.block P.stmt x (h l)))

  expr_step : (x : Expr) (y : HeldExpr (where_given L (every_layer P) G)) → bare_expr (where_given L (every_layer P) G) y ≡ out-Expr x → (L → every-Expr P.node P.simple P.form P.call P.expr P.link P.arm P.block P.stmt x) → G.expr x
  expr_step x y is h =
      let layer = bare_expr (where_given L (every_layer P) G) y in
      let facts : L → AllExpr (every_layer P) layer = λ l.
      let held = every_held-Expr P.node P.simple P.form P.call P.expr P.link P.arm P.block P.stmt x (h l) in
      subst (AllExpr (every_layer P)) (held.1 ∙ sym is) (all_expr (every_layer P) held.0) in
      let made = held_expr G layer (given_expr L (every_layer P) G layer (all_expr (where_given L (every_layer P) G) y) facts) in
      steps.expr x made.0 (made.1 ∙ is) (λ l. subst P.expr (sym (made.1 ∙ is)) (every_here-Expr P.node P.simple P.form P.call P.expr P.link P.arm P.block P.stmt x (h l)))

  link_step : (x : Link) (y : HeldLink (where_given L (every_layer P) G)) → bare_link (where_given L (every_layer P) G) y ≡ out-Link x → (L → every-Link P.node P.simple P.form P.call P.expr P.link P.arm P.block P.stmt x) → G.link x
  link_step x y is h =
      let layer = bare_link (where_given L (every_layer P) G) y in
      let facts : L → AllLink (every_layer P) layer = λ l.
      let held = every_held-Link P.node P.simple P.form P.call P.expr P.link P.arm P.block P.stmt x (h l) in
      subst (AllLink (every_layer P)) (held.1 ∙ sym is) (all_link (every_layer P) held.0) in
      let made = held_link G layer (given_link L (every_layer P) G layer (all_link (where_given L (every_layer P) G) y) facts) in
      steps.link x made.0 (made.1 ∙ is) (λ l. subst P.link (sym (made.1 ∙ is)) (every_here-Link P.node P.simple P.form P.call P.expr P.link P.arm P.block P.stmt x (h l)))

  arm_step : (x : Arm) (y : HeldArm (where_given L (every_layer P) G)) → bare_arm (where_given L (every_layer P) G) y ≡ out-Arm x → (L → every-Arm P.node P.simple P.form P.call P.expr P.link P.arm P.block P.stmt x) → G.arm x
  arm_step x y is h =
      let layer = bare_arm (where_given L (every_layer P) G) y in
      let facts : L → AllArm (every_layer P) layer = λ l.
      let held = every_held-Arm P.node P.simple P.form P.call P.expr P.link P.arm P.block P.stmt x (h l) in
      subst (AllArm (every_layer P)) (held.1 ∙ sym is) (all_arm (every_layer P) held.0) in
      let made = held_arm G layer (given_arm L (every_layer P) G layer (all_arm (where_given L (every_layer P) G) y) facts) in
      steps.arm x made.0 (made.1 ∙ is) (λ l. subst P.arm (sym (made.1 ∙ is)) (every_here-Arm P.node P.simple P.form P.call P.expr P.link P.arm P.block P.stmt x (h l)))

  block_step : (x : Block) (y : HeldBlock (where_given L (every_layer P) G)) → bare_block (where_given L (every_layer P) G) y ≡ out-Block x → (L → every-Block P.node P.simple P.form P.call P.expr P.link P.arm P.block P.stmt x) → G.block x
  block_step x y is h =
      let layer = bare_block (where_given L (every_layer P) G) y in
      let facts : L → AllBlock (every_layer P) layer = λ l.
      let held = every_held-Block P.node P.simple P.form P.call P.expr P.link P.arm P.block P.stmt x (h l) in
      subst (AllBlock (every_layer P)) (held.1 ∙ sym is) (all_block (every_layer P) held.0) in
      let made = held_block G layer (given_block L (every_layer P) G layer (all_block (where_given L (every_layer P) G) y) facts) in
      steps.block x made.0 (made.1 ∙ is) (λ l. subst P.block (sym (made.1 ∙ is)) (every_here-Block P.node P.simple P.form P.call P.expr P.link P.arm P.block P.stmt x (h l)))

  stmt_step : (x : Stmt) (y : HeldStmt (where_given L (every_layer P) G)) → bare_stmt (where_given L (every_layer P) G) y ≡ out-Stmt x → (L → every-Stmt P.node P.simple P.form P.call P.expr P.link P.arm P.block P.stmt x) → G.stmt x
  stmt_step x y is h =
      let layer = bare_stmt (where_given L (every_layer P) G) y in
      let facts : L → AllStmt (every_layer P) layer = λ l.
      let held = every_held-Stmt P.node P.simple P.form P.call P.expr P.link P.arm P.block P.stmt x (h l) in
      subst (AllStmt (every_layer P)) (held.1 ∙ sym is) (all_stmt (every_layer P) held.0) in
      let made = held_stmt G layer (given_stmt L (every_layer P) G layer (all_stmt (where_given L (every_layer P) G) y) facts) in
      steps.stmt x made.0 (made.1 ∙ is) (λ l. subst P.stmt (sym (made.1 ∙ is)) (every_here-Stmt P.node P.simple P.form P.call P.expr P.link P.arm P.block P.stmt x (h l)))

  -- for each block, where the premise gives that it holds in each layer
  pub ind_where : (x : Block) → (L → every-Block P.node P.simple P.form P.call P.expr P.link P.arm P.block P.stmt x) → G.block x
  ind_where =
      ind-Block
      (λ x. (L → every-Node P.node P.simple P.form P.call P.expr P.link P.arm P.block P.stmt x) → G.node x)
      (λ x. (L → every-Simple P.node P.simple P.form P.call P.expr P.link P.arm P.block P.stmt x) → G.simple x)
      (λ x. (L → every-StmtForm P.node P.simple P.form P.call P.expr P.link P.arm P.block P.stmt x) → G.form x)
      (λ x. (L → every-Call P.node P.simple P.form P.call P.expr P.link P.arm P.block P.stmt x) → G.call x)
      (λ x. (L → every-Expr P.node P.simple P.form P.call P.expr P.link P.arm P.block P.stmt x) → G.expr x)
      (λ x. (L → every-Link P.node P.simple P.form P.call P.expr P.link P.arm P.block P.stmt x) → G.link x)
      (λ x. (L → every-Arm P.node P.simple P.form P.call P.expr P.link P.arm P.block P.stmt x) → G.arm x)
      (λ x. (L → every-Block P.node P.simple P.form P.call P.expr P.link P.arm P.block P.stmt x) → G.block x)
      (λ x. (L → every-Stmt P.node P.simple P.form P.call P.expr P.link P.arm P.block P.stmt x) → G.stmt x)
      (λ x y is. node_step (roll-Node x) y (is ∙ sym (out-roll-Node x)))
      (λ x y is. simple_step (roll-Simple x) y (is ∙ sym (out-roll-Simple x)))
      (λ x y is. form_step (roll-StmtForm x) y (is ∙ sym (out-roll-StmtForm x)))
      (λ x y is. call_step (roll-Call x) y (is ∙ sym (out-roll-Call x)))
      (λ x y is. expr_step (roll-Expr x) y (is ∙ sym (out-roll-Expr x)))
      (λ x y is. link_step (roll-Link x) y (is ∙ sym (out-roll-Link x)))
      (λ x y is. arm_step (roll-Arm x) y (is ∙ sym (out-roll-Arm x)))
      (λ x y is. block_step (roll-Block x) y (is ∙ sym (out-roll-Block x)))
      (λ x y is. stmt_step (roll-Stmt x) y (is ∙ sym (out-roll-Stmt x)))
