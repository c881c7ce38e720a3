-- Each block of the texts has its form, and so has each block that stands in it, which is found by its number.
use Rattle.std.proofs.Common.{◌≡◌, ℕ, zero, suc, List, [], ◌∷◌, ◌++◌, Option, Some, None, IfSome, IsTrue, is_some, refl, sym, ap, ◌∙◌, subst}
use Rattle.std.specs.Prelude.{option_and_then, slice_get}
use Rattle.std.specs.List.{All, AllByRecursion}
use Rattle.std.proofs.lemmas.Option.{none-some, option_and_then_some, same_Some}
use Rattle.vt_tree.specs.declared.expression.Node.{Node, out-Node}
use Rattle.vt_tree.specs.declared.statement.Simple.{Simple, out-Simple}
use Rattle.vt_tree.specs.declared.statement.StmtForm.{StmtForm, out-StmtForm}
use Rattle.vt_tree.specs.declared.expression.Call.{Call, out-Call}
use Rattle.vt_tree.specs.declared.expression.Expr.{Expr, out-Expr}
use Rattle.vt_tree.specs.declared.expression.Link.{Link, out-Link}
use Rattle.vt_tree.specs.declared.statement.Arm.{Arm, out-Arm}
use Rattle.vt_tree.specs.declared.statement.Block.{Block, out-Block}
use Rattle.vt_tree.specs.declared.statement.Stmt.{Stmt, out-Stmt}
use Rattle.vt_tree.specs.declared.expression.Node.TheOpen.{Node-F, Simple-F, StmtForm-F, Call-F, Expr-F, Link-F, Arm-F, Block-F, Stmt-F}
use Rattle.vt_tree.specs.declared.expression.Node.TheFolds.{every-Block}
use Rattle.vt_tree.specs.Parts.{Part, called, opened, Context, Site, Walk, after_dot, at_line, blocks, blocks_of, children, each, if_there, whole_block, in_arm, in_block, in_call, in_expr, in_form, in_link, in_node, in_simple, in_stmt, in_text, inside, node_parts, simple_parts, form_parts, call_parts, expr_parts, link_parts, arm_parts, block_parts, stmt_parts}
use Rattle.vt_tree.specs.WellFormed.{GoodNode, GoodSimple, GoodForm, GoodCall, GoodExpr, GoodLink, GoodArm, GoodBlock, GoodStmt, IsFormedBlock, IsNumbered}
use Rattle.vt_tree.proofs.PartsLemmas.{in_node-out, in_simple-out, in_form-out, in_call-out, in_expr-out, in_link-out, in_arm-out, in_block-out, in_stmt-out}
use Rattle.vt_tree.specs.Layers.{OfTrees}
use Rattle.vt_check.specs.Checked.{block_at}
use Rattle.vt_event.specs.declared.references.BlockRef.{BlockRef}
use Rattle.vt_run.specs.declared.texts.Texts.{Texts}
use Rattle.vt_run.specs.Limits.{AreChecked}
use Rattle.vt_run.specs.Threads.{block_of, text_at, tree_in}
use Rattle.vt_run.proofs.growth.TreeInduction.{LayerPredicates, Predicates, TreeSteps, every_layer, AllNode, AllSimple, AllStmtForm, AllCall, AllExpr, AllLink, AllArm, AllBlock, AllStmt, HeldNode, HeldSimple, HeldStmtForm, HeldCall, HeldExpr, HeldLink, HeldArm, HeldBlock, HeldStmt, bare_node, bare_simple, bare_form, bare_call, bare_expr, bare_link, bare_arm, bare_block, bare_stmt, all_node, all_simple, all_form, all_call, all_expr, all_link, all_arm, all_block, all_stmt, made_node, made_simple, made_form, made_call, made_expr, made_link, made_arm, made_block, made_stmt, ind_where}
use Rattle.vt_frac.specs.Names.{IsName}

-- the text has a block of this number
abbrev pub IsThere : Texts → ℕ → ℕ → Type 0
IsThere texts text number = IsTrue (is_some (block_of texts (record { text = text; block = number })))

-- one layer of a block of this text: its parameters have the form of a name, and the block is found by its number
abbrev pub FitBlock : Texts → ℕ → OfTrees Block-F → Type 0
FitBlock texts text block = All IsName block.params × IsThere texts text block.number

-- a block of this text, with all that stands in it
abbrev pub IsFitBlock : Texts → ℕ → Block → Type 0
IsFitBlock texts text = every-Block GoodNode GoodSimple GoodForm GoodCall GoodExpr GoodLink GoodArm (FitBlock texts text) GoodStmt

-- the form of each layer
abbrev good_layers : LayerPredicates
good_layers = record {
  node = GoodNode;
  simple = GoodSimple;
  form = GoodForm;
  call = GoodCall;
  expr = GoodExpr;
  link = GoodLink;
  arm = GoodArm;
  block = GoodBlock;
  stmt = GoodStmt;
}

-- the same of a tree of this text
abbrev pub fit_layers : Texts → ℕ → LayerPredicates
fit_layers texts text = record {
  node = GoodNode;
  simple = GoodSimple;
  form = GoodForm;
  call = GoodCall;
  expr = GoodExpr;
  link = GoodLink;
  arm = GoodArm;
  block = FitBlock texts text;
  stmt = GoodStmt;
}

-- what holds of each item of a list, by their places
all_at : {X : Type 0} (F : X → Type 0) (xs : List X) → ((k : ℕ) (x : X) → slice_get xs k ≡ Some x → F x) → AllByRecursion F xs
all_at F [] h = tt
all_at F (x ∷ xs) h = (h 0 x refl, all_at F xs (λ k y e. h (suc k) y e))

item_at : {X : Type 0} (F : X → Type 0) (xs : List X) (k : ℕ) (x : X) → AllByRecursion F xs → slice_get xs k ≡ Some x → F x
item_at F [] k x h e = absurd (none-some x e)
item_at F (y ∷ ys) zero x h e = subst F (same_Some y x e) h.0
item_at F (y ∷ ys) (suc k) x h e = item_at F ys k x h.1 e

-- what holds of the blocks among parts, of a prefix of them, of what follows it, and of both
all_prefix : (F : Block → Type 0) (a b : List Part) → AllByRecursion F (blocks_of (a ++ b)) → AllByRecursion F (blocks_of a)
all_prefix F [] b h = tt
all_prefix F (called site ∷ a) b h = all_prefix F a b h
all_prefix F (opened block ∷ a) b h = (h.0, all_prefix F a b h.1)

all_back : (F : Block → Type 0) (a b : List Part) → AllByRecursion F (blocks_of (a ++ b)) → AllByRecursion F (blocks_of b)
all_back F [] b h = h
all_back F (called site ∷ a) b h = all_back F a b h
all_back F (opened block ∷ a) b h = all_back F a b h.1

all_both : (F : Block → Type 0) (a b : List Part) → AllByRecursion F (blocks_of a) → AllByRecursion F (blocks_of b) → AllByRecursion F (blocks_of (a ++ b))
all_both F [] b h g = g
all_both F (called site ∷ a) b h g = all_both F a b h g
all_both F (opened block ∷ a) b h g = (h.0, all_both F a b h.1 g)

-- the text has a block of the number of each block among the parts
abbrev AreThere : Texts → ℕ → List Part → Type 0
AreThere texts text parts = AllByRecursion (λ block. IsThere texts text (out-Block block).number) (blocks_of parts)

-- each block among the parts fits
abbrev AreFit : Texts → ℕ → List Part → Type 0
AreFit texts text parts = AllByRecursion (IsFitBlock texts text) (blocks_of parts)

-- Wherever the parts stand, if the text has a block of the number of each block among them, then the fact holds and each of these blocks fits.
record Fits (texts : Texts) (text : ℕ) (F : Type 0) (parts : Walk) : Type 0 where
  by : (p : Context) → AreThere texts text (parts p) → F × AreFit texts text (parts p)

module _ (texts : Texts) (text : ℕ) where
  abbrev fit : Predicates
  fit = every_layer (fit_layers texts text)

  no_parts : Fits texts text (Unit {0}) (λ p. [])
  no_parts = record { by = λ p h. (tt, tt) }

  both : {F G : Type 0} {V W : Walk} → Fits texts text F V → Fits texts text G W → Fits texts text (F × G) (λ p. V p ++ W p)
  both {V = V} {W = W} h g = record {
    by = λ p there.
        let one = h.by p (all_prefix (λ block. IsThere texts text (out-Block block).number) (V p) (W p) there) in
        let other = g.by p (all_back (λ block. IsThere texts text (out-Block block).number) (V p) (W p) there) in
        ((one.0, other.0), all_both (IsFitBlock texts text) (V p) (W p) one.1 other.1);
  }

  -- the same in other contexts, after a call, and where the one fact gives the other
  moved : {F : Type 0} {W : Walk} (move : Context → Context) → Fits texts text F W → Fits texts text F (λ p. W (move p))
  moved move h = record { by = λ p there. h.by (move p) there }

  after_call : {F : Type 0} {W : Walk} (site : Context → Site) → Fits texts text F W → Fits texts text F (λ p. called (site p) ∷ W p)
  after_call site h = record { by = λ p there. h.by p there }

  turned : {F G : Type 0} {W : Walk} → (F → G) → Fits texts text F W → Fits texts text G W
  turned f h = record { by = λ p there. let facts = h.by p there in (f facts.0, facts.1) }

  made_of : {F G : Type 0} {V : Walk} (W : Walk) → ((p : Context) → W p ≡ V p) → (F → G) → Fits texts text F V → Fits texts text G W
  made_of W same f h = record {
    by = λ p there.
        let facts = h.by p (subst (AreThere texts text) (same p) there) in
        (f facts.0, subst (AreFit texts text) (sym (same p)) facts.1);
  }

  each_fits : {X : Type 0} (F : X → Type 0) (W : X → Walk) (xs : List X) → AllByRecursion (λ x. Fits texts text (F x) (W x)) xs → Fits texts text (AllByRecursion F xs) (each W xs)
  each_fits F W [] h = record { by = λ p there. (tt, tt) }
  each_fits F W (x ∷ xs) h = both h.0 (each_fits F W xs h.1)

  option_fits : {X : Type 0} (F : X → Type 0) (W : X → Walk) (o : Option X) → IfSome o (λ x. Fits texts text (F x) (W x)) → Fits texts text (IfSome o F) (if_there W o)
  option_fits F W None h = record { by = λ p there. (tt, tt) }
  option_fits F W (Some x) h = record { by = λ p there. h.by p there }

  statements_fit : (o : Option (List Stmt)) → IfSome o (AllByRecursion (λ x. Fits texts text (fit.stmt x) (in_stmt x))) → Fits texts text (IfSome o (AllByRecursion fit.stmt)) (if_there (each in_stmt) o)
  statements_fit None h = record { by = λ p there. (tt, tt) }
  statements_fit (Some stmts) h = let fits = each_fits fit.stmt in_stmt stmts h in record { by = λ p there. fits.by p there }

  -- what is shown of each type: of a block, with the block itself among the parts
  abbrev fitting : Predicates
  fitting = record {
    node = λ x. Fits texts text (fit.node x) (in_node x);
    simple = λ x. Fits texts text (fit.simple x) (in_simple x);
    form = λ x. Fits texts text (fit.form x) (in_form x);
    call = λ x. Fits texts text (fit.call x) (in_call x);
    expr = λ x. Fits texts text (fit.expr x) (in_expr x);
    link = λ x. Fits texts text (fit.link x) (in_link x);
    arm = λ x. Fits texts text (fit.arm x) (in_arm x);
    block = λ x. Fits texts text (fit.block x) (whole_block children x);
    stmt = λ x. Fits texts text (fit.stmt x) (in_stmt x);
  }

  node_fits : (x : OfTrees Node-F) → AllNode fitting x → Fits texts text (AllNode fit x) (node_parts children x)
  node_fits (Node-F.Literal value) h = no_parts
  node_fits (Node-F.Name name) h = no_parts
  node_fits (Node-F.Call call) h = after_call (λ p. record { context = p; call = call }) h
  node_fits (Node-F.List items) h = moved inside (each_fits fit.expr in_expr items h)
  node_fits (Node-F.Index of at) h = both (moved inside h.0) (moved inside h.1)
  node_fits (Node-F.Dot of call) h = both (moved inside h.0) (after_call (λ p. record { context = after_dot p; call = call }) (moved after_dot h.1))
  node_fits (Node-F.Unary op of) h = moved inside h
  node_fits (Node-F.Chain kind first rest) h = both (moved inside h.0) (moved inside (each_fits fit.link in_link rest h.1))

  simple_fits : (x : OfTrees Simple-F) → AllSimple fitting x → Fits texts text (AllSimple fit x) (simple_parts children x)
  simple_fits (Simple-F.Iff arms other) h = both (moved inside (each_fits fit.arm in_arm arms h.0)) (moved inside (statements_fit other h.1))
  simple_fits (Simple-F.Assign name op value) h = moved inside h
  simple_fits (Simple-F.Value value) h = h

  form_fits : (x : OfTrees StmtForm-F) → AllStmtForm fitting x → Fits texts text (AllStmtForm fit x) (form_parts children x)
  form_fits (StmtForm-F.Plain simple) h = h
  form_fits (StmtForm-F.Guarded simple unless cond) h = both h.0 (moved inside h.1)

  call_fits : (x : OfTrees Call-F) → AllCall fitting x → Fits texts text (AllCall fit x) (call_parts children x)
  call_fits x h =
      let args = moved inside (each_fits fit.expr in_expr x.args h.0) in
      let options = moved inside (each_fits (λ (o : List ℕ × Expr). fit.expr o.1) (λ (o : List ℕ × Expr). in_expr o.1) x.options h.1) in
      let block = moved inside (option_fits fit.block (whole_block children) x.block h.2) in
      turned (λ facts. (facts.0, facts.1.0, facts.1.1)) (both args (both options block))

  expr_fits : (x : OfTrees Expr-F) → AllExpr fitting x → Fits texts text (AllExpr fit x) (expr_parts children x)
  expr_fits x h = h

  link_fits : (x : OfTrees Link-F) → AllLink fitting x → Fits texts text (AllLink fit x) (link_parts children x)
  link_fits x h = h

  arm_fits : (x : OfTrees Arm-F) → AllArm fitting x → Fits texts text (AllArm fit x) (arm_parts children x)
  arm_fits x h = both h.0 (each_fits fit.stmt in_stmt x.stmts h.1)

  block_fits : (x : OfTrees Block-F) → AllBlock fitting x → Fits texts text (AllBlock fit x) (block_parts children x)
  block_fits x h = each_fits fit.stmt in_stmt x.stmts h

  stmt_fits : (x : OfTrees Stmt-F) → AllStmt fitting x → Fits texts text (AllStmt fit x) (stmt_parts children x)
  stmt_fits x h = moved (at_line x.line) h

  -- one step of the induction for each type

  node_step : (x : Node) (y : HeldNode fitting) → bare_node fitting y ≡ out-Node x → (Unit {0} → good_layers.node (bare_node fitting y)) → fitting.node x
  node_step x y is good =
      made_of (in_node x) (in_node-out x) (λ facts. made_node (fit_layers texts text) x facts (subst good_layers.node is (good tt)))
      (node_fits (out-Node x) (subst (AllNode fitting) is (all_node fitting y)))

  simple_step : (x : Simple) (y : HeldSimple fitting) → bare_simple fitting y ≡ out-Simple x → (Unit {0} → good_layers.simple (bare_simple fitting y)) → fitting.simple x
  simple_step x y is good =
      made_of (in_simple x) (in_simple-out x) (λ facts. made_simple (fit_layers texts text) x facts (subst good_layers.simple is (good tt)))
      (simple_fits (out-Simple x) (subst (AllSimple fitting) is (all_simple fitting y)))

  form_step : (x : StmtForm) (y : HeldStmtForm fitting) → bare_form fitting y ≡ out-StmtForm x → (Unit {0} → good_layers.form (bare_form fitting y)) → fitting.form x
  form_step x y is good =
      made_of (in_form x) (in_form-out x) (λ facts. made_form (fit_layers texts text) x facts (subst good_layers.form is (good tt)))
      (form_fits (out-StmtForm x) (subst (AllStmtForm fitting) is (all_form fitting y)))

  call_step : (x : Call) (y : HeldCall fitting) → bare_call fitting y ≡ out-Call x → (Unit {0} → good_layers.call (bare_call fitting y)) → fitting.call x
  call_step x y is good =
      made_of (in_call x) (in_call-out x) (λ facts. made_call (fit_layers texts text) x facts (subst good_layers.call is (good tt)))
      (call_fits (out-Call x) (subst (AllCall fitting) is (all_call fitting y)))

  expr_step : (x : Expr) (y : HeldExpr fitting) → bare_expr fitting y ≡ out-Expr x → (Unit {0} → good_layers.expr (bare_expr fitting y)) → fitting.expr x
  expr_step x y is good =
      made_of (in_expr x) (in_expr-out x) (λ facts. made_expr (fit_layers texts text) x facts (subst good_layers.expr is (good tt)))
      (expr_fits (out-Expr x) (subst (AllExpr fitting) is (all_expr fitting y)))

  link_step : (x : Link) (y : HeldLink fitting) → bare_link fitting y ≡ out-Link x → (Unit {0} → good_layers.link (bare_link fitting y)) → fitting.link x
  link_step x y is good =
      made_of (in_link x) (in_link-out x) (λ facts. made_link (fit_layers texts text) x facts (subst good_layers.link is (good tt)))
      (link_fits (out-Link x) (subst (AllLink fitting) is (all_link fitting y)))

  arm_step : (x : Arm) (y : HeldArm fitting) → bare_arm fitting y ≡ out-Arm x → (Unit {0} → good_layers.arm (bare_arm fitting y)) → fitting.arm x
  arm_step x y is good =
      made_of (in_arm x) (in_arm-out x) (λ facts. made_arm (fit_layers texts text) x facts (subst good_layers.arm is (good tt)))
      (arm_fits (out-Arm x) (subst (AllArm fitting) is (all_arm fitting y)))

  block_step : (x : Block) (y : HeldBlock fitting) → bare_block fitting y ≡ out-Block x → (Unit {0} → good_layers.block (bare_block fitting y)) → fitting.block x
  block_step x y is good =
      let inner = made_of (in_block x) (in_block-out x) (λ facts. facts) (block_fits (out-Block x) (subst (AllBlock fitting) is (all_block fitting y))) in
      record {
        by = λ p there.
            let facts = inner.by p there.1 in
            let whole = made_block (fit_layers texts text) x facts.0 (subst good_layers.block is (good tt), there.0) in
            (whole, (whole, facts.1));
      }

  stmt_step : (x : Stmt) (y : HeldStmt fitting) → bare_stmt fitting y ≡ out-Stmt x → (Unit {0} → good_layers.stmt (bare_stmt fitting y)) → fitting.stmt x
  stmt_step x y is good =
      made_of (in_stmt x) (in_stmt-out x) (λ facts. made_stmt (fit_layers texts text) x facts (subst good_layers.stmt is (good tt)))
      (stmt_fits (out-Stmt x) (subst (AllStmt fitting) is (all_stmt fitting y)))

  fitting_steps : TreeSteps good_layers fitting (Unit {0})
  fitting_steps = record {
    node = node_step;
    simple = simple_step;
    form = form_step;
    call = call_step;
    expr = expr_step;
    link = link_step;
    arm = arm_step;
    block = block_step;
    stmt = stmt_step;
  }

  -- a tree that has its form, where the text has a block of the number of each of its blocks
  all_fit : (tree : Block) → IsFormedBlock tree → AllByRecursion (λ block. IsThere texts text (out-Block block).number) (blocks tree) → AllByRecursion (IsFitBlock texts text) (blocks tree)
  unfolding IsFormedBlock
  all_fit tree formed there = ((ind_where good_layers fitting (Unit {0}) fitting_steps tree (λ l. formed)).by in_text there).1

-- each block of a tree of the texts is found by its number
all_there : (texts : Texts) (text : ℕ) (tree : Block) → tree_in (text_at texts text) ≡ Some tree → IsNumbered tree → AllByRecursion (λ block. IsThere texts text (out-Block block).number) (blocks tree)
all_there texts text tree is numbered =
    all_at (λ block. IsThere texts text (out-Block block).number) (blocks tree) (λ k block at.
    let number = (out-Block block).number in
    ap is_some (ap (λ (o : Option Block). option_and_then (λ tree. block_at tree number) o) is ∙ ap (slice_get (blocks tree)) (numbered k block at) ∙ at))

pub blocks_fit : (texts : Texts) → AreChecked texts → (ref : BlockRef) (block : Block) → block_of texts ref ≡ Some block → IsFitBlock texts ref.text block
blocks_fit texts checked ref block at =
    option_and_then_some (λ tree. block_at tree ref.block) (tree_in (text_at texts ref.text)) block at (λ tree is found.
    let formed = (checked ref.text tree is).formed in
    item_at (IsFitBlock texts ref.text) (blocks tree) ref.block block (all_fit texts ref.text tree formed.formed (all_there texts ref.text tree is formed.numbered)) found)
