-- What stands in each layer of a tree, by what stands in its children.
use Rattle.std.proofs.Common.{◌≡◌, List, [], ◌∷◌, ◌++◌, Option, Some, None, map, refl, ap, sym, ◌∙◌}
use Rattle.std.specs.List.{flat_map}
use Rattle.vt_tree.specs.declared.expression.Node.{Node, out-Node, roll-Node, roll-out-Node, map-Node}
use Rattle.vt_tree.specs.declared.statement.Simple.{Simple, out-Simple, roll-Simple, roll-out-Simple, map-Simple}
use Rattle.vt_tree.specs.declared.statement.StmtForm.{StmtForm, out-StmtForm, roll-StmtForm, roll-out-StmtForm, map-StmtForm}
use Rattle.vt_tree.specs.declared.expression.Call.{Call, out-Call, roll-Call, roll-out-Call, map-Call}
use Rattle.vt_tree.specs.declared.expression.Expr.{Expr, out-Expr, roll-Expr, roll-out-Expr, map-Expr}
use Rattle.vt_tree.specs.declared.expression.Link.{Link, out-Link, roll-Link, roll-out-Link, map-Link}
use Rattle.vt_tree.specs.declared.statement.Arm.{Arm, out-Arm, roll-Arm, roll-out-Arm, map-Arm}
use Rattle.vt_tree.specs.declared.statement.Block.{Block, out-Block, roll-Block, roll-out-Block, map-Block}
use Rattle.vt_tree.specs.declared.statement.Stmt.{Stmt, out-Stmt, roll-Stmt, roll-out-Stmt, map-Stmt}
use Rattle.vt_tree.specs.declared.expression.Node.TheOpen.{Node-F, Simple-F, StmtForm-F, Call-F, Expr-F, Link-F, Arm-F, Block-F, Stmt-F}
use Rattle.vt_tree.specs.declared.expression.Node.TheFolds.{rec-roll-Node, rec-roll-Simple, rec-roll-StmtForm, rec-roll-Call, rec-roll-Expr, rec-roll-Link, rec-roll-Arm, rec-roll-Block, rec-roll-Stmt}
use Rattle.vt_tree.specs.Parts.{opened, Context, Held, children, if_there, inside, in_node, node_parts, node_step, in_simple, simple_parts, simple_step, in_form, form_parts, form_step, in_call, call_parts, call_step, in_expr, expr_parts, expr_step, in_link, link_parts, link_step, in_arm, arm_parts, arm_step, in_block, block_parts, block_step, in_stmt, stmt_parts, stmt_step}
use Rattle.vt_tree.specs.Layers.{OfTrees}

flat_map-map : {X Y Z : Type 0} (f : Y → List Z) (v : X → Y) (xs : List X) → flat_map (λ x. f (v x)) xs ≡ flat_map f (map v xs)
flat_map-map f v [] = refl
flat_map-map f v (x ∷ xs) = ap (λ zs. f (v x) ++ zs) (flat_map-map f v xs)

module _ (N S G C E L A B T : Type 0) (vn : N → Node) (vs : S → Simple) (vg : G → StmtForm) (vc : C → Call) (ve : E → Expr) (vl : L → Link) (va : A → Arm) (vb : B → Block) (vt : T → Stmt)
    (kn : Node → Held) (ks : Simple → Held) (kg : StmtForm → Held) (kc : Call → Held) (ke : Expr → Held) (kl : Link → Held) (ka : Arm → Held) (kb : Block → Held) (kt : Stmt → Held) where
  node_law : (x : Node-F N S G C E L A B T) → node_step N S G C E L A B T vn vs vg vc ve vl va vb vt (λ y. kn (vn y)) (λ y. ks (vs y)) (λ y. kg (vg y)) (λ y. kc (vc y)) (λ y. ke (ve y)) (λ y. kl (vl y)) (λ y. ka (va y)) (λ y. kb (vb y)) (λ y. kt (vt y)) x
      ≡ node_step Node Simple StmtForm Call Expr Link Arm Block Stmt (λ y. y) (λ y. y) (λ y. y) (λ y. y) (λ y. y) (λ y. y) (λ y. y) (λ y. y) (λ y. y) kn ks kg kc ke kl ka kb kt (map-Node N S G C E L A B T Node Simple StmtForm Call Expr Link Arm Block Stmt vn vs vg vc ve vl va vb vt x)
  node_law (Node-F.Literal value) = refl
  node_law (Node-F.Name name) = refl
  node_law (Node-F.Call call) = refl
  node_law (Node-F.List items) = λ i. record { parts = λ p. flat_map-map (λ e. (ke e).parts (inside p)) ve items i }
  node_law (Node-F.Index of at) = refl
  node_law (Node-F.Dot of call) = refl
  node_law (Node-F.Unary op of) = refl
  node_law (Node-F.Chain kind first rest) = λ i. record { parts = λ p. (ke (ve first)).parts (inside p) ++ flat_map-map (λ l. (kl l).parts (inside p)) vl rest i }

  simple_law : (x : Simple-F N S G C E L A B T) → simple_step N S G C E L A B T vn vs vg vc ve vl va vb vt (λ y. kn (vn y)) (λ y. ks (vs y)) (λ y. kg (vg y)) (λ y. kc (vc y)) (λ y. ke (ve y)) (λ y. kl (vl y)) (λ y. ka (va y)) (λ y. kb (vb y)) (λ y. kt (vt y)) x
      ≡ simple_step Node Simple StmtForm Call Expr Link Arm Block Stmt (λ y. y) (λ y. y) (λ y. y) (λ y. y) (λ y. y) (λ y. y) (λ y. y) (λ y. y) (λ y. y) kn ks kg kc ke kl ka kb kt (map-Simple N S G C E L A B T Node Simple StmtForm Call Expr Link Arm Block Stmt vn vs vg vc ve vl va vb vt x)
  simple_law (Simple-F.Iff arms None) = λ i. record { parts = λ p. flat_map-map (λ a. (ka a).parts (inside p)) va arms i ++ [] }
  simple_law (Simple-F.Iff arms (Some other)) = λ i. record { parts = λ p. flat_map-map (λ a. (ka a).parts (inside p)) va arms i ++ flat_map-map (λ t. (kt t).parts (inside p)) vt other i }
  simple_law (Simple-F.Assign name op value) = refl
  simple_law (Simple-F.Value value) = refl

  form_law : (x : StmtForm-F N S G C E L A B T) → form_step N S G C E L A B T vn vs vg vc ve vl va vb vt (λ y. kn (vn y)) (λ y. ks (vs y)) (λ y. kg (vg y)) (λ y. kc (vc y)) (λ y. ke (ve y)) (λ y. kl (vl y)) (λ y. ka (va y)) (λ y. kb (vb y)) (λ y. kt (vt y)) x
      ≡ form_step Node Simple StmtForm Call Expr Link Arm Block Stmt (λ y. y) (λ y. y) (λ y. y) (λ y. y) (λ y. y) (λ y. y) (λ y. y) (λ y. y) (λ y. y) kn ks kg kc ke kl ka kb kt (map-StmtForm N S G C E L A B T Node Simple StmtForm Call Expr Link Arm Block Stmt vn vs vg vc ve vl va vb vt x)
  form_law (StmtForm-F.Plain simple) = refl
  form_law (StmtForm-F.Guarded simple unless cond) = refl

  block_there : (x : Call-F N S G C E L A B T) (o : Option B) (p : Context) → if_there (λ b q. opened (vb b) ∷ (kb (vb b)).parts q) o p ≡ if_there (λ b q. opened b ∷ (kb b).parts q) (map-Call N S G C E L A B T Node Simple StmtForm Call Expr Link Arm Block Stmt vn vs vg vc ve vl va vb vt (record x { block = o })).block p
  block_there x None p = refl
  block_there x (Some b) p = refl

  options_there : (x : Call-F N S G C E L A B T) (p : Context) → flat_map (λ o. (ke (ve o.1)).parts p) x.options ≡ flat_map (λ o. (ke o.1).parts p) (map-Call N S G C E L A B T Node Simple StmtForm Call Expr Link Arm Block Stmt vn vs vg vc ve vl va vb vt x).options
  options_there x p = flat_map-map (λ o. (ke o.1).parts p) _ x.options

  call_law : (x : Call-F N S G C E L A B T) → call_step N S G C E L A B T vn vs vg vc ve vl va vb vt (λ y. kn (vn y)) (λ y. ks (vs y)) (λ y. kg (vg y)) (λ y. kc (vc y)) (λ y. ke (ve y)) (λ y. kl (vl y)) (λ y. ka (va y)) (λ y. kb (vb y)) (λ y. kt (vt y)) x
      ≡ call_step Node Simple StmtForm Call Expr Link Arm Block Stmt (λ y. y) (λ y. y) (λ y. y) (λ y. y) (λ y. y) (λ y. y) (λ y. y) (λ y. y) (λ y. y) kn ks kg kc ke kl ka kb kt (map-Call N S G C E L A B T Node Simple StmtForm Call Expr Link Arm Block Stmt vn vs vg vc ve vl va vb vt x)
  call_law x = λ i. record { parts = λ p. flat_map-map (λ e. (ke e).parts (inside p)) ve x.args i ++ (options_there x (inside p) i ++ block_there x x.block (inside p) i) }

  expr_law : (x : Expr-F N S G C E L A B T) → expr_step N S G C E L A B T vn vs vg vc ve vl va vb vt (λ y. kn (vn y)) (λ y. ks (vs y)) (λ y. kg (vg y)) (λ y. kc (vc y)) (λ y. ke (ve y)) (λ y. kl (vl y)) (λ y. ka (va y)) (λ y. kb (vb y)) (λ y. kt (vt y)) x
      ≡ expr_step Node Simple StmtForm Call Expr Link Arm Block Stmt (λ y. y) (λ y. y) (λ y. y) (λ y. y) (λ y. y) (λ y. y) (λ y. y) (λ y. y) (λ y. y) kn ks kg kc ke kl ka kb kt (map-Expr N S G C E L A B T Node Simple StmtForm Call Expr Link Arm Block Stmt vn vs vg vc ve vl va vb vt x)
  expr_law x = refl

  link_law : (x : Link-F N S G C E L A B T) → link_step N S G C E L A B T vn vs vg vc ve vl va vb vt (λ y. kn (vn y)) (λ y. ks (vs y)) (λ y. kg (vg y)) (λ y. kc (vc y)) (λ y. ke (ve y)) (λ y. kl (vl y)) (λ y. ka (va y)) (λ y. kb (vb y)) (λ y. kt (vt y)) x
      ≡ link_step Node Simple StmtForm Call Expr Link Arm Block Stmt (λ y. y) (λ y. y) (λ y. y) (λ y. y) (λ y. y) (λ y. y) (λ y. y) (λ y. y) (λ y. y) kn ks kg kc ke kl ka kb kt (map-Link N S G C E L A B T Node Simple StmtForm Call Expr Link Arm Block Stmt vn vs vg vc ve vl va vb vt x)
  link_law x = refl

  arm_law : (x : Arm-F N S G C E L A B T) → arm_step N S G C E L A B T vn vs vg vc ve vl va vb vt (λ y. kn (vn y)) (λ y. ks (vs y)) (λ y. kg (vg y)) (λ y. kc (vc y)) (λ y. ke (ve y)) (λ y. kl (vl y)) (λ y. ka (va y)) (λ y. kb (vb y)) (λ y. kt (vt y)) x
      ≡ arm_step Node Simple StmtForm Call Expr Link Arm Block Stmt (λ y. y) (λ y. y) (λ y. y) (λ y. y) (λ y. y) (λ y. y) (λ y. y) (λ y. y) (λ y. y) kn ks kg kc ke kl ka kb kt (map-Arm N S G C E L A B T Node Simple StmtForm Call Expr Link Arm Block Stmt vn vs vg vc ve vl va vb vt x)
  arm_law x = λ i. record { parts = λ p. (ke (ve x.cond)).parts p ++ flat_map-map (λ t. (kt t).parts p) vt x.stmts i }

  block_law : (x : Block-F N S G C E L A B T) → block_step N S G C E L A B T vn vs vg vc ve vl va vb vt (λ y. kn (vn y)) (λ y. ks (vs y)) (λ y. kg (vg y)) (λ y. kc (vc y)) (λ y. ke (ve y)) (λ y. kl (vl y)) (λ y. ka (va y)) (λ y. kb (vb y)) (λ y. kt (vt y)) x
      ≡ block_step Node Simple StmtForm Call Expr Link Arm Block Stmt (λ y. y) (λ y. y) (λ y. y) (λ y. y) (λ y. y) (λ y. y) (λ y. y) (λ y. y) (λ y. y) kn ks kg kc ke kl ka kb kt (map-Block N S G C E L A B T Node Simple StmtForm Call Expr Link Arm Block Stmt vn vs vg vc ve vl va vb vt x)
  block_law x = λ i. record { parts = λ p. flat_map-map (λ t. (kt t).parts p) vt x.stmts i }

  stmt_law : (x : Stmt-F N S G C E L A B T) → stmt_step N S G C E L A B T vn vs vg vc ve vl va vb vt (λ y. kn (vn y)) (λ y. ks (vs y)) (λ y. kg (vg y)) (λ y. kc (vc y)) (λ y. ke (ve y)) (λ y. kl (vl y)) (λ y. ka (va y)) (λ y. kb (vb y)) (λ y. kt (vt y)) x
      ≡ stmt_step Node Simple StmtForm Call Expr Link Arm Block Stmt (λ y. y) (λ y. y) (λ y. y) (λ y. y) (λ y. y) (λ y. y) (λ y. y) (λ y. y) (λ y. y) kn ks kg kc ke kl ka kb kt (map-Stmt N S G C E L A B T Node Simple StmtForm Call Expr Link Arm Block Stmt vn vs vg vc ve vl va vb vt x)
  stmt_law x = refl

-- each type, at a value that is made of this layer, and at the layer that a value has
pub in_node-is : (x : Node) (y : OfTrees Node-F) (p : Context) → x ≡ roll-Node y → in_node x p ≡ node_parts children y p
unfolding in_node in_simple in_form in_call in_expr in_link in_arm in_block in_stmt
in_node-is x y p e =
    ap (λ z. in_node z p) e ∙ ap (λ (h : Held). h.parts p) (rec-roll-Node Held Held Held Held Held Held Held Held Held node_step simple_step form_step call_step expr_step link_step arm_step block_step stmt_step node_law y)

pub in_node-out : (x : Node) (p : Context) → in_node x p ≡ node_parts children (out-Node x) p
in_node-out x p = in_node-is x (out-Node x) p (sym (roll-out-Node x))

pub in_simple-is : (x : Simple) (y : OfTrees Simple-F) (p : Context) → x ≡ roll-Simple y → in_simple x p ≡ simple_parts children y p
unfolding in_node in_simple in_form in_call in_expr in_link in_arm in_block in_stmt
in_simple-is x y p e =
    ap (λ z. in_simple z p) e ∙ ap (λ (h : Held). h.parts p) (rec-roll-Simple Held Held Held Held Held Held Held Held Held node_step simple_step form_step call_step expr_step link_step arm_step block_step stmt_step simple_law y)

pub in_simple-out : (x : Simple) (p : Context) → in_simple x p ≡ simple_parts children (out-Simple x) p
in_simple-out x p = in_simple-is x (out-Simple x) p (sym (roll-out-Simple x))

pub in_form-is : (x : StmtForm) (y : OfTrees StmtForm-F) (p : Context) → x ≡ roll-StmtForm y → in_form x p ≡ form_parts children y p
unfolding in_node in_simple in_form in_call in_expr in_link in_arm in_block in_stmt
in_form-is x y p e =
    ap (λ z. in_form z p) e ∙ ap (λ (h : Held). h.parts p) (rec-roll-StmtForm Held Held Held Held Held Held Held Held Held node_step simple_step form_step call_step expr_step link_step arm_step block_step stmt_step form_law y)

pub in_form-out : (x : StmtForm) (p : Context) → in_form x p ≡ form_parts children (out-StmtForm x) p
in_form-out x p = in_form-is x (out-StmtForm x) p (sym (roll-out-StmtForm x))

pub in_call-is : (x : Call) (y : OfTrees Call-F) (p : Context) → x ≡ roll-Call y → in_call x p ≡ call_parts children y p
unfolding in_node in_simple in_form in_call in_expr in_link in_arm in_block in_stmt
in_call-is x y p e =
    ap (λ z. in_call z p) e ∙ ap (λ (h : Held). h.parts p) (rec-roll-Call Held Held Held Held Held Held Held Held Held node_step simple_step form_step call_step expr_step link_step arm_step block_step stmt_step call_law y)

pub in_call-out : (x : Call) (p : Context) → in_call x p ≡ call_parts children (out-Call x) p
in_call-out x p = in_call-is x (out-Call x) p (sym (roll-out-Call x))

pub in_expr-is : (x : Expr) (y : OfTrees Expr-F) (p : Context) → x ≡ roll-Expr y → in_expr x p ≡ expr_parts children y p
unfolding in_node in_simple in_form in_call in_expr in_link in_arm in_block in_stmt
in_expr-is x y p e =
    ap (λ z. in_expr z p) e ∙ ap (λ (h : Held). h.parts p) (rec-roll-Expr Held Held Held Held Held Held Held Held Held node_step simple_step form_step call_step expr_step link_step arm_step block_step stmt_step expr_law y)

pub in_expr-out : (x : Expr) (p : Context) → in_expr x p ≡ expr_parts children (out-Expr x) p
in_expr-out x p = in_expr-is x (out-Expr x) p (sym (roll-out-Expr x))

pub in_link-is : (x : Link) (y : OfTrees Link-F) (p : Context) → x ≡ roll-Link y → in_link x p ≡ link_parts children y p
unfolding in_node in_simple in_form in_call in_expr in_link in_arm in_block in_stmt
in_link-is x y p e =
    ap (λ z. in_link z p) e ∙ ap (λ (h : Held). h.parts p) (rec-roll-Link Held Held Held Held Held Held Held Held Held node_step simple_step form_step call_step expr_step link_step arm_step block_step stmt_step link_law y)

pub in_link-out : (x : Link) (p : Context) → in_link x p ≡ link_parts children (out-Link x) p
in_link-out x p = in_link-is x (out-Link x) p (sym (roll-out-Link x))

pub in_arm-is : (x : Arm) (y : OfTrees Arm-F) (p : Context) → x ≡ roll-Arm y → in_arm x p ≡ arm_parts children y p
unfolding in_node in_simple in_form in_call in_expr in_link in_arm in_block in_stmt
in_arm-is x y p e =
    ap (λ z. in_arm z p) e ∙ ap (λ (h : Held). h.parts p) (rec-roll-Arm Held Held Held Held Held Held Held Held Held node_step simple_step form_step call_step expr_step link_step arm_step block_step stmt_step arm_law y)

pub in_arm-out : (x : Arm) (p : Context) → in_arm x p ≡ arm_parts children (out-Arm x) p
in_arm-out x p = in_arm-is x (out-Arm x) p (sym (roll-out-Arm x))

pub in_block-is : (x : Block) (y : OfTrees Block-F) (p : Context) → x ≡ roll-Block y → in_block x p ≡ block_parts children y p
unfolding in_node in_simple in_form in_call in_expr in_link in_arm in_block in_stmt
in_block-is x y p e =
    ap (λ z. in_block z p) e ∙ ap (λ (h : Held). h.parts p) (rec-roll-Block Held Held Held Held Held Held Held Held Held node_step simple_step form_step call_step expr_step link_step arm_step block_step stmt_step block_law y)

pub in_block-out : (x : Block) (p : Context) → in_block x p ≡ block_parts children (out-Block x) p
in_block-out x p = in_block-is x (out-Block x) p (sym (roll-out-Block x))

pub in_stmt-is : (x : Stmt) (y : OfTrees Stmt-F) (p : Context) → x ≡ roll-Stmt y → in_stmt x p ≡ stmt_parts children y p
unfolding in_node in_simple in_form in_call in_expr in_link in_arm in_block in_stmt
in_stmt-is x y p e =
    ap (λ z. in_stmt z p) e ∙ ap (λ (h : Held). h.parts p) (rec-roll-Stmt Held Held Held Held Held Held Held Held Held node_step simple_step form_step call_step expr_step link_step arm_step block_step stmt_step stmt_law y)

pub in_stmt-out : (x : Stmt) (p : Context) → in_stmt x p ≡ stmt_parts children (out-Stmt x) p
in_stmt-out x p = in_stmt-is x (out-Stmt x) p (sym (roll-out-Stmt x))
