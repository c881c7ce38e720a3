-- The blocks that are found in a tree are its blocks, each with what is mentioned inside it: one induction over the tree.
use Rattle.std.proofs.Common.{◌≡◌, ◌<◌, ◌+◌, ℕ, zero, suc, arith, List, [], ◌∷◌, ◌++◌, length, map, Option, Some, None, refl, sym, ap, ◌∙◌, subst, append_assoc}
use Rattle.std.specs.Prelude.{slice_get}
use Rattle.std.specs.List.{flat_map}
use Rattle.std.specs.Option.{option_map}
use Rattle.std.proofs.lemmas.List.{append-nil}
use Rattle.vt_tree.specs.declared.expression.Node.{Node, roll-Node, map-Node}
use Rattle.vt_tree.specs.declared.statement.Simple.{Simple, roll-Simple, map-Simple}
use Rattle.vt_tree.specs.declared.statement.StmtForm.{StmtForm, roll-StmtForm, map-StmtForm}
use Rattle.vt_tree.specs.declared.expression.Call.{Call, out-Call, roll-Call, out-roll-Call, map-Call}
use Rattle.vt_tree.specs.declared.expression.Expr.{Expr, out-Expr, roll-Expr, out-roll-Expr, map-Expr}
use Rattle.vt_tree.specs.declared.expression.Link.{Link, out-Link, roll-Link, out-roll-Link, map-Link}
use Rattle.vt_tree.specs.declared.statement.Arm.{Arm, out-Arm, roll-Arm, out-roll-Arm, map-Arm}
use Rattle.vt_tree.specs.declared.statement.Block.{Block, out-Block, roll-Block, out-roll-Block, map-Block}
use Rattle.vt_tree.specs.declared.statement.Stmt.{Stmt, out-Stmt, roll-Stmt, out-roll-Stmt, map-Stmt}
use Rattle.vt_tree.specs.declared.expression.Node.TheOpen.{Node-F, Simple-F, StmtForm-F, Call-F, Expr-F, Link-F, Arm-F, Block-F, Stmt-F}
use Rattle.vt_tree.specs.declared.expression.Node.TheFolds.{ind-Block}
use Rattle.vt_tree.specs.Parts.{Context, Part, Walk, after_dot, at_line, blocks, blocks_of, called, children, each, if_there, in_arm, in_block, in_call, in_expr, in_form, in_link, in_node, in_simple, in_stmt, in_text, inside, opened, whole_block}
use Rattle.vt_tree.proofs.PartsLemmas.{in_arm-is, in_block-is, in_call-is, in_expr-is, in_form-is, in_link-is, in_node-is, in_simple-is, in_stmt-is}
use Rattle.vt_reach.specs.declared.found.BlockUse.{BlockUse}
use Rattle.vt_reach.specs.declared.found.Found.{Found}
use Rattle.vt_reach.specs.declared.mention.Mention.{Mention}
use Rattle.vt_reach.specs.Founds.{all_of, if_found}
use Rattle.vt_reach.specs.Founds.{in_block as found_block}
use Rattle.vt_reach.specs.Reach.{row, rows_from, rows_of}
use Rattle.vt_reach.specs.Uses.{AreUses, HasEachBlock, IsUse}
use Rattle.vt_reach.specs.declared.mention.Key.{Key}
use Rattle.vt_reach.proofs.Places.{at_contains, none_some, one_some}
use Rattle.vt_reach.specs.TreeMentions.{arm_found, call_found, expr_seen, form_found, inside_found, link_found, node_seen, simple_found, stmt_found, uses_of}
use Rattle.vt_reach.specs.private.Given.{block_of_call, found_in_expr, found_in_option}
use Rattle.vt_reach.proofs.TreeFounds.{arm_at, block_at, call_found_at, call_made, expr_at, exprs_seen, form_is, link_at, node_is, simple_is, stmt_at}

-- blocks of the parts of a text, and the blocks that were found there
abbrev Uses : {X : Type 0} → (X → Walk) → (X → Found) → X → Type 0
Uses walk found x = (context : Context) → AreUses (blocks_of (walk x context)) (found x).blocks

uses_join : (bs cs : List Block) (us vs : List BlockUse) → AreUses bs us → AreUses cs vs → AreUses (bs ++ cs) (us ++ vs)
uses_join [] cs [] vs h k = k
uses_join [] cs (u ∷ us) vs h k = absurd h
uses_join (b ∷ bs) cs [] vs h k = absurd h
uses_join (b ∷ bs) cs (u ∷ us) vs h k = (h.0, uses_join bs cs us vs h.1 k)

pub blocks_join : (a b : List Part) → blocks_of (a ++ b) ≡ blocks_of a ++ blocks_of b
blocks_join [] b = refl
blocks_join (called s ∷ a) b = blocks_join a b
blocks_join (opened k ∷ a) b = ap (λ rest. k ∷ rest) (blocks_join a b)

parts_join : (a b : List Part) (us vs : List BlockUse) → AreUses (blocks_of a) us → AreUses (blocks_of b) vs → AreUses (blocks_of (a ++ b)) (us ++ vs)
parts_join a b us vs h k = subst (λ bs. AreUses bs (us ++ vs)) (sym (blocks_join a b)) (uses_join (blocks_of a) (blocks_of b) us vs h k)

-- the same parts, and the same that was found
uses_by : {a b : List Part} {f g : Found} → a ≡ b → f ≡ g → AreUses (blocks_of b) g.blocks → AreUses (blocks_of a) f.blocks
uses_by {a} {b} {f} {g} e s h = subst (λ (z : Found). AreUses (blocks_of a) z.blocks) (sym s) (subst (λ parts. AreUses (blocks_of parts) g.blocks) (sym e) h)

-- parts one after another
each_uses : {X : Type 0} (walk : X → Walk) (found : X → Found) (items : List ((x : X) × Uses walk found x)) (context : Context) →
    AreUses (blocks_of (each walk (map (λ z. z.0) items) context)) (all_of (map found (map (λ z. z.0) items))).blocks
each_uses walk found [] context = tt
each_uses walk found (item ∷ items) context =
    parts_join (walk item.0 context) (each walk (map (λ z. z.0) items) context) (found item.0).blocks (all_of (map found (map (λ z. z.0) items))).blocks (item.1 context) (each_uses walk found items context)

options_uses : (items : List (List ℕ × ((x : Expr) × Uses in_expr found_in_expr x))) (context : Context) (options : List (List ℕ × Expr)) → options ≡ map (λ (o : List ℕ × ((x : Expr) × Uses in_expr found_in_expr x)). (o.0, o.1.0)) items →
    AreUses (blocks_of (each (λ (o : List ℕ × Expr). in_expr o.1) options context)) (all_of (map found_in_option options)).blocks
options_uses items context options e = subst (λ os. AreUses (blocks_of (each (λ (o : List ℕ × Expr). in_expr o.1) os context)) (all_of (map found_in_option os)).blocks) (sym e) (go items)
  where
    go : (items : List (List ℕ × ((x : Expr) × Uses in_expr found_in_expr x))) → AreUses (blocks_of (each (λ (o : List ℕ × Expr). in_expr o.1) (map (λ (o : List ℕ × ((x : Expr) × Uses in_expr found_in_expr x)). (o.0, o.1.0)) items) context)) (all_of (map found_in_option (map (λ (o : List ℕ × ((x : Expr) × Uses in_expr found_in_expr x)). (o.0, o.1.0)) items))).blocks
    go [] = tt
    go (item ∷ items) =
        parts_join (in_expr item.1.0 context) (each (λ (o : List ℕ × Expr). in_expr o.1) (map (λ (o : List ℕ × ((x : Expr) × Uses in_expr found_in_expr x)). (o.0, o.1.0)) items) context) (found_in_expr item.1.0).blocks (all_of (map found_in_option (map (λ (o : List ℕ × ((x : Expr) × Uses in_expr found_in_expr x)). (o.0, o.1.0)) items))).blocks (item.1.1 context) (go items)

-- what is shown of each type of a tree
abbrev OfNode : Node → Type 0
OfNode x = Uses in_node (λ n. (node_seen n).found) x

abbrev OfSimple : Simple → Type 0
OfSimple x = Uses in_simple simple_found x

abbrev OfForm : StmtForm → Type 0
OfForm x = Uses in_form form_found x

abbrev OfCall : Call → Type 0
OfCall x = Uses in_call call_found x

abbrev OfExpr : Expr → Type 0
OfExpr x = Uses in_expr found_in_expr x

abbrev OfLink : Link → Type 0
OfLink x = Uses in_link link_found x

abbrev OfArm : Arm → Type 0
OfArm x = Uses in_arm arm_found x

abbrev OfBlock : Block → Type 0
OfBlock x = Uses in_block inside_found x

abbrev OfStmt : Stmt → Type 0
OfStmt x = Uses in_stmt stmt_found x

-- a value with what is shown of it
abbrev With : {X : Type 0} → (X → Type 0) → Type 0
With F = (x : _) × F x

abbrev HeldBy : (Type 0 → Type 0 → Type 0 → Type 0 → Type 0 → Type 0 → Type 0 → Type 0 → Type 0 → Type 0) → Type 0
HeldBy F = F (With OfNode) (With OfSimple) (With OfForm) (With OfCall) (With OfExpr) (With OfLink) (With OfArm) (With OfBlock) (With OfStmt)

abbrev bare_node : HeldBy Node-F → Node-F Node Simple StmtForm Call Expr Link Arm Block Stmt
bare_node = map-Node (With OfNode) (With OfSimple) (With OfForm) (With OfCall) (With OfExpr) (With OfLink) (With OfArm) (With OfBlock) (With OfStmt) Node Simple StmtForm Call Expr Link Arm Block Stmt (λ z. z.0) (λ z. z.0) (λ z. z.0) (λ z. z.0) (λ z. z.0) (λ z. z.0) (λ z. z.0) (λ z. z.0) (λ z. z.0)

abbrev bare_simple : HeldBy Simple-F → Simple-F Node Simple StmtForm Call Expr Link Arm Block Stmt
bare_simple = map-Simple (With OfNode) (With OfSimple) (With OfForm) (With OfCall) (With OfExpr) (With OfLink) (With OfArm) (With OfBlock) (With OfStmt) Node Simple StmtForm Call Expr Link Arm Block Stmt (λ z. z.0) (λ z. z.0) (λ z. z.0) (λ z. z.0) (λ z. z.0) (λ z. z.0) (λ z. z.0) (λ z. z.0) (λ z. z.0)

abbrev bare_form : HeldBy StmtForm-F → StmtForm-F Node Simple StmtForm Call Expr Link Arm Block Stmt
bare_form = map-StmtForm (With OfNode) (With OfSimple) (With OfForm) (With OfCall) (With OfExpr) (With OfLink) (With OfArm) (With OfBlock) (With OfStmt) Node Simple StmtForm Call Expr Link Arm Block Stmt (λ z. z.0) (λ z. z.0) (λ z. z.0) (λ z. z.0) (λ z. z.0) (λ z. z.0) (λ z. z.0) (λ z. z.0) (λ z. z.0)

abbrev bare_call : HeldBy Call-F → Call-F Node Simple StmtForm Call Expr Link Arm Block Stmt
bare_call = map-Call (With OfNode) (With OfSimple) (With OfForm) (With OfCall) (With OfExpr) (With OfLink) (With OfArm) (With OfBlock) (With OfStmt) Node Simple StmtForm Call Expr Link Arm Block Stmt (λ z. z.0) (λ z. z.0) (λ z. z.0) (λ z. z.0) (λ z. z.0) (λ z. z.0) (λ z. z.0) (λ z. z.0) (λ z. z.0)

abbrev bare_expr : HeldBy Expr-F → Expr-F Node Simple StmtForm Call Expr Link Arm Block Stmt
bare_expr = map-Expr (With OfNode) (With OfSimple) (With OfForm) (With OfCall) (With OfExpr) (With OfLink) (With OfArm) (With OfBlock) (With OfStmt) Node Simple StmtForm Call Expr Link Arm Block Stmt (λ z. z.0) (λ z. z.0) (λ z. z.0) (λ z. z.0) (λ z. z.0) (λ z. z.0) (λ z. z.0) (λ z. z.0) (λ z. z.0)

abbrev bare_link : HeldBy Link-F → Link-F Node Simple StmtForm Call Expr Link Arm Block Stmt
bare_link = map-Link (With OfNode) (With OfSimple) (With OfForm) (With OfCall) (With OfExpr) (With OfLink) (With OfArm) (With OfBlock) (With OfStmt) Node Simple StmtForm Call Expr Link Arm Block Stmt (λ z. z.0) (λ z. z.0) (λ z. z.0) (λ z. z.0) (λ z. z.0) (λ z. z.0) (λ z. z.0) (λ z. z.0) (λ z. z.0)

abbrev bare_arm : HeldBy Arm-F → Arm-F Node Simple StmtForm Call Expr Link Arm Block Stmt
bare_arm = map-Arm (With OfNode) (With OfSimple) (With OfForm) (With OfCall) (With OfExpr) (With OfLink) (With OfArm) (With OfBlock) (With OfStmt) Node Simple StmtForm Call Expr Link Arm Block Stmt (λ z. z.0) (λ z. z.0) (λ z. z.0) (λ z. z.0) (λ z. z.0) (λ z. z.0) (λ z. z.0) (λ z. z.0) (λ z. z.0)

abbrev bare_block : HeldBy Block-F → Block-F Node Simple StmtForm Call Expr Link Arm Block Stmt
bare_block = map-Block (With OfNode) (With OfSimple) (With OfForm) (With OfCall) (With OfExpr) (With OfLink) (With OfArm) (With OfBlock) (With OfStmt) Node Simple StmtForm Call Expr Link Arm Block Stmt (λ z. z.0) (λ z. z.0) (λ z. z.0) (λ z. z.0) (λ z. z.0) (λ z. z.0) (λ z. z.0) (λ z. z.0) (λ z. z.0)

abbrev bare_stmt : HeldBy Stmt-F → Stmt-F Node Simple StmtForm Call Expr Link Arm Block Stmt
bare_stmt = map-Stmt (With OfNode) (With OfSimple) (With OfForm) (With OfCall) (With OfExpr) (With OfLink) (With OfArm) (With OfBlock) (With OfStmt) Node Simple StmtForm Call Expr Link Arm Block Stmt (λ z. z.0) (λ z. z.0) (λ z. z.0) (λ z. z.0) (λ z. z.0) (λ z. z.0) (λ z. z.0) (λ z. z.0) (λ z. z.0)

-- each layer, from its children
node_here : (y : HeldBy Node-F) → OfNode (roll-Node (bare_node y))
node_here (Node-F.Literal value) context = uses_by (in_node-is _ (Node-F.Literal value) context refl) (ap (λ s. s.found) (node_is _ (Node-F.Literal value) refl)) tt
node_here (Node-F.Name name) context = uses_by (in_node-is _ (Node-F.Name name) context refl) (ap (λ s. s.found) (node_is _ (Node-F.Name name) refl)) tt
node_here (Node-F.Call call) context = uses_by (in_node-is _ (Node-F.Call call.0) context refl) (ap (λ s. s.found) (node_is _ (Node-F.Call call.0) refl)) (call.1 context)
node_here (Node-F.List items) context =
    uses_by (in_node-is _ (Node-F.List (map (λ z. z.0) items)) context refl) (ap (λ s. s.found) (node_is _ (Node-F.List (map (λ z. z.0) items)) refl) ∙ exprs_seen (map (λ z. z.0) items)) (each_uses in_expr found_in_expr items (inside context))
node_here (Node-F.Index of at) context =
    uses_by (in_node-is _ (Node-F.Index of.0 at.0) context refl) (ap (λ s. s.found) (node_is _ (Node-F.Index of.0 at.0) refl)) (parts_join (in_expr of.0 (inside context)) (in_expr at.0 (inside context)) _ _ (of.1 (inside context)) (at.1 (inside context)))
node_here (Node-F.Dot of call) context =
    uses_by (in_node-is _ (Node-F.Dot of.0 call.0) context refl) (ap (λ s. s.found) (node_is _ (Node-F.Dot of.0 call.0) refl)) (parts_join (in_expr of.0 (inside context)) (called (record { context = after_dot context; call = call.0 }) ∷ in_call call.0 (after_dot context)) _ _ (of.1 (inside context)) (call.1 (after_dot context)))
node_here (Node-F.Unary op of) context = uses_by (in_node-is _ (Node-F.Unary op of.0) context refl) (ap (λ s. s.found) (node_is _ (Node-F.Unary op of.0) refl)) (of.1 (inside context))
node_here (Node-F.Chain kind first rest) context =
    uses_by (in_node-is _ (Node-F.Chain kind first.0 (map (λ z. z.0) rest)) context refl) (ap (λ s. s.found) (node_is _ (Node-F.Chain kind first.0 (map (λ z. z.0) rest)) refl)) (parts_join (in_expr first.0 (inside context)) (each in_link (map (λ z. z.0) rest) (inside context)) _ _ (first.1 (inside context)) (each_uses in_link link_found rest (inside context)))

simple_here : (y : HeldBy Simple-F) → OfSimple (roll-Simple (bare_simple y))
simple_here (Simple-F.Iff arms None) context =
    uses_by (in_simple-is _ (Simple-F.Iff (map (λ z. z.0) arms) None) context refl) (simple_is _ (Simple-F.Iff (map (λ z. z.0) arms) None) refl) (parts_join (each in_arm (map (λ z. z.0) arms) (inside context)) [] _ _ (each_uses in_arm arm_found arms (inside context)) tt)
simple_here (Simple-F.Iff arms (Some other)) context =
    uses_by (in_simple-is _ (Simple-F.Iff (map (λ z. z.0) arms) (Some (map (λ z. z.0) other))) context refl) (simple_is _ (Simple-F.Iff (map (λ z. z.0) arms) (Some (map (λ z. z.0) other))) refl) (parts_join (each in_arm (map (λ z. z.0) arms) (inside context)) (each in_stmt (map (λ z. z.0) other) (inside context)) _ _ (each_uses in_arm arm_found arms (inside context)) (each_uses in_stmt stmt_found other (inside context)))
simple_here (Simple-F.Assign name op value) context = uses_by (in_simple-is _ (Simple-F.Assign name op value.0) context refl) (simple_is _ (Simple-F.Assign name op value.0) refl) (value.1 (inside context))
simple_here (Simple-F.Value value) context = uses_by (in_simple-is _ (Simple-F.Value value.0) context refl) (simple_is _ (Simple-F.Value value.0) refl) (value.1 context)

form_here : (y : HeldBy StmtForm-F) → OfForm (roll-StmtForm (bare_form y))
form_here (StmtForm-F.Plain simple) context = uses_by (in_form-is _ (StmtForm-F.Plain simple.0) context refl) (form_is _ (StmtForm-F.Plain simple.0) refl) (simple.1 context)
form_here (StmtForm-F.Guarded simple unless cond) context =
    uses_by (in_form-is _ (StmtForm-F.Guarded simple.0 unless cond.0) context refl) (form_is _ (StmtForm-F.Guarded simple.0 unless cond.0) refl) (parts_join (in_simple simple.0 context) (in_expr cond.0 (inside context)) _ _ (simple.1 context) (cond.1 (inside context)))

block_uses : (y : HeldBy Call-F) (b : Option (With OfBlock)) (key : Option Key) (mentions : List Mention) (context : Context) →
    AreUses (blocks_of (if_there (whole_block children) (bare_call (record y { block = b })).block context)) (if_found (option_map (λ block. found_block key mentions (inside_found block)) (bare_call (record y { block = b })).block)).blocks
block_uses y None key mentions context = tt
block_uses y (Some block) key mentions context = (record { own = mentions; whole = refl }, block.1 context)

call_here : (y : HeldBy Call-F) → OfCall (roll-Call (bare_call y))
unfolding call_made
call_here y context =
    let c = bare_call y in
    let args = (all_of (map found_in_expr c.args)).blocks in
    let options = (all_of (map found_in_option c.options)).blocks in
    uses_by (in_call-is _ c context refl) (call_found_at _ c refl)
    (subst (λ us. AreUses (blocks_of (each in_expr c.args (inside context) ++ (each (λ (o : List ℕ × Expr). in_expr o.1) c.options (inside context) ++ if_there (whole_block children) c.block (inside context)))) us)
    (sym (append_assoc args options _))
    (parts_join (each in_expr c.args (inside context)) (each (λ (o : List ℕ × Expr). in_expr o.1) c.options (inside context) ++ if_there (whole_block children) c.block (inside context)) args _
    (each_uses in_expr found_in_expr y.args (inside context))
    (parts_join (each (λ (o : List ℕ × Expr). in_expr o.1) c.options (inside context)) (if_there (whole_block children) c.block (inside context)) options _
    (options_uses y.options (inside context) c.options refl)
    (block_uses y y.block _ _ (inside context)))))

expr_here : (y : HeldBy Expr-F) → OfExpr (roll-Expr (bare_expr y))
expr_here y context = uses_by (in_expr-is _ (bare_expr y) context refl) (ap (λ s. s.found) (expr_at _ (bare_expr y) refl)) (y.node.1 context)

link_here : (y : HeldBy Link-F) → OfLink (roll-Link (bare_link y))
link_here y context = uses_by (in_link-is _ (bare_link y) context refl) (link_at _ (bare_link y) refl) (y.part.1 context)

arm_here : (y : HeldBy Arm-F) → OfArm (roll-Arm (bare_arm y))
arm_here y context =
    uses_by (in_arm-is _ (bare_arm y) context refl) (arm_at _ (bare_arm y) refl) (parts_join (in_expr y.cond.0 context) (each in_stmt (map (λ z. z.0) y.stmts) context) _ _ (y.cond.1 context) (each_uses in_stmt stmt_found y.stmts context))

block_here : (y : HeldBy Block-F) → OfBlock (roll-Block (bare_block y))
block_here y context = uses_by (in_block-is _ (bare_block y) context refl) (block_at _ (bare_block y) refl) (each_uses in_stmt stmt_found y.stmts context)

stmt_here : (y : HeldBy Stmt-F) → OfStmt (roll-Stmt (bare_stmt y))
stmt_here y context = uses_by (in_stmt-is _ (bare_stmt y) context refl) (stmt_at _ (bare_stmt y) refl) (y.form.1 (at_line y.line context))

-- the blocks inside a block
pub blocks_found : (x : Block) → OfBlock x
blocks_found =
    ind-Block OfNode OfSimple OfForm OfCall OfExpr OfLink OfArm OfBlock OfStmt
    (λ x y is. subst (λ z. OfNode (roll-Node z)) is (node_here y))
    (λ x y is. subst (λ z. OfSimple (roll-Simple z)) is (simple_here y))
    (λ x y is. subst (λ z. OfForm (roll-StmtForm z)) is (form_here y))
    (λ x y is. subst (λ z. OfCall (roll-Call z)) is (call_here y))
    (λ x y is. subst (λ z. OfExpr (roll-Expr z)) is (expr_here y))
    (λ x y is. subst (λ z. OfLink (roll-Link z)) is (link_here y))
    (λ x y is. subst (λ z. OfArm (roll-Arm z)) is (arm_here y))
    (λ x y is. subst (λ z. OfBlock (roll-Block z)) is (block_here y))
    (λ x y is. subst (λ z. OfStmt (roll-Stmt z)) is (stmt_here y))

-- the blocks of a text
pub text_found : (tree : Block) → AreUses (blocks tree) (uses_of tree)
text_found tree = (record { own = []; whole = refl }, blocks_found tree in_text)

-- the block that was found at the place of a block
pub use_at : (bs : List Block) (us : List BlockUse) (n : ℕ) (b : Block) → AreUses bs us → slice_get bs n ≡ Some b → (u : BlockUse) × (slice_get us n ≡ Some u) × IsUse b u
use_at [] us n b h e = absurd (none_some e)
use_at (c ∷ bs) [] n b h e = absurd h
use_at (c ∷ bs) (u ∷ us) zero b h e = (u, refl, subst (λ (x : Block). IsUse x u) (one_some e) h.0)
use_at (c ∷ bs) (u ∷ us) (suc n) b h e = use_at bs us n b h.1 e

pub row_at : (text k : ℕ) (us : List BlockUse) (n : ℕ) (u : BlockUse) → slice_get us n ≡ Some u → slice_get (rows_from text k us) n ≡ Some (row text (k + n) u)
row_at text k [] n u e = absurd (none_some e)
row_at text k (v ∷ us) zero u e = let z : k ≡ k + 0 = omega arith in (λ i. Some (row text (z i) (one_some e i)))
row_at text k (v ∷ us) (suc n) u e = row_at text (suc k) us n u e ∙ (let z : suc k + n ≡ k + suc n = omega arith in ap (λ m. Some (row text m u)) z)

pub each_block : HasEachBlock
each_block text number tree block e =
    let u = use_at (blocks tree) (uses_of tree) number block (text_found tree) e in
    let there = row_at text 0 (uses_of tree) number u.0 u.1 in
    let z : 0 + number ≡ number = omega arith in
    (row text (0 + number) u.0, record { among = at_contains (rows_of text tree) number (row text (0 + number) u.0) there; of_text = refl; of_block = z }, u.2.own, u.2.whole)
