-- What is told of trees of which the calls and blocks stand in the order of the marks: where each tree's own stand.
use Rattle.std.proofs.Common.{◌≡◌, ℕ, suc, Bool, true, false, true≢false, IsTrue, cond, codes, nat_eq, List, [], ◌∷◌, ◌++◌, length, Option, Some, None, refl, sym, ap, ◌∙◌, subst, append-nil, append_assoc}
use Rattle.std.specs.Cmp.Lexicographic.{bytes_decides}
use Rattle.vt_tree.specs.declared.expression.Node.{Node, out-Node, roll-Node}
use Rattle.vt_tree.specs.declared.expression.Node.TheVariants as nodes
use Rattle.vt_tree.specs.declared.expression.Node.TheOpen.{Node-F, Simple-F, StmtForm-F, Call-F, Expr-F, Block-F}
use Rattle.vt_tree.specs.declared.expression.Call.{Call, out-Call, out-roll-Call}
use Rattle.vt_tree.specs.declared.expression.Expr.{Expr, out-Expr, out-roll-Expr}
use Rattle.vt_tree.specs.declared.expression.Link.{Link, roll-Link}
use Rattle.vt_tree.specs.declared.expression.UnaryOp.{UnaryOp}
use Rattle.vt_tree.specs.declared.expression.ChainKind.{ChainKind}
use Rattle.vt_tree.specs.declared.expression.ChainOp.{ChainOp}
use Rattle.vt_tree.specs.declared.statement.Arm.{Arm}
use Rattle.vt_tree.specs.declared.statement.AssignOp.{AssignOp}
use Rattle.vt_tree.specs.declared.statement.Block.{Block, out-Block, roll-Block, out-roll-Block}
use Rattle.vt_tree.specs.declared.statement.Simple.{Simple}
use Rattle.vt_tree.specs.declared.statement.Simple.TheVariants as simples
use Rattle.vt_tree.specs.declared.statement.Stmt.{Stmt}
use Rattle.vt_tree.specs.declared.statement.StmtForm.{StmtForm}
use Rattle.vt_tree.specs.declared.statement.StmtForm.TheVariants as forms
use Rattle.vt_tree.specs.Parts.{called, opened, Context, Walk, children, each, site, if_there, whole_block, inside, after_dot, at_line, node_parts, in_simple, in_form, in_call, in_expr, in_link, in_arm, in_block, in_stmt}
use Rattle.vt_tree.specs.WellFormed.{is_op_of, IsLinkCount}
use Rattle.vt_tree.proofs.PartsLemmas.{in_node-is, in_node-out, in_simple-is, in_form-is, in_call-out, in_expr-is, in_expr-out, in_link-is, in_arm-is, in_block-is, in_stmt-is}
use Rattle.vt_tree.specs.Layers.{OfTrees}
use Rattle.vt_grammar.specs.declared.parts.Arguments.{Arguments}
use Rattle.vt_grammar.specs.declared.terminals.Terminal.{Terminal}
use Rattle.vt_grammar.specs.declared.terminals.Terminal.TheVariants as terminals
use Rattle.vt_grammar.specs.Marks.{Mark, begins_block}
use Rattle.vt_grammar.specs.Order.{StandsAt, Found, AreAmong}
use Rattle.vt_grammar.specs.Values.{literal_of, label_name}
use Rattle.vt_grammar.specs.Trees.{plain, wrapped, call_of, call_with, no_arguments, is_get, is_bare_get, node_takes_block, takes_block, node_with_block, with_block, form_tree, stmt_tree, arm_tree}
use Rattle.vt_grammar.specs.Grammar.{is_literal, names_of}
use Rattle.vt_grammar.proofs.Among.{later, join, front, parted}
use Rattle.vt_grammar.proofs.Facts.{Facts, IsNamed, IsBegun, AreGiven, IsGuard, given_alone, no_given}
use Rattle.vt_grammar.proofs.FormedTrees.{plain_layer, arguments_in, arguments_parts, call_of_parts, and_second}
use Rattle.vt_grammar.proofs.Tells.{Measure, InOrder, Maybe, is_head}

-- Marks

-- the marks at which a part of a tree may stand
abbrev pub heads : Measure Mark
heads = record { shows = λ t. cond (is_head t.terminal) (t ∷ []) []; IsGood = λ t. Unit {0}; quiet = λ t e. ap (λ b. cond b (t ∷ []) []) e }

-- the name stands at one of these
abbrev pub HasName : List ℕ → List Mark → Type 0
HasName name ms = Found (λ t. (t.terminal ≡ terminals.Name) × (t.bytes ≡ name)) (λ rest. Unit {0}) ms

has_name : (t : Mark) (ms : List Mark) → IsNamed heads t ms → HasName t.bytes ms
has_name t ms h = record {
  before = [];
  here = t;
  after = [];
  whole = h.shows_own ∙ ap (λ w. cond (is_head w) (t ∷ []) []) h.holds;
  holds = (h.holds, refl);
  rest = tt;
}

begin_head : (w : Terminal) → begins_block w ≡ true → is_head w ≡ true
begin_head terminals.Name e = refl
begin_head _ e = e

-- The parts of the value stand in order among these, wherever it stands itself.
pub record Stands {X : Type 0} (W : X → Walk) (x : X) (ms : List Mark) : Type 0 where
  pub stand : (p : Context) → AreAmong StandsAt (W x p) ms

pub each_stand : {X : Type 0} (W : X → Walk) (xs : List X) (ms : List Mark) → InOrder (Stands W) xs ms → (p : Context) → AreAmong StandsAt (each W xs p) ms
each_stand W [] ms h p = tt
each_stand W (x ∷ xs) ms h p =
    subst (AreAmong StandsAt (each W (x ∷ xs) p)) (sym h.whole)
    (join StandsAt (W x p) (each W xs p) h.prefix h.rest (h.first.stand p) (each_stand W xs h.rest h.second p))

-- Expressions

-- where the name of a bare name stands: with a block, or as `get` with an index, it becomes a call
abbrev pub NameStands : OfTrees Node-F → List Mark → Type 0
NameStands (Node-F.Name name) ms = HasName name ms
NameStands _ ms = Unit {0}

pub record IsExpr (e : Expr) (ms : List Mark) : Type 0 where
  pub stand : (p : Context) → AreAmong StandsAt (in_expr e p) ms
  pub named : NameStands (out-Node (out-Expr e).node) ms

abbrev pub IsValue : Expr → List Mark → Type 0
IsValue = Stands in_expr

abbrev pub IsOption : List ℕ × Expr → List Mark → Type 0
IsOption = Stands (λ o. in_expr o.1)

-- a call and what stands in it
abbrev pub IsCall : Call → List Mark → Type 0
IsCall = Stands (site children)

abbrev pub IsLink : ChainKind → Link → List Mark → Type 0
IsLink kind = Stands in_link

abbrev pub IsWhole : Block → List Mark → Type 0
IsWhole = Stands (whole_block children)

pub as_value : (e : Expr) (ms : List Mark) → IsExpr e ms → IsValue e ms
as_value e ms h = record { stand = h.stand }

layer_stands : (n : Node) (layer : OfTrees Node-F) (ms : List Mark) → n ≡ roll-Node layer → ((p : Context) → AreAmong StandsAt (node_parts children layer p) ms)
    → (p : Context) → AreAmong StandsAt (in_expr (plain n) p) ms
layer_stands n layer ms e h p =
    subst (λ z. AreAmong StandsAt z ms) (sym (in_expr-is (plain n) (record { wraps = 0; node = n }) p refl ∙ in_node-is n layer p e)) (h p)

plain_is : (n : Node) (layer : OfTrees Node-F) (ms : List Mark) → n ≡ roll-Node layer → ((p : Context) → AreAmong StandsAt (node_parts children layer p) ms) → NameStands layer ms
    → IsExpr (plain n) ms
plain_is n layer ms e h b = record {
  stand = layer_stands n layer ms e h;
  named = subst (λ l. NameStands l ms) (sym (plain_layer n layer e)) b;
}

pub literal_is : (t : Mark) → is_literal t.terminal ≡ true → Unit {0} → IsExpr (plain (nodes.Literal (literal_of t))) []
literal_is t e g =
    plain_is (nodes.Literal (literal_of t)) (Node-F.Literal (literal_of t)) [] (sym (nodes.rolls-Literal (literal_of t))) (λ p. tt) tt

pub name_is : (t : Mark) (ms : List Mark) → IsNamed heads t ms → IsExpr (plain (nodes.Name t.bytes)) ms
name_is t ms h = plain_is (nodes.Name t.bytes) (Node-F.Name t.bytes) ms (sym (nodes.rolls-Name t.bytes)) (λ p. tt) (has_name t ms h)

pub list_is : (items : List Expr) (ms : List Mark) → InOrder IsValue items ms → IsExpr (plain (nodes.List items)) ms
list_is items ms h =
    plain_is (nodes.List items) (Node-F.List items) ms (sym (nodes.rolls-List items)) (λ p. each_stand in_expr items ms h (inside p)) tt

pub index_is : (of at : Expr) (ns ms : List Mark) → IsValue of ns → IsValue at ms → IsExpr (plain (nodes.Index of at)) (ns ++ ms)
index_is of at ns ms h g =
    plain_is (nodes.Index of at) (Node-F.Index of at) (ns ++ ms) (sym (nodes.rolls-Index of at))
    (λ p. join StandsAt (in_expr of (inside p)) (in_expr at (inside p)) ns ms (h.stand (inside p)) (g.stand (inside p))) tt

pub dot_is : (of : Expr) (call : Call) (ns ms : List Mark) → IsValue of ns → IsCall call ms → IsExpr (plain (nodes.Dot of call)) (ns ++ ms)
dot_is of call ns ms h g =
    plain_is (nodes.Dot of call) (Node-F.Dot of call) (ns ++ ms) (sym (nodes.rolls-Dot of call))
    (λ p. join StandsAt (in_expr of (inside p)) (site children call (after_dot p)) ns ms (h.stand (inside p)) (g.stand (after_dot p))) tt

pub unary_is : (op : UnaryOp) (of : Expr) (ms : List Mark) → IsValue of ms → IsExpr (plain (nodes.Unary op of)) ms
unary_is op of ms h =
    plain_is (nodes.Unary op of) (Node-F.Unary op of) ms (sym (nodes.rolls-Unary op of)) (λ p. h.stand (inside p)) tt

pub link_is : (kind : ChainKind) (op : ChainOp) (part : Expr) (ms : List Mark) → IsTrue (is_op_of kind op) → IsValue part ms
    → IsLink kind (roll-Link (record { op = op; part = part })) ms
link_is kind op part ms o h = record {
  stand = λ p. subst (λ z. AreAmong StandsAt z ms) (sym (in_link-is (roll-Link (record { op = op; part = part })) (record { op = op; part = part }) p refl)) (h.stand p);
}

pub chain_is : (kind : ChainKind) (first : Expr) (links : List Link) (ns ms : List Mark) → IsLinkCount kind (length links) → IsValue first ns → InOrder (IsLink kind) links ms
    → IsExpr (plain (nodes.Chain kind first links)) (ns ++ ms)
chain_is kind first links ns ms c h g =
    plain_is (nodes.Chain kind first links) (Node-F.Chain kind first links) (ns ++ ms) (sym (nodes.rolls-Chain kind first links))
    (λ p. join StandsAt (in_expr first (inside p)) (each in_link links (inside p)) ns ms (h.stand (inside p)) (each_stand in_link links ms g (inside p))) tt

pub wrapped_is : (e : Expr) (ms : List Mark) → IsExpr e ms → IsExpr (wrapped e) ms
wrapped_is e ms h =
    let layer : OfTrees Expr-F = record { wraps = suc (out-Expr e).wraps; node = (out-Expr e).node } in
    record {
      stand = λ p. subst (λ z. AreAmong StandsAt z ms) (sym (in_expr-is (wrapped e) layer p refl ∙ sym (in_expr-out e p))) (h.stand p);
      named = subst (λ (x : OfTrees Expr-F). NameStands (out-Node x.node) ms) (sym (out-roll-Expr layer)) h.named;
    }

-- Calls

pub option_is : (t : Mark) (e : Expr) (ms : List Mark) → t.terminal ≡ terminals.Label → Unit {0} → IsValue e ms → IsOption (label_name t.bytes, e) ms
option_is t e ms l g h = record { stand = h.stand }

given_stand : (given : Arguments) (ms : List Mark) → AreGiven IsValue IsOption given ms → (p : Context) → AreAmong StandsAt (arguments_parts given p) ms
given_stand given ms h p =
    subst (AreAmong StandsAt (arguments_parts given p)) (sym h.whole)
    (join StandsAt (each in_expr given.args p) (each (λ (o : List ℕ × Expr). in_expr o.1) given.options p) h.prefix h.rest
    (each_stand in_expr given.args h.prefix h.args p) (each_stand (λ (o : List ℕ × Expr). in_expr o.1) given.options h.rest h.options p))

block_stands : (block : Option Block) (ms : List Mark) → Maybe IsWhole block ms → (p : Context) → AreAmong StandsAt (if_there (whole_block children) block p) ms
block_stands None ms h p = tt
block_stands (Some b) ms h p = h.is.stand p

-- the call stands at its name
site_stands : (call : Call) (name : List ℕ) (ms : List Mark) (p : Context) → name ≡ (out-Call call).name → HasName name ms
    → AreAmong StandsAt (called (record { context = p; call = call }) ∷ []) ms
site_stands call name ms p e h = record { before = h.before; here = h.here; after = h.after; whole = h.whole; holds = (h.holds.0, h.holds.1 ∙ e); rest = tt }

call_at : (name : List ℕ) (w : Bool) (given : Arguments) (block : Option Block) (ns ms ks : List Mark) → HasName name ns → AreGiven IsValue IsOption given ms → Maybe IsWhole block ks
    → IsCall (call_of name w given block) (ns ++ (ms ++ ks))
call_at name w given block ns ms ks n h b =
    let call = call_of name w given block in
    let same : name ≡ (out-Call call).name =
    sym (ap (λ (x : OfTrees Call-F). x.name)
    (out-roll-Call (record { name = name; wrapped = w; args = given.args; options = given.options; block = block }))) in
    record {
      stand = λ p.
          join StandsAt (called (record { context = p; call = call }) ∷ []) (in_call call p) ns (ms ++ ks) (site_stands call name ns p same n)
          (subst (λ z. AreAmong StandsAt z (ms ++ ks)) (sym (call_of_parts name w given block p))
          (join StandsAt (arguments_parts given (inside p)) (if_there (whole_block children) block (inside p)) ms ks (given_stand given ms h (inside p)) (block_stands block ks b (inside p))));
    }

pub call_is : (t : Mark) (w : Bool) (given : Arguments) (block : Option Block) (ns ms ks : List Mark) → IsNamed heads t ns → AreGiven IsValue IsOption given ms → Maybe IsWhole block ks
    → IsCall (call_of t.bytes w given block) (ns ++ (ms ++ ks))
call_is t w given block ns ms ks n h b = call_at t.bytes w given block ns ms ks (has_name t ns n) h b

call_node : (call : Call) (ms : List Mark) → IsCall call ms → IsExpr (plain (nodes.Call call)) ms
call_node call ms h = plain_is (nodes.Call call) (Node-F.Call call) ms (sym (nodes.rolls-Call call)) h.stand tt

-- a call without a block
alone : (name : List ℕ) (w : Bool) (given : Arguments) (ns ms : List Mark) → HasName name ns → AreGiven IsValue IsOption given ms
    → IsExpr (plain (nodes.Call (call_of name w given None))) (ns ++ ms)
alone name w given ns ms n h =
    let call = call_of name w given None in
    call_node call (ns ++ ms) (subst (IsCall call) (ap (λ z. ns ++ z) (append-nil ms)) (call_at name w given None ns ms [] n h (record { is = refl })))

pub called_is : (t : Mark) (w : Bool) (given : Arguments) (ns ms : List Mark) → IsNamed heads t ns → AreGiven IsValue IsOption given ms
    → IsExpr (plain (nodes.Call (call_of t.bytes w given None))) (ns ++ ms)
called_is t w given ns ms n h = alone t.bytes w given ns ms (has_name t ns n) h

get_has_name : (layer : OfTrees Node-F) (ms : List Mark) → is_get layer ≡ true → NameStands layer ms → HasName (codes "get") ms
get_has_name (Node-F.Name name) ms e h = subst (λ z. HasName z ms) (sym ((bytes_decides (codes "get") name).0 e)) h
get_has_name (Node-F.Literal value) ms e h = absurd (true≢false (sym e))
get_has_name (Node-F.Call call) ms e h = absurd (true≢false (sym e))
get_has_name (Node-F.List items) ms e h = absurd (true≢false (sym e))
get_has_name (Node-F.Index of at) ms e h = absurd (true≢false (sym e))
get_has_name (Node-F.Dot of call) ms e h = absurd (true≢false (sym e))
get_has_name (Node-F.Unary op of) ms e h = absurd (true≢false (sym e))
get_has_name (Node-F.Chain kind first rest) ms e h = absurd (true≢false (sym e))

pub get_is : (e at : Expr) (ns ms : List Mark) → is_bare_get e ≡ true → IsExpr e ns → IsValue at ms
    → IsExpr (plain (nodes.Call (call_of (codes "get") true (record { args = at ∷ []; options = [] }) None))) (ns ++ ms)
unfolding is_bare_get
get_is e at ns ms b h g =
    let layer = out-Node (out-Expr e).node in
    alone (codes "get") true (record { args = at ∷ []; options = [] }) ns ms (get_has_name layer ns (and_second (nat_eq (out-Expr e).wraps 0) (is_get layer) b) h.named)
    (given_alone IsValue IsOption at ms g)

-- A block after a value

with_stands : (call : Call) (b : Block) (ns ms : List Mark) (p : Context) → AreAmong StandsAt (site children call p) ns → IsWhole b ms
    → AreAmong StandsAt (site children (call_with call b) p) (ns ++ ms)
with_stands call b ns ms p h g =
    let given = arguments_in call in
    let arguments = arguments_parts given (inside p) in
    let old = if_there (whole_block children) (out-Call call).block (inside p) in
    let parts : in_call call p ≡ arguments ++ old =
    in_call-out call p ∙ sym (append_assoc (each in_expr given.args (inside p)) (each (λ (o : List ℕ × Expr). in_expr o.1) given.options (inside p)) old) in
    let kept : AreAmong StandsAt (called (record { context = p; call = call }) ∷ arguments) ns =
    front StandsAt (called (record { context = p; call = call }) ∷ arguments) old ns (subst (λ z. AreAmong StandsAt (called (record { context = p; call = call }) ∷ z) ns) parts h) in
    let same : (out-Call call).name ≡ (out-Call (call_with call b)).name =
    sym (ap (λ (x : OfTrees Call-F). x.name)
    (out-roll-Call (record { name = (out-Call call).name; wrapped = (out-Call call).wrapped; args = given.args; options = given.options; block = Some b }))) in
    let now : AreAmong StandsAt (called (record { context = p; call = call_with call b }) ∷ arguments) ns =
    record { before = kept.before; here = kept.here; after = kept.after; whole = kept.whole; holds = (kept.holds.0, kept.holds.1 ∙ same); rest = kept.rest } in
    subst (λ z. AreAmong StandsAt (called (record { context = p; call = call_with call b }) ∷ z) (ns ++ ms))
    (sym (call_of_parts (out-Call call).name (out-Call call).wrapped given (Some b) p))
    (join StandsAt (called (record { context = p; call = call_with call b }) ∷ arguments) (whole_block children b (inside p)) ns ms now (g.stand (inside p)))

node_with : (node : Node) (layer : OfTrees Node-F) (b : Block) (ns ms : List Mark) → node_takes_block layer ≡ true → ((p : Context) → AreAmong StandsAt (node_parts children layer p) ns)
    → NameStands layer ns → IsWhole b ms → IsValue (plain (node_with_block node layer b)) (ns ++ ms)
node_with node (Node-F.Name name) b ns ms t h n g =
    let call = call_of name false no_arguments (Some b) in
    let is : IsCall call (ns ++ ([] ++ ms)) = call_at name false no_arguments (Some b) ns [] ms n (no_given IsValue IsOption [] refl) (record { is = g }) in
    record { stand = layer_stands (nodes.Call call) (Node-F.Call call) (ns ++ ms) (sym (nodes.rolls-Call call)) is.stand }
node_with node (Node-F.Call call) b ns ms t h n g =
    record {
      stand = layer_stands (nodes.Call (call_with call b)) (Node-F.Call (call_with call b)) (ns ++ ms) (sym (nodes.rolls-Call (call_with call b)))
          (λ p. with_stands call b ns ms p (h p) g);
    }
node_with node (Node-F.Dot of call) b ns ms t h n g =
    record {
      stand = layer_stands (nodes.Dot of (call_with call b)) (Node-F.Dot of (call_with call b)) (ns ++ ms) (sym (nodes.rolls-Dot of (call_with call b)))
          (λ p. dotted p (h p));
    }
  where
    dotted : (p : Context) → AreAmong StandsAt (in_expr of (inside p) ++ site children call (after_dot p)) ns
        → AreAmong StandsAt (in_expr of (inside p) ++ site children (call_with call b) (after_dot p)) (ns ++ ms)
    dotted p stands =
        let parts = parted StandsAt (in_expr of (inside p)) (site children call (after_dot p)) ns stands in
        subst (AreAmong StandsAt (in_expr of (inside p) ++ site children (call_with call b) (after_dot p)))
        (sym (append_assoc parts.prefix parts.rest ms) ∙ ap (λ z. z ++ ms) (sym parts.whole))
        (join StandsAt (in_expr of (inside p)) (site children (call_with call b) (after_dot p)) parts.prefix (parts.rest ++ ms) parts.first
        (with_stands call b parts.rest ms (after_dot p) parts.second g))
node_with node (Node-F.Literal value) b ns ms t h n g = absurd (true≢false (sym t))
node_with node (Node-F.List items) b ns ms t h n g = absurd (true≢false (sym t))
node_with node (Node-F.Index of at) b ns ms t h n g = absurd (true≢false (sym t))
node_with node (Node-F.Unary op of) b ns ms t h n g = absurd (true≢false (sym t))
node_with node (Node-F.Chain kind first rest) b ns ms t h n g = absurd (true≢false (sym t))

pub with_block_is : (e : Expr) (b : Block) (ns ms : List Mark) → IsExpr e ns → takes_block e ≡ true → IsWhole b ms → IsValue (with_block e (Some b)) (ns ++ ms)
unfolding takes_block with_block
with_block_is e b ns ms h t g =
    let node = (out-Expr e).node in
    node_with node (out-Node node) b ns ms (and_second (nat_eq (out-Expr e).wraps 0) (node_takes_block (out-Node node)) t)
    (λ p. subst (λ z. AreAmong StandsAt z ns) (in_expr-out e p ∙ in_node-out node p) (h.stand p)) h.named g

-- Statements

abbrev pub IsSimple : Simple → List Mark → Type 0
IsSimple = Stands in_simple

abbrev pub IsForm : StmtForm → List Mark → Type 0
IsForm = Stands in_form

abbrev pub IsStmt : Stmt → List Mark → Type 0
IsStmt = Stands in_stmt

abbrev pub IsArm : Arm → List Mark → Type 0
IsArm = Stands in_arm

pub value_is : (e : Expr) (ms : List Mark) → IsValue e ms → IsSimple (simples.Value e) ms
value_is e ms h = record {
  stand = λ p. subst (λ z. AreAmong StandsAt z ms) (sym (in_simple-is (simples.Value e) (Simple-F.Value e) p (sym (simples.rolls-Value e)))) (h.stand p);
}

pub assign_is : (t : Mark) (op : AssignOp) (e : Expr) (ns ms : List Mark) → IsNamed heads t ns → IsValue e ms → IsSimple (simples.Assign t.bytes op e) (ns ++ ms)
assign_is t op e ns ms n h = record {
  stand = λ p.
      subst (λ z. AreAmong StandsAt z (ns ++ ms)) (sym (in_simple-is (simples.Assign t.bytes op e) (Simple-F.Assign t.bytes op e) p (sym (simples.rolls-Assign t.bytes op e))))
      (later StandsAt ns (in_expr e (inside p)) ms (h.stand (inside p)));
}

pub arm_is : (unless : Bool) (c : Expr) (stmts : List Stmt) (ns ms : List Mark) → IsValue c ns → InOrder IsStmt stmts ms → IsArm (arm_tree unless c stmts) (ns ++ ms)
arm_is unless c stmts ns ms h g = record {
  stand = λ p.
      subst (λ z. AreAmong StandsAt z (ns ++ ms)) (sym (in_arm-is (arm_tree unless c stmts) (record { unless = unless; cond = c; stmts = stmts }) p refl))
      (join StandsAt (in_expr c p) (each in_stmt stmts p) ns ms (h.stand p) (each_stand in_stmt stmts ms g p));
}

pub iff_is : (arm : Arm) (arms : List Arm) (other : Option (List Stmt)) (ns ms : List Mark) → InOrder IsArm (arm ∷ arms) ns → Maybe (InOrder IsStmt) other ms
    → IsSimple (simples.Iff (arm ∷ arms) other) (ns ++ ms)
iff_is arm arms None ns ms h g = record {
  stand = λ p.
      subst (λ z. AreAmong StandsAt z (ns ++ ms)) (sym (in_simple-is (simples.Iff (arm ∷ arms) None) (Simple-F.Iff (arm ∷ arms) None) p (sym (simples.rolls-Iff (arm ∷ arms) None))))
      (join StandsAt (each in_arm (arm ∷ arms) (inside p)) [] ns ms (each_stand in_arm (arm ∷ arms) ns h (inside p)) tt);
}
iff_is arm arms (Some other) ns ms h g = record {
  stand = λ p.
      subst (λ z. AreAmong StandsAt z (ns ++ ms)) (sym (in_simple-is (simples.Iff (arm ∷ arms) (Some other)) (Simple-F.Iff (arm ∷ arms) (Some other)) p (sym (simples.rolls-Iff (arm ∷ arms) (Some other)))))
      (join StandsAt (each in_arm (arm ∷ arms) (inside p)) (each in_stmt other (inside p)) ns ms (each_stand in_arm (arm ∷ arms) ns h (inside p)) (each_stand in_stmt other ms g.is (inside p)));
}

pub form_is : (simple : Simple) (guard : Option (Bool × Expr)) (ns ms : List Mark) → IsSimple simple ns → Maybe (IsGuard IsValue) guard ms → IsForm (form_tree simple guard) (ns ++ ms)
form_is simple None ns ms h g = record {
  stand = λ p.
      subst (λ z. AreAmong StandsAt z (ns ++ ms)) (sym (in_form-is (forms.Plain simple) (StmtForm-F.Plain simple) p (sym (forms.rolls-Plain simple))))
      (subst (AreAmong StandsAt (in_simple simple p)) (sym (ap (λ z. ns ++ z) g.is ∙ append-nil ns)) (h.stand p));
}
form_is simple (Some (unless, c)) ns ms h g = record {
  stand = λ p.
      subst (λ z. AreAmong StandsAt z (ns ++ ms)) (sym (in_form-is (forms.Guarded simple unless c) (StmtForm-F.Guarded simple unless c) p (sym (forms.rolls-Guarded simple unless c))))
      (join StandsAt (in_simple simple p) (in_expr c (inside p)) ns ms (h.stand p) (g.is.cond.stand (inside p)));
}

pub stmt_is : (line : ℕ) (form : StmtForm) (ms : List Mark) → IsForm form ms → IsStmt (stmt_tree (line, form)) ms
stmt_is line form ms h = record {
  stand = λ p. subst (λ z. AreAmong StandsAt z ms) (sym (in_stmt-is (stmt_tree (line, form)) (record { line = line; form = form }) p refl)) (h.stand (at_line line p));
}

pub block_is : (t : Mark) (names : List Mark) (stmts : List Stmt) (ns ms ks : List Mark) → IsBegun heads t ns → InOrder (IsNamed heads) names ms → InOrder IsStmt stmts ks
    → IsWhole (roll-Block (record { number = t.number; params = names_of names; stmts = stmts })) (ns ++ (ms ++ ks))
block_is t names stmts ns ms ks b n h =
    let layer : OfTrees Block-F = record { number = t.number; params = names_of names; stmts = stmts } in
    let block = roll-Block layer in
    let own : ns ≡ t ∷ [] = b.shows_own ∙ ap (λ c. cond c (t ∷ []) []) (begin_head t.terminal b.holds) in
    let number : t.number ≡ (out-Block block).number = sym (ap (λ (x : OfTrees Block-F). x.number) (out-roll-Block layer)) in
    let opens : AreAmong StandsAt (opened block ∷ []) ns = record { before = []; here = t; after = []; whole = own; holds = (b.holds, number); rest = tt } in
    record {
      stand = λ p.
          join StandsAt (opened block ∷ []) (in_block block p) ns (ms ++ ks) opens
          (later StandsAt ms (in_block block p) ks (subst (λ z. AreAmong StandsAt z ks) (sym (in_block-is block layer p refl)) (each_stand in_stmt stmts ks h p)));
    }

unfoldable pub order_facts : Facts heads
order_facts = record {
  IsExpr = IsExpr;
  IsValue = IsValue;
  IsOption = IsOption;
  IsCall = IsCall;
  IsLink = IsLink;
  IsWhole = IsWhole;
  IsSimple = IsSimple;
  IsForm = IsForm;
  IsStmt = IsStmt;
  IsArm = IsArm;
  as_value = as_value;
  literal_is = literal_is;
  name_is = name_is;
  list_is = list_is;
  index_is = index_is;
  get_is = get_is;
  dot_is = dot_is;
  unary_is = unary_is;
  link_is = link_is;
  chain_is = chain_is;
  wrapped_is = wrapped_is;
  option_is = option_is;
  call_is = call_is;
  called_is = called_is;
  with_block_is = with_block_is;
  value_is = value_is;
  assign_is = assign_is;
  arm_is = arm_is;
  iff_is = iff_is;
  form_is = form_is;
  stmt_is = stmt_is;
  block_is = block_is;
}
