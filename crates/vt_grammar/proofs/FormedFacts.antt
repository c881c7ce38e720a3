-- What is told of trees of which each has its form: that, and that the blocks in it are those that the marks begin, in their order.
use Rattle.std.proofs.Common.{◌≡◌, ℕ, Bool, true, false, cond, codes, List, [], ◌∷◌, ◌++◌, Option, None, refl, sym, ap, ◌∙◌, subst}
use Rattle.std.specs.List.{AllByRecursion}
use Rattle.std.proofs.lemmas.List.Elements.{All-from_recursion}
use Rattle.vt_tree.specs.declared.expression.Expr.{Expr}
use Rattle.vt_tree.specs.declared.expression.Node.TheVariants as nodes
use Rattle.vt_tree.specs.declared.statement.Arm.{Arm}
use Rattle.vt_tree.specs.declared.statement.AssignOp.{AssignOp}
use Rattle.vt_tree.specs.declared.statement.Block.{Block, roll-Block}
use Rattle.vt_tree.specs.declared.statement.Simple.TheVariants as simples
use Rattle.vt_tree.specs.declared.statement.Stmt.{Stmt}
use Rattle.vt_frac.specs.Names.{IsName, is_label_name, keywords, reserved}
use Rattle.vt_tree.specs.Parts.{in_text, in_arm, in_expr, in_stmt}
use Rattle.vt_tree.specs.WellFormed.{IsFormedArm, IsFormedExpr, IsFormedStmt}
use Rattle.vt_grammar.specs.declared.parts.Arguments.{Arguments}
use Rattle.vt_grammar.specs.declared.terminals.Terminal.{Terminal}
use Rattle.vt_grammar.specs.declared.terminals.Terminal.TheVariants as terminals
use Rattle.vt_grammar.specs.Marks.{Mark, begins_block}
use Rattle.vt_grammar.specs.Values.{literal_of, label_name}
use Rattle.vt_grammar.specs.Trees.{plain, call_of, is_bare_get, arm_tree}
use Rattle.vt_grammar.specs.Grammar.{is_literal, names_of}
use Rattle.vt_grammar.proofs.Facts.{Facts, IsNamed, IsBegun, AreGiven, given_alone}
use Rattle.vt_grammar.proofs.FormedMarks.{GoodTerminal, IsGood, literal_good}
use Rattle.vt_grammar.proofs.FormedTrees.{IsExpr, IsValue, IsOption, IsCall, IsLink, IsWhole, IsSimple, IsForm, IsStmt, IsArm, each_is, as_value, literal_is, name_is, list_is, index_is, dot_is, unary_is, link_is, chain_is, wrapped_is, given_are, call_is, call_node_is, with_block_is, bare_get_numbers, value_is, assign_is, arm_is, iff_is, form_is, stmt_is, block_is}
use Rattle.vt_grammar.proofs.Tells.{Measure, InOrder, Maybe, shown, is_head, maybe_map}

-- the number of the block that the mark begins, if it begins one
abbrev pub begun_by : Mark → List ℕ
begun_by t = cond (begins_block t.terminal) (t.number ∷ []) []

no_begin : (w : Terminal) → is_head w ≡ false → begins_block w ≡ false
no_begin terminals.Name e = refl
no_begin _ e = e

pub quiet_begin : (t : Mark) → is_head t.terminal ≡ false → begun_by t ≡ []
quiet_begin t e = ap (λ b. cond b (t.number ∷ []) []) (no_begin t.terminal e)

abbrev pub numbers_begun : Measure ℕ
numbers_begun = record { shows = begun_by; IsGood = IsGood; quiet = quiet_begin }

-- the numbers of the blocks that the marks begin
abbrev pub begun : List Mark → List ℕ
begun = shown numbers_begun

-- a name begins no block
named_none : (t : Mark) (ns : List ℕ) → IsNamed numbers_begun t ns → ns ≡ []
named_none t ns h = h.shows_own ∙ ap (λ w. cond (begins_block w) (t.number ∷ []) []) h.holds

named_name : (t : Mark) (ns : List ℕ) → IsNamed numbers_begun t ns → IsName t.bytes
named_name t ns h = subst (λ w. GoodTerminal w t.bytes) h.holds h.good.good

pub literal_formed : (t : Mark) → is_literal t.terminal ≡ true → IsGood t → IsExpr (plain (nodes.Literal (literal_of t))) []
unfolding literal_of
literal_formed t e g = literal_is (literal_of t) (literal_good t.terminal t.bytes e g.good)

pub name_formed : (t : Mark) (ns : List ℕ) → IsNamed numbers_begun t ns → IsExpr (plain (nodes.Name t.bytes)) ns
name_formed t ns h = subst (IsExpr (plain (nodes.Name t.bytes))) (sym (named_none t ns h)) (name_is t.bytes (named_name t ns h))

pub list_formed : (items : List Expr) (ns : List ℕ) → InOrder IsValue items ns → IsExpr (plain (nodes.List items)) ns
list_formed items ns h = list_is items ns (each_is IsFormedExpr in_expr items ns h)

get_name : IsName (codes "get")
unfolding is_label_name keywords reserved
get_name = record { form = refl; no_keyword = refl; not_reserved = refl }

pub get_formed : (e at : Expr) (ns ms : List ℕ) → is_bare_get e ≡ true → IsExpr e ns → IsValue at ms
    → IsExpr (plain (nodes.Call (call_of (codes "get") true (record { args = at ∷ []; options = [] }) None))) (ns ++ ms)
get_formed e at ns ms b h g =
    subst (IsExpr (plain (nodes.Call (call_of (codes "get") true (record { args = at ∷ []; options = [] }) None)))) (sym (ap (λ z. z ++ ms) (bare_get_numbers e ns b h in_text)))
    (call_node_is (codes "get") true (record { args = at ∷ []; options = [] }) ms get_name
    (given_are (record { args = at ∷ []; options = [] }) ms (given_alone IsValue IsOption at ms g)))

pub option_formed : (t : Mark) (e : Expr) (ns : List ℕ) → t.terminal ≡ terminals.Label → IsGood t → IsValue e ns → IsOption (label_name t.bytes, e) ns
option_formed t e ns l g h = record {
  formed = record { label = subst (λ w. GoodTerminal w t.bytes) l g.good; value = h.formed };
  numbered = h.numbered;
}

pub call_formed : (t : Mark) (w : Bool) (given : Arguments) (block : Option Block) (ns ms ks : List ℕ) → IsNamed numbers_begun t ns → AreGiven IsValue IsOption given ms → Maybe IsWhole block ks
    → IsCall (call_of t.bytes w given block) (ns ++ (ms ++ ks))
call_formed t w given block ns ms ks n h b =
    subst (λ z. IsCall (call_of t.bytes w given block) (z ++ (ms ++ ks))) (sym (named_none t ns n))
    (call_is t.bytes w given block ms ks (named_name t ns n) (given_are given ms h) b)

pub called_formed : (t : Mark) (w : Bool) (given : Arguments) (ns ms : List ℕ) → IsNamed numbers_begun t ns → AreGiven IsValue IsOption given ms
    → IsExpr (plain (nodes.Call (call_of t.bytes w given None))) (ns ++ ms)
called_formed t w given ns ms n h =
    subst (λ z. IsExpr (plain (nodes.Call (call_of t.bytes w given None))) (z ++ ms)) (sym (named_none t ns n))
    (call_node_is t.bytes w given ms (named_name t ns n) (given_are given ms h))

pub assign_formed : (t : Mark) (op : AssignOp) (e : Expr) (ns ms : List ℕ) → IsNamed numbers_begun t ns → IsValue e ms → IsSimple (simples.Assign t.bytes op e) (ns ++ ms)
assign_formed t op e ns ms n h =
    subst (λ z. IsSimple (simples.Assign t.bytes op e) (z ++ ms)) (sym (named_none t ns n)) (assign_is t.bytes op e ms (named_name t ns n) h)

pub arm_formed : (unless : Bool) (c : Expr) (stmts : List Stmt) (ns ms : List ℕ) → IsValue c ns → InOrder IsStmt stmts ms → IsArm (arm_tree unless c stmts) (ns ++ ms)
arm_formed unless c stmts ns ms h g = arm_is unless c stmts ns ms h (each_is IsFormedStmt in_stmt stmts ms g)

pub iff_formed : (arm : Arm) (arms : List Arm) (other : Option (List Stmt)) (ns ms : List ℕ) → InOrder IsArm (arm ∷ arms) ns → Maybe (InOrder IsStmt) other ms
    → IsSimple (simples.Iff (arm ∷ arms) other) (ns ++ ms)
iff_formed arm arms other ns ms h g =
    iff_is arm arms other ns ms (each_is IsFormedArm in_arm (arm ∷ arms) ns h) (maybe_map other ms (λ stmts ks k. each_is IsFormedStmt in_stmt stmts ks k) g)

names_are : (ts : List Mark) (ns : List ℕ) → InOrder (IsNamed numbers_begun) ts ns → (AllByRecursion IsName (names_of ts)) × (ns ≡ [])
names_are [] ns h = (tt, h)
names_are (t ∷ ts) ns h =
    let rest = names_are ts h.rest h.second in
    ((named_name t h.prefix h.first, rest.0), h.whole ∙ ap (λ z. z ++ h.rest) (named_none t h.prefix h.first) ∙ rest.1)

pub block_formed : (t : Mark) (names : List Mark) (stmts : List Stmt) (ns ms ks : List ℕ) → IsBegun numbers_begun t ns → InOrder (IsNamed numbers_begun) names ms → InOrder IsStmt stmts ks
    → IsWhole (roll-Block (record { number = t.number; params = names_of names; stmts = stmts })) (ns ++ (ms ++ ks))
block_formed t names stmts ns ms ks b n h =
    let own : ns ≡ t.number ∷ [] = b.shows_own ∙ ap (λ c. cond c (t.number ∷ []) []) b.holds in
    let are = names_are names ms n in
    subst (IsWhole (roll-Block (record { number = t.number; params = names_of names; stmts = stmts })))
    (sym (ap (λ z. z ++ (ms ++ ks)) own ∙ ap (λ z. t.number ∷ (z ++ ks)) are.1))
    (block_is t.number (names_of names) stmts ks (All-from_recursion IsName (names_of names) are.0) (each_is IsFormedStmt in_stmt stmts ks h))

unfoldable pub formed_facts : Facts numbers_begun
formed_facts = record {
  IsExpr = IsExpr;
  IsValue = IsValue;
  IsOption = IsOption;
  IsCall = IsCall;
  IsLink = IsLink;
  IsWhole = IsWhole;
  IsSimple = IsSimple;
  IsForm = IsForm;
  IsStmt = IsStmt;
  IsArm = IsArm;
  as_value = as_value;
  literal_is = literal_formed;
  name_is = name_formed;
  list_is = list_formed;
  index_is = index_is;
  get_is = get_formed;
  dot_is = dot_is;
  unary_is = unary_is;
  link_is = link_is;
  chain_is = chain_is;
  wrapped_is = wrapped_is;
  option_is = option_formed;
  call_is = call_formed;
  called_is = called_formed;
  with_block_is = with_block_is;
  value_is = value_is;
  assign_is = assign_formed;
  arm_is = arm_formed;
  iff_is = iff_formed;
  form_is = form_is;
  stmt_is = stmt_is;
  block_is = block_formed;
}
