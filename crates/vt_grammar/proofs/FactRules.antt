-- What is told of the values of each rule of the grammar, by the facts that are told of trees.
use Rattle.std.proofs.Common.{◌≡◌, ℕ, zero, suc, ◌<◌, Bool, true, false, true≢false, cond, codes, List, [], ◌∷◌, ◌++◌, length, Option, Some, None, refl, sym, ap, ◌∙◌, subst, append-nil, append_assoc, arith}
use Rattle.vt_tree.specs.declared.expression.Expr.{Expr}
use Rattle.vt_tree.specs.declared.expression.Link.{Link}
use Rattle.vt_tree.specs.declared.expression.Node.TheVariants as nodes
use Rattle.vt_tree.specs.declared.expression.ChainKind.{ChainKind}
use Rattle.vt_tree.specs.declared.expression.ChainKind.TheVariants as chains
use Rattle.vt_tree.specs.declared.statement.Arm.{Arm}
use Rattle.vt_tree.specs.declared.statement.Block.{Block}
use Rattle.vt_tree.specs.declared.statement.Simple.TheVariants as simples
use Rattle.vt_tree.specs.declared.statement.Stmt.{Stmt}
use Rattle.vt_tree.specs.WellFormed.{is_op_of, IsLinkCount}
use Rattle.vt_grammar.specs.declared.parts.Arguments.{Arguments}
use Rattle.vt_grammar.specs.declared.parts.Part.{Part}
use Rattle.vt_grammar.specs.declared.parts.Part.TheVariants as parts
use Rattle.vt_grammar.specs.declared.terminals.Terminal.{Terminal}
use Rattle.vt_grammar.specs.declared.terminals.Terminal.TheVariants as terminals
use Rattle.vt_grammar.specs.Form.{Form}
use Rattle.vt_grammar.specs.Marks.{Mark, begins_block}
use Rattle.vt_grammar.specs.Values.{literal_of}
use Rattle.vt_grammar.specs.Trees.{Argument, Left, positional, labelled, no_arguments, plain, call_of, named_tree, dot_call, is_bare_get, with_part, with_parts, op_of, sign_of, chain_tree, comparison, takes_block, with_block, set_of, is_unless, form_tree, arm_tree, block_tree, present}
use Rattle.vt_grammar.specs.Grammar.{Opened, is_literal, is_paren_open, is_list_open, is_sign, is_term_op, is_sum_op, is_comp_op, is_conj_op, is_disj_op, is_expr_op, is_set, is_condition, terminal, literal, named, primary, dot, part, after_part, postfix, signed, unary, link, chain, term, sum, comp, conj, disj, negated, negation, expr, labelled_arg, plain_arg, arg, next_arg, labels_begun, has_label, args, next_item, items, command, cond_form, block_where, rhs, assign, simple, modifier, stmt, line, block, next_param, names_of, params, elsif, otherwise, arguments_of, all_of, parens_of, list_of, call_of_args, index_of, braces_of, doblock_of, iff_of, opened}
use Rattle.vt_grammar.proofs.TerminalSets.{includes, disjoint, sub}
use Rattle.vt_grammar.proofs.Facts.{Facts, IsNamed, IsBegun, AreGiven, IsGuard, no_given}
use Rattle.vt_grammar.proofs.Tells.{Measure, Tells, IsQuiet, Both, Maybe, InOrder, FromState, is_head, among_tells, terminal_tells, head_tells, nothing_tells, empty_tells, either_tells, map_tells, weaker_tells, maybe_tells, only_tells, with_its_tells, next_tells, then_tells, many_tells, many_from_tells, after_quiet, before_quiet}

-- Marks

-- what is told after a first mark, or before a last one, that shows nothing
later : {X B : Type 0} {m : Measure X} {P : Mark → Type 0} {S : B → List X → Type 0} {v : Mark × B} {ns : List X} → Both (IsQuiet m P) (λ _. S) v ns → S v.1 ns
later h = after_quiet h (λ ms q. q.shows_none)

sooner : {X A : Type 0} {m : Measure X} {P : Mark → Type 0} {R : A → List X → Type 0} {v : A × Mark} {ns : List X} → Both R (λ _. IsQuiet m P) v ns → R v.0 ns
sooner h = before_quiet h (λ ms q. q.shows_none)

begin_tells : {X : Type 0} {m : Measure X} (w : Terminal) → begins_block w ≡ true → Tells m (terminal w) (IsBegun m)
begin_tells w b =
    weaker_tells (head_tells w) (λ t ns h. record { holds = ap begins_block h.holds ∙ b; good = h.good; shows_own = h.shows_own })

-- the names of parameters, and the marks that they are
record AreParams {X : Type 0} (m : Measure X) (names : List (List ℕ)) (ns : List X) : Type 0 where
  marks : List Mark
  are : names ≡ names_of marks
  named : InOrder (IsNamed m) marks ns

next_param_tells : {X : Type 0} {m : Measure X} → Tells m next_param (IsNamed m)
unfolding next_param
next_param_tells = map_tells (then_tells (terminal_tells terminals.Comma refl) (head_tells terminals.Name)) (λ v ns h. later h)

params_tells : {X : Type 0} {m : Measure X} → Tells m params (AreParams m)
unfolding params
params_tells =
    map_tells (then_tells (terminal_tells terminals.Bar refl) (then_tells (head_tells terminals.Name) (then_tells (many_tells next_param_tells) (terminal_tells terminals.Bar refl))))
    (λ v ns h. let inner = later h in
    record {
      marks = v.1.0 ∷ v.1.1.0;
      are = refl;
      named = record { prefix = inner.prefix; rest = inner.rest; whole = inner.whole; first = inner.first; second = (sooner inner.second).is };
    })

-- Values

module _ {X : Type 0} {m : Measure X} (A : Facts m) where
  -- what is told of the forms that begin with an opening
  pub record Told (o : Opened) : Type 0 where
    pub parens : Tells m o.parens A.IsExpr
    pub list : Tells m o.list A.IsExpr
    pub call : Tells m o.call (AreGiven A.IsValue A.IsOption)
    pub index : Tells m o.index A.IsExpr
    pub braces : Tells m o.braces A.IsWhole
    pub doblock : Tells m o.doblock A.IsWhole
    pub iff : Tells m o.iff A.IsSimple

  -- an argument; where labels have begun it has a label
  abbrev ArgumentIs : Argument → List X → Type 0
  ArgumentIs (None, e) ns = A.IsValue e ns
  ArgumentIs (Some label, e) ns = A.IsOption (label, e) ns

  record IsArgument (labels : Bool) (a : Argument) (ns : List X) : Type 0 where
    is : ArgumentIs a ns
    label : labels ≡ true → has_label a ≡ true

  -- arguments with labels alone
  record AreLabelled (given : List Argument) (ns : List X) : Type 0 where
    none : positional given ≡ []
    options : InOrder A.IsOption (labelled given) ns

  are_labelled : (given : List Argument) (ns : List X) → FromState labels_begun IsArgument true given ns → AreLabelled given ns
  are_labelled [] ns h = record { none = refl; options = h }
  are_labelled ((None, e) ∷ given) ns h = absurd (true≢false (sym (h.first.label refl)))
  are_labelled ((Some label, e) ∷ given) ns h =
      let rest = are_labelled given h.rest h.second in
      record {
        none = rest.none;
        options = record { prefix = h.prefix; rest = h.rest; whole = h.whole; first = h.first.is; second = rest.options };
      }

  are_arguments : (given : List Argument) (ns : List X) → FromState labels_begun IsArgument false given ns
      → AreGiven A.IsValue A.IsOption (record { args = positional given; options = labelled given }) ns
  are_arguments [] ns h = no_given A.IsValue A.IsOption ns h
  are_arguments ((None, e) ∷ given) ns h =
      let rest = are_arguments given h.rest h.second in
      record {
        prefix = h.prefix ++ rest.prefix;
        rest = rest.rest;
        whole = h.whole ∙ ap (λ z. h.prefix ++ z) rest.whole ∙ sym (append_assoc h.prefix rest.prefix rest.rest);
        args = record { prefix = h.prefix; rest = rest.prefix; whole = refl; first = h.first.is; second = rest.args };
        options = rest.options;
      }
  are_arguments ((Some label, e) ∷ given) ns h =
      let rest = are_labelled given h.rest h.second in
      record {
        prefix = [];
        rest = ns;
        whole = refl;
        args = subst (λ z. InOrder A.IsValue z []) (sym rest.none) refl;
        options = record { prefix = h.prefix; rest = h.rest; whole = h.whole; first = h.first.is; second = rest.options };
      }

  -- indexes and dots
  abbrev PartIs : Part → List X → Type 0
  PartIs (parts.Index e) ns = A.IsValue e ns
  PartIs (parts.Dot call) ns = A.IsCall call ns

  record IsPart (q : Part) (ns : List X) : Type 0 where
    is : PartIs q ns

  index_part : (e at : Expr) (ns ms : List X) → A.IsExpr e ns → A.IsValue at ms → (b : Bool) → is_bare_get e ≡ b
      → A.IsExpr (cond b (plain (nodes.Call (call_of (codes "get") true (record { args = at ∷ []; options = [] }) None))) (plain (nodes.Index e at))) (ns ++ ms)
  index_part e at ns ms h g true b = A.get_is e at ns ms b h g
  index_part e at ns ms h g false b = A.index_is e at ns ms (A.as_value e ns h) g

  part_is : (e : Expr) (q : Part) (ns ms : List X) → A.IsExpr e ns → IsPart q ms → A.IsExpr (with_part e q) (ns ++ ms)
  unfolding with_part
  part_is e (parts.Index at) ns ms h g = index_part e at ns ms h g.is (is_bare_get e) refl
  part_is e (parts.Dot call) ns ms h g = A.dot_is e call ns ms (A.as_value e ns h) g.is

  parts_are : (qs : List Part) (s : Left) (e : Expr) (ns ms : List X) → A.IsExpr e ns → FromState after_part (λ _. IsPart) s qs ms → A.IsExpr (with_parts e qs) (ns ++ ms)
  parts_are [] s e ns ms h g = subst (A.IsExpr e) (sym (ap (λ z. ns ++ z) g ∙ append-nil ns)) h
  parts_are (q ∷ qs) s e ns ms h g =
      subst (A.IsExpr (with_parts (with_part e q) qs)) (append_assoc ns g.prefix g.rest ∙ ap (λ z. ns ++ z) (sym g.whole))
      (parts_are qs (after_part s q) (with_part e q) (ns ++ g.prefix) g.rest (part_is e q ns g.prefix h g.first) g.second)

  -- chains
  chain_of : (kind : ChainKind) → ((n : ℕ) → 0 < n → IsLinkCount kind n) → (e : Expr) (links : List Link) (ns ms : List X) → A.IsExpr e ns → InOrder (A.IsLink kind) links ms
      → A.IsExpr (chain_tree kind e links) (ns ++ ms)
  chain_of kind c e [] ns ms h g = subst (A.IsExpr e) (sym (ap (λ z. ns ++ z) g ∙ append-nil ns)) h
  chain_of kind c e (l ∷ ls) ns ms h g = A.chain_is kind e (l ∷ ls) ns ms (c (length (l ∷ ls)) (omega arith)) (A.as_value e ns h) g

  link_tells : (kind : ChainKind) (ops : Terminal → Bool) {a : Form Mark Expr} → disjoint ops is_head ≡ true → includes ops (λ w. is_op_of kind (op_of w)) ≡ true
      → Tells m a A.IsExpr → Tells m (link ops a) (A.IsLink kind)
  unfolding link
  link_tells kind ops d i ta =
      map_tells (then_tells (among_tells ops d) ta)
      (λ v ns h. A.link_is kind (op_of v.0.terminal) v.1 ns (sub {F = ops} {G = λ w. is_op_of kind (op_of w)} i v.0 (record { is = h.first.holds })).is (A.as_value v.1 ns (later h)))

  chain_tells : (kind : ChainKind) (ops : Terminal → Bool) {a : Form Mark Expr} → ((n : ℕ) → 0 < n → IsLinkCount kind n) → disjoint ops is_head ≡ true
      → includes ops (λ w. is_op_of kind (op_of w)) ≡ true → Tells m a A.IsExpr → Tells m (chain kind ops a) A.IsExpr
  unfolding chain
  chain_tells kind ops c d i ta =
      map_tells (then_tells ta (many_tells (link_tells kind ops d i ta)))
      (λ v ns h. subst (A.IsExpr (chain_tree kind v.0 v.1)) (sym h.whole) (chain_of kind c v.0 v.1 h.prefix h.rest h.first h.second.is))

  comparison_of : (e : Expr) (l : Option Link) (ns ms : List X) → A.IsExpr e ns → Maybe (A.IsLink chains.Comp) l ms → A.IsExpr (comparison e l) (ns ++ ms)
  comparison_of e None ns ms h g = subst (A.IsExpr e) (sym (ap (λ z. ns ++ z) g.is ∙ append-nil ns)) h
  comparison_of e (Some l) ns ms h g =
      A.chain_is chains.Comp e (l ∷ []) ns ms refl (A.as_value e ns h) (record { prefix = ms; rest = []; whole = sym (append-nil ms); first = g.is; second = refl })

  -- names and calls
  named_of : (t : Mark) (given : Option Arguments) (ns ms : List X) → IsNamed m t ns → Maybe (AreGiven A.IsValue A.IsOption) given ms → A.IsExpr (named_tree t.bytes given) (ns ++ ms)
  named_of t None ns ms n h = subst (A.IsExpr (plain (nodes.Name t.bytes))) (sym (ap (λ z. ns ++ z) h.is ∙ append-nil ns)) (A.name_is t ns n)
  named_of t (Some given) ns ms n h = A.called_is t true given ns ms n h.is

  dot_of : (t : Mark) (given : Option Arguments) (block : Option Block) (ns ms ks : List X) → IsNamed m t ns → Maybe (AreGiven A.IsValue A.IsOption) given ms
      → Maybe A.IsWhole block ks → A.IsCall (dot_call t.bytes given block) (ns ++ (ms ++ ks))
  dot_of t None block ns ms ks n h b = A.call_is t false no_arguments block ns ms ks n (no_given A.IsValue A.IsOption ms h.is) b
  dot_of t (Some given) block ns ms ks n h b = A.call_is t true given block ns ms ks n h.is b

  literal_tells : Tells m literal A.IsExpr
  unfolding literal
  literal_tells =
      map_tells (among_tells is_literal refl) (λ t ns h. subst (A.IsExpr (plain (nodes.Literal (literal_of t)))) (sym h.shows_none) (A.literal_is t h.holds h.good))

  -- a block that is there only where the expression takes one
  record TakesBlock (takes : Bool) (o : Option Block) (ms : List X) : Type 0 where
    there : Maybe A.IsWhole o ms
    taken : (b : Block) → o ≡ Some b → takes ≡ true

  with_blocks_is : (e : Expr) (o : Option Block) (ns ms : List X) → A.IsExpr e ns → TakesBlock (takes_block e) o ms → A.IsValue (with_block e o) (ns ++ ms)
  unfolding with_block
  with_blocks_is e None ns ms h g = subst (λ z. A.IsValue e z) (sym (ap (λ z. ns ++ z) g.there.is ∙ append-nil ns)) (A.as_value e ns h)
  with_blocks_is e (Some b) ns ms h g = A.with_block_is e b ns ms h (g.taken b refl) g.there.is

  -- the statements that are there
  present_is : (lines : List (Option Stmt)) (ns : List X) → InOrder (Maybe A.IsStmt) lines ns → InOrder A.IsStmt (present lines) ns
  present_is [] ns h = h
  present_is (None ∷ lines) ns h =
      subst (InOrder A.IsStmt (present lines)) (sym (h.whole ∙ ap (λ z. z ++ h.rest) h.first.is)) (present_is lines h.rest h.second)
  present_is (Some s ∷ lines) ns h = record { prefix = h.prefix; rest = h.rest; whole = h.whole; first = h.first.is; second = present_is lines h.rest h.second }

  -- a block, after the mark that begins it
  begun_block : (t : Mark) (names : Option (List (List ℕ))) (stmts : List Stmt) (ns prefix rest ms ks : List X) → ns ≡ prefix ++ rest → IsBegun m t prefix → rest ≡ ms ++ ks
      → Maybe (AreParams m) names ms → InOrder A.IsStmt stmts ks → A.IsWhole (block_tree t.number names stmts) ns
  begun_block t None stmts ns prefix rest ms ks e b f n h =
      subst (A.IsWhole (block_tree t.number None stmts)) (sym (e ∙ ap (λ z. prefix ++ z) f)) (A.block_is t [] stmts prefix ms ks b n.is h)
  begun_block t (Some names) stmts ns prefix rest ms ks e b f n h =
      subst (λ z. A.IsWhole (block_tree t.number (Some z) stmts) ns) (sym n.is.are)
      (subst (A.IsWhole (block_tree t.number (Some (names_of n.is.marks)) stmts)) (sym (e ∙ ap (λ z. prefix ++ z) f)) (A.block_is t n.is.marks stmts prefix ms ks b n.is.named h))

  -- a first branch, the further ones and what stands under `else`
  iff_of_arms : (unless : Bool) (c : Expr) (stmts : List Stmt) (arms : List Arm) (other : Option (List Stmt)) (ns a b d e : List X) → ns ≡ a ++ (b ++ (d ++ e))
      → A.IsExpr c a → InOrder A.IsStmt stmts b → InOrder A.IsArm arms d → Maybe (InOrder A.IsStmt) other e → A.IsSimple (simples.Iff (arm_tree unless c stmts ∷ arms) other) ns
  iff_of_arms unless c stmts arms other ns a b d e w hc hs ha ho =
      subst (A.IsSimple (simples.Iff (arm_tree unless c stmts ∷ arms) other)) (append_assoc (a ++ b) d e ∙ append_assoc a b (d ++ e) ∙ sym w)
      (A.iff_is (arm_tree unless c stmts) arms other ((a ++ b) ++ d) e
      (record { prefix = a ++ b; rest = d; whole = refl; first = A.arm_is unless c stmts a b (A.as_value c a hc) hs; second = ha }) ho)

-- Rules

module _ {X : Type 0} {m : Measure X} (A : Facts m) (o : Opened) (os : Told A o) where
  named_tells : Tells m (named o) A.IsExpr
  unfolding named
  named_tells =
      map_tells (then_tells (head_tells terminals.Name) (maybe_tells os.call))
      (λ v ns h. subst (A.IsExpr (named_tree v.0.bytes v.1)) (sym h.whole) (named_of A v.0 v.1 h.prefix h.rest h.first h.second))

  primary_tells : Tells m (primary o) A.IsExpr
  unfolding primary
  primary_tells = either_tells (literal_tells A) (either_tells named_tells (either_tells os.parens os.list))

  dot_tells : Tells m (dot o) A.IsCall
  unfolding dot
  dot_tells =
      map_tells (then_tells (terminal_tells terminals.Dot refl) (then_tells (head_tells terminals.Name) (then_tells (maybe_tells os.call) (maybe_tells os.braces))))
      (λ v ns h. let name = later h in let rest = name.second in
      subst (A.IsCall (dot_call v.1.0.bytes v.1.1.0 v.1.1.1)) (sym (name.whole ∙ ap (λ z. name.prefix ++ z) rest.whole))
      (dot_of A v.1.0 v.1.1.0 v.1.1.1 name.prefix rest.prefix rest.rest name.first rest.first rest.second))

  part_tells : (s : Left) → Tells m (part o s) (IsPart A)
  unfolding part
  part_tells (zero, fresh) = nothing_tells
  part_tells (suc n, fresh) =
      either_tells (map_tells os.index (λ e ns h. record { is = A.as_value e ns h })) (map_tells dot_tells (λ c ns h. record { is = h }))

  postfix_tells : Tells m (postfix o) A.IsExpr
  unfolding postfix
  postfix_tells =
      map_tells (next_tells primary_tells (λ e. many_from_tells after_part (part o) (λ _. IsPart A) part_tells (16, is_bare_get e)))
      (λ v ns h. subst (A.IsExpr (with_parts v.0 v.1)) (sym h.whole) (parts_are A v.1 (16, is_bare_get v.0) v.0 h.prefix h.rest h.first h.second.is))

  signed_tells : Tells m (signed o) A.IsExpr
  unfolding signed
  signed_tells =
      map_tells (then_tells (among_tells is_sign refl) postfix_tells) (λ v ns h. A.unary_is (sign_of v.0.terminal) v.1 ns (A.as_value v.1 ns (later h)))

  unary_tells : Tells m (unary o) A.IsExpr
  unfolding unary
  unary_tells = either_tells signed_tells postfix_tells

  term_tells : Tells m (term o) A.IsExpr
  unfolding term
  term_tells = chain_tells A chains.Term is_term_op (λ n h. h) refl refl unary_tells

  sum_tells : Tells m (sum o) A.IsExpr
  unfolding sum
  sum_tells = chain_tells A chains.Sum is_sum_op (λ n h. h) refl refl term_tells

  comp_tells : Tells m (comp o) A.IsExpr
  unfolding comp
  comp_tells =
      map_tells (then_tells sum_tells (maybe_tells (link_tells A chains.Comp is_comp_op refl refl sum_tells)))
      (λ v ns h. subst (A.IsExpr (comparison v.0 v.1)) (sym h.whole) (comparison_of A v.0 v.1 h.prefix h.rest h.first h.second))

  conj_tells : Tells m (conj o) A.IsExpr
  unfolding conj
  conj_tells = chain_tells A chains.Conj is_conj_op (λ n h. h) refl refl comp_tells

  disj_tells : Tells m (disj o) A.IsExpr
  unfolding disj
  disj_tells = chain_tells A chains.Disj is_disj_op (λ n h. h) refl refl conj_tells

  negated_tells : Tells m (negated o) A.IsExpr
  unfolding negated
  negated_tells =
      map_tells (then_tells (terminal_tells terminals.Not refl) disj_tells) (λ v ns h. A.unary_is (sign_of v.0.terminal) v.1 ns (A.as_value v.1 ns (later h)))

  negation_tells : Tells m (negation o) A.IsExpr
  unfolding negation
  negation_tells = either_tells negated_tells disj_tells

  expr_tells : Tells m (expr o) A.IsExpr
  unfolding expr
  expr_tells = chain_tells A chains.Expr is_expr_op (λ n h. h) refl refl negation_tells

  labelled_tells : (labels : Bool) → Tells m (labelled_arg o) (IsArgument A labels)
  unfolding labelled_arg
  labelled_tells labels =
      map_tells (then_tells (terminal_tells terminals.Label refl) expr_tells)
      (λ v ns h. record { is = A.option_is v.0 v.1 ns h.first.holds h.first.good (A.as_value v.1 ns (later h)); label = λ _. refl })

  plain_tells : Tells m (plain_arg o) (IsArgument A false)
  unfolding plain_arg
  plain_tells = map_tells expr_tells (λ e ns h. record { is = A.as_value e ns h; label = λ q. absurd (true≢false (sym q)) })

  arg_tells : (labels : Bool) → Tells m (arg o labels) (IsArgument A labels)
  unfolding arg
  arg_tells true = labelled_tells true
  arg_tells false = either_tells (labelled_tells false) plain_tells

  next_arg_tells : (labels : Bool) → Tells m (next_arg o labels) (IsArgument A labels)
  unfolding next_arg
  next_arg_tells labels = map_tells (then_tells (terminal_tells terminals.Comma refl) (arg_tells labels)) (λ v ns h. later h)

  args_tells : Tells m (args o) (AreGiven A.IsValue A.IsOption)
  unfolding args
  args_tells =
      map_tells (next_tells (arg_tells false) (λ a. many_from_tells labels_begun (next_arg o) (IsArgument A) next_arg_tells (has_label a)))
      (λ v ns h. are_arguments A (v.0 ∷ v.1) ns (record { prefix = h.prefix; rest = h.rest; whole = h.whole; first = h.first; second = h.second.is }))

  next_item_tells : Tells m (next_item o) A.IsValue
  unfolding next_item
  next_item_tells = map_tells (then_tells (terminal_tells terminals.Comma refl) expr_tells) (λ v ns h. A.as_value v.1 ns (later h))

  items_tells : Tells m (items o) (InOrder A.IsValue)
  unfolding items
  items_tells =
      map_tells (then_tells expr_tells (many_tells next_item_tells))
      (λ v ns h. record { prefix = h.prefix; rest = h.rest; whole = h.whole; first = A.as_value v.0 h.prefix h.first; second = h.second.is })

  command_tells : Tells m (command o) A.IsExpr
  unfolding command
  command_tells =
      map_tells (then_tells (head_tells terminals.Name) (only_tells args_tells))
      (λ v ns h. subst (A.IsExpr (plain (nodes.Call (call_of v.0.bytes false v.1 None)))) (sym h.whole) (A.called_is v.0 false v.1 h.prefix h.rest h.first h.second))

  cond_tells : Tells m (cond_form o) A.IsExpr
  unfolding cond_form
  cond_tells = either_tells command_tells (only_tells expr_tells)

  block_where_tells : (takes : Bool) → Tells m (block_where o takes) (TakesBlock A takes)
  block_where_tells true = weaker_tells (maybe_tells os.doblock) (λ b ns h. record { there = h; taken = λ _ _. refl })
  block_where_tells false = empty_tells (record { there = record { is = refl }; taken = λ b e. absurd (cc) })

  rhs_tells : Tells m (rhs o) A.IsValue
  unfolding rhs
  rhs_tells =
      map_tells (next_tells cond_tells (λ e. block_where_tells (takes_block e)))
      (λ v ns h. subst (A.IsValue (with_block v.0 v.1)) (sym h.whole) (with_blocks_is A v.0 v.1 h.prefix h.rest h.first h.second))

  assign_tells : Tells m (assign o) A.IsSimple
  unfolding assign
  assign_tells =
      map_tells (then_tells (head_tells terminals.Name) (then_tells (among_tells is_set refl) rhs_tells))
      (λ v ns h. subst (A.IsSimple (simples.Assign v.0.bytes (set_of v.1.0.terminal) v.1.1)) (sym h.whole)
      (A.assign_is v.0 (set_of v.1.0.terminal) v.1.1 h.prefix h.rest h.first (later h.second)))

  simple_tells : Tells m (simple o) A.IsSimple
  unfolding simple
  simple_tells = either_tells os.iff (either_tells assign_tells (map_tells rhs_tells (λ e ns h. A.value_is e ns h)))

  modifier_tells : Tells m (modifier o) (IsGuard A.IsValue)
  unfolding modifier
  modifier_tells =
      map_tells (then_tells (among_tells is_condition refl) cond_tells) (λ v ns h. record { cond = A.as_value v.1 ns (later h) })

  stmt_tells : Tells m (stmt o) A.IsStmt
  unfolding stmt
  stmt_tells =
      map_tells (with_its_tells (map_tells {S = A.IsForm} (then_tells simple_tells (maybe_tells modifier_tells))
      (λ v ns h. subst (A.IsForm (form_tree v.0 v.1)) (sym h.whole) (A.form_is v.0 v.1 h.prefix h.rest h.first h.second))))
      (λ v ns h. A.stmt_is v.0 v.1 ns h)

  line_tells : Tells m (line o) (Maybe A.IsStmt)
  unfolding line
  line_tells = map_tells (then_tells (terminal_tells terminals.Newline refl) (maybe_tells stmt_tells)) (λ v ns h. later h)

  block_tells : Tells m (block o) (InOrder A.IsStmt)
  unfolding block
  block_tells =
      map_tells (then_tells (maybe_tells stmt_tells) (many_tells line_tells))
      (λ v ns h. present_is A (v.0 ∷ v.1) ns (record { prefix = h.prefix; rest = h.rest; whole = h.whole; first = h.first; second = h.second.is }))

  elsif_tells : Tells m (elsif o) A.IsArm
  unfolding elsif
  elsif_tells =
      map_tells (then_tells (terminal_tells terminals.Elsif refl) (then_tells cond_tells (then_tells (terminal_tells terminals.Newline refl) block_tells)))
      (λ v ns h. let rest = later h in
      subst (A.IsArm (arm_tree false v.1.0 v.1.1.1)) (sym rest.whole) (A.arm_is false v.1.0 v.1.1.1 rest.prefix rest.rest (A.as_value v.1.0 rest.prefix rest.first) (later rest.second)))

  otherwise_tells : Tells m (otherwise o) (InOrder A.IsStmt)
  unfolding otherwise
  otherwise_tells = map_tells (then_tells (terminal_tells terminals.Else refl) block_tells) (λ v ns h. later h)

  parens_tells : Tells m (parens_of o) A.IsExpr
  unfolding parens_of
  parens_tells =
      map_tells (then_tells (among_tells is_paren_open refl) (then_tells cond_tells (terminal_tells terminals.ParenClose refl)))
      (λ v ns h. A.wrapped_is v.1.0 ns (sooner (later h)))

  list_tells : Tells m (list_of o) A.IsExpr
  unfolding list_of
  list_tells =
      map_tells (then_tells (among_tells is_list_open refl) (then_tells (maybe_tells items_tells) (terminal_tells terminals.ListClose refl)))
      (λ v ns h. A.list_is (all_of v.1.0) ns (all_is v.1.0 ns (sooner (later h))))
    where
      all_is : (es : Option (List Expr)) (ns : List X) → Maybe (InOrder A.IsValue) es ns → InOrder A.IsValue (all_of es) ns
      all_is None ns h = h.is
      all_is (Some es) ns h = h.is

  call_tells : Tells m (call_of_args o) (AreGiven A.IsValue A.IsOption)
  unfolding call_of_args
  call_tells =
      map_tells (then_tells (terminal_tells terminals.CallOpen refl) (then_tells (maybe_tells args_tells) (terminal_tells terminals.ParenClose refl)))
      (λ v ns h. given_is v.1.0 ns (sooner (later h)))
    where
      given_is : (given : Option Arguments) (ns : List X) → Maybe (AreGiven A.IsValue A.IsOption) given ns → AreGiven A.IsValue A.IsOption (arguments_of given) ns
      given_is None ns h = no_given A.IsValue A.IsOption ns h.is
      given_is (Some given) ns h = h.is

  index_tells : Tells m (index_of o) A.IsExpr
  unfolding index_of
  index_tells =
      map_tells (then_tells (terminal_tells terminals.IndexOpen refl) (then_tells expr_tells (terminal_tells terminals.ListClose refl))) (λ v ns h. sooner (later h))

  braces_tells : Tells m (braces_of o) A.IsWhole
  unfolding braces_of
  braces_tells =
      map_tells (then_tells (begin_tells terminals.BraceOpen refl) (then_tells (maybe_tells params_tells) (then_tells block_tells (terminal_tells terminals.BraceClose refl))))
      (λ v ns h. begun_block A v.0 v.1.0 v.1.1.0 ns h.prefix h.rest h.second.prefix h.second.rest h.whole h.first h.second.whole h.second.first (sooner h.second.second))

  doblock_tells : Tells m (doblock_of o) A.IsWhole
  unfolding doblock_of
  doblock_tells =
      map_tells (then_tells (begin_tells terminals.Do refl) (then_tells (maybe_tells params_tells) (then_tells (terminal_tells terminals.Newline refl)
      (then_tells block_tells (terminal_tells terminals.End refl)))))
      (λ v ns h. begun_block A v.0 v.1.0 v.1.1.1.0 ns h.prefix h.rest h.second.prefix h.second.rest h.whole h.first h.second.whole h.second.first (sooner (later h.second.second)))

  iff_tells : Tells m (iff_of o) A.IsSimple
  unfolding iff_of
  iff_tells =
      map_tells (then_tells (among_tells is_condition refl) (then_tells cond_tells (then_tells (terminal_tells terminals.Newline refl) (then_tells block_tells
      (then_tells (many_tells elsif_tells) (then_tells (maybe_tells otherwise_tells) (terminal_tells terminals.End refl)))))))
      (λ v ns h. let inner = later h in let stmts = later inner.second in let arms = stmts.second in
      iff_of_arms A (is_unless v.0.terminal) v.1.0 v.1.1.1.0 v.1.1.1.1.0 v.1.1.1.1.1.0 ns inner.prefix stmts.prefix arms.prefix arms.rest
      (inner.whole ∙ ap (λ z. inner.prefix ++ z) (stmts.whole ∙ ap (λ z. stmts.prefix ++ z) arms.whole))
      inner.first stmts.first arms.first.is (sooner arms.second))

-- Texts

module _ {X : Type 0} {m : Measure X} (A : Facts m) where
  opened_told : (n : ℕ) → Told A (opened n)
  unfolding opened
  opened_told zero = record {
    parens = nothing_tells;
    list = nothing_tells;
    call = nothing_tells;
    index = nothing_tells;
    braces = nothing_tells;
    doblock = nothing_tells;
    iff = nothing_tells;
  }
  opened_told (suc n) =
      let told = opened_told n in
      record {
        parens = parens_tells A (opened n) told;
        list = list_tells A (opened n) told;
        call = call_tells A (opened n) told;
        index = index_tells A (opened n) told;
        braces = braces_tells A (opened n) told;
        doblock = doblock_tells A (opened n) told;
        iff = iff_tells A (opened n) told;
      }

  pub statements_told : (n : ℕ) → Tells m (block (opened n)) (InOrder A.IsStmt)
  statements_told n = block_tells A (opened n) (opened_told n)
