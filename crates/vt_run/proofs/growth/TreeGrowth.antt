-- One induction over the tree: what is kept by the parts of a run holds of the meaning of each part.
use Rattle.std.specs.Prelude.{IsTrue, nat_lt}
use Rattle.std.specs.List.{AllByRecursion}
use Rattle.std.proofs.lemmas.List.Elements.{recursion_from_All}
use Rattle.std.proofs.Common.{◌≡◌, ℕ, zero, suc, List, [], ◌∷◌, map, Bool, true, false, cond, not, Option, Some, None, IfSome, Result, Ok, refl, ap, sym, ◌∙◌, subst}
use Rattle.vt_table.specs.Calls.{call_named}
use Rattle.vt_tree.specs.declared.expression.Node.{Node, out-Node, roll-out-Node, map-Node}
use Rattle.vt_tree.specs.declared.statement.Simple.{Simple, out-Simple, roll-out-Simple, map-Simple}
use Rattle.vt_tree.specs.declared.statement.StmtForm.{StmtForm, out-StmtForm, roll-out-StmtForm, map-StmtForm}
use Rattle.vt_tree.specs.declared.expression.Call.{Call, out-Call, roll-out-Call, map-Call}
use Rattle.vt_tree.specs.declared.expression.Expr.{Expr, out-Expr, roll-out-Expr, map-Expr}
use Rattle.vt_tree.specs.declared.expression.Link.{Link, out-Link, roll-out-Link, map-Link}
use Rattle.vt_tree.specs.declared.statement.Arm.{Arm, out-Arm, roll-out-Arm, map-Arm}
use Rattle.vt_tree.specs.declared.statement.Block.{Block, out-Block, roll-out-Block, map-Block}
use Rattle.vt_tree.specs.declared.statement.Stmt.{Stmt, out-Stmt, roll-out-Stmt, map-Stmt}
use Rattle.vt_tree.specs.declared.expression.Node.TheOpen.{Node-F, Simple-F, StmtForm-F, Call-F, Expr-F, Link-F, Arm-F, Block-F, Stmt-F}
use Rattle.vt_tree.specs.declared.expression.Node.TheFolds.{fold-Node, fold-roll-Node, fold-Simple, fold-roll-Simple, fold-StmtForm, fold-roll-StmtForm, fold-Call, fold-roll-Call, fold-Expr, fold-roll-Expr, fold-Link, fold-roll-Link, fold-Arm, fold-roll-Arm, fold-Block, fold-roll-Block, fold-Stmt, fold-roll-Stmt}
use Rattle.vt_tree.specs.WellFormed.{GoodCall, GoodNode, GoodSimple}
use Rattle.vt_tree.specs.declared.expression.ChainOp.{ChainOp}
use Rattle.vt_tree.specs.declared.expression.ChainOp.TheVariants.{And, Or, Eq, Ne, Lt, Le, Gt, Ge, Add, Sub, Mul, Div, Rem}
use Rattle.vt_tree.specs.declared.statement.AssignOp.{AssignOp}
use Rattle.vt_tree.specs.declared.statement.AssignOp.TheVariants as assign_by
use Rattle.vt_tree.specs.Layers.{OfTrees}
use Rattle.vt_value.specs.declared.arithmetic.ArithOp.TheVariants as arith_op
use Rattle.vt_value.specs.declared.comparison.OrderOp.{OrderOp}
use Rattle.vt_value.specs.declared.comparison.OrderOp.TheVariants as order
use Rattle.vt_value.specs.declared.fault.FaultKind.{FaultKind}
use Rattle.vt_value.specs.declared.value.Value.{Value}
use Rattle.vt_value.specs.declared.value.Value.TheVariants.{Nil, Bool as Truth}
use Rattle.vt_value.specs.Arithmetic.{arith_of, ring_within}
use Rattle.vt_value.specs.Kinds.{is_truthy}
use Rattle.vt_value.specs.Same.{same_as}
use Rattle.vt_value.specs.Limits.{AreWithin, IsWithin}
use Rattle.vt_event.specs.Pairs.{Pairs}
use Rattle.vt_run.specs.declared.state.State.{State}
use Rattle.vt_run.specs.Actions.{or_fails}
use Rattle.vt_run.specs.calls.Arguments.{no_arguments}
use Rattle.vt_run.specs.Costs.{node_size}
use Rattle.vt_run.specs.calls.EffectTable.{calls_name}
use Rattle.vt_run.specs.Environment.{Env, Meaning}
use Rattle.vt_run.specs.Limits.{ArePairsWithin}
use Rattle.vt_run.specs.Operators.{by_both, compares, index_of, linked, links, literal_value, unary_of}
use Rattle.vt_run.specs.Scopes.{BlockMeaning, assigned, branch, enters, inside_pairs, lookup, pair_if, row, with_locals}
use Rattle.vt_run.specs.Evaluation.{Next, Ran, Spot, after, gives, charges}
use Rattle.vt_run.specs.TreeMeaning.{ArmMeaning, CallMeaning, LinkMeaning, OfMeanings, arm_layer, assigned_value, at_meanings, bare_name, block_layer, branches, by_layers, call_layer, chained, expr_layer, form_layer, is_met, link_layer, local_or_call, node_body, node_layer, noded, options_of, otherwise, simple_layer, sized, stmt_layer, values_of}
use Rattle.vt_run.proofs.facts.BlocksOfTexts.{FitBlock}
use Rattle.vt_run.proofs.growth.CallGrowth.{BlockFits, BlockGrows, calls_name_grows, numbered, with_pairs}
use Rattle.vt_check.specs.Written.{literal_at, literal_of}
use Rattle.vt_tree.specs.declared.expression.Literal.{Literal}
use Rattle.vt_value.specs.declared.fault.FaultKind.TheVariants.{TooDeep}
use Rattle.vt_run.specs.Actions.{fails}
use Rattle.vt_run.specs.calls.Arguments.{Given}
use Rattle.vt_run.specs.Evaluation.{Left}
use Rattle.vt_run.proofs.steps.ThreadEnds.{fails_nothing}
use Rattle.vt_run.proofs.facts.Known.{IsGivenWithin}
use Rattle.vt_run.proofs.growth.Rules.{AreAsWritten, IsAllowed, IsAsWritten, MayAssign, MayCall, MayDo, MayName, MayNode, MaySimple, OptionsAsWritten, allowed_layers, bare_may, number_in}
use Rattle.vt_run.proofs.growth.Closures.{follows, MeaningGrows, Two, charges_keep, cond_keeps, enters_keep, gives_like, high, low, or_fails_keeps, tick_keeps}
use Rattle.vt_run.proofs.facts.Known.{IsStateWithin, like}
use Rattle.vt_run.proofs.facts.PairFacts.{assigned_within, lookup_if}
use Rattle.vt_run.proofs.facts.TreeFacts.{given_within, label_symbol, nothing_given}
use Rattle.vt_run.proofs.growth.TreeInduction.{HeldArm, HeldBlock, HeldCall, HeldExpr, HeldLink, HeldNode, HeldSimple, HeldStmt, HeldStmtForm, Predicates, TreeSteps, With, bare_arm, bare_block, bare_call, bare_expr, bare_form, bare_link, bare_node, bare_simple, bare_stmt, ind_where}
use Rattle.vt_run.proofs.facts.OperatorFacts.{compares_within, index_within, literal_within, unary_within}
use Rattle.vt_ring.proofs.limits.Values.{ring_within_known, within_bool, within_nil}
use Rattle.vt_ring.proofs.limits.Arithmetic.{arith_within}
use Rattle.vt_frac.specs.Names.{IsName, is_label_name}

ok_same : {A E : Type 0} {a b : A} → (let x : Result A E = Ok a in x) ≡ Ok b → a ≡ b
ok_same e = cc

-- a call of a name is related after every receiver, if it may stand after a dot
abbrev pub CallGrows : Two → List ℕ → CallMeaning → Type 0
CallGrows two name call = (receiver : Option Value) → (two.e.L → IfSome receiver IsWithin) → (two.e.L → IfSome receiver (λ value. two.e.rules.Dotted name)) → MeaningGrows two (call receiver)

-- a link after every value
abbrev pub LinkGrows : Two → LinkMeaning → Type 0
LinkGrows two link = (value : Value) → (two.e.L → IsWithin value) → MeaningGrows two (link value)

-- a branch before every other that is related
abbrev pub ArmGrows : Two → ArmMeaning → Type 0
ArmGrows two arm = (other : Meaning) → MeaningGrows two other → MeaningGrows two (arm other)

abbrev pub node_m : Node → Meaning
node_m = by_layers (at_meanings fold-Node)

abbrev pub simple_m : Simple → Meaning
simple_m = by_layers (at_meanings fold-Simple)

abbrev pub form_m : StmtForm → Meaning
form_m = by_layers (at_meanings fold-StmtForm)

abbrev pub call_m : Call → CallMeaning
call_m = by_layers (at_meanings fold-Call)

abbrev pub expr_m : Expr → Meaning
expr_m = by_layers (at_meanings fold-Expr)

abbrev pub link_m : Link → LinkMeaning
link_m = by_layers (at_meanings fold-Link)

abbrev pub arm_m : Arm → ArmMeaning
arm_m = by_layers (at_meanings fold-Arm)

abbrev pub block_m : Block → BlockMeaning
block_m = by_layers (at_meanings fold-Block)

abbrev pub stmt_m : Stmt → Meaning
stmt_m = by_layers (at_meanings fold-Stmt)

-- a layer of the tree as a layer of meanings
abbrev node_of : OfTrees Node-F → OfMeanings Node-F
node_of = at_meanings (map-Node Node Simple StmtForm Call Expr Link Arm Block Stmt) node_m simple_m form_m call_m expr_m link_m arm_m block_m stmt_m

abbrev simple_of : OfTrees Simple-F → OfMeanings Simple-F
simple_of = at_meanings (map-Simple Node Simple StmtForm Call Expr Link Arm Block Stmt) node_m simple_m form_m call_m expr_m link_m arm_m block_m stmt_m

abbrev form_of : OfTrees StmtForm-F → OfMeanings StmtForm-F
form_of = at_meanings (map-StmtForm Node Simple StmtForm Call Expr Link Arm Block Stmt) node_m simple_m form_m call_m expr_m link_m arm_m block_m stmt_m

abbrev call_of : OfTrees Call-F → OfMeanings Call-F
call_of = at_meanings (map-Call Node Simple StmtForm Call Expr Link Arm Block Stmt) node_m simple_m form_m call_m expr_m link_m arm_m block_m stmt_m

abbrev expr_of : OfTrees Expr-F → OfMeanings Expr-F
expr_of = at_meanings (map-Expr Node Simple StmtForm Call Expr Link Arm Block Stmt) node_m simple_m form_m call_m expr_m link_m arm_m block_m stmt_m

abbrev link_of : OfTrees Link-F → OfMeanings Link-F
link_of = at_meanings (map-Link Node Simple StmtForm Call Expr Link Arm Block Stmt) node_m simple_m form_m call_m expr_m link_m arm_m block_m stmt_m

abbrev arm_of : OfTrees Arm-F → OfMeanings Arm-F
arm_of = at_meanings (map-Arm Node Simple StmtForm Call Expr Link Arm Block Stmt) node_m simple_m form_m call_m expr_m link_m arm_m block_m stmt_m

abbrev block_of : OfTrees Block-F → OfMeanings Block-F
block_of = at_meanings (map-Block Node Simple StmtForm Call Expr Link Arm Block Stmt) node_m simple_m form_m call_m expr_m link_m arm_m block_m stmt_m

abbrev stmt_of : OfTrees Stmt-F → OfMeanings Stmt-F
stmt_of = at_meanings (map-Stmt Node Simple StmtForm Call Expr Link Arm Block Stmt) node_m simple_m form_m call_m expr_m link_m arm_m block_m stmt_m

-- each meaning is made by its layer
node_is : (x : Node) → node_m x ≡ node_layer (node_of (out-Node x))
node_is x = ap node_m (sym (roll-out-Node x)) ∙ by_layers (at_meanings fold-roll-Node) (out-Node x)

simple_is : (x : Simple) → simple_m x ≡ simple_layer (simple_of (out-Simple x))
simple_is x = ap simple_m (sym (roll-out-Simple x)) ∙ by_layers (at_meanings fold-roll-Simple) (out-Simple x)

form_is : (x : StmtForm) → form_m x ≡ form_layer (form_of (out-StmtForm x))
form_is x = ap form_m (sym (roll-out-StmtForm x)) ∙ by_layers (at_meanings fold-roll-StmtForm) (out-StmtForm x)

call_is : (x : Call) → call_m x ≡ call_layer (call_of (out-Call x))
call_is x = ap call_m (sym (roll-out-Call x)) ∙ by_layers (at_meanings fold-roll-Call) (out-Call x)

expr_is : (x : Expr) → expr_m x ≡ expr_layer (expr_of (out-Expr x))
expr_is x = ap expr_m (sym (roll-out-Expr x)) ∙ by_layers (at_meanings fold-roll-Expr) (out-Expr x)

link_is : (x : Link) → link_m x ≡ link_layer (link_of (out-Link x))
link_is x = ap link_m (sym (roll-out-Link x)) ∙ by_layers (at_meanings fold-roll-Link) (out-Link x)

arm_is : (x : Arm) → arm_m x ≡ arm_layer (arm_of (out-Arm x))
arm_is x = ap arm_m (sym (roll-out-Arm x)) ∙ by_layers (at_meanings fold-roll-Arm) (out-Arm x)

pub block_is : (x : Block) → block_m x ≡ block_layer (block_of (out-Block x))
block_is x = ap block_m (sym (roll-out-Block x)) ∙ by_layers (at_meanings fold-roll-Block) (out-Block x)

stmt_is : (x : Stmt) → stmt_m x ≡ stmt_layer (stmt_of (out-Stmt x))
stmt_is x = ap stmt_m (sym (roll-out-Stmt x)) ∙ by_layers (at_meanings fold-roll-Stmt) (out-Stmt x)

-- what is shown of each part of a tree
abbrev pub grown : Two → Predicates
grown two = record {
  node = λ x. MeaningGrows two (node_m x);
  simple = λ x. MeaningGrows two (simple_m x);
  form = λ x. MeaningGrows two (form_m x);
  call = λ x. CallGrows two (out-Call x).name (call_m x);
  expr = λ x. MeaningGrows two (expr_m x);
  link = λ x. LinkGrows two (link_m x);
  arm = λ x. ArmGrows two (arm_m x);
  block = λ x. BlockFits two (block_m x);
  stmt = λ x. MeaningGrows two (stmt_m x);
}

module _ (two : Two) where
  abbrev Stays : State → Type 0
  Stays st = two.e.L → IsStateWithin st

  abbrev node_from : HeldNode (grown two) → OfMeanings Node-F
  node_from y = node_of (bare_node (grown two) y)

  abbrev simple_from : HeldSimple (grown two) → OfMeanings Simple-F
  simple_from y = simple_of (bare_simple (grown two) y)

  abbrev form_from : HeldStmtForm (grown two) → OfMeanings StmtForm-F
  form_from y = form_of (bare_form (grown two) y)

  abbrev call_from : HeldCall (grown two) → OfMeanings Call-F
  call_from y = call_of (bare_call (grown two) y)

  abbrev expr_from : HeldExpr (grown two) → OfMeanings Expr-F
  expr_from y = expr_of (bare_expr (grown two) y)

  abbrev link_from : HeldLink (grown two) → OfMeanings Link-F
  link_from y = link_of (bare_link (grown two) y)

  abbrev arm_from : HeldArm (grown two) → OfMeanings Arm-F
  arm_from y = arm_of (bare_arm (grown two) y)

  abbrev block_from : HeldBlock (grown two) → OfMeanings Block-F
  block_from y = block_of (bare_block (grown two) y)

  abbrev stmt_from : HeldStmt (grown two) → OfMeanings Stmt-F
  stmt_from y = stmt_of (bare_stmt (grown two) y)

  given : (value : Value) (st : State) → (two.e.L → IsWithin value) → Stays st → two.R two.n st (gives value st) (gives value st)
  given value st v s = two.has.given two.n value st v s

  noded_grows : (part : Meaning) → MeaningGrows two part → MeaningGrows two (noded part)
  noded_grows part h at st s = tick_keeps two (follows two _ _ sized sized (h at st s) (λ l v t. charges_keep two (node_size l.value) (given l.value l.state v t)))

  -- the value of a literal is the one that is written
  literal_node : (node : OfTrees Node-F) (literal : Literal) → literal_at node ≡ Some literal → node ≡ Node-F.Literal literal
  literal_node (Node-F.Literal value) literal is = let same : value ≡ literal = cc in ap (λ (l : Literal). Node-F.Literal l) same
  literal_node (Node-F.Name name) literal is = absurd cc
  literal_node (Node-F.Call call) literal is = absurd cc
  literal_node (Node-F.List items) literal is = absurd cc
  literal_node (Node-F.Index of at) literal is = absurd cc
  literal_node (Node-F.Dot of call) literal is = absurd cc
  literal_node (Node-F.Unary op of) literal is = absurd cc
  literal_node (Node-F.Chain kind first rest) literal is = absurd cc

  -- whatever a part leaves has this value
  abbrev LeavesOnly : Meaning → Value → Type 0
  LeavesOnly part value = (env : Env) (at : Spot) (st : State) (l : Left) → (part env at st).left ≡ Some l → l.value ≡ value

  charged : (size : ℕ) (value : Value) (st : State) (l : Left) → (charges size (gives value st)).left ≡ Some l → l.value ≡ value
  charged zero value st l is = let same : l ≡ record { value = value; state = st } = cc in ap (λ (x : Left). x.value) same
  charged (suc size) value st l is = let same : l ≡ record { value = value; state = st } = cc in ap (λ (x : Left). x.value) same

  literal_leaves : (value : Value) → LeavesOnly (noded (λ env at st. gives value st)) value
  literal_leaves value env at st l is = charged (node_size value) value st l is

  enters_leaves : (deep : Bool) (ran : Ran) (kind : FaultKind) (env : Env) (at : Spot) (st : State) (value : Value) → ((l : Left) → ran.left ≡ Some l → l.value ≡ value) →
      (l : Left) → (cond deep ran (fails kind env at st)).left ≡ Some l → l.value ≡ value
  enters_leaves true ran kind env at st value h l is = h l is
  enters_leaves false ran kind env at st value h l is = absurd (let z : None ≡ Some l = sym (fails_nothing kind env at st) ∙ is in cc)

  inside_leaves : (wraps : ℕ) (part : Meaning) (value : Value) → LeavesOnly part value → LeavesOnly (inside_pairs wraps part) value
  inside_leaves zero part value h env at st l is = h env at st l is
  inside_leaves (suc n) part value h env at st l is = enters_leaves (nat_lt at.depth 256) _ TooDeep env at st value (inside_leaves n part value h env _ st) l is

  expr_leaves : (e : Expr) (literal : Literal) → literal_of e ≡ Some literal → LeavesOnly (expr_m e) (literal_value literal)
  expr_leaves e literal is =
      let node = (out-Expr e).node in
      let made = node_is node ∙ ap (λ z. node_layer (node_of z)) (literal_node (out-Node node) literal is) in
      subst (λ (m : Meaning). LeavesOnly m (literal_value literal)) (sym (expr_is e))
      (inside_leaves (out-Expr e).wraps (node_m node) (literal_value literal) (subst (λ (m : Meaning). LeavesOnly m (literal_value literal)) (sym made) (literal_leaves (literal_value literal))))

  as_written : (e : Expr) (found : Option Literal) → literal_of e ≡ found → (env : Env) (at : Spot) (st : State) (l : Left) → (expr_m e env at st).left ≡ Some l → IsAsWritten found l.value
  as_written e None is env at st l left = tt
  as_written e (Some literal) is env at st l left = expr_leaves e literal is env at st l left

  -- what comes next of an argument, as it is written
  item_keeps : (e : Expr) → MeaningGrows two (expr_m e) → (at : Spot) (st : State) → Stays st → (next next' : Next) →
      ((value : Value) → (two.e.L → IsWithin value) → IsAsWritten (literal_of e) value → (st : State) → Stays st → two.R two.n st (next value st) (next' value st)) →
      two.R two.n st (after (expr_m e (low two) at st) next) (after (expr_m e (high two) at st) next')
  item_keeps e grows at st s next next' h =
      two.has.followed _ _ next next' (grows at st s) (λ l left v t. h l.value v (as_written e (literal_of e) refl (low two) at st l left) l.state t)

  values_keep : (items : List (With (grown two).expr)) (at : Spot) (st : State) → Stays st → (go go' : List Value → State → Ran) → ((values : List Value) → (two.e.L → AreWithin values) → AreAsWritten (map (λ p. p.0) items) values → (st : State) → Stays st → two.R two.n st (go values st) (go' values st)) →
      two.R two.n st (values_of (map expr_m (map (λ p. p.0) items)) (low two) at st go) (values_of (map expr_m (map (λ p. p.0) items)) (high two) at st go')
  values_keep [] at st s go go' k = k [] (λ x. tt) tt st s
  values_keep (item ∷ items) at st s go go' k =
      let next = λ (env : Env) (go : List Value → State → Ran) (value : Value) (st : State). values_of (map expr_m (map (λ p. p.0) items)) env at st (λ values st. go (value ∷ values) st) in
      item_keeps item.0 item.1 at st s (next (low two) go) (next (high two) go') (λ value v w st t.
      values_keep items at st t (λ values st. go (value ∷ values) st) (λ values st. go' (value ∷ values) st) (λ values vs ws st s. k (value ∷ values) (λ x. (v x, vs x)) (w, ws) st s))

  -- the names of options are those of labels
  abbrev Labelled : HeldCall (grown two) → Type 0
  Labelled y = AllByRecursion (λ (option : List ℕ × Expr). IsTrue (is_label_name option.0)) (bare_call (grown two) y).options

  options_keep : (y : HeldCall (grown two)) (labelled : List (List ℕ × With (grown two).expr)) → (two.e.L → Labelled (record y { options = labelled })) → (at : Spot) (st : State) → Stays st → (go go' : Pairs → State → Ran) → ((options : Pairs) → (two.e.L → ArePairsWithin options) → OptionsAsWritten (bare_call (grown two) (record y { options = labelled })).options options → (st : State) → Stays st → two.R two.n st (go options st) (go' options st)) →
      two.R two.n st (options_of (call_from (record y { options = labelled })).options (low two) at st go) (options_of (call_from (record y { options = labelled })).options (high two) at st go')
  options_keep y [] names at st s go go' k = k [] (λ x. tt) tt st s
  options_keep y (option ∷ rest) names at st s go go' k =
      let next = λ (env : Env) (go : Pairs → State → Ran) (value : Value) (st : State). options_of (call_from (record y { options = rest })).options env at st (λ options st. go ((option.0, value) ∷ options) st) in
      item_keeps option.1.0 option.1.1 at st s (next (low two) go) (next (high two) go') (λ value v w st t.
      options_keep y rest (λ x. (names x).1) at st t (λ options st. go ((option.0, value) ∷ options) st) (λ options st. go' ((option.0, value) ∷ options) st) (λ options os ws st s.
      k ((option.0, value) ∷ options) (λ x. (record { name = (names x).0; value = v x }, os x)) (refl, w, ws) st s))

  block_there : (y : HeldCall (grown two)) (block : Option (With (grown two).block)) → BlockGrows two (call_from (record y { block = block })).block
  block_there y None = tt
  block_there y (Some block) = block.1

  number_is : (block : Block) → (block_m block).number ≡ (out-Block block).number
  number_is block = ap (λ (m : BlockMeaning). m.number) (block_is block)

  numbers_are : (y : HeldCall (grown two)) (block : Option (With (grown two).block)) → number_in (bare_call (grown two) (record y { block = block })).block ≡ numbered (call_from (record y { block = block })).block
  numbers_are y None = refl
  numbers_are y (Some block) = ap (λ n. Some n) (sym (number_is block.0))

  pair_keeps : (wrapped : Bool) (at : Spot) (st : State) → Stays st → (go go' : Spot → Ran) → ((at : Spot) → two.R two.n st (go at) (go' at)) → two.R two.n st (pair_if wrapped (low two) at st go) (pair_if wrapped (high two) at st go')
  pair_keeps true at st s go go' h = enters_keep two at st go go' s h
  pair_keeps false at st s go go' h = h at

  call_grows : (y : HeldCall (grown two)) → (two.e.L → GoodCall (bare_call (grown two) y) × MayDo two.e.rules two.text (bare_call (grown two) y)) → CallGrows two (bare_call (grown two) y).name (call_layer (call_from y))
  call_grows y here receiver r dotted =
      let last : Env → Spot → List Value → Pairs → State → Ran = λ env at args options st. calls_name (call_named y.name) y.name (record { receiver = receiver; args = args; options = options }) (call_from y).block env at st in
      let optioned : Env → Spot → Spot → List Value → State → Ran = λ env at inner args st. options_of (call_from y).options env inner st (last env at args) in
      let inside : Env → Spot → State → Spot → Ran = λ env at st inner. values_of (call_from y).args env inner st (optioned env at inner) in
      λ at st s.
      pair_keeps y.wrapped at st s (inside (low two) at st) (inside (high two) at st) (λ inner.
      values_keep y.args inner st s (optioned (low two) at inner) (optioned (high two) at inner) (λ args vs ws st s.
      options_keep y y.options (λ x. recursion_from_All _ _ (here x).0.labels) inner st s (last (low two) at args) (last (high two) at args) (λ options os zs st s.
      let given : Given = record { receiver = receiver; args = args; options = options } in
      let fits : two.e.L → IsGivenWithin given = λ x. given_within receiver args options (r x) (vs x) (os x) in
      calls_name_grows two (call_named y.name) y.name given (call_from y).block
      (λ x. label_symbol y.name (here x).0.name.form) fits (block_there y y.block)
      (λ x. subst (MayCall two.e.rules two.text (call_named y.name) y.name given) (numbers_are y y.block) ((here x).1 given (record { receiver = dotted x; args = ws; options = zs; within = fits x }))) at st s)))

  local_grows : (found : Option Value) (name : List ℕ) → (two.e.L → IfSome found IsWithin) → (two.e.L → IsName name) → (two.e.L → MayName two.e.rules name) → MeaningGrows two (local_or_call found name)
  local_grows (Some value) name v n may at st s = given value st v s
  local_grows None name v n may at st s =
      calls_name_grows two (call_named name) name no_arguments None (λ x. label_symbol name (n x).form) (λ x. nothing_given) tt (λ x. bare_may two.e.rules two.text name (may x)) at st s

  bare_name_grows : (name : List ℕ) → (two.e.L → IsName name) → (two.e.L → MayName two.e.rules name) → MeaningGrows two (bare_name name)
  bare_name_grows name n may at st s = local_grows (lookup name st.locals) name (λ x. lookup_if name st.locals (s x).pairs) n may at st s

  -- an operator between values within the limits gives one
  abbrev Operates : (Value → Value → Result Value FaultKind) → Type 0
  Operates operator = (a b result : Value) → IsWithin a → IsWithin b → operator a b ≡ Ok result → IsWithin result

  by_both_grows : (operator : Value → Value → Result Value FaultKind) → Operates operator → (value : Value) → (two.e.L → IsWithin value) → (part : Meaning) → MeaningGrows two part → MeaningGrows two (by_both operator value part)
  by_both_grows operator good value v part h at st s =
      let next = λ (env : Env) (other : Value) (st : State). or_fails (operator value other) env at st (λ result. gives result st) in
      follows two _ _ (next (low two)) (next (high two)) (h at st s) (λ l w t.
      or_fails_keeps two (operator value l.value) at l.state (λ result. gives result l.state) (λ result. gives result l.state) t (λ result is. given result l.state (λ x. good value l.value result (v x) (w x) is) t))

  truth_of : (test : Value → Value → Bool) → Operates (λ v w. Ok (Truth (test v w)))
  truth_of test a b result v w is = subst IsWithin (ok_same is) (within_bool (test a b))

  compared : (op : OrderOp) → Operates (compares op)
  compared op a b result v w is = compares_within op a b result is

  linked_grows : (op : ChainOp) (value : Value) → (two.e.L → IsWithin value) → (part : Meaning) → MeaningGrows two part → MeaningGrows two (linked op value part)
  unfolding linked
  linked_grows And value v part h at st s = cond_keeps two (is_truthy value) (h at st s) (given value st v s)
  linked_grows Or value v part h at st s = cond_keeps two (is_truthy value) (given value st v s) (h at st s)
  linked_grows Eq value v part h at st s = by_both_grows (λ v w. Ok (Truth (same_as v w))) (truth_of same_as) value v part h at st s
  linked_grows Ne value v part h at st s = by_both_grows (λ v w. Ok (Truth (not (same_as v w)))) (truth_of (λ v w. not (same_as v w))) value v part h at st s
  linked_grows Lt value v part h at st s = by_both_grows (compares order.Lt) (compared order.Lt) value v part h at st s
  linked_grows Le value v part h at st s = by_both_grows (compares order.Le) (compared order.Le) value v part h at st s
  linked_grows Gt value v part h at st s = by_both_grows (compares order.Gt) (compared order.Gt) value v part h at st s
  linked_grows Ge value v part h at st s = by_both_grows (compares order.Ge) (compared order.Ge) value v part h at st s
  linked_grows Add value v part h at st s = by_both_grows (arith_of arith_op.Add) (arith_within arith_op.Add) value v part h at st s
  linked_grows Sub value v part h at st s = by_both_grows (arith_of arith_op.Sub) (arith_within arith_op.Sub) value v part h at st s
  linked_grows Mul value v part h at st s = by_both_grows (arith_of arith_op.Mul) (arith_within arith_op.Mul) value v part h at st s
  linked_grows Div value v part h at st s = by_both_grows (arith_of arith_op.Div) (arith_within arith_op.Div) value v part h at st s
  linked_grows Rem value v part h at st s = by_both_grows (arith_of arith_op.Rem) (arith_within arith_op.Rem) value v part h at st s

  links_grow : (rest : List (With (grown two).link)) (value : Value) → (two.e.L → IsWithin value) → MeaningGrows two (links (map link_m (map (λ p. p.0) rest)) value)
  links_grow [] value v at st s = given value st v s
  links_grow (link ∷ rest) value v at st s =
      let next = λ (env : Env) (value : Value) (st : State). links (map link_m (map (λ p. p.0) rest)) value env at st in
      follows two _ _ (next (low two)) (next (high two)) (link.1 value v at st s) (λ l w t. links_grow rest l.value w at l.state t)

  body_grows : (y : HeldNode (grown two)) → (two.e.L → GoodNode (bare_node (grown two) y) × MayNode two.e.rules (bare_node (grown two) y)) → MeaningGrows two (node_body (node_from y))
  body_grows (Node-F.Literal literal) here at st s = given (literal_value literal) st (λ x. literal_within literal (here x).0) s
  body_grows (Node-F.Name name) here at st s = bare_name_grows name (λ x. (here x).0) (λ x. (here x).1) at st s
  body_grows (Node-F.Call call) here at st s = call.1 None (λ x. tt) (λ x. tt) at st s
  body_grows (Node-F.List items) here at st s =
      let last = λ (env : Env) (values : List Value) (st : State). or_fails (ring_within values) env at st (λ ring. gives ring st) in
      let go = λ (env : Env) (deep : Spot). values_of (map expr_m (map (λ p. p.0) items)) env deep st (last env) in
      enters_keep two at st (go (low two)) (go (high two)) s (λ deep.
      values_keep items deep st s (last (low two)) (last (high two)) (λ values vs ws st s.
      or_fails_keeps two (ring_within values) at st (λ ring. gives ring st) (λ ring. gives ring st) s (λ ring is. given ring st (λ x. ring_within_known values ring is (vs x)) s)))
  body_grows (Node-F.Index of index) here at st s =
      let last = λ (env : Env) (value : Value) (place : Value) (st : State). or_fails (index_of value place) env at st (λ item. gives item st) in
      let inner = λ (env : Env) (value : Value) (st : State) (deep : Spot). after (expr_m index.0 env deep st) (last env value) in
      let next = λ (env : Env) (value : Value) (st : State). enters env at st (inner env value st) in
      follows two _ _ (next (low two)) (next (high two)) (of.1 at st s) (λ l v t.
      enters_keep two at l.state (inner (low two) l.value l.state) (inner (high two) l.value l.state) t (λ deep.
      follows two _ _ (last (low two) l.value) (last (high two) l.value) (index.1 deep l.state t) (λ m w u.
      or_fails_keeps two (index_of l.value m.value) at m.state (λ item. gives item m.state) (λ item. gives item m.state) u (λ item is. given item m.state (λ x. index_within l.value m.value item (v x) (w x) is) u))))
  body_grows (Node-F.Dot of call) here at st s =
      let next = λ (env : Env) (value : Value) (st : State). call_m call.0 (Some value) env at st in
      follows two _ _ (next (low two)) (next (high two)) (of.1 at st s) (λ l v t. call.1 (Some l.value) v (λ x. (here x).1) at l.state t)
  body_grows (Node-F.Unary op of) here at st s =
      let next = λ (env : Env) (value : Value) (st : State). or_fails (unary_of op value) env at st (λ result. gives result st) in
      follows two _ _ (next (low two)) (next (high two)) (of.1 at st s) (λ l v t.
      or_fails_keeps two (unary_of op l.value) at l.state (λ result. gives result l.state) (λ result. gives result l.state) t (λ result is. given result l.state (λ x. unary_within op l.value result (v x) is) t))
  body_grows (Node-F.Chain kind first rest) here at st s =
      let next = λ (env : Env) (value : Value) (st : State). links (map link_m (map (λ p. p.0) rest)) value env at st in
      follows two _ _ (next (low two)) (next (high two)) (first.1 at st s) (λ l v t. links_grow rest l.value v at l.state t)

  node_grows : (y : HeldNode (grown two)) → (two.e.L → GoodNode (bare_node (grown two) y) × MayNode two.e.rules (bare_node (grown two) y)) → MeaningGrows two (node_layer (node_from y))
  node_grows y here at st s = noded_grows (node_body (node_from y)) (body_grows y here) at st s

  inside_grows : (wraps : ℕ) (part : Meaning) → MeaningGrows two part → MeaningGrows two (inside_pairs wraps part)
  inside_grows zero part h at st s = h at st s
  inside_grows (suc n) part h at st s =
      let go = λ (env : Env) (deep : Spot). inside_pairs n part env deep st in
      enters_keep two at st (go (low two)) (go (high two)) s (λ deep. inside_grows n part h deep st s)

  expr_grows : (y : HeldExpr (grown two)) → MeaningGrows two (expr_layer (expr_from y))
  expr_grows y at st s = inside_grows y.wraps (node_m y.node.0) y.node.1 at st s

  link_grows : (y : HeldLink (grown two)) → LinkGrows two (link_layer (link_from y))
  link_grows y value v at st s = linked_grows y.op value v (expr_m y.part.0) y.part.1 at st s

  row_grows : (stmts : List (With (grown two).stmt)) (value : Value) → (two.e.L → IsWithin value) → MeaningGrows two (row (map stmt_m (map (λ p. p.0) stmts)) value)
  row_grows [] value v at st s = given value st v s
  row_grows (stmt ∷ stmts) value v at st s =
      let next = λ (env : Env) (value : Value) (st : State). row (map stmt_m (map (λ p. p.0) stmts)) value env at st in
      follows two _ _ (next (low two)) (next (high two)) (stmt.1 at st s) (λ l w t. row_grows stmts l.value w at l.state t)

  branch_grows : (stmts : List (With (grown two).stmt)) → MeaningGrows two (branch (map stmt_m (map (λ p. p.0) stmts)))
  branch_grows stmts at st s =
      let go = λ (env : Env) (deep : Spot). row (map stmt_m (map (λ p. p.0) stmts)) Nil env deep st in
      enters_keep two at st (go (low two)) (go (high two)) s (λ deep. row_grows stmts Nil (λ x. within_nil) deep st s)

  arm_grows : (y : HeldArm (grown two)) → ArmGrows two (arm_layer (arm_from y))
  arm_grows y other h at st s =
      let next = λ (env : Env) (value : Value) (st : State). cond (is_met y.unless value) (branch (map stmt_m (map (λ p. p.0) y.stmts)) env at st) (other env at st) in
      follows two _ _ (next (low two)) (next (high two)) (y.cond.1 at st s) (λ l v t. cond_keeps two (is_met y.unless l.value) (branch_grows y.stmts at l.state t) (h at l.state t))

  branches_grow : (arms : List (With (grown two).arm)) (other : Meaning) → MeaningGrows two other → MeaningGrows two (branches (map arm_m (map (λ p. p.0) arms)) other)
  branches_grow [] other h at st s = h at st s
  branches_grow (arm ∷ arms) other h at st s = arm.1 (branches (map arm_m (map (λ p. p.0) arms)) other) (branches_grow arms other h) at st s

  otherwise_grows : (arms : List (With (grown two).arm)) (other : Option (List (With (grown two).stmt))) → MeaningGrows two (simple_layer (simple_from (Simple-F.Iff arms other)))
  otherwise_grows arms None at st s = branches_grow arms (otherwise None) (λ at st s. given Nil st (λ x. within_nil) s) at st s
  otherwise_grows arms (Some stmts) at st s = branches_grow arms (otherwise (Some (map stmt_m (map (λ p. p.0) stmts)))) (branch_grows stmts) at st s

  operated_grows : (op : ChainOp) (name : List ℕ) → (two.e.L → IsName name) → (two.e.L → MayName two.e.rules name) → (value : Meaning) → MeaningGrows two value → MeaningGrows two (noded (chained (noded (bare_name name)) ((λ before. linked op before value) ∷ [])))
  operated_grows op name n may value h =
      noded_grows (chained (noded (bare_name name)) ((λ before. linked op before value) ∷ [])) (λ at st s.
      let last : Next = gives in
      let next = λ (env : Env) (before : Value) (st : State). after (linked op before value env at st) last in
      follows two _ _ (next (low two)) (next (high two)) (noded_grows (bare_name name) (bare_name_grows name n may) at st s) (λ l v t.
      follows two _ _ last last (linked_grows op l.value v value h at l.state t) (λ m w u. given m.value m.state w u)))

  assigned_grows : (op : AssignOp) (name : List ℕ) → (two.e.L → IsName name) → (two.e.L → MayAssign two.e.rules op name) → (value : Meaning) → MeaningGrows two value → MeaningGrows two (assigned_value op name value)
  assigned_grows assign_by.Set name n may value h = h
  assigned_grows assign_by.Add name n may value h = operated_grows Add name n may value h
  assigned_grows assign_by.Sub name n may value h = operated_grows Sub name n may value h
  assigned_grows assign_by.Mul name n may value h = operated_grows Mul name n may value h

  simple_grows : (y : HeldSimple (grown two)) → (two.e.L → GoodSimple (bare_simple (grown two) y) × MaySimple two.e.rules (bare_simple (grown two) y)) → MeaningGrows two (simple_layer (simple_from y))
  simple_grows (Simple-F.Iff arms other) here at st s = otherwise_grows arms other at st s
  simple_grows (Simple-F.Assign name op value) here at st s =
      let next = λ (value : Value) (st : State). gives value (with_locals (assigned name value st.locals) st) in
      follows two _ _ next next (assigned_grows op name (λ x. (here x).0) (λ x. (here x).1) (expr_m value.0) value.1 at st s) (λ l v t.
      gives_like two l.value (with_locals (assigned name l.value l.state.locals) l.state) (like _ _ _ _ _) v (λ x. with_pairs _ (t x) (assigned_within name l.value l.state.locals (here x).0.form (v x) (t x).pairs)))
  simple_grows (Simple-F.Value value) here at st s = value.1 at st s

  form_grows : (y : HeldStmtForm (grown two)) → MeaningGrows two (form_layer (form_from y))
  form_grows (StmtForm-F.Plain simple) at st s = simple.1 at st s
  form_grows (StmtForm-F.Guarded simple unless condition) at st s =
      let next = λ (env : Env) (value : Value) (st : State). cond (is_met unless value) (simple_m simple.0 env at st) (gives Nil st) in
      follows two _ _ (next (low two)) (next (high two)) (condition.1 at st s) (λ l v t. cond_keeps two (is_met unless l.value) (simple.1 at l.state t) (given Nil l.state (λ x. within_nil) t))

  stmt_grows : (y : HeldStmt (grown two)) → MeaningGrows two (stmt_layer (stmt_from y))
  stmt_grows y at st s = tick_keeps two (y.form.1 _ st s)

  block_grows : (y : HeldBlock (grown two)) → (two.e.L → FitBlock two.e.texts two.text (bare_block (grown two) y)) → BlockFits two (block_layer (block_from y))
  block_grows y here = record { names = λ x. recursion_from_All _ _ (here x).0; found = λ x. (here x).1; grows = row_grows y.stmts Nil (λ x. within_nil) }

  -- the facts of one layer give those of the part that it makes
  tree_steps : TreeSteps (allowed_layers two.e.rules two.e.texts two.text) (grown two) two.e.L
  tree_steps = record {
    node = λ x y is h. subst (λ (m : Meaning). MeaningGrows two m) (sym (node_is x)) (subst (λ z. MeaningGrows two (node_layer (node_of z))) is (node_grows y h));
    simple = λ x y is h. subst (λ (m : Meaning). MeaningGrows two m) (sym (simple_is x)) (subst (λ z. MeaningGrows two (simple_layer (simple_of z))) is (simple_grows y h));
    form = λ x y is h. subst (λ (m : Meaning). MeaningGrows two m) (sym (form_is x)) (subst (λ z. MeaningGrows two (form_layer (form_of z))) is (form_grows y));
    call = λ x y is h. subst (λ (m : CallMeaning). CallGrows two (out-Call x).name m) (sym (call_is x)) (subst (λ z. CallGrows two z.name (call_layer (call_of z))) is (call_grows y h));
    expr = λ x y is h. subst (λ (m : Meaning). MeaningGrows two m) (sym (expr_is x)) (subst (λ z. MeaningGrows two (expr_layer (expr_of z))) is (expr_grows y));
    link = λ x y is h. subst (λ (m : LinkMeaning). LinkGrows two m) (sym (link_is x)) (subst (λ z. LinkGrows two (link_layer (link_of z))) is (link_grows y));
    arm = λ x y is h. subst (λ (m : ArmMeaning). ArmGrows two m) (sym (arm_is x)) (subst (λ z. ArmGrows two (arm_layer (arm_of z))) is (arm_grows y));
    block = λ x y is h. subst (λ (m : BlockMeaning). BlockFits two m) (sym (block_is x)) (subst (λ z. BlockFits two (block_layer (block_of z))) is (block_grows y h));
    stmt = λ x y is h. subst (λ (m : Meaning). MeaningGrows two m) (sym (stmt_is x)) (subst (λ z. MeaningGrows two (stmt_layer (stmt_of z))) is (stmt_grows y));
  }

  -- a block of the texts
  pub tree_grows : (block : Block) → (two.e.L → IsAllowed two.e.rules two.e.texts two.text block) → BlockFits two (block_m block)
  tree_grows block h = ind_where (allowed_layers two.e.rules two.e.texts two.text) (grown two) two.e.L tree_steps block h
