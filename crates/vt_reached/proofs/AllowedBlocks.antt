-- Each block whose mentions are reached keeps the rules of the reach: one induction over the tree of a text.
use Rattle.std.proofs.Common.{◌≡◌, ◌+◌, ℕ, zero, suc, arith, List, [], ◌∷◌, ◌++◌, length, map, Bool, true, false, cond, not, Option, Some, None, IfSome, refl, sym, ap, ◌∙◌, subst, true≢false}
use Rattle.std.specs.Prelude.{codes, slice_get, option_and_then}
use Rattle.std.specs.Option.{option_map}
use Rattle.std.specs.List.{AllByRecursion, Contains}
use Rattle.std.specs.Str.{bytes_eq}
use Rattle.std.proofs.lemmas.List.{length-append}
use Rattle.std.proofs.lemmas.List.Elements.{Contains-append_left, Contains-append_right, recursion_from_All}
use Rattle.vt_tree.specs.declared.expression.Node.{Node, out-Node, roll-out-Node}
use Rattle.vt_tree.specs.declared.statement.Simple.{Simple, out-Simple, roll-out-Simple}
use Rattle.vt_tree.specs.declared.statement.StmtForm.{StmtForm, out-StmtForm, roll-out-StmtForm}
use Rattle.vt_tree.specs.declared.expression.Call.{Call, out-Call, roll-out-Call}
use Rattle.vt_tree.specs.declared.expression.Expr.{Expr, out-Expr}
use Rattle.vt_tree.specs.declared.expression.Link.{Link, out-Link}
use Rattle.vt_tree.specs.declared.statement.Arm.{Arm, out-Arm}
use Rattle.vt_tree.specs.declared.statement.Block.{Block, out-Block}
use Rattle.vt_tree.specs.declared.statement.Stmt.{Stmt, out-Stmt}
use Rattle.vt_tree.specs.declared.expression.Node.TheOpen.{Node-F, Simple-F, StmtForm-F, Call-F, Expr-F, Link-F, Arm-F, Block-F, Stmt-F}
use Rattle.vt_tree.specs.Layers.{OfTrees}
use Rattle.vt_tree.specs.Parts.{Context, Part, Site, Walk, after_dot, at_line, blocks, blocks_of, called, children, each, if_there, in_arm, in_block, in_call, in_expr, in_form, in_link, in_node, in_simple, in_stmt, in_text, inside, opened, site, sites_of, whole_block, node_parts, simple_parts, form_parts, call_parts}
use Rattle.vt_tree.specs.WellFormed.{GoodArm, GoodCall, GoodExpr, GoodForm, GoodLink, GoodNode, GoodSimple, GoodStmt, IsNumbered}
use Rattle.vt_tree.proofs.PartsLemmas.{in_node-out, in_simple-out, in_form-out, in_call-out, in_expr-out, in_link-out, in_arm-out, in_block-out, in_stmt-out}
use Rattle.vt_check.specs.Allowed.{IsAllowed as AreCallsSound, IsSound, checks}
use Rattle.vt_check.specs.Checked.{IsChecked}
use Rattle.vt_check.specs.Conditions.{has_no_dot, is_no_method}
use Rattle.vt_check.specs.Written.{first_of, literal_of}
use Rattle.vt_table.specs.Calls.{call_row}
use Rattle.vt_reach.specs.declared.found.BlockUse.{BlockUse}
use Rattle.vt_reach.specs.declared.found.Found.{Found}
use Rattle.vt_reach.specs.declared.found.Row.{Row}
use Rattle.vt_reach.specs.declared.mention.Key.{Key}
use Rattle.vt_reach.specs.declared.mention.Key.TheVariants.{Function, Loop}
use Rattle.vt_reach.specs.declared.mention.Mention.{Mention}
use Rattle.vt_reach.specs.Founds.{all_of, if_found, joined, nothing, only}
use Rattle.vt_reach.specs.Founds.{in_block as found_block}
use Rattle.vt_reach.specs.Mentions.{Argument, assigns, block_key, block_mentions, call_mentions, if_named, key_by, loops, name_given, runs_name}
use Rattle.vt_reach.specs.Reach.{row}
use Rattle.vt_reach.specs.TreeMentions.{Seen, arm_found, arm_layer, call_found, expr_layer, expr_seen, form_found, form_layer, inside_found, link_found, link_layer, node_found, node_layer, node_seen, simple_found, simple_layer, stmt_found, stmt_layer, uses_of}
use Rattle.vt_reach.specs.private.Given.{found_in_expr, found_in_option, labelled_argument}
use Rattle.vt_reach.proofs.Places.{none_some, one_some}
use Rattle.vt_reach.proofs.TreeFounds.{arm_is, arm_of, block_is, call_found_at, call_made, expr_is, expr_of, exprs_seen, form_is, form_of, joined_assoc, link_is, link_of, node_is, node_of, simple_is, simple_of, stmt_is, stmt_of}
use Rattle.vt_reach.proofs.TreeUses.{blocks_join}
use Rattle.vt_run.specs.declared.texts.Texts.{Texts}
use Rattle.vt_run.specs.Threads.{text_at, tree_in}
use Rattle.vt_run.proofs.facts.BlocksOfTexts.{FitBlock, IsFitBlock, fit_layers}
use Rattle.vt_run.proofs.growth.Rules.{IsAllowed, MayAssign, MayDo, MayNode, MaySimple, Rules, allowed_layers, ref_of}
use Rattle.vt_run.proofs.growth.TreeInduction.{AllArm, AllBlock, AllCall, AllExpr, AllLink, AllNode, AllSimple, AllStmt, AllStmtForm, LayerPredicates, Predicates, TreeSteps, all_arm, all_block, all_call, all_expr, all_form, all_link, all_node, all_simple, all_stmt, every_layer, ind_where, made_arm, made_block, made_call, made_expr, made_form, made_link, made_node, made_simple, made_stmt}
use Rattle.vt_reached.specs.Fit.{IsRow}
use Rattle.vt_reached.proofs.AllowedCalls.{may_assign, may_name}
use Rattle.vt_reached.proofs.CallRules.{IsFoundBlock, IsFoundIn, first, may_do}
use Rattle.vt_reached.proofs.ReachRules.{AllReached, reach_rules}
use Rattle.vt_reached.proofs.TextRows.{row_of_text}

-- a body of a live loop mentions what a live loop does
abbrev pub HasLoops : BlockUse → Type 0
HasLoops used = (name : List ℕ) → used.body_of ≡ Some (Loop name) → (m : Mention) → Contains (loops name) m → Contains used.mentions m

loop_one : (name other : List ℕ) → ◌≡◌ {A = Option Key} (Some (Loop name)) (Some (Loop other)) → name ≡ other
loop_one name other e = cc

looped_by : (b c : Bool) (o : Option (List ℕ)) (rest : List Mention) (name : List ℕ) → cond b (key_by Loop o) (cond c (key_by Function o) None) ≡ Some (Loop name) → (m : Mention) → Contains (loops name) m → Contains (cond b (if_named loops o) rest) m
looped_by true c None rest name e m among = absurd (none_some e)
looped_by true c (Some other) rest name e m among = subst (λ (n : List ℕ). Contains (loops n) m) (sym (loop_one other name e)) among
looped_by false true None rest name e m among = absurd (none_some e)
looped_by false true (Some other) rest name e m among = absurd cc
looped_by false false o rest name e m among = absurd (none_some e)

loops_in : (word : List ℕ) (start : Option Argument) (options : List (List ℕ × Argument)) (name : List ℕ) → block_key word start ≡ Some (Loop name) → (m : Mention) → Contains (loops name) m → Contains (block_mentions word start options) m
unfolding block_key block_mentions
loops_in word start options name e m among = looped_by (bytes_eq (codes "live_loop") word) (bytes_eq (codes "define") word) (name_given start) _ name e m among

all_append : {X : Type 0} (F : X → Type 0) (xs ys : List X) → AllByRecursion F xs → AllByRecursion F ys → AllByRecursion F (xs ++ ys)
all_append F [] ys h k = k
all_append F (x ∷ xs) ys h k = (h.0, all_append F xs ys h.1 k)

sites_split : (a b : List Part) → AllByRecursion IsSound (sites_of (a ++ b)) → AllByRecursion IsSound (sites_of a) × AllByRecursion IsSound (sites_of b)
sites_split [] b h = (tt, h)
sites_split (called s ∷ a) b h = let rest = sites_split a b h.1 in ((h.0, rest.0), rest.1)
sites_split (opened k ∷ a) b h = sites_split a b h

-- a call that the checks allow after a dot
dot_of : (call : Call) (context : Context) → IsSound (record { context = after_dot context; call = call }) → has_no_dot (call_row (out-Call call).name) ≡ false
unfolding IsSound checks is_no_method
dot_of call context sound = go (has_no_dot (call_row (out-Call call).name)) refl
  where
    go : (b : Bool) → has_no_dot (call_row (out-Call call).name) ≡ b → b ≡ false
    go true e = absurd (sound.1.1.1.0 e)
    go false e = refl

module _ (texts : Texts) (from : Row) (text : ℕ) where
  abbrev rules : Rules
  rules = reach_rules texts from

  abbrev layers : LayerPredicates
  layers = allowed_layers rules texts text

  abbrev allowed : Predicates
  allowed = every_layer layers

  -- the block is a row of the reach, as it was found
  abbrev HasRow : Block → BlockUse → Type 0
  HasRow block used = IsRow texts (ref_of text (out-Block block).number) (row text (out-Block block).number used)

  abbrev Rows : List Block → List BlockUse → Type 0
  Rows [] us = Unit {0}
  Rows (b ∷ bs) [] = ⊥
  Rows (b ∷ bs) (u ∷ us) = HasRow b u × Rows bs us

  rows_split : (cs bs : List Block) (us vs : List BlockUse) → length cs ≡ length us → Rows (cs ++ bs) (us ++ vs) → Rows cs us × Rows bs vs
  rows_split [] bs [] vs e h = (tt, h)
  rows_split [] bs (u ∷ us) vs e h = absurd (omega (arith, e))
  rows_split (a ∷ cs) bs [] vs e h = absurd (omega (arith, e))
  rows_split (a ∷ cs) bs (u ∷ us) vs e h = let f : length cs ≡ length us = omega (arith, e) in let rest = rows_split cs bs us vs f h.1 in ((h.0, rest.0), rest.1)

  -- what is to be shown of a block: it keeps the rules where what is mentioned in it is reached
  abbrev Later : Block → Type 0
  Later block = AllReached texts from (inside_found block).mentions → IsAllowed rules texts text block

  -- Wherever the parts stand: if their calls are sound and their blocks are rows, then the fact holds where what is found in them is reached, and each of their blocks keeps the rules where what is found in it is.
  record Stands (F : Type 0) (W : Walk) (found : Found) : Type 0 where
    even : (p : Context) → length (blocks_of (W p)) ≡ length found.blocks
    loops_are : AllByRecursion HasLoops found.blocks
    by : (p : Context) → AllByRecursion IsSound (sites_of (W p)) → Rows (blocks_of (W p)) found.blocks → (AllReached texts from found.mentions → F) × AllByRecursion Later (blocks_of (W p))

  leaf : {F : Type 0} (mentions : List Mention) → (AllReached texts from mentions → F) → Stands F (λ p. []) (only mentions)
  leaf mentions h = record { even = λ p. refl; loops_are = tt; by = λ p sites rows. (h, tt) }

  both : {F G : Type 0} {V W : Walk} {f g : Found} → Stands F V f → Stands G W g → Stands (F × G) (λ p. V p ++ W p) (joined f g)
  both {V = V} {W = W} {f = f} {g = g} h k = record {
    even = λ p. ap length (blocks_join (V p) (W p)) ∙ length-append (blocks_of (V p)) (blocks_of (W p)) ∙ (λ i. h.even p i + k.even p i) ∙ sym (length-append f.blocks g.blocks);
    loops_are = all_append HasLoops f.blocks g.blocks h.loops_are k.loops_are;
    by = λ p sites rows.
        let split = sites_split (V p) (W p) sites in
        let parts = rows_split (blocks_of (V p)) (blocks_of (W p)) f.blocks g.blocks (h.even p) (subst (λ bs. Rows bs (f.blocks ++ g.blocks)) (blocks_join (V p) (W p)) rows) in
        let one = h.by p split.0 parts.0 in
        let other = k.by p split.1 parts.1 in (
          λ all. (one.0 (λ m c. all m (Contains-append_left f.mentions g.mentions m c)), other.0 (λ m c. all m (Contains-append_right f.mentions g.mentions m c))),
          subst (AllByRecursion Later) (sym (blocks_join (V p) (W p))) (all_append Later (blocks_of (V p)) (blocks_of (W p)) one.1 other.1),
        );
  }

  moved : {F : Type 0} {W : Walk} {f : Found} (move : Context → Context) → Stands F W f → Stands F (λ p. W (move p)) f
  moved move h = record { even = λ p. h.even (move p); loops_are = h.loops_are; by = λ p. h.by (move p) }

  turned : {F G : Type 0} {W : Walk} {f : Found} → (F → G) → Stands F W f → Stands G W f
  turned turn h = record { even = h.even; loops_are = h.loops_are; by = λ p sites rows. let r = h.by p sites rows in (λ all. turn (r.0 all), r.1) }

  -- the same, of which something is known by what is mentioned besides
  mentioning : {F G : Type 0} {W : Walk} {f : Found} (mentions : List Mention) → (AllReached texts from mentions → F → G) → Stands F W f → Stands G W (joined (only mentions) f)
  mentioning {f = f} mentions turn h = record {
    even = h.even;
    loops_are = h.loops_are;
    by = λ p sites rows.
        let r = h.by p sites rows in
        (λ all. turn (λ m c. all m (Contains-append_left mentions f.mentions m c)) (r.0 (λ m c. all m (Contains-append_right mentions f.mentions m c))), r.1);
  }

  made_of : {F : Type 0} {V : Walk} {f : Found} (W : Walk) (g : Found) → ((p : Context) → W p ≡ V p) → g ≡ f → Stands F V f → Stands F W g
  made_of {V = V} {f = f} W g same is h = record {
    even = λ p. ap (λ (parts : List Part). length (blocks_of parts)) (same p) ∙ h.even p ∙ ap (λ (x : Found). length x.blocks) (sym is);
    loops_are = subst (λ (x : Found). AllByRecursion HasLoops x.blocks) (sym is) h.loops_are;
    by = λ p sites rows.
        let r = h.by p (subst (λ (parts : List Part). AllByRecursion IsSound (sites_of parts)) (same p) sites) (subst (λ (x : Found). Rows (blocks_of (V p)) x.blocks) is (subst (λ (parts : List Part). Rows (blocks_of parts) g.blocks) (same p) rows)) in
        (λ all. r.0 (subst (λ (x : Found). AllReached texts from x.mentions) is all), subst (λ (parts : List Part). AllByRecursion Later (blocks_of parts)) (sym (same p)) r.1);
  }

  each_stands : {X : Type 0} (F : X → Type 0) (W : X → Walk) (found : X → Found) (xs : List X) → AllByRecursion (λ x. Stands (F x) (W x) (found x)) xs → Stands (AllByRecursion F xs) (each W xs) (all_of (map found xs))
  each_stands F W found [] h = leaf [] (λ all. tt)
  each_stands F W found (x ∷ xs) h = both h.0 (each_stands F W found xs h.1)

  -- what is shown of each type: of a call together with its place
  abbrev standing : Predicates
  standing = record {
    node = λ x. Stands (allowed.node x) (in_node x) (node_seen x).found;
    simple = λ x. Stands (allowed.simple x) (in_simple x) (simple_found x);
    form = λ x. Stands (allowed.form x) (in_form x) (form_found x);
    call = λ x. Stands (allowed.call x) (site children x) (call_found x);
    expr = λ x. Stands (allowed.expr x) (in_expr x) (found_in_expr x);
    link = λ x. Stands (allowed.link x) (in_link x) (link_found x);
    arm = λ x. Stands (allowed.arm x) (in_arm x) (arm_found x);
    block = λ x. Stands (allowed.block x) (in_block x) (inside_found x);
    stmt = λ x. Stands (allowed.stmt x) (in_stmt x) (stmt_found x);
  }

  node_stands : (x : OfTrees Node-F) → AllNode standing x → Stands (AllNode allowed x × MayNode rules x) (node_parts children x) (node_layer (node_of x)).found
  node_stands (Node-F.Literal value) h = leaf [] (λ all. (tt, tt))
  node_stands (Node-F.Name name) h = leaf (runs_name name) (λ all. (tt, may_name texts from name all))
  node_stands (Node-F.Call call) h = turned (λ f. (f, tt)) h
  node_stands (Node-F.List items) h = turned (λ f. (f, tt)) (made_of _ _ (λ p. refl) (exprs_seen items) (moved inside (each_stands allowed.expr in_expr found_in_expr items h)))
  node_stands (Node-F.Index of at) h = turned (λ f. (f, tt)) (both (moved inside h.0) (moved inside h.1))
  node_stands (Node-F.Dot of call) h =
      let k = both (moved inside h.0) (moved after_dot h.1) in
      record {
        even = k.even;
        loops_are = k.loops_are;
        by = λ p sites rows.
            let r = k.by p sites rows in
            let sound = (sites_split (in_expr of (inside p)) (site children call (after_dot p)) sites).1.0 in
            (λ all. (r.0 all, dot_of call p sound), r.1);
      }
  node_stands (Node-F.Unary op of) h = turned (λ f. (f, tt)) (moved inside h)
  node_stands (Node-F.Chain kind start rest) h = turned (λ f. (f, tt)) (both (moved inside h.0) (moved inside (each_stands allowed.link in_link link_found rest h.1)))

  simple_stands : (x : OfTrees Simple-F) → AllSimple standing x → Stands (AllSimple allowed x × MaySimple rules x) (simple_parts children x) (simple_layer (simple_of x))
  simple_stands (Simple-F.Iff arms None) h = turned (λ f. (f, tt)) (both (moved inside (each_stands allowed.arm in_arm arm_found arms h.0)) (leaf [] (λ all. tt)))
  simple_stands (Simple-F.Iff arms (Some other)) h =
      turned (λ f. (f, tt)) (both (moved inside (each_stands allowed.arm in_arm arm_found arms h.0)) (moved inside (each_stands allowed.stmt in_stmt stmt_found other h.1)))
  simple_stands (Simple-F.Assign name op value) h = mentioning (assigns op name) (λ all f. (f, may_assign texts from op name all)) (moved inside h)
  simple_stands (Simple-F.Value value) h = turned (λ f. (f, tt)) h

  form_stands : (x : OfTrees StmtForm-F) → AllStmtForm standing x → Stands (AllStmtForm allowed x) (form_parts children x) (form_layer (form_of x))
  form_stands (StmtForm-F.Plain simple) h = h
  form_stands (StmtForm-F.Guarded simple unless condition) h = both h.0 (moved inside h.1)

  -- the block of a call
  block_stands : (key : Option Key) (mentions : List Mention) → ((name : List ℕ) → key ≡ Some (Loop name) → (m : Mention) → Contains (loops name) m → Contains mentions m) → (o : Option Block) → IfSome o standing.block →
      Stands (IfSome o allowed.block × IsFoundIn texts from text key mentions o) (λ p. if_there (whole_block children) o p) (if_found (option_map (λ block. found_block key mentions (inside_found block)) o))
  block_stands key mentions looped None h = leaf [] (λ all. (tt, tt))
  block_stands key mentions looped (Some block) h =
      let within = (inside_found block).mentions in
      record {
        even = λ p. ap suc (h.even p);
        loops_are = (λ name is m c. Contains-append_left mentions within m (looped name is m c), h.loops_are);
        by = λ p sites rows.
            let r = h.by p sites rows.1 in (
              λ all. (r.0 (λ m c. all m (Contains-append_right mentions within m c)), record { is = rows.0; reached = all }),
              (r.0, r.1),
            );
      }

  call_stands : (x : Call) (c : OfTrees Call-F) → c ≡ out-Call x → AllCall standing c → Stands (AllCall allowed c × MayDo rules text c) (λ p. called (record { context = p; call = x }) ∷ call_parts children c p)
      (call_made (option_map literal_of (first_of c.args)) (map labelled_argument c.options) (all_of (map found_in_expr c.args)) (all_of (map found_in_option c.options)) c)
  unfolding call_made
  call_stands x c is h =
      let start : Option Argument = option_map literal_of (first_of c.args) in
      let own : List (List ℕ × Argument) = map labelled_argument c.options in
      let key = block_key c.name start in
      let mentions = block_mentions c.name start own in
      let args = moved inside (each_stands allowed.expr in_expr found_in_expr c.args h.0) in
      let options = moved inside (each_stands (λ (o : List ℕ × Expr). allowed.expr o.1) (λ (o : List ℕ × Expr). in_expr o.1) found_in_option c.options h.1) in
      let block = moved inside (block_stands key mentions (loops_in c.name start own) c.block h.2) in
      let inner = both args (both options block) in
      let found = if_found (option_map (λ block. found_block key mentions (inside_found block)) c.block) in
      let told = only (call_mentions c.name start) in
      let whole : joined (joined (joined told (all_of (map found_in_expr c.args))) (all_of (map found_in_option c.options))) found ≡ joined told (joined (all_of (map found_in_expr c.args)) (joined (all_of (map found_in_option c.options)) found)) =
      joined_assoc (joined told (all_of (map found_in_expr c.args))) (all_of (map found_in_option c.options)) found ∙ joined_assoc told (all_of (map found_in_expr c.args)) (joined (all_of (map found_in_option c.options)) found) in
      let may : (p : Context) → IsSound (record { context = p; call = x }) → AllReached texts from (call_mentions c.name start) → IsFoundIn texts from text key mentions c.block → MayDo rules text c = may_of x c is in
      made_of _ _ (λ p. refl) whole
      (record {
        even = inner.even;
        loops_are = inner.loops_are;
        by = λ p sites rows.
            let r = inner.by p sites.1 rows in (
              λ all.
                  let f = r.0 (λ m d. all m (Contains-append_right told.mentions _ m d)) in
                  ((f.0, f.1.0, f.1.1.0), may p sites.0 (λ m d. all m (Contains-append_left told.mentions _ m d)) f.1.1.1),
              r.1,
            );
      })
    where
      may_of : (x : Call) (c : OfTrees Call-F) → c ≡ out-Call x → (p : Context) → IsSound (record { context = p; call = x }) → AllReached texts from (call_mentions c.name (option_map literal_of (first_of c.args))) →
          IsFoundIn texts from text (block_key c.name (option_map literal_of (first_of c.args))) (block_mentions c.name (option_map literal_of (first_of c.args)) (map labelled_argument c.options)) c.block → MayDo rules text c
      may_of x c is p sound all found =
          subst (λ (d : OfTrees Call-F). AllReached texts from (call_mentions d.name (option_map literal_of (first_of d.args))) →
          IsFoundIn texts from text (block_key d.name (option_map literal_of (first_of d.args))) (block_mentions d.name (option_map literal_of (first_of d.args)) (map labelled_argument d.options)) d.block → MayDo rules text d) (sym is)
          (may_do texts from text x p sound) all found

  standing_steps : TreeSteps (fit_layers texts text) standing (Unit {0})
  standing_steps = record {
    node = λ x y is fit. made_of (in_node x) (node_seen x).found (in_node-out x) (ap (λ (s : Seen). s.found) (node_is x (out-Node x) (sym (roll-out-Node x))))
        (turned (λ facts. made_node layers x facts.0 (subst GoodNode is (fit tt), facts.1)) (node_stands (out-Node x) (subst (AllNode standing) is (all_node standing y))));
    simple = λ x y is fit. made_of (in_simple x) (simple_found x) (in_simple-out x) (simple_is x (out-Simple x) (sym (roll-out-Simple x)))
        (turned (λ facts. made_simple layers x facts.0 (subst GoodSimple is (fit tt), facts.1)) (simple_stands (out-Simple x) (subst (AllSimple standing) is (all_simple standing y))));
    form = λ x y is fit. made_of (in_form x) (form_found x) (in_form-out x) (form_is x (out-StmtForm x) (sym (roll-out-StmtForm x)))
        (turned (λ facts. made_form layers x facts (subst GoodForm is (fit tt))) (form_stands (out-StmtForm x) (subst (AllStmtForm standing) is (all_form standing y))));
    call = λ x y is fit. made_of (site children x) (call_found x) (λ p. ap (λ (parts : List Part). called (record { context = p; call = x }) ∷ parts) (in_call-out x p)) (call_found_at x (out-Call x) (sym (roll-out-Call x)))
        (turned (λ facts. made_call layers x facts.0 (subst GoodCall is (fit tt), facts.1)) (call_stands x (out-Call x) refl (subst (AllCall standing) is (all_call standing y))));
    expr = λ x y is fit. made_of (in_expr x) (found_in_expr x) (in_expr-out x) (ap (λ (s : Seen). s.found) (expr_is x))
        (turned (λ facts. made_expr layers x facts (subst GoodExpr is (fit tt))) (subst (AllExpr standing) is (all_expr standing y)));
    link = λ x y is fit. made_of (in_link x) (link_found x) (in_link-out x) (link_is x)
        (turned (λ facts. made_link layers x facts (subst GoodLink is (fit tt))) (subst (AllLink standing) is (all_link standing y)));
    arm = λ x y is fit.
        let h = subst (AllArm standing) is (all_arm standing y) in
        made_of (in_arm x) (arm_found x) (in_arm-out x) (arm_is x)
        (turned (λ facts. made_arm layers x facts (subst GoodArm is (fit tt))) (both h.0 (each_stands allowed.stmt in_stmt stmt_found (out-Arm x).stmts h.1)));
    block = λ x y is fit. made_of (in_block x) (inside_found x) (in_block-out x) (block_is x)
        (turned (λ facts. made_block layers x facts (subst (FitBlock texts text) is (fit tt))) (each_stands allowed.stmt in_stmt stmt_found (out-Block x).stmts (subst (AllBlock standing) is (all_block standing y))));
    stmt = λ x y is fit. made_of (in_stmt x) (stmt_found x) (in_stmt-out x) (stmt_is x)
        (turned (λ facts. made_stmt layers x facts (subst GoodStmt is (fit tt))) (moved (at_line (out-Stmt x).line) (subst (AllStmt standing) is (all_stmt standing y))));
  }

  block_standing : (block : Block) → IsFitBlock texts text block → Stands (allowed.block block) (in_block block) (inside_found block)
  block_standing block fit = ind_where (fit_layers texts text) standing (Unit {0}) standing_steps block (λ l. fit)

  rows_by_place : (bs : List Block) (us : List BlockUse) → length bs ≡ length us → ((i : ℕ) (b : Block) (u : BlockUse) → slice_get bs i ≡ Some b → slice_get us i ≡ Some u → HasRow b u) → Rows bs us
  rows_by_place [] us e h = tt
  rows_by_place (b ∷ bs) [] e h = absurd (omega (arith, e))
  rows_by_place (b ∷ bs) (u ∷ us) e h = let f : length bs ≡ length us = omega (arith, e) in (h 0 b u refl refl, rows_by_place bs us f (λ i c v at there. h (suc i) c v at there))

  -- each block of a checked text keeps the rules where what is mentioned inside it is reached
  pub all_later : (tree : Block) → tree_in (text_at texts text) ≡ Some tree → IsChecked tree → IsFitBlock texts text tree → AllByRecursion Later (blocks tree)
  unfolding AreCallsSound
  all_later tree there checked fit =
      let stands = block_standing tree fit in
      let rows = rows_by_place (blocks tree) (uses_of tree) (ap suc (stands.even in_text)) (λ i b u at has.
      subst (λ n. IsRow texts (ref_of text n) (row text n u)) (sym (checked.formed.numbered i b at)) (row_of_text texts text tree i u there has)) in
      let r = stands.by in_text (recursion_from_All IsSound _ checked.allowed) rows.1 in
      (r.0, r.1)

  -- .. and each body of a live loop does what a live loop does
  pub all_loops : (tree : Block) → IsFitBlock texts text tree → AllByRecursion HasLoops (uses_of tree)
  all_loops tree fit = (λ name is m c. absurd (none_some is), (block_standing tree fit).loops_are)
