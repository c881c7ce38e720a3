-- What is found in each part of a tree is what its layer makes of what is found in its children.
use Rattle.std.proofs.Common.{◌≡◌, ◌<◌, ◌≤◌, ℕ, ◌+◌, List, [], ◌∷◌, ◌++◌, length, get_or, take, map, Option, Some, None, suc, refl, sym, ap, ◌∙◌, subst, append_assoc, arith}
use Rattle.std.specs.Prelude.{IfOk, Result}
use Rattle.std.specs.List.{flat_map}
use Rattle.std.specs.Option.{option_map}
use Rattle.std.proofs.lemmas.List.{append-nil, length-take-le, take_all, take_more}
use Rattle.vt_tree.specs.declared.expression.Node.{Node, out-Node, roll-Node, roll-out-Node, map-Node}
use Rattle.vt_tree.specs.declared.statement.Simple.{Simple, out-Simple, roll-Simple, roll-out-Simple, map-Simple}
use Rattle.vt_tree.specs.declared.statement.StmtForm.{StmtForm, out-StmtForm, roll-StmtForm, roll-out-StmtForm, map-StmtForm}
use Rattle.vt_tree.specs.declared.expression.Call.{Call, out-Call, roll-Call, roll-out-Call, map-Call}
use Rattle.vt_tree.specs.declared.expression.Expr.{Expr, out-Expr, roll-Expr, roll-out-Expr, map-Expr}
use Rattle.vt_tree.specs.declared.expression.Link.{Link, out-Link, roll-Link, roll-out-Link, map-Link}
use Rattle.vt_tree.specs.declared.statement.Arm.{Arm, out-Arm, roll-Arm, roll-out-Arm, map-Arm}
use Rattle.vt_tree.specs.declared.statement.Block.{Block, out-Block, roll-Block, roll-out-Block, map-Block}
use Rattle.vt_tree.specs.declared.statement.Stmt.{Stmt, out-Stmt, roll-Stmt, roll-out-Stmt, map-Stmt}
use Rattle.vt_tree.specs.declared.expression.Node.TheOpen.{Node-F, Simple-F, StmtForm-F, Call-F, Expr-F, Link-F, Arm-F, Block-F, Stmt-F}
use Rattle.vt_tree.specs.declared.expression.Node.TheFolds.{fold-roll-Node, fold-roll-Simple, fold-roll-StmtForm, fold-roll-Call, fold-roll-Expr, fold-roll-Link, fold-roll-Arm, fold-roll-Block, fold-roll-Stmt}
use Rattle.vt_check.specs.Written.{first_of, literal_at, literal_of}
use Rattle.vt_reach.specs.declared.found.BlockUse.{BlockUse}
use Rattle.vt_reach.specs.declared.found.Found.{Found}
use Rattle.vt_reach.specs.declared.found.Row.{Row}
use Rattle.vt_reach.specs.declared.mention.Key.{Key}
use Rattle.vt_reach.specs.declared.mention.Mention.{Mention}
use Rattle.vt_reach.specs.Founds.{all_of, if_found, in_block, joined, nothing, only}
use Rattle.vt_reach.specs.Mentions.{Argument, block_key, block_mentions, call_mentions, names_by}
use Rattle.vt_reach.specs.Reach.{row, rows_from}
use Rattle.vt_reach.specs.TreeMentions.{OfFound, Seen, all_seen, arm_found, arm_layer, at_found, block_layer, by_layers, call_found, call_layer, expr_layer, expr_seen, form_found, form_layer, inside_found, labelled, link_found, link_layer, node_found, node_layer, node_literal, node_seen, simple_found, simple_layer, stmt_found, stmt_layer}
use Rattle.vt_reach.specs.private.Given.{argument_of, block_of_call, first_argument, found_in_expr, found_in_option, labelled_argument, options_given}

-- layers whose children are trees
abbrev NodeTree : Type 0
NodeTree = Node-F Node Simple StmtForm Call Expr Link Arm Block Stmt

abbrev CallTree : Type 0
CallTree = Call-F Node Simple StmtForm Call Expr Link Arm Block Stmt

-- with what is found in each child in its place
abbrev pub node_of : NodeTree → OfFound Node-F
node_of = at_found (map-Node Node Simple StmtForm Call Expr Link Arm Block Stmt) node_seen simple_found form_found call_found expr_seen link_found arm_found inside_found stmt_found

abbrev pub simple_of : Simple-F Node Simple StmtForm Call Expr Link Arm Block Stmt → OfFound Simple-F
simple_of = at_found (map-Simple Node Simple StmtForm Call Expr Link Arm Block Stmt) node_seen simple_found form_found call_found expr_seen link_found arm_found inside_found stmt_found

abbrev pub form_of : StmtForm-F Node Simple StmtForm Call Expr Link Arm Block Stmt → OfFound StmtForm-F
form_of = at_found (map-StmtForm Node Simple StmtForm Call Expr Link Arm Block Stmt) node_seen simple_found form_found call_found expr_seen link_found arm_found inside_found stmt_found

abbrev pub call_of : CallTree → OfFound Call-F
call_of = at_found (map-Call Node Simple StmtForm Call Expr Link Arm Block Stmt) node_seen simple_found form_found call_found expr_seen link_found arm_found inside_found stmt_found

abbrev pub expr_of : Expr-F Node Simple StmtForm Call Expr Link Arm Block Stmt → OfFound Expr-F
expr_of = at_found (map-Expr Node Simple StmtForm Call Expr Link Arm Block Stmt) node_seen simple_found form_found call_found expr_seen link_found arm_found inside_found stmt_found

abbrev pub link_of : Link-F Node Simple StmtForm Call Expr Link Arm Block Stmt → OfFound Link-F
link_of = at_found (map-Link Node Simple StmtForm Call Expr Link Arm Block Stmt) node_seen simple_found form_found call_found expr_seen link_found arm_found inside_found stmt_found

abbrev pub arm_of : Arm-F Node Simple StmtForm Call Expr Link Arm Block Stmt → OfFound Arm-F
arm_of = at_found (map-Arm Node Simple StmtForm Call Expr Link Arm Block Stmt) node_seen simple_found form_found call_found expr_seen link_found arm_found inside_found stmt_found

abbrev pub block_of : Block-F Node Simple StmtForm Call Expr Link Arm Block Stmt → OfFound Block-F
block_of = at_found (map-Block Node Simple StmtForm Call Expr Link Arm Block Stmt) node_seen simple_found form_found call_found expr_seen link_found arm_found inside_found stmt_found

abbrev pub stmt_of : Stmt-F Node Simple StmtForm Call Expr Link Arm Block Stmt → OfFound Stmt-F
stmt_of = at_found (map-Stmt Node Simple StmtForm Call Expr Link Arm Block Stmt) node_seen simple_found form_found call_found expr_seen link_found arm_found inside_found stmt_found

-- what is found in a part is made by its layer, at a value that is made of this layer, and at the layer that a value has
pub node_is : (x : Node) (y : NodeTree) → x ≡ roll-Node y → node_seen x ≡ node_layer (node_of y)
unfolding node_seen simple_found form_found call_found expr_seen link_found arm_found inside_found stmt_found
node_is x y e = ap node_seen e ∙ by_layers (at_found fold-roll-Node) y

pub simple_is : (x : Simple) (y : Simple-F Node Simple StmtForm Call Expr Link Arm Block Stmt) → x ≡ roll-Simple y → simple_found x ≡ simple_layer (simple_of y)
unfolding node_seen simple_found form_found call_found expr_seen link_found arm_found inside_found stmt_found
simple_is x y e = ap simple_found e ∙ by_layers (at_found fold-roll-Simple) y

pub form_is : (x : StmtForm) (y : StmtForm-F Node Simple StmtForm Call Expr Link Arm Block Stmt) → x ≡ roll-StmtForm y → form_found x ≡ form_layer (form_of y)
unfolding node_seen simple_found form_found call_found expr_seen link_found arm_found inside_found stmt_found
form_is x y e = ap form_found e ∙ by_layers (at_found fold-roll-StmtForm) y

-- the same of the other types
pub call_at : (x : Call) (y : CallTree) → x ≡ roll-Call y → call_found x ≡ call_layer (call_of y)
unfolding node_seen simple_found form_found call_found expr_seen link_found arm_found inside_found stmt_found
call_at x y e = ap call_found e ∙ by_layers (at_found fold-roll-Call) y

pub expr_at : (x : Expr) (y : Expr-F Node Simple StmtForm Call Expr Link Arm Block Stmt) → x ≡ roll-Expr y → expr_seen x ≡ expr_layer (expr_of y)
unfolding node_seen simple_found form_found call_found expr_seen link_found arm_found inside_found stmt_found
expr_at x y e = ap expr_seen e ∙ by_layers (at_found fold-roll-Expr) y

pub link_at : (x : Link) (y : Link-F Node Simple StmtForm Call Expr Link Arm Block Stmt) → x ≡ roll-Link y → link_found x ≡ link_layer (link_of y)
unfolding node_seen simple_found form_found call_found expr_seen link_found arm_found inside_found stmt_found
link_at x y e = ap link_found e ∙ by_layers (at_found fold-roll-Link) y

pub arm_at : (x : Arm) (y : Arm-F Node Simple StmtForm Call Expr Link Arm Block Stmt) → x ≡ roll-Arm y → arm_found x ≡ arm_layer (arm_of y)
unfolding node_seen simple_found form_found call_found expr_seen link_found arm_found inside_found stmt_found
arm_at x y e = ap arm_found e ∙ by_layers (at_found fold-roll-Arm) y

pub block_at : (x : Block) (y : Block-F Node Simple StmtForm Call Expr Link Arm Block Stmt) → x ≡ roll-Block y → inside_found x ≡ block_layer (block_of y)
unfolding node_seen simple_found form_found call_found expr_seen link_found arm_found inside_found stmt_found
block_at x y e = ap inside_found e ∙ by_layers (at_found fold-roll-Block) y

pub stmt_at : (x : Stmt) (y : Stmt-F Node Simple StmtForm Call Expr Link Arm Block Stmt) → x ≡ roll-Stmt y → stmt_found x ≡ stmt_layer (stmt_of y)
unfolding node_seen simple_found form_found call_found expr_seen link_found arm_found inside_found stmt_found
stmt_at x y e = ap stmt_found e ∙ by_layers (at_found fold-roll-Stmt) y

pub call_is : (x : Call) → call_found x ≡ call_layer (call_of (out-Call x))
call_is x = call_at x (out-Call x) (sym (roll-out-Call x))

pub expr_is : (x : Expr) → expr_seen x ≡ expr_layer (expr_of (out-Expr x))
expr_is x = expr_at x (out-Expr x) (sym (roll-out-Expr x))

pub link_is : (x : Link) → link_found x ≡ link_layer (link_of (out-Link x))
link_is x = link_at x (out-Link x) (sym (roll-out-Link x))

pub arm_is : (x : Arm) → arm_found x ≡ arm_layer (arm_of (out-Arm x))
arm_is x = arm_at x (out-Arm x) (sym (roll-out-Arm x))

pub block_is : (x : Block) → inside_found x ≡ block_layer (block_of (out-Block x))
block_is x = block_at x (out-Block x) (sym (roll-out-Block x))

pub stmt_is : (x : Stmt) → stmt_found x ≡ stmt_layer (stmt_of (out-Stmt x))
stmt_is x = stmt_at x (out-Stmt x) (sym (roll-out-Stmt x))

-- the literal that is seen is the one that the expression is
node_literal_is : (y : NodeTree) → node_literal (node_of y) ≡ literal_at y
node_literal_is (Node-F.Literal value) = refl
node_literal_is (Node-F.Name name) = refl
node_literal_is (Node-F.Call call) = refl
node_literal_is (Node-F.List items) = refl
node_literal_is (Node-F.Index of at) = refl
node_literal_is (Node-F.Dot of call) = refl
node_literal_is (Node-F.Unary op of) = refl
node_literal_is (Node-F.Chain kind first rest) = refl

pub literal_seen : (x : Expr) → (expr_seen x).literal ≡ argument_of x
literal_seen x =
    ap (λ s. s.literal) (expr_is x)
    ∙ ap (λ s. s.literal) (node_is (out-Expr x).node (out-Node (out-Expr x).node) (sym (roll-out-Node (out-Expr x).node)))
    ∙ node_literal_is (out-Node (out-Expr x).node)

-- lists of parts
joined_nothing : (a : Found) → joined a nothing ≡ a
joined_nothing a = λ i. record { mentions = append-nil a.mentions i; blocks = append-nil a.blocks i }

pub joined_assoc : (a b c : Found) → joined (joined a b) c ≡ joined a (joined b c)
joined_assoc a b c = λ i. record { mentions = append_assoc a.mentions b.mentions c.mentions i; blocks = append_assoc a.blocks b.blocks c.blocks i }

all_of_push : (xs : List Found) (x : Found) → all_of (xs ++ x ∷ []) ≡ joined (all_of xs) x
all_of_push [] x = joined_nothing x
all_of_push (y ∷ xs) x = ap (λ z. joined y z) (all_of_push xs x) ∙ sym (joined_assoc y (all_of xs) x)

map_map : {X Y Z : Type 0} (g : Y → Z) (v : X → Y) (xs : List X) → map g (map v xs) ≡ map (λ x. g (v x)) xs
map_map g v [] = refl
map_map g v (x ∷ xs) = ap (λ zs. g (v x) ∷ zs) (map_map g v xs)

map_same : {X Y : Type 0} (f g : X → Y) (xs : List X) → ((x : X) → f x ≡ g x) → map f xs ≡ map g xs
map_same f g [] h = refl
map_same f g (x ∷ xs) h = λ i. h x i ∷ map_same f g xs h i

-- so far, and then the next part
pub found_next : {X : Type 0} (f : X → Found) (xs : List X) (i : ℕ) (x : X) (found more : Found) → found ≡ all_of (map f (take i xs)) → i < length xs → x ≡ get_or xs i x → more ≡ f x → joined found more ≡ all_of (map f (take (i + 1) xs))
found_next f xs i x found more so lt is next =
    (λ k. joined (so k) ((next ∙ ap f is) k))
    ∙ sym (all_of_push (map f (take i xs)) (f (get_or xs i x)))
    ∙ ap all_of (sym (map_push (take i xs) (get_or xs i x)))
    ∙ ap (λ ys. all_of (map f ys)) (sym (take_more xs i x lt))
  where
    map_push : (ys : List _) (y : _) → map f (ys ++ y ∷ []) ≡ map f ys ++ f y ∷ []
    map_push [] y = refl
    map_push (z ∷ ys) y = ap (λ zs. f z ∷ zs) (map_push ys y)

pub found_last : {X : Type 0} (f : X → Found) (xs : List X) (i : ℕ) (found : Found) → found ≡ all_of (map f (take i xs)) → length xs ≤ i → found ≡ all_of (map f xs)
found_last f xs i found so le = so ∙ ap (λ ys. all_of (map f ys)) (take_all i xs le)

-- each layer, of trees
pub node_of_literal : (x : Node) (y : NodeTree) → x ≡ roll-Node y → (node_seen x).found ≡ node_found (node_of y)
node_of_literal x y e = ap (λ s. s.found) (node_is x y e)

pub exprs_seen : (xs : List Expr) → all_seen (map expr_seen xs) ≡ all_of (map found_in_expr xs)
exprs_seen xs = ap all_of (map_map (λ s. s.found) expr_seen xs)

first_seen : (xs : List Expr) → option_map (λ s. s.literal) (first_of (map expr_seen xs)) ≡ option_map argument_of (first_of xs)
first_seen [] = refl
first_seen (x ∷ xs) = ap Some (literal_seen x)

block_there : (c : CallTree) (b : Option Block) (key : Option Key) (mentions : List Mention) → if_found (option_map (in_block key mentions) (call_of (record c { block = b })).block) ≡ if_found (option_map (λ block. in_block key mentions (inside_found block)) b)
block_there c None key mentions = refl
block_there c (Some block) key mentions = refl

options_found : (c : CallTree) → all_of (map (λ (o : List ℕ × Seen). o.1.found) (call_of c).options) ≡ all_of (map found_in_option c.options)
options_found c = ap all_of (map_map (λ (o : List ℕ × Seen). o.1.found) _ c.options)

options_labelled : (c : CallTree) → map labelled (call_of c).options ≡ map labelled_argument c.options
options_labelled c = map_map labelled _ c.options ∙ map_same _ labelled_argument c.options (λ option i. (option.0, literal_seen option.1 i))

unfoldable pub call_made : Option Argument → List (List ℕ × Argument) → Found → Found → CallTree → Found
call_made first options args labels c =
    joined (joined (joined (only (call_mentions c.name first)) args) labels)
    (if_found (option_map (λ block. in_block (block_key c.name first) (block_mentions c.name first options) (inside_found block)) c.block))

pub call_found_at : (x : Call) (c : CallTree) → x ≡ roll-Call c →
    call_found x ≡ call_made (option_map argument_of (first_of c.args)) (map labelled_argument c.options) (all_of (map found_in_expr c.args)) (all_of (map found_in_option c.options)) c
unfolding call_made
call_found_at x c e =
    call_at x c e
    ∙ ap (λ found. joined (joined (joined (only (call_mentions c.name (option_map (λ s. s.literal) (first_of (map expr_seen c.args))))) (all_seen (map expr_seen c.args))) (all_of (map (λ (o : List ℕ × Seen). o.1.found) (call_of c).options))) found)
    (block_there c c.block (block_key c.name (option_map (λ s. s.literal) (first_of (map expr_seen c.args)))) (block_mentions c.name (option_map (λ s. s.literal) (first_of (map expr_seen c.args))) (map labelled (call_of c).options)))
    ∙ (λ i. call_made (first_seen c.args i) (options_labelled c i) (exprs_seen c.args i) (options_found c i) c)

pub call_found_is : (x : Call) → call_found x ≡ joined (joined (joined (only (call_mentions (out-Call x).name (first_argument x))) (all_of (map found_in_expr (out-Call x).args))) (all_of (map found_in_option (out-Call x).options))) (if_found (option_map (block_of_call x) (out-Call x).block))
unfolding call_made
call_found_is x = call_found_at x (out-Call x) (sym (roll-out-Call x))

-- an `if`, without and with an `else`
pub iff_none : (x : Simple) (arms : List Arm) (other : Option (List Stmt)) → x ≡ roll-Simple (Simple-F.Iff arms other) → other ≡ None → all_of (map arm_found arms) ≡ simple_found x
iff_none x arms other e n =
    sym (joined_nothing (all_of (map arm_found arms))) ∙ sym (ap (λ (o : Option (List Stmt)). simple_layer (simple_of (Simple-F.Iff arms o))) n) ∙ sym (simple_is x (Simple-F.Iff arms other) e)

pub iff_some : (x : Simple) (arms : List Arm) (other : Option (List Stmt)) (stmts : List Stmt) → x ≡ roll-Simple (Simple-F.Iff arms other) → other ≡ Some stmts → joined (all_of (map arm_found arms)) (all_of (map stmt_found stmts)) ≡ simple_found x
iff_some x arms other stmts e n =
    sym (ap (λ (o : Option (List Stmt)). simple_layer (simple_of (Simple-F.Iff arms o))) n) ∙ sym (simple_is x (Simple-F.Iff arms other) e)

-- what is added, by what it is
pub joined_is : (new old more x y z : Found) → new ≡ joined old more → old ≡ x → more ≡ y → joined x y ≡ z → new ≡ z
joined_is new old more x y z e f g h = e ∙ (λ i. joined (f i) (g i)) ∙ h

pub ok_same : {E : Type 0} (r : Result Found E) (x y : Found) → x ≡ y → IfOk r (λ f. f ≡ x) → IfOk r (λ f. f ≡ y)
ok_same r x y e h = subst (λ (z : Found). IfOk r (λ f. f ≡ z)) e h

-- the options of `in_thread`, so far and then the next one
flat_push : (xs : List (List ℕ × Argument)) (x : List ℕ × Argument) → flat_map names_by (xs ++ x ∷ []) ≡ flat_map names_by xs ++ names_by x
flat_push [] x = append-nil (names_by x)
flat_push (y ∷ xs) x = ap (λ zs. names_by y ++ zs) (flat_push xs x) ∙ sym (append_assoc (names_by y) (flat_map names_by xs) (names_by x))

map_push : (xs : List (List ℕ × Expr)) (x : List ℕ × Expr) → map labelled_argument (xs ++ x ∷ []) ≡ map labelled_argument xs ++ labelled_argument x ∷ []
map_push [] x = refl
map_push (y ∷ xs) x = ap (λ zs. labelled_argument y ∷ zs) (map_push xs x)

pub threads_next : (xs : List (List ℕ × Expr)) (i : ℕ) (x : List ℕ × Expr) (so more new : List Mention) → so ≡ flat_map names_by (map labelled_argument (take i xs)) → i < length xs → x ≡ get_or xs i x → more ≡ names_by (labelled_argument x) → new ≡ so ++ more →
    new ≡ flat_map names_by (map labelled_argument (take (i + 1) xs))
threads_next xs i x so more new is lt here next e =
    e ∙ (λ k. is k ++ (next ∙ ap (λ (o : List ℕ × Expr). names_by (labelled_argument o)) here) k)
    ∙ sym (flat_push (map labelled_argument (take i xs)) (labelled_argument (get_or xs i x)))
    ∙ ap (flat_map names_by) (sym (map_push (take i xs) (get_or xs i x)))
    ∙ ap (λ ys. flat_map names_by (map labelled_argument ys)) (sym (take_more xs i x lt))

pub threads_last : (xs : List (List ℕ × Expr)) (i : ℕ) (so : List Mention) → so ≡ flat_map names_by (map labelled_argument (take i xs)) → length xs ≤ i → so ≡ flat_map names_by (map labelled_argument xs)
threads_last xs i so is le = is ∙ ap (λ ys. flat_map names_by (map labelled_argument ys)) (take_all i xs le)

-- the blocks of a text, so far and then the next one
rows_push : (text n : ℕ) (xs : List BlockUse) (x : BlockUse) → rows_from text n (xs ++ x ∷ []) ≡ rows_from text n xs ++ row text (n + length xs) x ∷ []
rows_push text n [] x = let z : n ≡ n + 0 = omega arith in ap (λ k. row text k x ∷ []) z
rows_push text n (y ∷ xs) x =
    ap (λ zs. row text n y ∷ zs) (rows_push text (suc n) xs x ∙ (let z : suc n + length xs ≡ n + suc (length xs) = omega arith in ap (λ k. rows_from text (suc n) xs ++ row text k x ∷ []) z))

pub rows_next : (text i : ℕ) (xs : List BlockUse) (x : BlockUse) (so new : List Row) (key : Option Key) (mentions : List Mention) → so ≡ rows_from text 0 (take i xs) → i < length xs → x ≡ get_or xs i x →
    new ≡ so ++ record { text = text; block = i; body_of = key; mentions = mentions } ∷ [] → key ≡ x.body_of → mentions ≡ x.mentions → new ≡ rows_from text 0 (take (i + 1) xs)
rows_next text i xs x so new key mentions is lt here e k m =
    e ∙ (λ j. is j ++ record { text = text; block = i; body_of = k j; mentions = m j } ∷ [])
    ∙ ap (λ n. rows_from text 0 (take i xs) ++ row text n x ∷ []) (let z : i ≡ 0 + length (take i xs) = (let t = length-take-le i xs (omega (arith, lt)) in omega (arith, t)) in z)
    ∙ ap (λ (y : BlockUse). rows_from text 0 (take i xs) ++ row text (0 + length (take i xs)) y ∷ []) here
    ∙ sym (rows_push text 0 (take i xs) (get_or xs i x))
    ∙ ap (rows_from text 0) (sym (take_more xs i x lt))

pub rows_last : (text i : ℕ) (xs : List BlockUse) (so : List Row) → so ≡ rows_from text 0 (take i xs) → length xs ≤ i → so ≡ rows_from text 0 xs
rows_last text i xs so is le = is ∙ ap (rows_from text 0) (take_all i xs le)
