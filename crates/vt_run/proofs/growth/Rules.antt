-- What a thread may do besides what the limits of the language say, and what of that each form of a text must keep.
use Rattle.std.proofs.Common.{◌≡◌, ℕ, List, [], ◌∷◌, Option, Some, None, IfSome, Ok, subst}
use Rattle.std.specs.Prelude.{codes}
use Rattle.vt_path.specs.declared.inner_path.InnerKind.TheVariants.{Body as BodyPath, Def as DefPath}
use Rattle.vt_path.specs.declared.pattern.Segment.{Segment}
use Rattle.vt_path.specs.Inner.{inner_of}
use Rattle.vt_path.specs.Match.{literal_of as literal_pattern}
use Rattle.vt_ring.specs.Signatures.{option_named}
use Rattle.vt_table.specs.Calls.{call_named}
use Rattle.vt_table.specs.declared.calls.CallName.{CallName}
use Rattle.vt_table.specs.declared.calls.CallName.TheVariants.{At, Cue, Define, InThread, LiveLoop, Set as SetCall}
use Rattle.vt_tree.specs.declared.expression.Call.{out-Call}
use Rattle.vt_tree.specs.declared.expression.Expr.{Expr}
use Rattle.vt_tree.specs.declared.expression.Literal.{Literal}
use Rattle.vt_tree.specs.declared.expression.Node.TheOpen.{Node-F, Simple-F, Call-F}
use Rattle.vt_tree.specs.declared.statement.AssignOp.{AssignOp}
use Rattle.vt_tree.specs.declared.statement.AssignOp.TheVariants as assign_by
use Rattle.vt_tree.specs.declared.statement.Block.{Block, out-Block}
use Rattle.vt_tree.specs.Layers.{OfTrees}
use Rattle.vt_tree.specs.WellFormed.{GoodArm, GoodCall, GoodExpr, GoodForm, GoodLink, GoodNode, GoodSimple, GoodStmt}
use Rattle.vt_check.specs.Written.{literal_of}
use Rattle.vt_event.specs.declared.place.Place.{Place}
use Rattle.vt_event.specs.declared.references.BlockRef.{BlockRef}
use Rattle.vt_event.specs.Event.{EventView}
use Rattle.vt_event.specs.EventsByKind.{body_event, cue_event, defined_event, ended_event, set_event, started_event}
use Rattle.vt_event.specs.Pairs.{Pairs}
use Rattle.vt_frac.specs.Fraction.{Fraction}
use Rattle.vt_value.specs.declared.value.Value.{Value}
use Rattle.vt_value.specs.declared.value.Value.TheVariants.{Ring}
use Rattle.vt_run.specs.declared.action.Answer.{Answer}
use Rattle.vt_run.specs.declared.action.Answer.TheVariants.{Found}
use Rattle.vt_run.specs.declared.role.Role.{Role}
use Rattle.vt_run.specs.declared.role.Role.TheVariants.{Looped, Timed}
use Rattle.vt_run.specs.declared.start.Start.{Start}
use Rattle.vt_run.specs.declared.texts.Texts.{Texts}
use Rattle.vt_run.specs.Actions.{name_path}
use Rattle.vt_run.specs.calls.Arguments.{Given, a_symbol, all_args, no_arguments, path_argument}
use Rattle.vt_run.specs.calls.ThreadCalls.{LoopParts, loop_parts, loop_role, thread_role}
use Rattle.vt_run.specs.Operators.{literal_value}
use Rattle.vt_run.proofs.facts.BlocksOfTexts.{FitBlock, IsFitBlock, fit_layers}
use Rattle.vt_run.proofs.facts.Known.{IsGivenWithin}
use Rattle.vt_run.proofs.growth.TreeInduction.{AllArm, AllBlock, AllCall, AllExpr, AllLink, AllNode, AllSimple, AllStmt, AllStmtForm, LayerPredicates, Predicates, TreeSteps, all_arm, all_block, all_call, all_expr, all_form, all_link, all_node, all_simple, all_stmt, every_layer, ind_where, made_arm, made_block, made_call, made_expr, made_form, made_link, made_node, made_simple, made_stmt}

-- what a thread may do
pub record Rules : Type 1 where
  -- an event that it may tell
  pub Tells : EventView → Type 0
  -- a role and a block with which it may start a thread
  pub Starts : Role → BlockRef → Type 0
  -- a block that it may run
  pub Runs : BlockRef → Type 0
  -- an answer to what it asks for with a pattern
  pub Hears : List Segment → Answer → Type 0
  -- a call that may stand after a dot
  pub Dotted : List ℕ → Type 0

-- where nothing is asked
abbrev pub no_rules : Rules
no_rules = record { Tells = λ event. Unit {0}; Starts = λ role ref. Unit {0}; Runs = λ ref. Unit {0}; Hears = λ pattern answer. Unit {0}; Dotted = λ name. Unit {0} }

-- an argument as it is written: a literal has its value
abbrev pub IsAsWritten : Option Literal → Value → Type 0
IsAsWritten None value = Unit {0}
IsAsWritten (Some literal) value = value ≡ literal_value literal

abbrev pub AreAsWritten : List Expr → List Value → Type 0
AreAsWritten [] [] = Unit {0}
AreAsWritten [] (value ∷ values) = ⊥
AreAsWritten (expr ∷ exprs) [] = ⊥
AreAsWritten (expr ∷ exprs) (value ∷ values) = IsAsWritten (literal_of expr) value × AreAsWritten exprs values

-- the same of options, under their labels
abbrev pub OptionsAsWritten : List (List ℕ × Expr) → Pairs → Type 0
OptionsAsWritten [] [] = Unit {0}
OptionsAsWritten [] (pair ∷ pairs) = ⊥
OptionsAsWritten (option ∷ options) [] = ⊥
OptionsAsWritten (option ∷ options) (pair ∷ pairs) = (pair.0 ≡ option.0) × IsAsWritten (literal_of option.1) pair.1 × OptionsAsWritten options pairs

-- what a call is given, as the call is written
pub record IsGivenAs (rules : Rules) (call : OfTrees Call-F) (given : Given) : Type 0 where
  pub receiver : IfSome given.receiver (λ value. rules.Dotted call.name)
  pub args : AreAsWritten call.args given.args
  pub options : OptionsAsWritten call.options given.options
  pub within : IsGivenWithin given

-- the block that a thread hears of, by this pattern, may be run
abbrev pub MayRunBy : Rules → List Segment → Type 0
MayRunBy rules pattern = (event : EventView) (kept : BlockRef × Pairs) → rules.Hears pattern (Found event) → event.body ≡ Some kept → rules.Runs kept.0

-- so of the function of this name
abbrev pub MayRun : Rules → List ℕ → Type 0
MayRun rules name = MayRunBy rules (literal_pattern (inner_of DefPath name))

-- a turn of the live loop of this name
pub record MayTurn (rules : Rules) (name : List ℕ) : Type 0 where
  pub tells : (place : Place) → rules.Tells (cue_event place (codes "live_loop" ∷ name ∷ []) (Ring []))
  pub runs : MayRunBy rules (literal_pattern (inner_of BodyPath name))

-- a thread of this role, with this block
pub record MayStart (rules : Rules) (role : Role) (ref : BlockRef) : Type 0 where
  pub starts : rules.Starts role ref
  pub tells : (path : List (List ℕ)) → name_path role ≡ Some path → (place : Place) → rules.Tells (started_event place path)

-- what a thread that starts so does by its role
pub record MayBegin (rules : Rules) (start : Start) : Type 0 where
  pub block : rules.Runs start.block
  pub ends : (path : List (List ℕ)) → name_path start.role ≡ Some path → (place : Place) → rules.Tells (ended_event place path)
  pub turns : (name : List ℕ) (wait : Option (List Segment)) (init : Value) → start.role ≡ Looped name wait init → MayTurn rules name

-- a block of this text
abbrev pub ref_of : ℕ → ℕ → BlockRef
ref_of text number = record { text = text; block = number }

-- what a call in this text does, with what it is given, and with the number of its block
pub record MayCall (rules : Rules) (text : ℕ) (which : Option CallName) (name : List ℕ) (given : Given) (block : Option ℕ) : Type 0 where
  pub runs : which ≡ None → MayRun rules name
  pub cues : which ≡ Some Cue → (to : Value) (rest : List Value) (path : List (List ℕ)) → all_args given ≡ to ∷ rest → path_argument (codes "cue") to ≡ Ok (Ok path) → (place : Place) (value : Value) → rules.Tells (cue_event place path value)
  pub sets : which ≡ Some SetCall → (to : Value) (rest : List Value) (path : List (List ℕ)) → all_args given ≡ to ∷ rest → path_argument (codes "set") to ≡ Ok (Ok path) → (place : Place) (value : Value) → rules.Tells (set_event place path value)
  pub defines : which ≡ Some Define → (function : List ℕ) (number : ℕ) → a_symbol (all_args given) ≡ Ok function → block ≡ Some number → (place : Place) (locals : Pairs) → rules.Tells (defined_event place (inner_of DefPath function) (ref_of text number) locals)
  pub threads : which ≡ Some InThread → (role : Role) (number : ℕ) → thread_role (option_named (codes "name") given.options) ≡ Ok role → block ≡ Some number → MayStart rules role (ref_of text number)
  pub bodies : which ≡ Some LiveLoop → (parts : LoopParts) (number : ℕ) → loop_parts given ≡ Ok parts → block ≡ Some number → (place : Place) (locals : Pairs) (line : ℕ) → rules.Tells (body_event place (inner_of BodyPath parts.name) (ref_of text number) locals line)
  pub loops : which ≡ Some LiveLoop → (parts : LoopParts) (number : ℕ) → loop_parts given ≡ Ok parts → block ≡ Some number → MayStart rules (loop_role parts) (ref_of text number)
  pub timed : which ≡ Some At → (number : ℕ) → block ≡ Some number → (rest : Fraction) (value : Value) (line : ℕ) → rules.Starts (Timed rest value line) (ref_of text number)

-- a name that is called without anything
abbrev pub MayName : Rules → List ℕ → Type 0
MayName rules name = call_named name ≡ None → MayRun rules name

pub bare_may : (rules : Rules) (text : ℕ) (name : List ℕ) → MayName rules name → MayCall rules text (call_named name) name no_arguments None
bare_may rules text name may = record {
  runs = may;
  cues = λ which to rest path are. absurd (let z : [] ≡ to ∷ rest = are in cc);
  sets = λ which to rest path are. absurd (let z : [] ≡ to ∷ rest = are in cc);
  defines = λ which function number is none. absurd (let z : None ≡ Some number = none in cc);
  threads = λ which role number is none. absurd (let z : None ≡ Some number = none in cc);
  bodies = λ which parts number is none. absurd (let z : None ≡ Some number = none in cc);
  loops = λ which parts number is none. absurd (let z : None ≡ Some number = none in cc);
  timed = λ which number none. absurd (let z : None ≡ Some number = none in cc);
}

-- the number of a block, if there is one
abbrev pub number_in : Option Block → Option ℕ
number_in None = None
number_in (Some block) = Some (out-Block block).number

-- What each layer of a text must keep, besides its form.

abbrev pub MayNode : Rules → OfTrees Node-F → Type 0
MayNode rules (Node-F.Literal value) = Unit {0}
MayNode rules (Node-F.Name name) = MayName rules name
MayNode rules (Node-F.Call call) = Unit {0}
MayNode rules (Node-F.List items) = Unit {0}
MayNode rules (Node-F.Index of at) = Unit {0}
MayNode rules (Node-F.Dot of call) = rules.Dotted (out-Call call).name
MayNode rules (Node-F.Unary op of) = Unit {0}
MayNode rules (Node-F.Chain kind first rest) = Unit {0}

abbrev pub MayAssign : Rules → AssignOp → List ℕ → Type 0
MayAssign rules assign_by.Set name = Unit {0}
MayAssign rules assign_by.Add name = MayName rules name
MayAssign rules assign_by.Sub name = MayName rules name
MayAssign rules assign_by.Mul name = MayName rules name

abbrev pub MaySimple : Rules → OfTrees Simple-F → Type 0
MaySimple rules (Simple-F.Iff arms other) = Unit {0}
MaySimple rules (Simple-F.Assign name op value) = MayAssign rules op name
MaySimple rules (Simple-F.Value value) = Unit {0}

abbrev pub MayDo : Rules → ℕ → OfTrees Call-F → Type 0
MayDo rules text call = (given : Given) → IsGivenAs rules call given → MayCall rules text (call_named call.name) call.name given (number_in call.block)

abbrev pub allowed_layers : Rules → Texts → ℕ → LayerPredicates
allowed_layers rules texts text = record {
  node = λ x. GoodNode x × MayNode rules x;
  simple = λ x. GoodSimple x × MaySimple rules x;
  form = GoodForm;
  call = λ x. GoodCall x × MayDo rules text x;
  expr = GoodExpr;
  link = GoodLink;
  arm = GoodArm;
  block = FitBlock texts text;
  stmt = GoodStmt;
}

-- a block of this text, all of whose layers keep the rules
abbrev pub IsAllowed : Rules → Texts → ℕ → Block → Type 0
IsAllowed rules texts text = (every_layer (allowed_layers rules texts text)).block

-- Where nothing is asked each block that fits keeps the rules.
module _ (texts : Texts) (text : ℕ) where
  abbrev layers : LayerPredicates
  layers = allowed_layers no_rules texts text

  abbrev allowed : Predicates
  allowed = every_layer layers

  node_free : (x : OfTrees Node-F) → MayNode no_rules x
  node_free (Node-F.Literal value) = tt
  node_free (Node-F.Name name) = λ none event kept heard is. tt
  node_free (Node-F.Call call) = tt
  node_free (Node-F.List items) = tt
  node_free (Node-F.Index of at) = tt
  node_free (Node-F.Dot of call) = tt
  node_free (Node-F.Unary op of) = tt
  node_free (Node-F.Chain kind first rest) = tt

  assign_free : (op : AssignOp) (name : List ℕ) → MayAssign no_rules op name
  assign_free assign_by.Set name = tt
  assign_free assign_by.Add name = λ none event kept heard is. tt
  assign_free assign_by.Sub name = λ none event kept heard is. tt
  assign_free assign_by.Mul name = λ none event kept heard is. tt

  simple_free : (x : OfTrees Simple-F) → MaySimple no_rules x
  simple_free (Simple-F.Iff arms other) = tt
  simple_free (Simple-F.Assign name op value) = assign_free op name
  simple_free (Simple-F.Value value) = tt

  call_free : (x : OfTrees Call-F) → MayDo no_rules text x
  call_free x given written = record {
    runs = λ which event kept heard is. tt;
    cues = λ which to rest path are is place value. tt;
    sets = λ which to rest path are is place value. tt;
    defines = λ which function number is at place locals. tt;
    threads = λ which role number is at. record { starts = tt; tells = λ path is place. tt };
    bodies = λ which parts number is at place locals line. tt;
    loops = λ which parts number is at. record { starts = tt; tells = λ path is place. tt };
    timed = λ which number at rest value line. tt;
  }

  free_steps : TreeSteps (fit_layers texts text) allowed (Unit {0})
  free_steps = record {
    node = λ x y is fit. made_node layers x (subst (AllNode allowed) is (all_node allowed y)) (subst (λ z. GoodNode z × MayNode no_rules z) is (fit tt, node_free _));
    simple = λ x y is fit. made_simple layers x (subst (AllSimple allowed) is (all_simple allowed y)) (subst (λ z. GoodSimple z × MaySimple no_rules z) is (fit tt, simple_free _));
    form = λ x y is fit. made_form layers x (subst (AllStmtForm allowed) is (all_form allowed y)) (subst GoodForm is (fit tt));
    call = λ x y is fit. made_call layers x (subst (AllCall allowed) is (all_call allowed y)) (subst (λ z. GoodCall z × MayDo no_rules text z) is (fit tt, call_free _));
    expr = λ x y is fit. made_expr layers x (subst (AllExpr allowed) is (all_expr allowed y)) (subst GoodExpr is (fit tt));
    link = λ x y is fit. made_link layers x (subst (AllLink allowed) is (all_link allowed y)) (subst GoodLink is (fit tt));
    arm = λ x y is fit. made_arm layers x (subst (AllArm allowed) is (all_arm allowed y)) (subst GoodArm is (fit tt));
    block = λ x y is fit. made_block layers x (subst (AllBlock allowed) is (all_block allowed y)) (subst (FitBlock texts text) is (fit tt));
    stmt = λ x y is fit. made_stmt layers x (subst (AllStmt allowed) is (all_stmt allowed y)) (subst GoodStmt is (fit tt));
  }

  pub freely_allowed : (block : Block) → IsFitBlock texts text block → IsAllowed no_rules texts text block
  freely_allowed block fit = ind_where (fit_layers texts text) allowed (Unit {0}) free_steps block (λ l. fit)
