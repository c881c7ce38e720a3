-- The grammar: each rule as a form of lists of marks. Each row of the table in docs/LANGUAGE.md is the rule of its name here,
-- but that `cond` is `cond_form`, `text` stands in `Text`, and the rows that open a bracket or a block (`index`, `braces`,
-- `doblock`, `iff`) are fields of `Opened`, whose rules stand last, as `index_of`. The other rules are parts of a row. All of this
-- is the project's own.
use Rattle.std.specs.Prelude.{◌≡◌, ℕ, zero, suc, Bool, true, false, ◌||◌, is_some, List, [], ◌∷◌, Option, Some, None}
use Rattle.vt_tree.specs.declared.expression.Expr.{Expr}
use Rattle.vt_tree.specs.declared.expression.Node.TheVariants as nodes
use Rattle.vt_tree.specs.declared.expression.Call.{Call}
use Rattle.vt_tree.specs.declared.expression.Link.{Link}
use Rattle.vt_tree.specs.declared.expression.ChainKind.{ChainKind}
use Rattle.vt_tree.specs.declared.expression.ChainKind.TheVariants as chains
use Rattle.vt_tree.specs.declared.statement.Arm.{Arm}
use Rattle.vt_tree.specs.declared.statement.Block.{Block}
use Rattle.vt_tree.specs.declared.statement.Simple.{Simple}
use Rattle.vt_tree.specs.declared.statement.Simple.TheVariants as simples
use Rattle.vt_tree.specs.declared.statement.Stmt.{Stmt}
use Rattle.vt_grammar.specs.declared.parts.Arguments.{Arguments}
use Rattle.vt_grammar.specs.declared.parts.Part.{Part}
use Rattle.vt_grammar.specs.declared.parts.Part.TheVariants as parts
use Rattle.vt_grammar.specs.declared.terminals.Terminal.{Terminal}
use Rattle.vt_grammar.specs.declared.terminals.Terminal.TheVariants as terminals
use Rattle.vt_grammar.specs.Form.{Form, one, empty, nothing, next, either, mapped, optional, only, with_its, many, many_from}
use Rattle.vt_grammar.specs.Marks.{Mark}
use Rattle.vt_grammar.specs.Values.{literal_of, label_name}
use Rattle.vt_grammar.specs.Trees.{Argument, Left, gathered, no_arguments, plain, wrapped, call_of, named_tree, dot_call, left_after, comparison, is_bare_get, with_parts, signed_tree, link_tree, chain_tree, takes_block, with_block, set_of, is_unless, form_tree, stmt_tree, arm_tree, block_tree, present}

-- Terminals

-- one token of this terminal
abbrev pub terminal : Terminal → Form Mark Mark
terminal w = one (λ t. t.terminal ≡ w)

-- one token of one of these terminals
abbrev pub among : (Terminal → Bool) → Form Mark Mark
among F = one (λ t. F t.terminal ≡ true)

abbrev pub is_literal : Terminal → Bool
is_literal terminals.Whole = true
is_literal terminals.Decimal = true
is_literal terminals.Text = true
is_literal terminals.Symbol = true
is_literal terminals.Nil = true
is_literal terminals.True = true
is_literal terminals.False = true
is_literal _ = false

abbrev pub is_paren_open : Terminal → Bool
is_paren_open terminals.CallOpen = true
is_paren_open terminals.ParenOpen = true
is_paren_open _ = false

abbrev pub is_list_open : Terminal → Bool
is_list_open terminals.IndexOpen = true
is_list_open terminals.ListOpen = true
is_list_open _ = false

abbrev pub is_sign : Terminal → Bool
is_sign terminals.Minus = true
is_sign terminals.TightMinus = true
is_sign terminals.Bang = true
is_sign _ = false

abbrev pub is_term_op : Terminal → Bool
is_term_op terminals.Star = true
is_term_op terminals.Slash = true
is_term_op terminals.Percent = true
is_term_op _ = false

abbrev pub is_sum_op : Terminal → Bool
is_sum_op terminals.Plus = true
is_sum_op terminals.Minus = true
is_sum_op terminals.TightMinus = true
is_sum_op _ = false

abbrev pub is_comp_op : Terminal → Bool
is_comp_op terminals.Same = true
is_comp_op terminals.Differs = true
is_comp_op terminals.Below = true
is_comp_op terminals.AtMost = true
is_comp_op terminals.Above = true
is_comp_op terminals.AtLeast = true
is_comp_op _ = false

abbrev pub is_conj_op : Terminal → Bool
is_conj_op terminals.Both = true
is_conj_op _ = false

abbrev pub is_disj_op : Terminal → Bool
is_disj_op terminals.Either = true
is_disj_op _ = false

abbrev pub is_expr_op : Terminal → Bool
is_expr_op terminals.And = true
is_expr_op terminals.Or = true
is_expr_op _ = false

abbrev pub is_set : Terminal → Bool
is_set terminals.Set = true
is_set terminals.SetPlus = true
is_set terminals.SetMinus = true
is_set terminals.SetTimes = true
is_set _ = false

abbrev pub is_condition : Terminal → Bool
is_condition terminals.If = true
is_condition terminals.Unless = true
is_condition _ = false

-- What opens

-- The forms that begin with an opening, where some number more may be opened.
pub record Opened : Type 1 where
  -- a command or an expression in parentheses
  pub parens : Form Mark Expr
  pub list : Form Mark Expr
  -- the arguments of a call in parentheses
  pub call : Form Mark Arguments
  pub index : Form Mark Expr
  pub braces : Form Mark Block
  pub doblock : Form Mark Block
  pub iff : Form Mark Simple

-- Expressions

unfoldable pub literal : Form Mark Expr
literal = mapped (λ (t : Mark). plain (nodes.Literal (literal_of t))) (among is_literal)

-- a name, or a name and arguments in parentheses
unfoldable pub named : Opened → Form Mark Expr
named o = mapped (λ (p : Mark × Option Arguments). named_tree p.0.bytes p.1) (next (terminal terminals.Name) (λ _. optional o.call))

unfoldable pub primary : Opened → Form Mark Expr
primary o = either literal (either (named o) (either o.parens o.list))

unfoldable pub dot : Opened → Form Mark Call
dot o = mapped (λ (p : Mark × (Mark × (Option Arguments × Option Block))). dot_call p.1.0.bytes p.1.1.0 p.1.1.1)
    (next (terminal terminals.Dot) (λ _. next (terminal terminals.Name) (λ _. next (optional o.call) (λ _. optional o.braces))))

-- one part behind a value, an index or a dot, where one more may stand
unfoldable pub part : Opened → Left → Form Mark Part
part o (zero, fresh) = nothing
part o (suc n, fresh) = either (mapped (λ (e : Expr). parts.Index e) o.index) (mapped (λ (c : Call). parts.Dot c) (dot o))

abbrev pub after_part : Left → Part → Left
after_part s p = (left_after s.0 s.1 p, false)

-- at most 16 indexes and dots
abbrev pub parts_after : Opened → Expr → Form Mark (List Part)
parts_after o e = many_from after_part (part o) (16, is_bare_get e)

unfoldable pub postfix : Opened → Form Mark Expr
postfix o = mapped (λ (p : Expr × List Part). with_parts p.0 p.1) (next (primary o) (parts_after o))

unfoldable pub signed : Opened → Form Mark Expr
signed o = mapped signed_tree (next (among is_sign) (λ _. postfix o))

unfoldable pub unary : Opened → Form Mark Expr
unary o = either (signed o) (postfix o)

-- an operator of these and the part after it
unfoldable pub link : (Terminal → Bool) → Form Mark Expr → Form Mark Link
link ops a = mapped link_tree (next (among ops) (λ _. a))

-- parts with operators of these between them
unfoldable pub chain : ChainKind → (Terminal → Bool) → Form Mark Expr → Form Mark Expr
chain kind ops a = mapped (λ (p : Expr × List Link). chain_tree kind p.0 p.1) (next a (λ _. many (link ops a)))

unfoldable pub term : Opened → Form Mark Expr
term o = chain chains.Term is_term_op (unary o)

unfoldable pub sum : Opened → Form Mark Expr
sum o = chain chains.Sum is_sum_op (term o)

-- at most one comparison
unfoldable pub comp : Opened → Form Mark Expr
comp o = mapped (λ (p : Expr × Option Link). comparison p.0 p.1)
    (next (sum o) (λ _. optional (link is_comp_op (sum o))))

unfoldable pub conj : Opened → Form Mark Expr
conj o = chain chains.Conj is_conj_op (comp o)

unfoldable pub disj : Opened → Form Mark Expr
disj o = chain chains.Disj is_disj_op (conj o)

unfoldable pub negated : Opened → Form Mark Expr
negated o = mapped signed_tree (next (terminal terminals.Not) (λ _. disj o))

unfoldable pub negation : Opened → Form Mark Expr
negation o = either (negated o) (disj o)

unfoldable pub expr : Opened → Form Mark Expr
expr o = chain chains.Expr is_expr_op (negation o)

-- Arguments

unfoldable pub labelled_arg : Opened → Form Mark Argument
labelled_arg o = mapped (λ (p : Mark × Expr). (Some (label_name p.0.bytes), p.1)) (next (terminal terminals.Label) (λ _. expr o))

unfoldable pub plain_arg : Opened → Form Mark Argument
plain_arg o = mapped (λ (e : Expr). (None, e)) (expr o)

-- an argument; after one with a label only one with a label
unfoldable pub arg : Opened → Bool → Form Mark Argument
arg o true = labelled_arg o
arg o false = either (labelled_arg o) (plain_arg o)

unfoldable pub next_arg : Opened → Bool → Form Mark Argument
next_arg o s = mapped (λ (p : Mark × Argument). p.1) (next (terminal terminals.Comma) (λ _. arg o s))

abbrev pub has_label : Argument → Bool
has_label a = is_some a.0

abbrev pub labels_begun : Bool → Argument → Bool
labels_begun s a = s || has_label a

unfoldable pub args : Opened → Form Mark Arguments
args o = mapped (λ (p : Argument × List Argument). gathered no_arguments (p.0 ∷ p.1))
    (next (arg o false) (λ a. many_from labels_begun (next_arg o) (has_label a)))

unfoldable pub next_item : Opened → Form Mark Expr
next_item o = mapped (λ (p : Mark × Expr). p.1) (next (terminal terminals.Comma) (λ _. expr o))

-- the items of a list, which have no labels
unfoldable pub items : Opened → Form Mark (List Expr)
items o = mapped (λ (p : Expr × List Expr). p.0 ∷ p.1) (next (expr o) (λ _. many (next_item o)))

-- Commands

-- with which terminals, after a gap, the arguments of a command may begin
abbrev pub leads : Terminal → Bool
leads terminals.Name = true
leads terminals.Label = true
leads terminals.ListOpen = true
leads terminals.ParenOpen = true
leads terminals.Bang = true
leads terminals.TightMinus = true
leads w = is_literal w

-- a token that makes the name before it the head of a command
abbrev pub Leads : Mark → Type 0
Leads t = (t.gap ≡ true) × (leads t.terminal ≡ true)

-- the first token, where there is one, is such a token
abbrev pub IsLed : List Mark → Type 0
IsLed [] = Unit {0}
IsLed (t ∷ ts) = Leads t

-- the first token is not the head of a command, as far as there are tokens
abbrev pub IsPlain : List Mark → Type 0
IsPlain [] = Unit {0}
IsPlain (t ∷ []) = Unit {0}
IsPlain (t ∷ u ∷ ts) = t.terminal ≡ terminals.Name → Leads u → ⊥

unfoldable pub command : Opened → Form Mark Expr
command o = mapped (λ (p : Mark × Arguments). plain (nodes.Call (call_of p.0.bytes false p.1 None)))
    (next (terminal terminals.Name) (λ _. only IsLed (args o)))

-- a command or an expression, which is also what a condition is
unfoldable pub cond_form : Opened → Form Mark Expr
cond_form o = either (command o) (only IsPlain (expr o))

-- Statements

abbrev pub block_where : Opened → Bool → Form Mark (Option Block)
block_where o true = optional o.doblock
block_where o false = empty None

-- a command or an expression, and a `do` block where the tree before it takes one
unfoldable pub rhs : Opened → Form Mark Expr
rhs o = mapped (λ (p : Expr × Option Block). with_block p.0 p.1) (next (cond_form o) (λ e. block_where o (takes_block e)))

unfoldable pub assign : Opened → Form Mark Simple
assign o = mapped (λ (p : Mark × (Mark × Expr)). simples.Assign p.0.bytes (set_of p.1.0.terminal) p.1.1)
    (next (terminal terminals.Name) (λ _. next (among is_set) (λ _. rhs o)))

unfoldable pub simple : Opened → Form Mark Simple
simple o = either o.iff (either (assign o) (mapped (λ (e : Expr). simples.Value e) (rhs o)))

-- `if` or `unless` after a statement, with its condition
unfoldable pub modifier : Opened → Form Mark (Bool × Expr)
modifier o = mapped (λ (p : Mark × Expr). (is_unless p.0.terminal, p.1)) (next (among is_condition) (λ _. cond_form o))

abbrev pub first_line : List Mark → ℕ
first_line [] = 0
first_line (t ∷ ts) = t.line

unfoldable pub stmt : Opened → Form Mark Stmt
stmt o = mapped stmt_tree (with_its first_line (mapped (λ (p : Simple × Option (Bool × Expr)). form_tree p.0 p.1)
    (next (simple o) (λ _. optional (modifier o)))))

-- a line after the first: a statement or nothing after a newline
unfoldable pub line : Opened → Form Mark (Option Stmt)
line o = mapped (λ (p : Mark × Option Stmt). p.1) (next (terminal terminals.Newline) (λ _. optional (stmt o)))

-- lines, each with a statement or none
unfoldable pub block : Opened → Form Mark (List Stmt)
block o = mapped (λ (p : Option Stmt × List (Option Stmt)). present (p.0 ∷ p.1)) (next (optional (stmt o)) (λ _. many (line o)))

-- Blocks

unfoldable pub next_param : Form Mark Mark
next_param = mapped (λ (p : Mark × Mark). p.1) (next (terminal terminals.Comma) (λ _. terminal terminals.Name))

abbrev pub names_of : List Mark → List (List ℕ)
names_of [] = []
names_of (t ∷ ts) = t.bytes ∷ names_of ts

unfoldable pub params : Form Mark (List (List ℕ))
params = mapped (λ (p : Mark × (Mark × (List Mark × Mark))). names_of (p.1.0 ∷ p.1.1.0))
    (next (terminal terminals.Bar) (λ _. next (terminal terminals.Name) (λ _. next (many next_param) (λ _. terminal terminals.Bar))))

unfoldable pub elsif : Opened → Form Mark Arm
elsif o = mapped (λ (p : Mark × (Expr × (Mark × List Stmt))). arm_tree false p.1.0 p.1.1.1)
    (next (terminal terminals.Elsif) (λ _. next (cond_form o) (λ _. next (terminal terminals.Newline) (λ _. block o))))

unfoldable pub otherwise : Opened → Form Mark (List Stmt)
otherwise o = mapped (λ (p : Mark × List Stmt). p.1) (next (terminal terminals.Else) (λ _. block o))

-- The forms that begin with an opening, by what may stand inside

-- the arguments that are there, or none
abbrev pub arguments_of : Option Arguments → Arguments
arguments_of None = no_arguments
arguments_of (Some given) = given

-- the items that are there, or none
abbrev pub all_of : {V : Type 0} → Option (List V) → List V
all_of None = []
all_of (Some vs) = vs

unfoldable pub parens_of : Opened → Form Mark Expr
parens_of o = mapped (λ (p : Mark × (Expr × Mark)). wrapped p.1.0)
    (next (among is_paren_open) (λ _. next (cond_form o) (λ _. terminal terminals.ParenClose)))

unfoldable pub list_of : Opened → Form Mark Expr
list_of o = mapped (λ (p : Mark × (Option (List Expr) × Mark)). plain (nodes.List (all_of p.1.0)))
    (next (among is_list_open) (λ _. next (optional (items o)) (λ _. terminal terminals.ListClose)))

unfoldable pub call_of_args : Opened → Form Mark Arguments
call_of_args o = mapped (λ (p : Mark × (Option Arguments × Mark)). arguments_of p.1.0)
    (next (terminal terminals.CallOpen) (λ _. next (optional (args o)) (λ _. terminal terminals.ParenClose)))

unfoldable pub index_of : Opened → Form Mark Expr
index_of o = mapped (λ (p : Mark × (Expr × Mark)). p.1.0)
    (next (terminal terminals.IndexOpen) (λ _. next (expr o) (λ _. terminal terminals.ListClose)))

unfoldable pub braces_of : Opened → Form Mark Block
braces_of o = mapped (λ (p : Mark × (Option (List (List ℕ)) × (List Stmt × Mark))). block_tree p.0.number p.1.0 p.1.1.0)
    (next (terminal terminals.BraceOpen) (λ _. next (optional params) (λ _. next (block o) (λ _. terminal terminals.BraceClose))))

unfoldable pub doblock_of : Opened → Form Mark Block
doblock_of o = mapped (λ (p : Mark × (Option (List (List ℕ)) × (Mark × (List Stmt × Mark)))). block_tree p.0.number p.1.0 p.1.1.1.0)
    (next (terminal terminals.Do) (λ _. next (optional params) (λ _. next (terminal terminals.Newline) (λ _. next (block o) (λ _. terminal terminals.End)))))

unfoldable pub iff_of : Opened → Form Mark Simple
iff_of o = mapped (λ (p : Mark × (Expr × (Mark × (List Stmt × (List Arm × (Option (List Stmt) × Mark)))))).
    simples.Iff (arm_tree (is_unless p.0.terminal) p.1.0 p.1.1.1.0 ∷ p.1.1.1.1.0) p.1.1.1.1.1.0)
    (next (among is_condition) (λ _. next (cond_form o) (λ _. next (terminal terminals.Newline) (λ _. next (block o) (λ _.
    next (many (elsif o)) (λ _. next (optional (otherwise o)) (λ _. terminal terminals.End)))))))

-- Where n more may be opened: with 0 nothing has such a form, and what stands inside one may open one less.
unfoldable pub opened : ℕ → Opened
opened zero = record {
  parens = nothing;
  list = nothing;
  call = nothing;
  index = nothing;
  braces = nothing;
  doblock = nothing;
  iff = nothing;
}
opened (suc n) = record {
  parens = parens_of (opened n);
  list = list_of (opened n);
  call = call_of_args (opened n);
  index = index_of (opened n);
  braces = braces_of (opened n);
  doblock = doblock_of (opened n);
  iff = iff_of (opened n);
}
