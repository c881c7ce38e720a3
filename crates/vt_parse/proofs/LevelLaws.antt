-- The laws of each level of operators, and of what stands between them.
use Rattle.std.proofs.Common.{◌≡◌, Bool, true, false, List, refl, sym, subst}
use Rattle.vt_tree.specs.declared.expression.ChainKind.{ChainKind}
use Rattle.vt_tree.specs.declared.expression.ChainKind.TheVariants as chains
use Rattle.vt_tree.specs.declared.expression.Expr.{Expr}
use Rattle.std.proofs.Common.{Option, Result}
use Rattle.vt_build.specs.declared.fault.Fault.{Fault}
use Rattle.vt_parse.specs.private.Parses.{Parses, peeked_in}
use Rattle.vt_tree.specs.declared.statement.Block.{Block}
use Rattle.vt_grammar.specs.Trees.{Argument}
use Rattle.vt_build.specs.declared.classes.Class.{Class}
use Rattle.vt_grammar.specs.declared.terminals.Terminal.{Terminal}
use Rattle.vt_grammar.specs.Form.{many, optional}
use Rattle.vt_grammar.specs.private.Parsing.{Read, Stuck}
use Rattle.vt_grammar.specs.Marks.{Mark}
use Rattle.vt_build.specs.private.Classes.{class_terminals}
use Rattle.vt_parse.specs.private.Levels.{below, ops_of}
use Rattle.vt_grammar.specs.Grammar.{Opened, among, arg, labelled_arg, block_where, link}
use Rattle.vt_grammar.specs.private.Sets.{UnaryStarts, ExprStarts, PostfixGoes, TermGoes, SumGoes, CompGoes, ConjGoes, DisjGoes, ExprGoes}
use Rattle.vt_grammar.proofs.TerminalSets.{disjoint}
use Rattle.vt_grammar.proofs.MarkLaws.{Rule, Maybe, repeat}
use Rattle.vt_grammar.proofs.Rules.{Brackets, link_rule, unary_rule, term_rule, sum_rule, comp_rule, conj_rule, negation_rule}

abbrev pub BelowStarts : ChainKind → Bool → Terminal → Bool
BelowStarts chains.Expr b = ExprStarts b
BelowStarts kind b = UnaryStarts b

abbrev pub BelowGoes : ChainKind → Terminal → Bool
BelowGoes chains.Term = PostfixGoes
BelowGoes chains.Sum = TermGoes
BelowGoes chains.Comp = SumGoes
BelowGoes chains.Conj = CompGoes
BelowGoes chains.Disj = ConjGoes
BelowGoes chains.Expr = DisjGoes

abbrev pub LevelGoes : ChainKind → Terminal → Bool
LevelGoes chains.Term = TermGoes
LevelGoes chains.Sum = SumGoes
LevelGoes chains.Comp = CompGoes
LevelGoes chains.Conj = ConjGoes
LevelGoes chains.Disj = DisjGoes
LevelGoes chains.Expr = ExprGoes

pub level_apart : (kind : ChainKind) → disjoint (BelowGoes kind) (ops_of kind) ≡ true
level_apart chains.Term = refl
level_apart chains.Sum = refl
level_apart chains.Comp = refl
level_apart chains.Conj = refl
level_apart chains.Disj = refl
level_apart chains.Expr = refl

module _ (s : Opened) (b : Bool) (bs : Brackets s b) where
  pub below_rule : (kind : ChainKind) → Rule (below kind s) (BelowStarts kind b) (BelowGoes kind)
  below_rule chains.Term = unary_rule s b bs
  below_rule chains.Sum = term_rule s b bs
  below_rule chains.Comp = sum_rule s b bs
  below_rule chains.Conj = comp_rule s b bs
  below_rule chains.Disj = conj_rule s b bs
  below_rule chains.Expr = negation_rule s b bs

  pub level_link : (kind : ChainKind) → Rule (link (ops_of kind) (below kind s)) (ops_of kind) (BelowGoes kind)
  level_link kind = link_rule (below_rule kind)

  pub links_maybe : (kind : ChainKind) → Maybe (many (link (ops_of kind) (below kind s))) (ops_of kind) (LevelGoes kind)
  links_maybe chains.Term = repeat TermGoes (level_link chains.Term) refl refl refl
  links_maybe chains.Sum = repeat SumGoes (level_link chains.Sum) refl refl refl
  links_maybe chains.Comp = repeat CompGoes (level_link chains.Comp) refl refl refl
  links_maybe chains.Conj = repeat ConjGoes (level_link chains.Conj) refl refl refl
  links_maybe chains.Disj = repeat DisjGoes (level_link chains.Disj) refl refl refl
  links_maybe chains.Expr = repeat ExprGoes (level_link chains.Expr) refl refl refl

-- a class by another name
pub class_read : {c d : Class} {o n : List Mark} {t : Mark} → c ≡ d → Read (among (class_terminals c)) o n t → Read (among (class_terminals d)) o n t
class_read {o = o} {n = n} {t = t} e h = subst (λ z. Read (among (class_terminals z)) o n t) e h

pub class_stuck : {c d : Class} {o n : List Mark} → c ≡ d → Stuck (among (class_terminals c)) o n → Stuck (among (class_terminals d)) o n
class_stuck {o = o} {n = n} e h = subst (λ z. Stuck (among (class_terminals z)) o n) e h

pub class_peeked : {c d : Class} (o : List Mark) {b : Bool} → c ≡ d → peeked_in (class_terminals c) o ≡ b → peeked_in (class_terminals d) o ≡ b
class_peeked o {b = b} e h = subst (λ z. peeked_in (class_terminals z) o ≡ b) e h

-- an argument after one with a label
pub labels_ok : (s : Opened) (labels : Bool) {o n : List Mark} {v : Argument} → labels ≡ true → Read (labelled_arg s) o n v → Read (arg s labels) o n v
unfolding arg
labels_ok s true e h = h
labels_ok s false e h = absurd (cc)

pub labels_err : (s : Opened) (labels : Bool) {o n : List Mark} → labels ≡ true → Stuck (labelled_arg s) o n → Stuck (arg s labels) o n
unfolding arg
labels_err s true e h = h
labels_err s false e h = absurd (cc)

pub no_labels_ok : (s : Opened) (labels : Bool) {o n : List Mark} {v : Argument} → labels ≡ false → Read (arg s false) o n v → Read (arg s labels) o n v
no_labels_ok s false e h = h
no_labels_ok s true e h = absurd (cc)

pub no_labels_err : (s : Opened) (labels : Bool) {o n : List Mark} → labels ≡ false → Stuck (arg s false) o n → Stuck (arg s labels) o n
no_labels_err s false e h = h
no_labels_err s true e h = absurd (cc)

-- a block where one is taken
pub taken_ok : (s : Opened) (b : Bool) {o n : List Mark} {v : Option Block} → b ≡ true → Read (optional s.doblock) o n v → Read (block_where s b) o n v
taken_ok s true e h = h
taken_ok s false e h = absurd (cc)

pub taken_err : (s : Opened) (b : Bool) {o n : List Mark} → b ≡ true → Stuck (optional s.doblock) o n → Stuck (block_where s b) o n
taken_err s true e h = h
taken_err s false e h = absurd (cc)

-- what stands between the operators of a level, by its name
pub below_is : {kind : ChainKind} (other : ChainKind) (s : Opened) (o n : List Mark) (r : Result Expr Fault) → kind ≡ other → Parses (below other s) o n r → Parses (below kind s) o n r
below_is other s o n r e h = subst (λ z. Parses (below z s) o n r) (sym e) h
