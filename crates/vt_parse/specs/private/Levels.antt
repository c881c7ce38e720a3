-- The levels of operators.
use Rattle.std.specs.Prelude.{Bool}
use Rattle.vt_tree.specs.declared.expression.ChainKind.{ChainKind}
use Rattle.vt_tree.specs.declared.expression.ChainKind.TheVariants as chains
use Rattle.vt_tree.specs.declared.expression.Expr.{Expr}
use Rattle.vt_build.specs.declared.classes.Class.{Class}
use Rattle.vt_build.specs.declared.classes.Class.TheVariants as classes
use Rattle.vt_grammar.specs.declared.terminals.Terminal.{Terminal}
use Rattle.vt_build.specs.private.Classes.{class_terminals}
use Rattle.vt_grammar.specs.Form.{Form}
use Rattle.vt_grammar.specs.Grammar.{Opened, unary, term, sum, comp, conj, negation}
use Rattle.vt_grammar.specs.Marks.{Mark}

-- the operators of a level
abbrev pub class_of : ChainKind → Class
class_of chains.Term = classes.TermOperator
class_of chains.Sum = classes.SumOperator
class_of chains.Comp = classes.ComparisonOperator
class_of chains.Conj = classes.ConjunctionOperator
class_of chains.Disj = classes.DisjunctionOperator
class_of chains.Expr = classes.ExpressionOperator

abbrev pub ops_of : ChainKind → Terminal → Bool
ops_of kind = class_terminals (class_of kind)

-- what stands between the operators of a level
abbrev pub below : ChainKind → Opened → Form Mark Expr
below chains.Term o = unary o
below chains.Sum o = term o
below chains.Comp o = sum o
below chains.Conj o = comp o
below chains.Disj o = conj o
below chains.Expr o = negation o
