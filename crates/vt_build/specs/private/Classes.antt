-- The classes of tokens that the parser asks for.
use Rattle.std.specs.Prelude.{Bool}
use Rattle.vt_build.specs.declared.classes.Class.{Class}
use Rattle.vt_build.specs.declared.classes.Class.TheVariants as classes
use Rattle.vt_grammar.specs.declared.terminals.Terminal.{Terminal}
use Rattle.vt_grammar.specs.Grammar.{is_literal, is_paren_open, is_list_open, is_sign, is_term_op, is_sum_op, is_comp_op, is_conj_op, is_disj_op, is_expr_op, is_set, is_condition}

-- the terminals of the tokens of a class
abbrev pub class_terminals : Class → Terminal → Bool
class_terminals classes.Literal = is_literal
class_terminals classes.ParenthesisOpen = is_paren_open
class_terminals classes.ListOpen = is_list_open
class_terminals classes.Sign = is_sign
class_terminals classes.TermOperator = is_term_op
class_terminals classes.SumOperator = is_sum_op
class_terminals classes.ComparisonOperator = is_comp_op
class_terminals classes.ConjunctionOperator = is_conj_op
class_terminals classes.DisjunctionOperator = is_disj_op
class_terminals classes.ExpressionOperator = is_expr_op
class_terminals classes.Set = is_set
class_terminals classes.Condition = is_condition
