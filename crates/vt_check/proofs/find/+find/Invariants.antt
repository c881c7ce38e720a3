use Rattle.vt_tree.specs.Parts.{in_arm, in_expr, in_link, in_stmt}
use Rattle.vt_check.proofs.FindLemmas.{Left}
use Rattle.vt_check.proofs.find.+find.Given as goal

abbrev pub invariant-find_arms-loop-arm : goal.invariant-find_arms-loop-arm
invariant-find_arms-loop-arm l = Left l.number in_arm l.arms l.arm-index

abbrev pub invariant-find_exprs-loop-expr : goal.invariant-find_exprs-loop-expr
invariant-find_exprs-loop-expr l = Left l.number in_expr l.exprs l.expr-index

abbrev pub invariant-find_links-loop-link : goal.invariant-find_links-loop-link
invariant-find_links-loop-link l = Left l.number in_link l.links l.link-index

abbrev pub invariant-find_options-loop-option : goal.invariant-find_options-loop-option
invariant-find_options-loop-option l = Left l.number (λ option. in_expr option.1) l.options l.option-index

abbrev pub invariant-find_stmts-loop-stmt : goal.invariant-find_stmts-loop-stmt
invariant-find_stmts-loop-stmt l = Left l.number in_stmt l.stmts l.stmt-index
