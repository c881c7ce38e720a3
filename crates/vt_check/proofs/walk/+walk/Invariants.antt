use Rattle.vt_tree.specs.Parts.{in_arm, in_expr, in_link, in_stmt}
use Rattle.vt_check.proofs.JudgingLemmas.{Left}
use Rattle.vt_check.proofs.walk.+walk.Given as goal

abbrev pub invariant-check_arms-loop-arm : goal.invariant-check_arms-loop-arm
invariant-check_arms-loop-arm l = Left in_arm l.arms l.context l.arm-index

abbrev pub invariant-check_exprs-loop-expr : goal.invariant-check_exprs-loop-expr
invariant-check_exprs-loop-expr l = Left in_expr l.exprs l.context l.expr-index

abbrev pub invariant-check_links-loop-link : goal.invariant-check_links-loop-link
invariant-check_links-loop-link l = Left in_link l.links l.context l.link-index

abbrev pub invariant-check_options-loop-option : goal.invariant-check_options-loop-option
invariant-check_options-loop-option l = Left (λ option. in_expr option.1) l.options l.context l.option-index

abbrev pub invariant-check_stmts-loop-stmt : goal.invariant-check_stmts-loop-stmt
invariant-check_stmts-loop-stmt l = Left in_stmt l.stmts l.context l.stmt-index
