use Rattle.std.proofs.Common.{◌≡◌, map, take}
use Rattle.vt_reach.specs.Founds.{all_of}
use Rattle.vt_reach.specs.TreeMentions.{arm_found, link_found, stmt_found}
use Rattle.vt_reach.specs.private.Given.{found_in_expr, found_in_option}
use Rattle.vt_reach.proofs.walk.+walk.Given as goal

abbrev pub invariant-in_arms-loop-arm : goal.invariant-in_arms-loop-arm
invariant-in_arms-loop-arm l = l.found ≡ all_of (map arm_found (take l.arm-index l.arms))

abbrev pub invariant-in_exprs-loop-expr : goal.invariant-in_exprs-loop-expr
invariant-in_exprs-loop-expr l = l.found ≡ all_of (map found_in_expr (take l.expr-index l.exprs))

abbrev pub invariant-in_links-loop-link : goal.invariant-in_links-loop-link
invariant-in_links-loop-link l = l.found ≡ all_of (map link_found (take l.link-index l.links))

abbrev pub invariant-in_options-loop-option : goal.invariant-in_options-loop-option
invariant-in_options-loop-option l = l.found ≡ all_of (map found_in_option (take l.option-index l.options))

abbrev pub invariant-in_stmts-loop-stmt : goal.invariant-in_stmts-loop-stmt
invariant-in_stmts-loop-stmt l = l.found ≡ all_of (map stmt_found (take l.stmt-index l.stmts))
