use Rattle.std.proofs.Common.{Err, refl, sym, ap, ◌∙◌, subst}
use Rattle.vt_tree.specs.declared.expression.Node.TheOpen.{Node-F, Simple-F, StmtForm-F}
use Rattle.vt_tree.specs.declared.expression.Node.TheVariants as nodes
use Rattle.vt_tree.specs.declared.statement.Simple.TheVariants as simples
use Rattle.vt_tree.specs.declared.statement.StmtForm.TheVariants as forms
use Rattle.vt_tree.specs.Parts.{Context, each, children, in_arm, in_block, in_call, in_expr, in_link, in_form, in_stmt, if_there, site, whole_block, inside}
use Rattle.vt_tree.proofs.PartsLemmas.{in_node-is, in_simple-is, in_form-is, in_call-out, in_expr-out, in_link-out, in_arm-out, in_block-out, in_stmt-out}
use Rattle.vt_check.specs.declared.fault.CheckFault.TheVariants.{At}
use Rattle.vt_check.specs.private.Judging.{Judges, site_of}
use Rattle.vt_check.proofs.JudgingLemmas.{judges_at, judges_none, judges_first, judges_then, handed_on, moved, left_all, left_next, left_fails, left_none, judges_sound, judges_fault, judges_wanting, of_none, of_some, opened_then}
use Rattle.vt_check.proofs.walk.+walk.Goals as goal

pub check_arms-loop-arm-init : goal.check_arms-loop-arm-init
check_arms-loop-arm-init t c =
    left_all in_arm c.args.arms.now _

pub check_arms-returns-in_err-check_arm : goal.check_arms-returns-in_err-check_arm
check_arms-returns-in_err-check_arm t c =
    handed_on _ _ _ c.from_residual.ensures.1 (left_fails in_arm c.args.arms.now _ c.loop-arm.arm-index c.arm-item.result _ c.loop-arm.invariant c.loop-arm-test.true c.arm-item.is c.in_err-check_arm.ensures)

pub check_arms-loop-arm-preserved : goal.check_arms-loop-arm-preserved
check_arms-loop-arm-preserved t c =
    left_next in_arm c.args.arms.now _ c.loop-arm.arm-index c.arm-item.result c.loop-arm.invariant c.loop-arm-test.true c.arm-item.is c.in_ok-check_arm.ensures

pub check_arms-returns : goal.check_arms-returns
check_arms-returns t c =
    left_none in_arm c.args.arms.now _ c.loop-arm.arm-index c.loop-arm.invariant c.loop-arm-test.false

pub check_exprs-loop-expr-init : goal.check_exprs-loop-expr-init
check_exprs-loop-expr-init t c =
    left_all in_expr c.args.exprs.now _

pub check_exprs-returns-in_err-check_expr : goal.check_exprs-returns-in_err-check_expr
check_exprs-returns-in_err-check_expr t c =
    handed_on _ _ _ c.from_residual.ensures.1 (left_fails in_expr c.args.exprs.now _ c.loop-expr.expr-index c.expr-item.result _ c.loop-expr.invariant c.loop-expr-test.true c.expr-item.is c.in_err-check_expr.ensures)

pub check_exprs-loop-expr-preserved : goal.check_exprs-loop-expr-preserved
check_exprs-loop-expr-preserved t c =
    left_next in_expr c.args.exprs.now _ c.loop-expr.expr-index c.expr-item.result c.loop-expr.invariant c.loop-expr-test.true c.expr-item.is c.in_ok-check_expr.ensures

pub check_exprs-returns : goal.check_exprs-returns
check_exprs-returns t c =
    left_none in_expr c.args.exprs.now _ c.loop-expr.expr-index c.loop-expr.invariant c.loop-expr-test.false

pub check_links-loop-link-init : goal.check_links-loop-link-init
check_links-loop-link-init t c =
    left_all in_link c.args.links.now _

pub check_links-returns-in_err-check_expr : goal.check_links-returns-in_err-check_expr
check_links-returns-in_err-check_expr t c =
    handed_on _ _ _ c.from_residual.ensures.1 (left_fails in_link c.args.links.now _ c.loop-link.link-index c.link-item.result _ c.loop-link.invariant c.loop-link-test.true c.link-item.is (judges_at (in_link-out c.link-item.result _) c.in_err-check_expr.ensures))

pub check_links-loop-link-preserved : goal.check_links-loop-link-preserved
check_links-loop-link-preserved t c =
    left_next in_link c.args.links.now _ c.loop-link.link-index c.link-item.result c.loop-link.invariant c.loop-link-test.true c.link-item.is (judges_at (in_link-out c.link-item.result _) c.in_ok-check_expr.ensures)

pub check_links-returns : goal.check_links-returns
check_links-returns t c =
    left_none in_link c.args.links.now _ c.loop-link.link-index c.loop-link.invariant c.loop-link-test.false

pub check_options-loop-option-init : goal.check_options-loop-option-init
check_options-loop-option-init t c =
    left_all (λ option. in_expr option.1) c.args.options.now _

pub check_options-returns-in_err-check_expr : goal.check_options-returns-in_err-check_expr
check_options-returns-in_err-check_expr t c =
    handed_on _ _ _ c.from_residual.ensures.1 (left_fails (λ option. in_expr option.1) c.args.options.now _ c.loop-option.option-index c.option-item.result _ c.loop-option.invariant c.loop-option-test.true c.option-item.is c.in_err-check_expr.ensures)

pub check_options-loop-option-preserved : goal.check_options-loop-option-preserved
check_options-loop-option-preserved t c =
    left_next (λ option. in_expr option.1) c.args.options.now _ c.loop-option.option-index c.option-item.result c.loop-option.invariant c.loop-option-test.true c.option-item.is c.in_ok-check_expr.ensures

pub check_options-returns : goal.check_options-returns
check_options-returns t c =
    left_none (λ option. in_expr option.1) c.args.options.now _ c.loop-option.option-index c.loop-option.invariant c.loop-option-test.false

pub check_stmts-loop-stmt-init : goal.check_stmts-loop-stmt-init
check_stmts-loop-stmt-init t c =
    left_all in_stmt c.args.stmts.now _

pub check_stmts-returns-in_err-check_stmt : goal.check_stmts-returns-in_err-check_stmt
check_stmts-returns-in_err-check_stmt t c =
    handed_on _ _ _ c.from_residual.ensures.1 (left_fails in_stmt c.args.stmts.now _ c.loop-stmt.stmt-index c.stmt-item.result _ c.loop-stmt.invariant c.loop-stmt-test.true c.stmt-item.is c.in_err-check_stmt.ensures)

pub check_stmts-loop-stmt-preserved : goal.check_stmts-loop-stmt-preserved
check_stmts-loop-stmt-preserved t c =
    left_next in_stmt c.args.stmts.now _ c.loop-stmt.stmt-index c.stmt-item.result c.loop-stmt.invariant c.loop-stmt-test.true c.stmt-item.is c.in_ok-check_stmt.ensures

pub check_stmts-returns : goal.check_stmts-returns
check_stmts-returns t c =
    left_none in_stmt c.args.stmts.now _ c.loop-stmt.stmt-index c.loop-stmt.invariant c.loop-stmt-test.false

pub check_arm-returns-in_err-check_expr : goal.check_arm-returns-in_err-check_expr
check_arm-returns-in_err-check_expr t c =
    judges_at (in_arm-out c.args.arm.now _) (handed_on _ _ _ c.from_residual.ensures.1 (judges_first _ _ _ c.in_err-check_expr.ensures))

pub check_arm-returns : goal.check_arm-returns
check_arm-returns t c =
    judges_at (in_arm-out c.args.arm.now _) (judges_then _ _ _ _ c.in_ok-check_expr.ensures (moved (each in_stmt) c.as_slice.ensures refl c.check_stmts.ensures))

pub check_block-returns : goal.check_block-returns
check_block-returns t c =
    judges_at (in_block-out c.args.block.now _) (moved (each in_stmt) c.as_slice.ensures refl c.check_stmts.ensures)

pub check_stmt-returns : goal.check_stmt-returns
check_stmt-returns t c =
    judges_at (in_stmt-out c.args.stmt.now _) (moved in_form refl c.at_line.ensures c.check_form.ensures)

pub check_expr-returns : goal.check_expr-returns
check_expr-returns t c =
    judges_at (in_expr-out c.args.expr.now _) c.check_node.ensures

pub check_node-returns-in-Literal : goal.check_node-returns-in-Literal
check_node-returns-in-Literal t c =
    judges_at (in_node-is _ (Node-F.Literal c.in-Literal.field-0) _ (c.in-Literal.is ∙ sym (nodes.rolls-Literal _))) judges_none

pub check_node-returns-in-Name : goal.check_node-returns-in-Name
check_node-returns-in-Name t c =
    judges_at (in_node-is _ (Node-F.Name c.in-Name.field-0) _ (c.in-Name.is ∙ sym (nodes.rolls-Name _))) judges_none

pub check_node-returns-in-Call : goal.check_node-returns-in-Call
check_node-returns-in-Call t c =
    judges_at (in_node-is _ (Node-F.Call c.in-Call.call) _ (c.in-Call.is ∙ sym (nodes.rolls-Call _))) c.check_call.ensures

pub check_node-returns-in-List : goal.check_node-returns-in-List
check_node-returns-in-List t c =
    judges_at (in_node-is _ (Node-F.List c.in-List.items) _ (c.in-List.is ∙ sym (nodes.rolls-List _))) (moved (each in_expr) c.as_slice.ensures c.inside.ensures c.check_exprs.ensures)

pub check_node-returns-in_err-check_expr-in-Index : goal.check_node-returns-in_err-check_expr-in-Index
check_node-returns-in_err-check_expr-in-Index t c =
    judges_at (in_node-is _ (Node-F.Index c.in-Index.of c.in-Index.at) _ (c.in-Index.is ∙ sym (nodes.rolls-Index _ _))) (handed_on _ _ _ c.from_residual.ensures.1 (judges_first _ _ _ (moved in_expr c.get.ensures c.inside-in-Index.ensures c.in_err-check_expr-in-Index.ensures)))

pub check_node-returns-in_ok-check_expr-in-Index : goal.check_node-returns-in_ok-check_expr-in-Index
check_node-returns-in_ok-check_expr-in-Index t c =
    judges_at (in_node-is _ (Node-F.Index c.in-Index.of c.in-Index.at) _ (c.in-Index.is ∙ sym (nodes.rolls-Index _ _))) (judges_then _ _ _ _ (moved in_expr c.get.ensures c.inside-in-Index.ensures c.in_ok-check_expr-in-Index.ensures) (moved in_expr c.get-in-Index.ensures c.inside-in-Index-2.ensures c.check_expr-in-Index.ensures))

pub check_node-returns-in_err-check_expr-in-Dot : goal.check_node-returns-in_err-check_expr-in-Dot
check_node-returns-in_err-check_expr-in-Dot t c =
    judges_at (in_node-is _ (Node-F.Dot c.in-Dot.of c.in-Dot.call) _ (c.in-Dot.is ∙ sym (nodes.rolls-Dot _ _))) (handed_on _ _ _ c.from_residual-in_err-check_expr-in-Dot.ensures.1 (judges_first _ _ _ (moved in_expr c.get-in-Dot.ensures c.inside-in-Dot.ensures c.in_err-check_expr-in-Dot.ensures)))

pub check_node-returns-in_ok-check_expr-in-Dot : goal.check_node-returns-in_ok-check_expr-in-Dot
check_node-returns-in_ok-check_expr-in-Dot t c =
    judges_at (in_node-is _ (Node-F.Dot c.in-Dot.of c.in-Dot.call) _ (c.in-Dot.is ∙ sym (nodes.rolls-Dot _ _))) (judges_then _ _ _ _ (moved in_expr c.get-in-Dot.ensures c.inside-in-Dot.ensures c.in_ok-check_expr-in-Dot.ensures) (moved (site children) refl c.after_dot.ensures c.check_call-in-Dot.ensures))

pub check_node-returns-in-Unary : goal.check_node-returns-in-Unary
check_node-returns-in-Unary t c =
    judges_at (in_node-is _ (Node-F.Unary c.in-Unary.op c.in-Unary.of) _ (c.in-Unary.is ∙ sym (nodes.rolls-Unary _ _))) (moved in_expr c.get-in-Unary.ensures c.inside-in-Unary.ensures c.check_expr-in-Unary.ensures)

pub check_node-returns-in_err-check_expr-in-Chain : goal.check_node-returns-in_err-check_expr-in-Chain
check_node-returns-in_err-check_expr-in-Chain t c =
    judges_at (in_node-is _ (Node-F.Chain c.in-Chain.kind c.in-Chain.first c.in-Chain.rest) _ (c.in-Chain.is ∙ sym (nodes.rolls-Chain _ _ _))) (handed_on _ _ _ c.from_residual-in_err-check_expr-in-Chain.ensures.1 (judges_first _ _ _ (moved in_expr c.get-in-Chain.ensures c.inside-in-Chain.ensures c.in_err-check_expr-in-Chain.ensures)))

pub check_node-returns-in_ok-check_expr-in-Chain : goal.check_node-returns-in_ok-check_expr-in-Chain
check_node-returns-in_ok-check_expr-in-Chain t c =
    judges_at (in_node-is _ (Node-F.Chain c.in-Chain.kind c.in-Chain.first c.in-Chain.rest) _ (c.in-Chain.is ∙ sym (nodes.rolls-Chain _ _ _))) (judges_then _ _ _ _ (moved in_expr c.get-in-Chain.ensures c.inside-in-Chain.ensures c.in_ok-check_expr-in-Chain.ensures) (moved (each in_link) c.as_slice-in-Chain.ensures c.inside-in-Chain-2.ensures c.check_links.ensures))

pub check_form-returns-in-Plain : goal.check_form-returns-in-Plain
check_form-returns-in-Plain t c =
    judges_at (in_form-is _ (StmtForm-F.Plain c.in-Plain.simple) _ (c.in-Plain.is ∙ sym (forms.rolls-Plain _))) c.check_simple.ensures

pub check_form-returns-in_err-check_simple-in-Guarded : goal.check_form-returns-in_err-check_simple-in-Guarded
check_form-returns-in_err-check_simple-in-Guarded t c =
    judges_at (in_form-is _ (StmtForm-F.Guarded c.in-Guarded.simple c.in-Guarded.unless c.in-Guarded.cond) _ (c.in-Guarded.is ∙ sym (forms.rolls-Guarded _ _ _))) (handed_on _ _ _ c.from_residual.ensures.1 (judges_first _ _ _ c.in_err-check_simple-in-Guarded.ensures))

pub check_form-returns-in_ok-check_simple-in-Guarded : goal.check_form-returns-in_ok-check_simple-in-Guarded
check_form-returns-in_ok-check_simple-in-Guarded t c =
    judges_at (in_form-is _ (StmtForm-F.Guarded c.in-Guarded.simple c.in-Guarded.unless c.in-Guarded.cond) _ (c.in-Guarded.is ∙ sym (forms.rolls-Guarded _ _ _))) (judges_then _ _ _ _ c.in_ok-check_simple-in-Guarded.ensures (moved in_expr refl c.inside.ensures c.check_expr.ensures))

pub check_simple-returns-in_err-check_arms-in-Iff : goal.check_simple-returns-in_err-check_arms-in-Iff
check_simple-returns-in_err-check_arms-in-Iff t c =
    judges_at (in_simple-is _ (Simple-F.Iff c.in-Iff.arms c.in-Iff.other) _ (c.in-Iff.is ∙ sym (simples.rolls-Iff _ _))) (handed_on _ _ _ c.from_residual.ensures.1 (judges_first _ _ _ (moved (each in_arm) c.as_slice.ensures c.inside.ensures c.in_err-check_arms-in-Iff.ensures)))

pub check_simple-returns-in-None : goal.check_simple-returns-in-None
check_simple-returns-in-None t c =
    judges_at (in_simple-is _ (Simple-F.Iff c.in-Iff.arms c.in-Iff.other) _ (c.in-Iff.is ∙ sym (simples.rolls-Iff _ _))) (judges_then _ _ _ _ (moved (each in_arm) c.as_slice.ensures c.inside.ensures c.in_ok-check_arms-in-Iff.ensures) (judges_at (ap (λ o. if_there (each in_stmt) o (inside c.args.context)) c.in-None.is) judges_none))

pub check_simple-returns-in-Some : goal.check_simple-returns-in-Some
check_simple-returns-in-Some t c =
    judges_at (in_simple-is _ (Simple-F.Iff c.in-Iff.arms c.in-Iff.other) _ (c.in-Iff.is ∙ sym (simples.rolls-Iff _ _))) (judges_then _ _ _ _ (moved (each in_arm) c.as_slice.ensures c.inside.ensures c.in_ok-check_arms-in-Iff.ensures) (judges_at (ap (λ o. if_there (each in_stmt) o (inside c.args.context)) c.in-Some.is) (moved (each in_stmt) c.as_slice-in-Some.ensures c.inside-in-Some.ensures c.check_stmts.ensures)))

pub check_simple-returns-in-Assign : goal.check_simple-returns-in-Assign
check_simple-returns-in-Assign t c =
    judges_at (in_simple-is _ (Simple-F.Assign c.in-Assign.name c.in-Assign.op c.in-Assign.value) _ (c.in-Assign.is ∙ sym (simples.rolls-Assign _ _ _))) (moved in_expr refl c.inside-in-Assign.ensures c.check_expr.ensures)

pub check_simple-returns-in-Value : goal.check_simple-returns-in-Value
check_simple-returns-in-Value t c =
    judges_at (in_simple-is _ (Simple-F.Value c.in-Value.value) _ (c.in-Value.is ∙ sym (simples.rolls-Value _))) c.check_expr-in-Value.ensures

pub check_call-returns-in_err-found : goal.check_call-returns-in_err-found
check_call-returns-in_err-found t c =
    judges_wanting _ _ c.from_residual.ensures.1

pub check_call-returns-in-Some : goal.check_call-returns-in-Some
check_call-returns-in-Some t c =
    subst (λ (p : Context). Judges {U = Unit {0}} (site children c.args.call.now c.args.context) (Err (At p.line c.in-Some.kind))) (sym c.context.view_is)
    (judges_fault (site_of c.args.context c.args.call.now) (in_call c.args.call.now c.args.context) c.in-Some.kind (of_some _ _ _ c.in-Some.is c.in_ok-found.ensures))

pub check_call-returns-in-None : goal.check_call-returns-in-None
check_call-returns-in-None t c =
    judges_sound (site_of c.args.context c.args.call.now) (in_call c.args.call.now c.args.context) c.check_inside.result (of_none _ _ c.in-None.is c.in_ok-found.ensures) c.check_inside.ensures

pub check_inside-returns-in_err-check_exprs : goal.check_inside-returns-in_err-check_exprs
check_inside-returns-in_err-check_exprs t c =
    judges_at (in_call-out c.args.call.now _) (handed_on _ _ _ c.from_residual.ensures.1 (judges_first _ _ _ (moved (each in_expr) c.as_slice.ensures c.inside.ensures c.in_err-check_exprs.ensures)))

pub check_inside-returns-in_err-check_options : goal.check_inside-returns-in_err-check_options
check_inside-returns-in_err-check_options t c =
    judges_at (in_call-out c.args.call.now _) (handed_on _ _ _ c.from_residual-in_err-check_options.ensures.1 (judges_then _ _ _ _ (moved (each in_expr) c.as_slice.ensures c.inside.ensures c.in_ok-check_exprs.ensures) (judges_first _ _ _ (moved (each (λ option. in_expr option.1)) c.as_slice-2.ensures c.inside-2.ensures c.in_err-check_options.ensures))))

pub check_inside-returns-in-None : goal.check_inside-returns-in-None
check_inside-returns-in-None t c =
    judges_at (in_call-out c.args.call.now _) (judges_then _ _ _ _ (moved (each in_expr) c.as_slice.ensures c.inside.ensures c.in_ok-check_exprs.ensures) (judges_then _ _ _ _ (moved (each (λ option. in_expr option.1)) c.as_slice-2.ensures c.inside-2.ensures c.in_ok-check_options.ensures) (judges_at (ap (λ o. if_there (whole_block children) o (inside c.args.context)) c.in-None.is) judges_none)))

pub check_inside-returns-in-Some : goal.check_inside-returns-in-Some
check_inside-returns-in-Some t c =
    judges_at (in_call-out c.args.call.now _) (judges_then _ _ _ _ (moved (each in_expr) c.as_slice.ensures c.inside.ensures c.in_ok-check_exprs.ensures) (judges_then _ _ _ _ (moved (each (λ option. in_expr option.1)) c.as_slice-2.ensures c.inside-2.ensures c.in_ok-check_options.ensures) (judges_at (ap (λ o. if_there (whole_block children) o (inside c.args.context)) c.in-Some.is) (opened_then _ _ _ (moved in_block c.get.ensures c.inside-in-Some.ensures c.check_block.ensures)))))
