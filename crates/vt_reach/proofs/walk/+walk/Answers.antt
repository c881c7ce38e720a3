use Rattle.std.proofs.Common.{map, refl, sym, ap, ◌∙◌}
use Rattle.vt_tree.specs.declared.expression.Node.TheOpen.{Node-F, Simple-F, StmtForm-F}
use Rattle.vt_tree.specs.declared.expression.Node.TheVariants as nodes
use Rattle.vt_tree.specs.declared.statement.Simple.TheVariants as simples
use Rattle.vt_tree.specs.declared.statement.StmtForm.TheVariants as forms
use Rattle.vt_reach.specs.Founds.{all_of, only}
use Rattle.vt_reach.specs.Mentions.{assigns, runs_name}
use Rattle.vt_reach.specs.TreeMentions.{arm_found, link_found, stmt_found}
use Rattle.vt_reach.specs.private.Given.{found_in_expr, found_in_option}
use Rattle.vt_reach.proofs.TreeFounds.{arm_is, block_is, call_found_is, expr_is, exprs_seen, form_is, found_last, found_next, iff_none, iff_some, joined_is, link_is, node_of_literal, ok_same, simple_is, stmt_is}
use Rattle.vt_reach.proofs.walk.+walk.Goals as goal

pub in_arms-loop-arm-preserved : goal.in_arms-loop-arm-preserved
in_arms-loop-arm-preserved t c =
    c.in_ok-add.ensures ∙ found_next arm_found c.args.arms.now c.loop-arm.arm-index c.arm-item.result c.loop-arm.found c.in_ok-in_arm.field-0 c.loop-arm.invariant c.loop-arm-test.true c.arm-item.is (c.in_ok-in_arm.ensures)

pub in_arms-returns : goal.in_arms-returns
in_arms-returns t c =
    found_last arm_found c.args.arms.now c.loop-arm.arm-index c.loop-arm.found c.loop-arm.invariant c.loop-arm-test.false

pub in_exprs-loop-expr-preserved : goal.in_exprs-loop-expr-preserved
in_exprs-loop-expr-preserved t c =
    c.in_ok-add.ensures ∙ found_next found_in_expr c.args.exprs.now c.loop-expr.expr-index c.expr-item.result c.loop-expr.found c.in_ok-in_expr.field-0 c.loop-expr.invariant c.loop-expr-test.true c.expr-item.is (c.in_ok-in_expr.ensures)

pub in_exprs-returns : goal.in_exprs-returns
in_exprs-returns t c =
    found_last found_in_expr c.args.exprs.now c.loop-expr.expr-index c.loop-expr.found c.loop-expr.invariant c.loop-expr-test.false

pub in_links-loop-link-preserved : goal.in_links-loop-link-preserved
in_links-loop-link-preserved t c =
    c.in_ok-add.ensures ∙ found_next link_found c.args.links.now c.loop-link.link-index c.link-item.result c.loop-link.found c.in_ok-in_expr.field-0 c.loop-link.invariant c.loop-link-test.true c.link-item.is (c.in_ok-in_expr.ensures ∙ sym (link_is c.link-item.result))

pub in_links-returns : goal.in_links-returns
in_links-returns t c =
    found_last link_found c.args.links.now c.loop-link.link-index c.loop-link.found c.loop-link.invariant c.loop-link-test.false

pub in_options-loop-option-preserved : goal.in_options-loop-option-preserved
in_options-loop-option-preserved t c =
    c.in_ok-add.ensures ∙ found_next found_in_option c.args.options.now c.loop-option.option-index c.option-item.result c.loop-option.found c.in_ok-in_expr.field-0 c.loop-option.invariant c.loop-option-test.true c.option-item.is (c.in_ok-in_expr.ensures)

pub in_options-returns : goal.in_options-returns
in_options-returns t c =
    found_last found_in_option c.args.options.now c.loop-option.option-index c.loop-option.found c.loop-option.invariant c.loop-option-test.false

pub in_stmts-loop-stmt-preserved : goal.in_stmts-loop-stmt-preserved
in_stmts-loop-stmt-preserved t c =
    c.in_ok-add.ensures ∙ found_next stmt_found c.args.stmts.now c.loop-stmt.stmt-index c.stmt-item.result c.loop-stmt.found c.in_ok-in_form.field-0 c.loop-stmt.invariant c.loop-stmt-test.true c.stmt-item.is (c.in_ok-in_form.ensures ∙ sym (stmt_is c.stmt-item.result))

pub in_stmts-returns : goal.in_stmts-returns
in_stmts-returns t c =
    found_last stmt_found c.args.stmts.now c.loop-stmt.stmt-index c.loop-stmt.found c.loop-stmt.invariant c.loop-stmt-test.false

pub in_arm-returns : goal.in_arm-returns
in_arm-returns t c =
    joined_is _ _ _ _ _ _ c.in_ok-add.ensures c.in_ok-found.ensures (c.in_ok-in_stmts.ensures ∙ ap (λ xs. all_of (map stmt_found xs)) c.as_slice.ensures) (sym (arm_is c.args.arm.now))

pub in_block-returns : goal.in_block-returns
in_block-returns t c =
    ok_same _ _ _ (ap (λ xs. all_of (map stmt_found xs)) c.as_slice.ensures ∙ sym (block_is c.args.block.now)) c.in_stmts.ensures

pub in_call-returns : goal.in_call-returns
in_call-returns t c =
    joined_is _ _ _ _ _ _ c.in_ok-add-3.ensures (joined_is _ _ _ _ _ _ c.in_ok-add-2.ensures (joined_is _ _ _ _ _ _ c.in_ok-add.ensures (c.only-found.ensures ∙ ap only c.in_ok-call_mentions.ensures) (c.in_ok-in_exprs.ensures ∙ ap (λ xs. all_of (map found_in_expr xs)) c.as_slice.ensures) refl) (c.in_ok-in_options.ensures ∙ ap (λ xs. all_of (map found_in_option xs)) c.as_slice-2.ensures) refl) c.in_ok-in_block_of.ensures (sym (call_found_is c.args.call.now))

pub in_expr-returns : goal.in_expr-returns
in_expr-returns t c =
    ok_same _ _ _ (ap (λ s. s.found) (sym (expr_is c.args.expr.now))) c.in_node.ensures

pub in_form-returns-in-Plain : goal.in_form-returns-in-Plain
in_form-returns-in-Plain t c =
    ok_same _ _ _ (sym (form_is _ (StmtForm-F.Plain c.in-Plain.simple) (c.in-Plain.is ∙ sym (forms.rolls-Plain _)))) c.in_simple.ensures

pub in_form-returns-in_ok-add-in-Guarded : goal.in_form-returns-in_ok-add-in-Guarded
in_form-returns-in_ok-add-in-Guarded t c =
    joined_is _ _ _ _ _ _ c.in_ok-add-in-Guarded.ensures c.in_ok-found-in-Guarded.ensures c.in_ok-in_expr-in-Guarded.ensures (sym (form_is _ (StmtForm-F.Guarded c.in-Guarded.simple c.in-Guarded.unless c.in-Guarded.cond) (c.in-Guarded.is ∙ sym (forms.rolls-Guarded _ _ _))))

pub in_simple-returns-in-None : goal.in_simple-returns-in-None
in_simple-returns-in-None t c =
    c.in_ok-found-in-Iff.ensures ∙ ap (λ xs. all_of (map arm_found xs)) c.as_slice.ensures ∙ iff_none _ c.in-Iff.arms c.in-Iff.other (c.in-Iff.is ∙ sym (simples.rolls-Iff _ _)) c.in-None.is

pub in_simple-returns-in_ok-add-in-Some : goal.in_simple-returns-in_ok-add-in-Some
in_simple-returns-in_ok-add-in-Some t c =
    joined_is _ _ _ _ _ _ c.in_ok-add-in-Some.ensures (c.in_ok-found-in-Iff.ensures ∙ ap (λ xs. all_of (map arm_found xs)) c.as_slice.ensures) (c.in_ok-in_stmts-in-Some.ensures ∙ ap (λ xs. all_of (map stmt_found xs)) c.as_slice-in-Some.ensures) (iff_some _ c.in-Iff.arms c.in-Iff.other c.in-Some.stmts (c.in-Iff.is ∙ sym (simples.rolls-Iff _ _)) c.in-Some.is)

pub in_simple-returns-in_ok-add-in-Assign : goal.in_simple-returns-in_ok-add-in-Assign
in_simple-returns-in_ok-add-in-Assign t c =
    joined_is _ _ _ _ _ _ c.in_ok-add-in-Assign.ensures (c.only-found.ensures ∙ ap only (c.in_ok-assigns-in-Assign.ensures ∙ ap (assigns c.in-Assign.op) c.as_bytes.ensures)) c.in_ok-in_expr-in-Assign.ensures (sym (simple_is _ (Simple-F.Assign c.in-Assign.name c.in-Assign.op c.in-Assign.value) (c.in-Assign.is ∙ sym (simples.rolls-Assign _ _ _))))

pub in_simple-returns-in-Value : goal.in_simple-returns-in-Value
in_simple-returns-in-Value t c =
    ok_same _ _ _ (sym (simple_is _ (Simple-F.Value c.in-Value.value) (c.in-Value.is ∙ sym (simples.rolls-Value _)))) c.in_expr-in-Value.ensures

pub in_node-returns-in-Literal : goal.in_node-returns-in-Literal
in_node-returns-in-Literal t c =
    c.nothing.ensures ∙ (sym (node_of_literal _ (Node-F.Literal c.in-Literal.field-0) (c.in-Literal.is ∙ sym (nodes.rolls-Literal _))))

pub in_node-returns-in_ok-runs_name-in-Name : goal.in_node-returns-in_ok-runs_name-in-Name
in_node-returns-in_ok-runs_name-in-Name t c =
    c.only.ensures ∙ ap only (c.in_ok-runs_name-in-Name.ensures ∙ ap runs_name c.as_bytes.ensures) ∙ (sym (node_of_literal _ (Node-F.Name c.in-Name.name) (c.in-Name.is ∙ sym (nodes.rolls-Name _))))

pub in_node-returns-in-Call : goal.in_node-returns-in-Call
in_node-returns-in-Call t c =
    ok_same _ _ _ (sym (node_of_literal _ (Node-F.Call c.in-Call.call) (c.in-Call.is ∙ sym (nodes.rolls-Call _)))) c.in_call.ensures

pub in_node-returns-in-List : goal.in_node-returns-in-List
in_node-returns-in-List t c =
    ok_same _ _ _ (ap (λ xs. all_of (map found_in_expr xs)) c.as_slice.ensures ∙ sym (exprs_seen c.in-List.items) ∙ (sym (node_of_literal _ (Node-F.List c.in-List.items) (c.in-List.is ∙ sym (nodes.rolls-List _))))) c.in_exprs.ensures

pub in_node-returns-in_ok-add-in-Index : goal.in_node-returns-in_ok-add-in-Index
in_node-returns-in_ok-add-in-Index t c =
    joined_is _ _ _ _ _ _ c.in_ok-add-in-Index.ensures (c.in_ok-found-in-Index.ensures ∙ ap found_in_expr c.get.ensures) (c.in_ok-in_expr-in-Index.ensures ∙ ap found_in_expr c.get-in-Index.ensures) (sym (node_of_literal _ (Node-F.Index c.in-Index.of c.in-Index.at) (c.in-Index.is ∙ sym (nodes.rolls-Index _ _))))

pub in_node-returns-in_ok-add-in-Dot : goal.in_node-returns-in_ok-add-in-Dot
in_node-returns-in_ok-add-in-Dot t c =
    joined_is _ _ _ _ _ _ c.in_ok-add-in-Dot.ensures (c.in_ok-found-in-Dot.ensures ∙ ap found_in_expr c.get-in-Dot.ensures) c.in_ok-in_call-in-Dot.ensures (sym (node_of_literal _ (Node-F.Dot c.in-Dot.of c.in-Dot.call) (c.in-Dot.is ∙ sym (nodes.rolls-Dot _ _))))

pub in_node-returns-in-Unary : goal.in_node-returns-in-Unary
in_node-returns-in-Unary t c =
    ok_same _ _ _ (ap found_in_expr c.get-in-Unary.ensures ∙ (sym (node_of_literal _ (Node-F.Unary c.in-Unary.op c.in-Unary.of) (c.in-Unary.is ∙ sym (nodes.rolls-Unary _ _))))) c.in_expr-in-Unary.ensures

pub in_node-returns-in_ok-add-in-Chain : goal.in_node-returns-in_ok-add-in-Chain
in_node-returns-in_ok-add-in-Chain t c =
    joined_is _ _ _ _ _ _ c.in_ok-add-in-Chain.ensures (c.in_ok-found-in-Chain.ensures ∙ ap found_in_expr c.get-in-Chain.ensures) (c.in_ok-in_links-in-Chain.ensures ∙ ap (λ xs. all_of (map link_found xs)) c.as_slice-in-Chain.ensures) (sym (node_of_literal _ (Node-F.Chain c.in-Chain.kind c.in-Chain.first c.in-Chain.rest) (c.in-Chain.is ∙ sym (nodes.rolls-Chain _ _ _))))
