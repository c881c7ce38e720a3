use Rattle.std.proofs.Common.{◌++◌, [], sym, ap, ◌∙◌}
use Rattle.vt_tree.specs.declared.expression.Call.{out-Call}
use Rattle.vt_tree.specs.declared.expression.Link.{out-Link}
use Rattle.vt_tree.specs.declared.expression.Node.TheOpen.{Node-F, Simple-F, StmtForm-F}
use Rattle.vt_tree.specs.declared.expression.Node.TheVariants as nodes
use Rattle.vt_tree.specs.declared.statement.Arm.{out-Arm}
use Rattle.vt_tree.specs.declared.statement.Block.{out-Block}
use Rattle.vt_tree.specs.declared.statement.Simple.TheVariants as simples
use Rattle.vt_tree.specs.declared.statement.Stmt.{out-Stmt}
use Rattle.vt_tree.specs.declared.statement.StmtForm.TheVariants as forms
use Rattle.vt_tree.specs.Parts.{after_dot, at_line, children, each, if_there, in_arm, in_expr, in_form, in_link, in_simple, in_stmt, inside, site, whole_block}
use Rattle.vt_tree.proofs.PartsLemmas.{in_node-is, in_simple-is, in_form-is, in_call-out, in_expr-out, in_link-out, in_arm-out, in_block-out, in_stmt-out}
use Rattle.vt_check.proofs.FindLemmas.{finds_by, finds_at, finds_nothing, finds_first, finds_then, finds_some, finds_none, finds_here, finds_other, finds_called, finds_of, left_all, left_next, left_finds, left_none}
use Rattle.vt_check.proofs.find.+find.Goals as goal

pub find_arms-loop-arm-init : goal.find_arms-loop-arm-init
find_arms-loop-arm-init t c =
    left_all c.args.number in_arm c.args.arms.now

pub find_arms-returns-then-is_some : goal.find_arms-returns-then-is_some
find_arms-returns-then-is_some t c =
    left_finds c.args.number in_arm c.args.arms.now c.loop-arm.arm-index c.arm-item.result c.find_arm-found.result c.loop-arm.invariant c.loop-arm-test.true c.arm-item.is (sym c.is_some.ensures ∙ c.if-is_some.true) c.find_arm-found.ensures

pub find_arms-loop-arm-preserved : goal.find_arms-loop-arm-preserved
find_arms-loop-arm-preserved t c =
    left_next c.args.number in_arm c.args.arms.now c.loop-arm.arm-index c.arm-item.result c.loop-arm.invariant c.loop-arm-test.true c.arm-item.is (finds_none c.find_arm-found.result (sym c.is_some.ensures ∙ c.if-is_some.false) c.find_arm-found.ensures)

pub find_arms-returns : goal.find_arms-returns
find_arms-returns t c =
    left_none c.args.number in_arm c.args.arms.now c.loop-arm.arm-index c.loop-arm.invariant c.loop-arm-test.false

pub find_exprs-loop-expr-init : goal.find_exprs-loop-expr-init
find_exprs-loop-expr-init t c =
    left_all c.args.number in_expr c.args.exprs.now

pub find_exprs-returns-then-is_some : goal.find_exprs-returns-then-is_some
find_exprs-returns-then-is_some t c =
    left_finds c.args.number in_expr c.args.exprs.now c.loop-expr.expr-index c.expr-item.result c.find_expr-found.result c.loop-expr.invariant c.loop-expr-test.true c.expr-item.is (sym c.is_some.ensures ∙ c.if-is_some.true) c.find_expr-found.ensures

pub find_exprs-loop-expr-preserved : goal.find_exprs-loop-expr-preserved
find_exprs-loop-expr-preserved t c =
    left_next c.args.number in_expr c.args.exprs.now c.loop-expr.expr-index c.expr-item.result c.loop-expr.invariant c.loop-expr-test.true c.expr-item.is (finds_none c.find_expr-found.result (sym c.is_some.ensures ∙ c.if-is_some.false) c.find_expr-found.ensures)

pub find_exprs-returns : goal.find_exprs-returns
find_exprs-returns t c =
    left_none c.args.number in_expr c.args.exprs.now c.loop-expr.expr-index c.loop-expr.invariant c.loop-expr-test.false

pub find_links-loop-link-init : goal.find_links-loop-link-init
find_links-loop-link-init t c =
    left_all c.args.number in_link c.args.links.now

pub find_links-returns-then-is_some : goal.find_links-returns-then-is_some
find_links-returns-then-is_some t c =
    left_finds c.args.number in_link c.args.links.now c.loop-link.link-index c.link-item.result c.find_expr-found.result c.loop-link.invariant c.loop-link-test.true c.link-item.is (sym c.is_some.ensures ∙ c.if-is_some.true) (finds_by (λ p. in_expr (out-Link c.link-item.result).part p) (in_link-out c.link-item.result) c.find_expr-found.ensures)

pub find_links-loop-link-preserved : goal.find_links-loop-link-preserved
find_links-loop-link-preserved t c =
    left_next c.args.number in_link c.args.links.now c.loop-link.link-index c.link-item.result c.loop-link.invariant c.loop-link-test.true c.link-item.is (finds_by (λ p. in_expr (out-Link c.link-item.result).part p) (in_link-out c.link-item.result) (finds_none c.find_expr-found.result (sym c.is_some.ensures ∙ c.if-is_some.false) c.find_expr-found.ensures))

pub find_links-returns : goal.find_links-returns
find_links-returns t c =
    left_none c.args.number in_link c.args.links.now c.loop-link.link-index c.loop-link.invariant c.loop-link-test.false

pub find_options-loop-option-init : goal.find_options-loop-option-init
find_options-loop-option-init t c =
    left_all c.args.number (λ option. in_expr option.1) c.args.options.now

pub find_options-returns-then-is_some : goal.find_options-returns-then-is_some
find_options-returns-then-is_some t c =
    left_finds c.args.number (λ option. in_expr option.1) c.args.options.now c.loop-option.option-index c.option-item.result c.find_expr-found.result c.loop-option.invariant c.loop-option-test.true c.option-item.is (sym c.is_some.ensures ∙ c.if-is_some.true) c.find_expr-found.ensures

pub find_options-loop-option-preserved : goal.find_options-loop-option-preserved
find_options-loop-option-preserved t c =
    left_next c.args.number (λ option. in_expr option.1) c.args.options.now c.loop-option.option-index c.option-item.result c.loop-option.invariant c.loop-option-test.true c.option-item.is (finds_none c.find_expr-found.result (sym c.is_some.ensures ∙ c.if-is_some.false) c.find_expr-found.ensures)

pub find_options-returns : goal.find_options-returns
find_options-returns t c =
    left_none c.args.number (λ option. in_expr option.1) c.args.options.now c.loop-option.option-index c.loop-option.invariant c.loop-option-test.false

pub find_stmts-loop-stmt-init : goal.find_stmts-loop-stmt-init
find_stmts-loop-stmt-init t c =
    left_all c.args.number in_stmt c.args.stmts.now

pub find_stmts-returns-then-is_some : goal.find_stmts-returns-then-is_some
find_stmts-returns-then-is_some t c =
    left_finds c.args.number in_stmt c.args.stmts.now c.loop-stmt.stmt-index c.stmt-item.result c.find_form-found.result c.loop-stmt.invariant c.loop-stmt-test.true c.stmt-item.is (sym c.is_some.ensures ∙ c.if-is_some.true) (finds_by (λ p. in_form (out-Stmt c.stmt-item.result).form (at_line (out-Stmt c.stmt-item.result).line p)) (in_stmt-out c.stmt-item.result) (finds_at (at_line (out-Stmt c.stmt-item.result).line) c.find_form-found.ensures))

pub find_stmts-loop-stmt-preserved : goal.find_stmts-loop-stmt-preserved
find_stmts-loop-stmt-preserved t c =
    left_next c.args.number in_stmt c.args.stmts.now c.loop-stmt.stmt-index c.stmt-item.result c.loop-stmt.invariant c.loop-stmt-test.true c.stmt-item.is (finds_by (λ p. in_form (out-Stmt c.stmt-item.result).form (at_line (out-Stmt c.stmt-item.result).line p)) (in_stmt-out c.stmt-item.result) (finds_at (at_line (out-Stmt c.stmt-item.result).line) (finds_none c.find_form-found.result (sym c.is_some.ensures ∙ c.if-is_some.false) c.find_form-found.ensures)))

pub find_stmts-returns : goal.find_stmts-returns
find_stmts-returns t c =
    left_none c.args.number in_stmt c.args.stmts.now c.loop-stmt.stmt-index c.loop-stmt.invariant c.loop-stmt-test.false

pub find_arm-returns-in-Some : goal.find_arm-returns-in-Some
find_arm-returns-in-Some t c =
    finds_by (λ p. in_expr (out-Arm c.args.arm.now).cond p ++ each in_stmt (out-Arm c.args.arm.now).stmts p) (in_arm-out c.args.arm.now) (finds_first (each in_stmt (out-Arm c.args.arm.now).stmts) c.in-Some.ensures)

pub find_arm-returns-in-None : goal.find_arm-returns-in-None
find_arm-returns-in-None t c =
    finds_by (λ p. in_expr (out-Arm c.args.arm.now).cond p ++ each in_stmt (out-Arm c.args.arm.now).stmts p) (in_arm-out c.args.arm.now) (finds_then c.in-None.ensures (finds_of (each in_stmt) c.as_slice.ensures c.find_stmts.ensures))

pub find_block-returns-then-block-number : goal.find_block-returns-then-block-number
find_block-returns-then-block-number t c =
    finds_here c.args.number c.args.block.now c.if-block-number.true

pub find_block-returns : goal.find_block-returns
find_block-returns t c =
    finds_other c.if-block-number.false (finds_by (each in_stmt (out-Block c.args.block.now).stmts) (in_block-out c.args.block.now) (finds_of (each in_stmt) c.as_slice.ensures c.find_stmts.ensures))

pub find_expr-returns-in-Literal : goal.find_expr-returns-in-Literal
find_expr-returns-in-Literal t c =
    finds_by (λ p. []) (λ p. in_expr-out c.args.expr.now p ∙ in_node-is _ (Node-F.Literal c.in-Literal.field-0) p (c.in-Literal.is ∙ sym (nodes.rolls-Literal _))) (finds_nothing c.args.number)

pub find_expr-returns-in-Name : goal.find_expr-returns-in-Name
find_expr-returns-in-Name t c =
    finds_by (λ p. []) (λ p. in_expr-out c.args.expr.now p ∙ in_node-is _ (Node-F.Name c.in-Name.field-0) p (c.in-Name.is ∙ sym (nodes.rolls-Name _))) (finds_nothing c.args.number)

pub find_expr-returns-in-Call : goal.find_expr-returns-in-Call
find_expr-returns-in-Call t c =
    finds_by (site children c.in-Call.call) (λ p. in_expr-out c.args.expr.now p ∙ in_node-is _ (Node-F.Call c.in-Call.call) p (c.in-Call.is ∙ sym (nodes.rolls-Call _))) (finds_called (λ p. record { context = p; call = c.in-Call.call }) c.find_call.ensures)

pub find_expr-returns-in-List : goal.find_expr-returns-in-List
find_expr-returns-in-List t c =
    finds_by (λ p. each in_expr c.in-List.items (inside p)) (λ p. in_expr-out c.args.expr.now p ∙ in_node-is _ (Node-F.List c.in-List.items) p (c.in-List.is ∙ sym (nodes.rolls-List _))) (finds_at inside (finds_of (each in_expr) c.as_slice.ensures c.find_exprs.ensures))

pub find_expr-returns-in-Some : goal.find_expr-returns-in-Some
find_expr-returns-in-Some t c =
    finds_by (λ p. in_expr c.in-Index.of (inside p) ++ in_expr c.in-Index.at (inside p)) (λ p. in_expr-out c.args.expr.now p ∙ in_node-is _ (Node-F.Index c.in-Index.of c.in-Index.at) p (c.in-Index.is ∙ sym (nodes.rolls-Index _ _))) (finds_first (λ p. in_expr c.in-Index.at (inside p)) (finds_at inside (finds_of in_expr c.get.ensures c.in-Some.ensures)))

pub find_expr-returns-in-None : goal.find_expr-returns-in-None
find_expr-returns-in-None t c =
    finds_by (λ p. in_expr c.in-Index.of (inside p) ++ in_expr c.in-Index.at (inside p)) (λ p. in_expr-out c.args.expr.now p ∙ in_node-is _ (Node-F.Index c.in-Index.of c.in-Index.at) p (c.in-Index.is ∙ sym (nodes.rolls-Index _ _))) (finds_then (finds_at inside (finds_of in_expr c.get.ensures c.in-None.ensures)) (finds_at inside (finds_of in_expr c.get-in-None.ensures c.find_expr-in-None.ensures)))

pub find_expr-returns-in-Some-find_expr : goal.find_expr-returns-in-Some-find_expr
find_expr-returns-in-Some-find_expr t c =
    finds_by (λ p. in_expr c.in-Dot.of (inside p) ++ site children c.in-Dot.call (after_dot p)) (λ p. in_expr-out c.args.expr.now p ∙ in_node-is _ (Node-F.Dot c.in-Dot.of c.in-Dot.call) p (c.in-Dot.is ∙ sym (nodes.rolls-Dot _ _))) (finds_first (λ p. site children c.in-Dot.call (after_dot p)) (finds_at inside (finds_of in_expr c.get-in-Dot.ensures c.in-Some-find_expr.ensures)))

pub find_expr-returns-in-None-find_expr : goal.find_expr-returns-in-None-find_expr
find_expr-returns-in-None-find_expr t c =
    finds_by (λ p. in_expr c.in-Dot.of (inside p) ++ site children c.in-Dot.call (after_dot p)) (λ p. in_expr-out c.args.expr.now p ∙ in_node-is _ (Node-F.Dot c.in-Dot.of c.in-Dot.call) p (c.in-Dot.is ∙ sym (nodes.rolls-Dot _ _))) (finds_then (finds_at inside (finds_of in_expr c.get-in-Dot.ensures c.in-None-find_expr.ensures)) (finds_called (λ p. record { context = after_dot p; call = c.in-Dot.call }) (finds_at after_dot c.find_call-in-None-find_expr.ensures)))

pub find_expr-returns-in-Unary : goal.find_expr-returns-in-Unary
find_expr-returns-in-Unary t c =
    finds_by (λ p. in_expr c.in-Unary.of (inside p)) (λ p. in_expr-out c.args.expr.now p ∙ in_node-is _ (Node-F.Unary c.in-Unary.op c.in-Unary.of) p (c.in-Unary.is ∙ sym (nodes.rolls-Unary _ _))) (finds_at inside (finds_of in_expr c.get-in-Unary.ensures c.find_expr-in-Unary.ensures))

pub find_expr-returns-in-Some-find_expr-2 : goal.find_expr-returns-in-Some-find_expr-2
find_expr-returns-in-Some-find_expr-2 t c =
    finds_by (λ p. in_expr c.in-Chain.first (inside p) ++ each in_link c.in-Chain.rest (inside p)) (λ p. in_expr-out c.args.expr.now p ∙ in_node-is _ (Node-F.Chain c.in-Chain.kind c.in-Chain.first c.in-Chain.rest) p (c.in-Chain.is ∙ sym (nodes.rolls-Chain _ _ _))) (finds_first (λ p. each in_link c.in-Chain.rest (inside p)) (finds_at inside (finds_of in_expr c.get-in-Chain.ensures c.in-Some-find_expr-2.ensures)))

pub find_expr-returns-in-None-find_expr-2 : goal.find_expr-returns-in-None-find_expr-2
find_expr-returns-in-None-find_expr-2 t c =
    finds_by (λ p. in_expr c.in-Chain.first (inside p) ++ each in_link c.in-Chain.rest (inside p)) (λ p. in_expr-out c.args.expr.now p ∙ in_node-is _ (Node-F.Chain c.in-Chain.kind c.in-Chain.first c.in-Chain.rest) p (c.in-Chain.is ∙ sym (nodes.rolls-Chain _ _ _))) (finds_then (finds_at inside (finds_of in_expr c.get-in-Chain.ensures c.in-None-find_expr-2.ensures)) (finds_at inside (finds_of (each in_link) c.as_slice-in-None-find_expr-2.ensures c.find_links.ensures)))

pub find_form-returns-in-Plain : goal.find_form-returns-in-Plain
find_form-returns-in-Plain t c =
    finds_by (in_simple c.in-Plain.simple) (λ p. in_form-is _ (StmtForm-F.Plain c.in-Plain.simple) p (c.in-Plain.is ∙ sym (forms.rolls-Plain _))) c.find_simple.ensures

pub find_form-returns-in-Some : goal.find_form-returns-in-Some
find_form-returns-in-Some t c =
    finds_by (λ p. in_simple c.in-Guarded.simple p ++ in_expr c.in-Guarded.cond (inside p)) (λ p. in_form-is _ (StmtForm-F.Guarded c.in-Guarded.simple c.in-Guarded.unless c.in-Guarded.cond) p (c.in-Guarded.is ∙ sym (forms.rolls-Guarded _ _ _))) (finds_first (λ p. in_expr c.in-Guarded.cond (inside p)) c.in-Some.ensures)

pub find_form-returns-in-None : goal.find_form-returns-in-None
find_form-returns-in-None t c =
    finds_by (λ p. in_simple c.in-Guarded.simple p ++ in_expr c.in-Guarded.cond (inside p)) (λ p. in_form-is _ (StmtForm-F.Guarded c.in-Guarded.simple c.in-Guarded.unless c.in-Guarded.cond) p (c.in-Guarded.is ∙ sym (forms.rolls-Guarded _ _ _))) (finds_then c.in-None.ensures (finds_at inside c.find_expr.ensures))

pub find_simple-returns-in-Some : goal.find_simple-returns-in-Some
find_simple-returns-in-Some t c =
    finds_by (λ p. each in_arm c.in-Iff.arms (inside p) ++ if_there (each in_stmt) c.in-Iff.other (inside p)) (λ p. in_simple-is _ (Simple-F.Iff c.in-Iff.arms c.in-Iff.other) p (c.in-Iff.is ∙ sym (simples.rolls-Iff _ _))) (finds_first (λ p. if_there (each in_stmt) c.in-Iff.other (inside p)) (finds_at inside (finds_of (each in_arm) c.as_slice.ensures c.in-Some.ensures)))

pub find_simple-returns-in-Some-other : goal.find_simple-returns-in-Some-other
find_simple-returns-in-Some-other t c =
    finds_by (λ p. each in_arm c.in-Iff.arms (inside p) ++ if_there (each in_stmt) c.in-Iff.other (inside p)) (λ p. in_simple-is _ (Simple-F.Iff c.in-Iff.arms c.in-Iff.other) p (c.in-Iff.is ∙ sym (simples.rolls-Iff _ _))) (finds_then (finds_at inside (finds_of (each in_arm) c.as_slice.ensures c.in-None.ensures)) (finds_at inside (finds_by (each in_stmt c.in-Some-other.stmts) (λ p. ap (λ o. if_there (each in_stmt) o p) c.in-Some-other.is) (finds_of (each in_stmt) c.as_slice-in-Some-other.ensures c.find_stmts.ensures))))

pub find_simple-returns-in-None-other : goal.find_simple-returns-in-None-other
find_simple-returns-in-None-other t c =
    finds_by (λ p. each in_arm c.in-Iff.arms (inside p) ++ if_there (each in_stmt) c.in-Iff.other (inside p)) (λ p. in_simple-is _ (Simple-F.Iff c.in-Iff.arms c.in-Iff.other) p (c.in-Iff.is ∙ sym (simples.rolls-Iff _ _))) (finds_then (finds_at inside (finds_of (each in_arm) c.as_slice.ensures c.in-None.ensures)) (finds_at inside (finds_by (λ p. []) (λ p. ap (λ o. if_there (each in_stmt) o p) c.in-None-other.is) (finds_nothing c.args.number))))

pub find_simple-returns-in-Assign : goal.find_simple-returns-in-Assign
find_simple-returns-in-Assign t c =
    finds_by (λ p. in_expr c.in-Assign.value (inside p)) (λ p. in_simple-is _ (Simple-F.Assign c.in-Assign.name c.in-Assign.op c.in-Assign.value) p (c.in-Assign.is ∙ sym (simples.rolls-Assign _ _ _))) (finds_at inside c.find_expr.ensures)

pub find_simple-returns-in-Value : goal.find_simple-returns-in-Value
find_simple-returns-in-Value t c =
    finds_by (in_expr c.in-Value.value) (λ p. in_simple-is _ (Simple-F.Value c.in-Value.value) p (c.in-Value.is ∙ sym (simples.rolls-Value _))) c.find_expr-in-Value.ensures

pub find_call-returns-then-is_some : goal.find_call-returns-then-is_some
find_call-returns-then-is_some t c =
    finds_by (λ p. each in_expr (out-Call c.args.call.now).args (inside p) ++ (each (λ option. in_expr option.1) (out-Call c.args.call.now).options (inside p) ++ if_there (whole_block children) (out-Call c.args.call.now).block (inside p))) (in_call-out c.args.call.now) (finds_some (λ p. each (λ option. in_expr option.1) (out-Call c.args.call.now).options (inside p) ++ if_there (whole_block children) (out-Call c.args.call.now).block (inside p)) c.find_exprs-in_args.result (sym c.is_some.ensures ∙ c.if-is_some.true) (finds_at inside (finds_of (each in_expr) c.as_slice.ensures c.find_exprs-in_args.ensures)))

pub find_call-returns-then-is_some-2 : goal.find_call-returns-then-is_some-2
find_call-returns-then-is_some-2 t c =
    finds_by (λ p. each in_expr (out-Call c.args.call.now).args (inside p) ++ (each (λ option. in_expr option.1) (out-Call c.args.call.now).options (inside p) ++ if_there (whole_block children) (out-Call c.args.call.now).block (inside p))) (in_call-out c.args.call.now) (finds_then (finds_none c.find_exprs-in_args.result (sym c.is_some.ensures ∙ c.if-is_some.false) (finds_at inside (finds_of (each in_expr) c.as_slice.ensures c.find_exprs-in_args.ensures))) (finds_some (λ p. if_there (whole_block children) (out-Call c.args.call.now).block (inside p)) c.find_options-in_options.result (sym c.is_some-2.ensures ∙ c.if-is_some-2.true) (finds_at inside (finds_of (each (λ option. in_expr option.1)) c.as_slice-2.ensures c.find_options-in_options.ensures))))

pub find_call-returns-in-Some : goal.find_call-returns-in-Some
find_call-returns-in-Some t c =
    finds_by (λ p. each in_expr (out-Call c.args.call.now).args (inside p) ++ (each (λ option. in_expr option.1) (out-Call c.args.call.now).options (inside p) ++ if_there (whole_block children) (out-Call c.args.call.now).block (inside p))) (in_call-out c.args.call.now) (finds_then (finds_none c.find_exprs-in_args.result (sym c.is_some.ensures ∙ c.if-is_some.false) (finds_at inside (finds_of (each in_expr) c.as_slice.ensures c.find_exprs-in_args.ensures))) (finds_then (finds_none c.find_options-in_options.result (sym c.is_some-2.ensures ∙ c.if-is_some-2.false) (finds_at inside (finds_of (each (λ option. in_expr option.1)) c.as_slice-2.ensures c.find_options-in_options.ensures))) (finds_at inside (finds_by (whole_block children c.in-Some.block) (λ p. ap (λ o. if_there (whole_block children) o p) c.in-Some.is) (finds_of (whole_block children) c.get.ensures c.find_block.ensures)))))

pub find_call-returns-in-None : goal.find_call-returns-in-None
find_call-returns-in-None t c =
    finds_by (λ p. each in_expr (out-Call c.args.call.now).args (inside p) ++ (each (λ option. in_expr option.1) (out-Call c.args.call.now).options (inside p) ++ if_there (whole_block children) (out-Call c.args.call.now).block (inside p))) (in_call-out c.args.call.now) (finds_then (finds_none c.find_exprs-in_args.result (sym c.is_some.ensures ∙ c.if-is_some.false) (finds_at inside (finds_of (each in_expr) c.as_slice.ensures c.find_exprs-in_args.ensures))) (finds_then (finds_none c.find_options-in_options.result (sym c.is_some-2.ensures ∙ c.if-is_some-2.false) (finds_at inside (finds_of (each (λ option. in_expr option.1)) c.as_slice-2.ensures c.find_options-in_options.ensures))) (finds_at inside (finds_by (λ p. []) (λ p. ap (λ o. if_there (whole_block children) o p) c.in-None.is) (finds_nothing c.args.number)))))
