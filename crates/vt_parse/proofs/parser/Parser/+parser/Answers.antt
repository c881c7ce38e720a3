use Rattle.std.proofs.Common.{◌≡◌, ◌-◌, suc, Bool, true, false, [], ◌∷◌, ◌++◌, refl, sym, ap, ◌∙◌, arith}
use Rattle.vt_tree.specs.declared.expression.ChainKind.TheVariants as chains
use Rattle.vt_tree.specs.declared.expression.Expr.{out-Expr}
use Rattle.vt_tree.specs.declared.statement.Simple.TheVariants as simples
use Rattle.vt_grammar.specs.declared.terminals.Terminal.TheVariants as terminals
use Rattle.vt_grammar.specs.Form.{many_from}
use Rattle.vt_grammar.specs.private.Sets.{just, ParenStarts, ListStarts, CallStarts, IndexStarts, BraceStarts, DoStarts, IffStarts, GroupStarts, NameStarts, PrimaryStarts, UnaryStarts, ExprStarts, ArgStarts, StmtStarts}
use Rattle.vt_parse.specs.private.Levels.{below, ops_of}
use Rattle.vt_grammar.specs.Trees.{arm_tree, form_tree, stmt_tree, gathered, no_arguments, present, takes_block, wrapped}
use Rattle.vt_grammar.specs.Grammar.{is_literal, is_paren_open, is_list_open, is_sign, is_condition, is_set, is_comp_op, named, primary, dot, part, after_part, parts_after, postfix, signed, unary, link, chain, term, sum, comp, conj, disj, negated, negation, expr, labelled_arg, plain_arg, arg, next_arg, labels_begun, has_label, args, next_item, items, command, block_where, rhs, assign, simple, modifier, stmt, line, block, elsif, otherwise, parens_of, list_of, call_of_args, index_of, braces_of, doblock_of, iff_of, opened}
use Rattle.vt_grammar.proofs.TerminalSets.{includes, disjoint, included, by_room}
use Rattle.vt_grammar.proofs.MarkLaws.{terminal_rule, among_rule, map_rule}
use Rattle.vt_grammar.proofs.Rules.{has_room, brackets, arg_rule, args_maybe, args_rule, block_maybe, block_where_maybe, braces_maybe, braces_rest, call_braces, call_maybe, closed_args, closed_block, closed_index, closed_list, closed_parens, comparison_maybe, cond_rule, disj_rule, doblock_rest, dot_rule, dot_rest, elsif_block, elsif_rule, elsif_rest, elsifs_maybe, expr_rule, formed_rule, group_rule, iff_arms, iff_block, iff_end, iff_newline, iff_rest, items_maybe, items_rule, labelled_rule, led_rule, line_rule, lines_maybe, literal_rule, maybe_stmt, modified_maybe, modifier_rule, more_args_maybe, more_items_maybe, named_rule, negated_rule, newline_block, next_arg_rule, next_item_rule, otherwise_maybe, otherwise_rule, params_maybe, part_rule, parts_maybe, plain_rule, plain_simple_rule, postfix_rule, primary_rule, rhs_rule, set_rule, signed_rule, simple_rule, stmt_rule, sum_rule, value_rule}
use Rattle.vt_parse.proofs.LevelLaws.{below_rule, level_link, links_maybe, level_apart, class_read, class_stuck, class_peeked, labels_ok, labels_err, no_labels_ok, no_labels_err, taken_ok, taken_err, below_is}
use Rattle.vt_grammar.proofs.Exact.{exacts, link_exact, args_exact, next_arg_exact, next_item_exact, items_exact, modifier_exact, stmt_exact, line_exact, elsif_exact, otherwise_exact}
use Rattle.vt_grammar.proofs.Wraps.{wraps_within}
use Rattle.vt_parse.proofs.Openings.{parens_none, parens_ok, parens_err, list_none, list_ok, list_err, call_none, call_ok, call_err, index_none, index_ok, index_err, braces_none, braces_ok, braces_err, doblock_none, doblock_ok, doblock_err, iff_none, iff_ok, iff_err}
use Rattle.vt_parse.proofs.Decisions.{led_ok, led_err, cond_command_ok, cond_command_err, cond_expr_ok, cond_expr_err, assign_ok, assign_err, value_ok, value_err}
use Rattle.vt_parse.proofs.Gathering.{gathers_one, gathers_ok, gathers_err, from_one, from_ok, from_err, more_items_step, more_lines_step, more_args_step, gathered_step, present_append}
use Rattle.vt_parse.proofs.Taken.{part_moved, part_err, part_one, part_cold, comma_cold, labels_are, labels_are_stuck, takes_are, takes_are_stuck, not_taken}
use Rattle.vt_parse.proofs.Rules.{exit, tail, made, maps_tail, maps_ok, maps_err, branches_value, valued, shorter, both_read, second_stuck, first_stuck, by_read, by_stuck, by_first, map_read, map_stuck, unmap_read, unmap_stuck, left_ok, left_err, right_ok, right_err, moved_on, some_ok, some_err, none_ok, loop_one, loop_ok, loop_err, line_ok, line_err}
use Rattle.vt_parse.proofs.parser.Parser.+parser.Goals as goal

pub parens-returns-then-room-eq0 : goal.parens-returns-then-room-eq0
parens-returns-then-room-eq0 t c =
    parens_none c.args.room _ c.if-room-eq0.true

pub parens-returns-in_err-expect_class : goal.parens-returns-in_err-expect_class
unfolding parens_of
parens-returns-in_err-expect_class t c =
    let some : c.args.room ≡ suc (c.args.room - 1) = omega arith in
    exit _ _ _ _ _ _ _ c.from_residual.ensures.1 (λ h. parens_err c.args.room (c.args.room - 1) some (map_stuck (first_stuck (among_rule is_paren_open).law (closed_parens (opened (c.args.room - 1)) _ (brackets (c.args.room - 1))).law refl (h)))) c.in_err-expect_class.ensures.token

pub parens-returns-in_err-inner : goal.parens-returns-in_err-inner
unfolding parens_of
parens-returns-in_err-inner t c =
    let some : c.args.room ≡ suc (c.args.room - 1) = omega arith in
    exit _ _ _ _ _ _ _ c.from_residual-in_err-inner.ensures.1 (λ h. parens_err c.args.room (c.args.room - 1) some (map_stuck (second_stuck (among_rule is_paren_open).law (closed_parens (opened (c.args.room - 1)) _ (brackets (c.args.room - 1))).law refl c.in_ok-expect_class.ensures.token (first_stuck (cond_rule (opened (c.args.room - 1)) _ (brackets (c.args.room - 1))).law (terminal_rule terminals.ParenClose).law refl (h))))) c.in_err-inner.ensures

pub parens-returns-in_err-inner-2 : goal.parens-returns-in_err-inner-2
unfolding parens_of
parens-returns-in_err-inner-2 t c =
    let some : c.args.room ≡ suc (c.args.room - 1) = omega arith in
    exit _ _ _ _ _ _ _ c.from_residual-in_err-inner-2.ensures.1 (λ h. parens_err c.args.room (c.args.room - 1) some (map_stuck (second_stuck (among_rule is_paren_open).law (closed_parens (opened (c.args.room - 1)) _ (brackets (c.args.room - 1))).law refl c.in_ok-expect_class.ensures.token (second_stuck (cond_rule (opened (c.args.room - 1)) _ (brackets (c.args.room - 1))).law (terminal_rule terminals.ParenClose).law refl c.in_ok-inner.ensures (unmap_stuck h))))) c.in_err-inner-2.ensures

pub parens-returns : goal.parens-returns
unfolding parens_of
parens-returns t c =
    let some : c.args.room ≡ suc (c.args.room - 1) = omega arith in
    let closed = unmap_read c.in_ok-inner-2.ensures in
    made _ _ _ _ _ (valued (ap wrapped closed.2) (parens_ok c.args.room (c.args.room - 1) some (map_read (both_read (among_rule is_paren_open).law (closed_parens (opened (c.args.room - 1)) _ (brackets (c.args.room - 1))).law refl c.in_ok-expect_class.ensures.token (both_read (cond_rule (opened (c.args.room - 1)) _ (brackets (c.args.room - 1))).law (terminal_rule terminals.ParenClose).law refl c.in_ok-inner.ensures closed.1))))) c.wrapped.ensures

pub parens-wrapped-requires : goal.parens-wrapped-requires
parens-wrapped-requires t c =
    let some : c.args.room ≡ suc (c.args.room - 1) = omega arith in
    let same = ap (λ e. (out-Expr e).wraps) (unmap_read c.in_ok-inner-2.ensures).2 in
    omega (arith, same, wraps_within (c.args.room - 1) _ _ c.in_ok-inner.ensures.is_read)

pub list-returns-then-room-eq0 : goal.list-returns-then-room-eq0
list-returns-then-room-eq0 t c =
    list_none c.args.room _ c.if-room-eq0.true

pub list-returns-in_err-expect_class : goal.list-returns-in_err-expect_class
unfolding list_of
list-returns-in_err-expect_class t c =
    let some : c.args.room ≡ suc (c.args.room - 1) = omega arith in
    exit _ _ _ _ _ _ _ c.from_residual.ensures.1 (λ h. list_err c.args.room (c.args.room - 1) some (map_stuck (first_stuck (among_rule is_list_open).law (closed_list (opened (c.args.room - 1)) _ (brackets (c.args.room - 1))).law refl (h)))) c.in_err-expect_class.ensures.token

pub list-returns-in_err-items : goal.list-returns-in_err-items
unfolding list_of
list-returns-in_err-items t c =
    let some : c.args.room ≡ suc (c.args.room - 1) = omega arith in
    exit _ _ _ _ _ _ _ c.from_residual-in_err-items.ensures.1 (λ h. list_err c.args.room (c.args.room - 1) some (map_stuck (second_stuck (among_rule is_list_open).law (closed_list (opened (c.args.room - 1)) _ (brackets (c.args.room - 1))).law refl c.in_ok-expect_class.ensures.token (first_stuck (items_maybe (opened (c.args.room - 1)) _ (brackets (c.args.room - 1))) (terminal_rule terminals.ListClose).law refl (h))))) c.in_err-items.ensures

pub list-returns-in_err-expect : goal.list-returns-in_err-expect
unfolding list_of
list-returns-in_err-expect t c =
    let some : c.args.room ≡ suc (c.args.room - 1) = omega arith in
    exit _ _ _ _ _ _ _ c.from_residual-in_err-expect.ensures.1 (λ h. list_err c.args.room (c.args.room - 1) some (map_stuck (second_stuck (among_rule is_list_open).law (closed_list (opened (c.args.room - 1)) _ (brackets (c.args.room - 1))).law refl c.in_ok-expect_class.ensures.token (second_stuck (items_maybe (opened (c.args.room - 1)) _ (brackets (c.args.room - 1))) (terminal_rule terminals.ListClose).law refl c.in_ok-items.ensures (h))))) c.in_err-expect.ensures

pub list-returns : goal.list-returns
unfolding list_of
list-returns t c =
    let some : c.args.room ≡ suc (c.args.room - 1) = omega arith in
    made _ _ _ _ _ (list_ok c.args.room (c.args.room - 1) some (map_read (both_read (among_rule is_list_open).law (closed_list (opened (c.args.room - 1)) _ (brackets (c.args.room - 1))).law refl c.in_ok-expect_class.ensures.token (both_read (items_maybe (opened (c.args.room - 1)) _ (brackets (c.args.room - 1))) (terminal_rule terminals.ListClose).law refl c.in_ok-items.ensures (c.in_ok-expect.ensures))))) c.list_tree.ensures

pub call-returns-then-room-eq0 : goal.call-returns-then-room-eq0
call-returns-then-room-eq0 t c =
    call_none c.args.room _ c.if-room-eq0.true

pub call-returns-in_err-expect : goal.call-returns-in_err-expect
unfolding call_of_args
call-returns-in_err-expect t c =
    let some : c.args.room ≡ suc (c.args.room - 1) = omega arith in
    exit _ _ _ _ _ _ _ c.from_residual.ensures.1 (λ h. call_err c.args.room (c.args.room - 1) some (map_stuck (first_stuck (terminal_rule terminals.CallOpen).law (closed_args (opened (c.args.room - 1)) _ (brackets (c.args.room - 1))).law refl (h)))) c.in_err-expect.ensures

pub call-returns-in_err-given : goal.call-returns-in_err-given
unfolding call_of_args
call-returns-in_err-given t c =
    let some : c.args.room ≡ suc (c.args.room - 1) = omega arith in
    exit _ _ _ _ _ _ _ c.from_residual-in_err-given.ensures.1 (λ h. call_err c.args.room (c.args.room - 1) some (map_stuck (second_stuck (terminal_rule terminals.CallOpen).law (closed_args (opened (c.args.room - 1)) _ (brackets (c.args.room - 1))).law refl c.in_ok-expect.ensures (first_stuck (args_maybe (opened (c.args.room - 1)) _ (brackets (c.args.room - 1))) (terminal_rule terminals.ParenClose).law refl (h))))) c.in_err-given.ensures

pub call-returns-in_err-expect-2 : goal.call-returns-in_err-expect-2
unfolding call_of_args
call-returns-in_err-expect-2 t c =
    let some : c.args.room ≡ suc (c.args.room - 1) = omega arith in
    exit _ _ _ _ _ _ _ c.from_residual-in_err-expect-2.ensures.1 (λ h. call_err c.args.room (c.args.room - 1) some (map_stuck (second_stuck (terminal_rule terminals.CallOpen).law (closed_args (opened (c.args.room - 1)) _ (brackets (c.args.room - 1))).law refl c.in_ok-expect.ensures (second_stuck (args_maybe (opened (c.args.room - 1)) _ (brackets (c.args.room - 1))) (terminal_rule terminals.ParenClose).law refl c.in_ok-given.ensures (h))))) c.in_err-expect-2.ensures

pub call-returns : goal.call-returns
unfolding call_of_args
call-returns t c =
    let some : c.args.room ≡ suc (c.args.room - 1) = omega arith in
    valued c.arguments_of.ensures (call_ok c.args.room (c.args.room - 1) some (map_read (both_read (terminal_rule terminals.CallOpen).law (closed_args (opened (c.args.room - 1)) _ (brackets (c.args.room - 1))).law refl c.in_ok-expect.ensures (both_read (args_maybe (opened (c.args.room - 1)) _ (brackets (c.args.room - 1))) (terminal_rule terminals.ParenClose).law refl c.in_ok-given.ensures (c.in_ok-expect-2.ensures)))))

pub index-returns-then-room-eq0 : goal.index-returns-then-room-eq0
index-returns-then-room-eq0 t c =
    index_none c.args.room _ c.if-room-eq0.true

pub index-returns-in_err-expect : goal.index-returns-in_err-expect
unfolding index_of
index-returns-in_err-expect t c =
    let some : c.args.room ≡ suc (c.args.room - 1) = omega arith in
    exit _ _ _ _ _ _ _ c.from_residual.ensures.1 (λ h. index_err c.args.room (c.args.room - 1) some (map_stuck (first_stuck (terminal_rule terminals.IndexOpen).law (closed_index (opened (c.args.room - 1)) _ (brackets (c.args.room - 1))).law refl (h)))) c.in_err-expect.ensures

pub index-returns-in_err-at : goal.index-returns-in_err-at
unfolding index_of
index-returns-in_err-at t c =
    let some : c.args.room ≡ suc (c.args.room - 1) = omega arith in
    exit _ _ _ _ _ _ _ c.from_residual-in_err-at.ensures.1 (λ h. index_err c.args.room (c.args.room - 1) some (map_stuck (second_stuck (terminal_rule terminals.IndexOpen).law (closed_index (opened (c.args.room - 1)) _ (brackets (c.args.room - 1))).law refl c.in_ok-expect.ensures (first_stuck (expr_rule (opened (c.args.room - 1)) _ (brackets (c.args.room - 1))).law (terminal_rule terminals.ListClose).law refl (h))))) c.in_err-at.ensures

pub index-returns : goal.index-returns
unfolding index_of
index-returns t c =
    let some : c.args.room ≡ suc (c.args.room - 1) = omega arith in
    tail _ _ _ _ _ _ (λ v h. let closed = unmap_read h in valued closed.2 (index_ok c.args.room (c.args.room - 1) some (map_read (both_read (terminal_rule terminals.IndexOpen).law (closed_index (opened (c.args.room - 1)) _ (brackets (c.args.room - 1))).law refl c.in_ok-expect.ensures (both_read (expr_rule (opened (c.args.room - 1)) _ (brackets (c.args.room - 1))).law (terminal_rule terminals.ListClose).law refl c.in_ok-at.ensures closed.1))))) (λ h. (index_err c.args.room (c.args.room - 1) some (map_stuck (second_stuck (terminal_rule terminals.IndexOpen).law (closed_index (opened (c.args.room - 1)) _ (brackets (c.args.room - 1))).law refl c.in_ok-expect.ensures (second_stuck (expr_rule (opened (c.args.room - 1)) _ (brackets (c.args.room - 1))).law (terminal_rule terminals.ListClose).law refl c.in_ok-at.ensures (unmap_stuck h)))))) c.followed.ensures

pub braces-returns-then-room-eq0 : goal.braces-returns-then-room-eq0
braces-returns-then-room-eq0 t c =
    braces_none c.args.room _ c.if-room-eq0.true

pub braces-returns-in_err-opening : goal.braces-returns-in_err-opening
unfolding braces_of
braces-returns-in_err-opening t c =
    let some : c.args.room ≡ suc (c.args.room - 1) = omega arith in
    exit _ _ _ _ _ _ _ c.from_residual.ensures.1 (λ h. braces_err c.args.room (c.args.room - 1) some (map_stuck (first_stuck (terminal_rule terminals.BraceOpen).law (braces_rest (opened (c.args.room - 1)) _ (brackets (c.args.room - 1))).law refl (h)))) c.in_err-opening.ensures

pub braces-returns-in_err-params : goal.braces-returns-in_err-params
unfolding braces_of
braces-returns-in_err-params t c =
    let some : c.args.room ≡ suc (c.args.room - 1) = omega arith in
    exit _ _ _ _ _ _ _ c.from_residual-in_err-params.ensures.1 (λ h. braces_err c.args.room (c.args.room - 1) some (map_stuck (second_stuck (terminal_rule terminals.BraceOpen).law (braces_rest (opened (c.args.room - 1)) _ (brackets (c.args.room - 1))).law refl c.in_ok-opening.ensures (first_stuck params_maybe (closed_block (opened (c.args.room - 1)) _ (brackets (c.args.room - 1)) terminals.BraceClose refl).law refl (h))))) c.in_err-params.ensures

pub braces-returns-in_err-stmts : goal.braces-returns-in_err-stmts
unfolding braces_of
braces-returns-in_err-stmts t c =
    let some : c.args.room ≡ suc (c.args.room - 1) = omega arith in
    exit _ _ _ _ _ _ _ c.from_residual-in_err-stmts.ensures.1 (λ h. braces_err c.args.room (c.args.room - 1) some (map_stuck (second_stuck (terminal_rule terminals.BraceOpen).law (braces_rest (opened (c.args.room - 1)) _ (brackets (c.args.room - 1))).law refl c.in_ok-opening.ensures (second_stuck params_maybe (closed_block (opened (c.args.room - 1)) _ (brackets (c.args.room - 1)) terminals.BraceClose refl).law refl c.in_ok-params.ensures (first_stuck (block_maybe (opened (c.args.room - 1)) _ (brackets (c.args.room - 1))) (terminal_rule terminals.BraceClose).law refl (h)))))) c.in_err-stmts.ensures

pub braces-returns-in_err-expect : goal.braces-returns-in_err-expect
unfolding braces_of
braces-returns-in_err-expect t c =
    let some : c.args.room ≡ suc (c.args.room - 1) = omega arith in
    exit _ _ _ _ _ _ _ c.from_residual-in_err-expect.ensures.1 (λ h. braces_err c.args.room (c.args.room - 1) some (map_stuck (second_stuck (terminal_rule terminals.BraceOpen).law (braces_rest (opened (c.args.room - 1)) _ (brackets (c.args.room - 1))).law refl c.in_ok-opening.ensures (second_stuck params_maybe (closed_block (opened (c.args.room - 1)) _ (brackets (c.args.room - 1)) terminals.BraceClose refl).law refl c.in_ok-params.ensures (second_stuck (block_maybe (opened (c.args.room - 1)) _ (brackets (c.args.room - 1))) (terminal_rule terminals.BraceClose).law refl c.in_ok-stmts.ensures (h)))))) c.in_err-expect.ensures

pub braces-returns : goal.braces-returns
unfolding braces_of
braces-returns t c =
    let some : c.args.room ≡ suc (c.args.room - 1) = omega arith in
    valued c.make_block.ensures (braces_ok c.args.room (c.args.room - 1) some (map_read (both_read (terminal_rule terminals.BraceOpen).law (braces_rest (opened (c.args.room - 1)) _ (brackets (c.args.room - 1))).law refl (valued c.opening.view_is c.in_ok-opening.ensures) (both_read params_maybe (closed_block (opened (c.args.room - 1)) _ (brackets (c.args.room - 1)) terminals.BraceClose refl).law refl c.in_ok-params.ensures (both_read (block_maybe (opened (c.args.room - 1)) _ (brackets (c.args.room - 1))) (terminal_rule terminals.BraceClose).law refl c.in_ok-stmts.ensures (c.in_ok-expect.ensures))))))

pub doblock-returns-then-room-eq0 : goal.doblock-returns-then-room-eq0
doblock-returns-then-room-eq0 t c =
    doblock_none c.args.room _ c.if-room-eq0.true

pub doblock-returns-in_err-opening : goal.doblock-returns-in_err-opening
unfolding doblock_of
doblock-returns-in_err-opening t c =
    let some : c.args.room ≡ suc (c.args.room - 1) = omega arith in
    exit _ _ _ _ _ _ _ c.from_residual.ensures.1 (λ h. doblock_err c.args.room (c.args.room - 1) some (map_stuck (first_stuck (terminal_rule terminals.Do).law (doblock_rest (opened (c.args.room - 1)) _ (brackets (c.args.room - 1))).law refl (h)))) c.in_err-opening.ensures

pub doblock-returns-in_err-params : goal.doblock-returns-in_err-params
unfolding doblock_of
doblock-returns-in_err-params t c =
    let some : c.args.room ≡ suc (c.args.room - 1) = omega arith in
    exit _ _ _ _ _ _ _ c.from_residual-in_err-params.ensures.1 (λ h. doblock_err c.args.room (c.args.room - 1) some (map_stuck (second_stuck (terminal_rule terminals.Do).law (doblock_rest (opened (c.args.room - 1)) _ (brackets (c.args.room - 1))).law refl c.in_ok-opening.ensures (first_stuck params_maybe (newline_block (opened (c.args.room - 1)) _ (brackets (c.args.room - 1))).law refl (h))))) c.in_err-params.ensures

pub doblock-returns-in_err-expect : goal.doblock-returns-in_err-expect
unfolding doblock_of
doblock-returns-in_err-expect t c =
    let some : c.args.room ≡ suc (c.args.room - 1) = omega arith in
    exit _ _ _ _ _ _ _ c.from_residual-in_err-expect.ensures.1 (λ h. doblock_err c.args.room (c.args.room - 1) some (map_stuck (second_stuck (terminal_rule terminals.Do).law (doblock_rest (opened (c.args.room - 1)) _ (brackets (c.args.room - 1))).law refl c.in_ok-opening.ensures (second_stuck params_maybe (newline_block (opened (c.args.room - 1)) _ (brackets (c.args.room - 1))).law refl c.in_ok-params.ensures (first_stuck (terminal_rule terminals.Newline).law (closed_block (opened (c.args.room - 1)) _ (brackets (c.args.room - 1)) terminals.End refl).law refl (h)))))) c.in_err-expect.ensures

pub doblock-returns-in_err-stmts : goal.doblock-returns-in_err-stmts
unfolding doblock_of
doblock-returns-in_err-stmts t c =
    let some : c.args.room ≡ suc (c.args.room - 1) = omega arith in
    exit _ _ _ _ _ _ _ c.from_residual-in_err-stmts.ensures.1 (λ h. doblock_err c.args.room (c.args.room - 1) some (map_stuck (second_stuck (terminal_rule terminals.Do).law (doblock_rest (opened (c.args.room - 1)) _ (brackets (c.args.room - 1))).law refl c.in_ok-opening.ensures (second_stuck params_maybe (newline_block (opened (c.args.room - 1)) _ (brackets (c.args.room - 1))).law refl c.in_ok-params.ensures (second_stuck (terminal_rule terminals.Newline).law (closed_block (opened (c.args.room - 1)) _ (brackets (c.args.room - 1)) terminals.End refl).law refl c.in_ok-expect.ensures (first_stuck (block_maybe (opened (c.args.room - 1)) _ (brackets (c.args.room - 1))) (terminal_rule terminals.End).law refl (h))))))) c.in_err-stmts.ensures

pub doblock-returns-in_err-expect-2 : goal.doblock-returns-in_err-expect-2
unfolding doblock_of
doblock-returns-in_err-expect-2 t c =
    let some : c.args.room ≡ suc (c.args.room - 1) = omega arith in
    exit _ _ _ _ _ _ _ c.from_residual-in_err-expect-2.ensures.1 (λ h. doblock_err c.args.room (c.args.room - 1) some (map_stuck (second_stuck (terminal_rule terminals.Do).law (doblock_rest (opened (c.args.room - 1)) _ (brackets (c.args.room - 1))).law refl c.in_ok-opening.ensures (second_stuck params_maybe (newline_block (opened (c.args.room - 1)) _ (brackets (c.args.room - 1))).law refl c.in_ok-params.ensures (second_stuck (terminal_rule terminals.Newline).law (closed_block (opened (c.args.room - 1)) _ (brackets (c.args.room - 1)) terminals.End refl).law refl c.in_ok-expect.ensures (second_stuck (block_maybe (opened (c.args.room - 1)) _ (brackets (c.args.room - 1))) (terminal_rule terminals.End).law refl c.in_ok-stmts.ensures (h))))))) c.in_err-expect-2.ensures

pub doblock-returns : goal.doblock-returns
unfolding doblock_of
doblock-returns t c =
    let some : c.args.room ≡ suc (c.args.room - 1) = omega arith in
    valued c.make_block.ensures (doblock_ok c.args.room (c.args.room - 1) some (map_read (both_read (terminal_rule terminals.Do).law (doblock_rest (opened (c.args.room - 1)) _ (brackets (c.args.room - 1))).law refl (valued c.opening.view_is c.in_ok-opening.ensures) (both_read params_maybe (newline_block (opened (c.args.room - 1)) _ (brackets (c.args.room - 1))).law refl c.in_ok-params.ensures (both_read (terminal_rule terminals.Newline).law (closed_block (opened (c.args.room - 1)) _ (brackets (c.args.room - 1)) terminals.End refl).law refl c.in_ok-expect.ensures (both_read (block_maybe (opened (c.args.room - 1)) _ (brackets (c.args.room - 1))) (terminal_rule terminals.End).law refl c.in_ok-stmts.ensures (c.in_ok-expect-2.ensures)))))))

pub iff-returns-then-room-eq0 : goal.iff-returns-then-room-eq0
iff-returns-then-room-eq0 t c =
    iff_none c.args.room _ c.if-room-eq0.true

pub iff-returns-in_err-opening : goal.iff-returns-in_err-opening
unfolding iff_of
iff-returns-in_err-opening t c =
    let some : c.args.room ≡ suc (c.args.room - 1) = omega arith in
    exit _ _ _ _ _ _ _ c.from_residual.ensures.1 (λ h. iff_err c.args.room (c.args.room - 1) some (map_stuck (first_stuck (among_rule is_condition).law (iff_rest (opened (c.args.room - 1)) _ (brackets (c.args.room - 1))).law refl (h)))) c.in_err-opening.ensures.token

pub iff-returns-in_err-cond : goal.iff-returns-in_err-cond
unfolding iff_of
iff-returns-in_err-cond t c =
    let some : c.args.room ≡ suc (c.args.room - 1) = omega arith in
    exit _ _ _ _ _ _ _ c.from_residual-in_err-cond.ensures.1 (λ h. iff_err c.args.room (c.args.room - 1) some (map_stuck (second_stuck (among_rule is_condition).law (iff_rest (opened (c.args.room - 1)) _ (brackets (c.args.room - 1))).law refl c.in_ok-opening.ensures.token (first_stuck (cond_rule (opened (c.args.room - 1)) _ (brackets (c.args.room - 1))).law (iff_newline (opened (c.args.room - 1)) _ (brackets (c.args.room - 1))).law refl (h))))) c.in_err-cond.ensures

pub iff-returns-in_err-cond-2 : goal.iff-returns-in_err-cond-2
unfolding iff_of
iff-returns-in_err-cond-2 t c =
    let some : c.args.room ≡ suc (c.args.room - 1) = omega arith in
    exit _ _ _ _ _ _ _ c.from_residual-in_err-cond-2.ensures.1 (λ h. (iff_err c.args.room (c.args.room - 1) some (map_stuck (second_stuck (among_rule is_condition).law (iff_rest (opened (c.args.room - 1)) _ (brackets (c.args.room - 1))).law refl c.in_ok-opening.ensures.token (second_stuck (cond_rule (opened (c.args.room - 1)) _ (brackets (c.args.room - 1))).law (iff_newline (opened (c.args.room - 1)) _ (brackets (c.args.room - 1))).law refl c.in_ok-cond.ensures (first_stuck (terminal_rule terminals.Newline).law (iff_block (opened (c.args.room - 1)) _ (brackets (c.args.room - 1))).law refl (unmap_stuck h))))))) c.in_err-cond-2.ensures

pub iff-returns-in_err-first : goal.iff-returns-in_err-first
unfolding iff_of
iff-returns-in_err-first t c =
    let some : c.args.room ≡ suc (c.args.room - 1) = omega arith in
    let ended = unmap_read c.in_ok-cond-2.ensures in
    exit _ _ _ _ _ _ _ c.from_residual-in_err-first.ensures.1 (λ h. (iff_err c.args.room (c.args.room - 1) some (map_stuck (second_stuck (among_rule is_condition).law (iff_rest (opened (c.args.room - 1)) _ (brackets (c.args.room - 1))).law refl c.in_ok-opening.ensures.token (second_stuck (cond_rule (opened (c.args.room - 1)) _ (brackets (c.args.room - 1))).law (iff_newline (opened (c.args.room - 1)) _ (brackets (c.args.room - 1))).law refl c.in_ok-cond.ensures (second_stuck (terminal_rule terminals.Newline).law (iff_block (opened (c.args.room - 1)) _ (brackets (c.args.room - 1))).law refl ended.1 (first_stuck (block_maybe (opened (c.args.room - 1)) _ (brackets (c.args.room - 1))) (iff_arms (opened (c.args.room - 1)) _ (brackets (c.args.room - 1))).law refl h))))))) (maps_err _ _ _ _ _ _ c.block-stmts.ensures c.in_err-first.ensures)

pub iff-returns : goal.iff-returns
unfolding iff_of
iff-returns t c =
    let some : c.args.room ≡ suc (c.args.room - 1) = omega arith in
    let ended = unmap_read c.in_ok-cond-2.ensures in
    let read = maps_ok _ _ _ _ _ _ c.block-stmts.ensures c.in_ok-first.ensures in
    tail _ _ _ _ _ _ (λ v h. let rest = unmap_read h in valued (rest.2 ∙ branches_value _ _ _ c.in_ok-found.ensures read.2 c.is_unless.ensures ended.2) (iff_ok c.args.room (c.args.room - 1) some (map_read (both_read (among_rule is_condition).law (iff_rest (opened (c.args.room - 1)) _ (brackets (c.args.room - 1))).law refl (valued c.opening.view_is c.in_ok-opening.ensures.token) (both_read (cond_rule (opened (c.args.room - 1)) _ (brackets (c.args.room - 1))).law (iff_newline (opened (c.args.room - 1)) _ (brackets (c.args.room - 1))).law refl c.in_ok-cond.ensures (both_read (terminal_rule terminals.Newline).law (iff_block (opened (c.args.room - 1)) _ (brackets (c.args.room - 1))).law refl ended.1 (both_read (block_maybe (opened (c.args.room - 1)) _ (brackets (c.args.room - 1))) (iff_arms (opened (c.args.room - 1)) _ (brackets (c.args.room - 1))).law refl read.1 rest.1))))))) (λ h. (iff_err c.args.room (c.args.room - 1) some (map_stuck (second_stuck (among_rule is_condition).law (iff_rest (opened (c.args.room - 1)) _ (brackets (c.args.room - 1))).law refl c.in_ok-opening.ensures.token (second_stuck (cond_rule (opened (c.args.room - 1)) _ (brackets (c.args.room - 1))).law (iff_newline (opened (c.args.room - 1)) _ (brackets (c.args.room - 1))).law refl c.in_ok-cond.ensures (second_stuck (terminal_rule terminals.Newline).law (iff_block (opened (c.args.room - 1)) _ (brackets (c.args.room - 1))).law refl ended.1 (second_stuck (block_maybe (opened (c.args.room - 1)) _ (brackets (c.args.room - 1))) (iff_arms (opened (c.args.room - 1)) _ (brackets (c.args.room - 1))).law refl read.1 (unmap_stuck h)))))))) c.branches.ensures

pub branches-returns-in_err-arms : goal.branches-returns-in_err-arms
branches-returns-in_err-arms t c =
    exit _ _ _ _ _ _ _ c.from_residual.ensures.1 (λ h. map_stuck (first_stuck (elsifs_maybe (opened c.args.room) _ (brackets c.args.room)) (iff_end (opened c.args.room) _ (brackets c.args.room)).law refl (unmap_stuck h))) c.in_err-arms.ensures

pub branches-returns-in_err-other : goal.branches-returns-in_err-other
branches-returns-in_err-other t c =
    exit _ _ _ _ _ _ _ c.from_residual-in_err-other.ensures.1 (λ h. map_stuck (second_stuck (elsifs_maybe (opened c.args.room) _ (brackets c.args.room)) (iff_end (opened c.args.room) _ (brackets c.args.room)).law refl (unmap_read c.in_ok-arms.ensures).1 (first_stuck (otherwise_maybe (opened c.args.room) _ (brackets c.args.room)) (terminal_rule terminals.End).law refl h))) c.in_err-other.ensures

pub branches-returns-in_err-expect : goal.branches-returns-in_err-expect
branches-returns-in_err-expect t c =
    exit _ _ _ _ _ _ _ c.from_residual-in_err-expect.ensures.1 (λ h. map_stuck (second_stuck (elsifs_maybe (opened c.args.room) _ (brackets c.args.room)) (iff_end (opened c.args.room) _ (brackets c.args.room)).law refl (unmap_read c.in_ok-arms.ensures).1 (second_stuck (otherwise_maybe (opened c.args.room) _ (brackets c.args.room)) (terminal_rule terminals.End).law refl c.in_ok-other.ensures h))) c.in_err-expect.ensures

pub branches-returns : goal.branches-returns
branches-returns t c =
    let read = unmap_read c.in_ok-arms.ensures in
    made _ _ _ _ _ (valued (ap (λ z. simples.Iff z c.in_ok-other.other) read.2) (map_read (both_read (elsifs_maybe (opened c.args.room) _ (brackets c.args.room)) (iff_end (opened c.args.room) _ (brackets c.args.room)).law refl read.1 (both_read (otherwise_maybe (opened c.args.room) _ (brackets c.args.room)) (terminal_rule terminals.End).law refl c.in_ok-other.ensures c.in_ok-expect.ensures)))) c.make_iff.ensures

pub named-returns-in_err-name : goal.named-returns-in_err-name
unfolding named
named-returns-in_err-name t c =
    exit _ _ _ _ _ _ _ c.from_residual.ensures.1 (λ h. map_stuck (first_stuck (terminal_rule terminals.Name).law (call_maybe (opened c.args.room) _ (brackets c.args.room)) refl (h))) c.in_err-name.ensures

pub named-returns-in_err-given : goal.named-returns-in_err-given
unfolding named
named-returns-in_err-given t c =
    exit _ _ _ _ _ _ _ c.from_residual-in_err-given.ensures.1 (λ h. map_stuck (second_stuck (terminal_rule terminals.Name).law (call_maybe (opened c.args.room) _ (brackets c.args.room)) refl c.in_ok-name.ensures (h))) c.in_err-given.ensures

pub named-returns : goal.named-returns
unfolding named
named-returns t c =
    made _ _ _ _ _ (map_read (both_read (terminal_rule terminals.Name).law (call_maybe (opened c.args.room) _ (brackets c.args.room)) refl (valued c.name.view_is c.in_ok-name.ensures) (c.in_ok-given.ensures))) c.make_named.ensures

pub primary-returns-then-at_class : goal.primary-returns-then-at_class
unfolding primary
primary-returns-then-at_class t c =
    tail _ _ _ _ _ _ (λ v h. left_ok is_literal (literal_rule (opened c.args.room) _ (brackets c.args.room)) (value_rule (opened c.args.room) _ (brackets c.args.room)) (by_room (λ b. disjoint is_literal (NameStarts b) ≡ true) refl refl (has_room c.args.room)) (sym c.at_class.ensures ∙ c.if-at_class.true) h) (λ h. left_err is_literal (literal_rule (opened c.args.room) _ (brackets c.args.room)) (value_rule (opened c.args.room) _ (brackets c.args.room)) (by_room (λ b. disjoint is_literal (NameStarts b) ≡ true) refl refl (has_room c.args.room)) (sym c.at_class.ensures ∙ c.if-at_class.true) h) c.literal.ensures

pub primary-returns-then-at : goal.primary-returns-then-at
unfolding primary
primary-returns-then-at t c =
    tail _ _ _ _ _ _ (λ v h. right_ok is_literal (literal_rule (opened c.args.room) _ (brackets c.args.room)) (value_rule (opened c.args.room) _ (brackets c.args.room)) refl (sym c.at_class.ensures ∙ c.if-at_class.false) (left_ok (just terminals.Name) (named_rule (opened c.args.room) _ (brackets c.args.room)) (group_rule (opened c.args.room) _ (brackets c.args.room)) (by_room (λ b. disjoint (just terminals.Name) (GroupStarts b) ≡ true) refl refl (has_room c.args.room)) (sym c.at.ensures ∙ c.if-at.true) h)) (λ h. right_err is_literal (literal_rule (opened c.args.room) _ (brackets c.args.room)) (value_rule (opened c.args.room) _ (brackets c.args.room)) refl (sym c.at_class.ensures ∙ c.if-at_class.false) (left_err (just terminals.Name) (named_rule (opened c.args.room) _ (brackets c.args.room)) (group_rule (opened c.args.room) _ (brackets c.args.room)) (by_room (λ b. disjoint (just terminals.Name) (GroupStarts b) ≡ true) refl refl (has_room c.args.room)) (sym c.at.ensures ∙ c.if-at.true) h)) c.named.ensures

pub primary-returns-then-at_class-2 : goal.primary-returns-then-at_class-2
unfolding primary
primary-returns-then-at_class-2 t c =
    tail _ _ _ _ _ _ (λ v h. right_ok is_literal (literal_rule (opened c.args.room) _ (brackets c.args.room)) (value_rule (opened c.args.room) _ (brackets c.args.room)) refl (sym c.at_class.ensures ∙ c.if-at_class.false) (right_ok (just terminals.Name) (named_rule (opened c.args.room) _ (brackets c.args.room)) (group_rule (opened c.args.room) _ (brackets c.args.room)) refl (sym c.at.ensures ∙ c.if-at.false) (left_ok is_paren_open (brackets c.args.room).parens (brackets c.args.room).list (by_room (λ b. disjoint is_paren_open (ListStarts b) ≡ true) refl refl (has_room c.args.room)) (sym c.at_class-2.ensures ∙ c.if-at_class-2.true) h))) (λ h. right_err is_literal (literal_rule (opened c.args.room) _ (brackets c.args.room)) (value_rule (opened c.args.room) _ (brackets c.args.room)) refl (sym c.at_class.ensures ∙ c.if-at_class.false) (right_err (just terminals.Name) (named_rule (opened c.args.room) _ (brackets c.args.room)) (group_rule (opened c.args.room) _ (brackets c.args.room)) refl (sym c.at.ensures ∙ c.if-at.false) (left_err is_paren_open (brackets c.args.room).parens (brackets c.args.room).list (by_room (λ b. disjoint is_paren_open (ListStarts b) ≡ true) refl refl (has_room c.args.room)) (sym c.at_class-2.ensures ∙ c.if-at_class-2.true) h))) c.parens.ensures

pub primary-returns : goal.primary-returns
unfolding primary
primary-returns t c =
    tail _ _ _ _ _ _ (λ v h. right_ok is_literal (literal_rule (opened c.args.room) _ (brackets c.args.room)) (value_rule (opened c.args.room) _ (brackets c.args.room)) refl (sym c.at_class.ensures ∙ c.if-at_class.false) (right_ok (just terminals.Name) (named_rule (opened c.args.room) _ (brackets c.args.room)) (group_rule (opened c.args.room) _ (brackets c.args.room)) refl (sym c.at.ensures ∙ c.if-at.false) (right_ok is_paren_open (brackets c.args.room).parens (brackets c.args.room).list (by_room (λ b. includes (ParenStarts b) is_paren_open ≡ true) refl refl (has_room c.args.room)) (sym c.at_class-2.ensures ∙ c.if-at_class-2.false) h))) (λ h. right_err is_literal (literal_rule (opened c.args.room) _ (brackets c.args.room)) (value_rule (opened c.args.room) _ (brackets c.args.room)) refl (sym c.at_class.ensures ∙ c.if-at_class.false) (right_err (just terminals.Name) (named_rule (opened c.args.room) _ (brackets c.args.room)) (group_rule (opened c.args.room) _ (brackets c.args.room)) refl (sym c.at.ensures ∙ c.if-at.false) (right_err is_paren_open (brackets c.args.room).parens (brackets c.args.room).list (by_room (λ b. includes (ParenStarts b) is_paren_open ≡ true) refl refl (has_room c.args.room)) (sym c.at_class-2.ensures ∙ c.if-at_class-2.false) h))) c.list.ensures

pub dot-returns-in_err-expect : goal.dot-returns-in_err-expect
unfolding dot
dot-returns-in_err-expect t c =
    exit _ _ _ _ _ _ _ c.from_residual.ensures.1 (λ h. map_stuck (first_stuck (terminal_rule terminals.Dot).law (dot_rest (opened c.args.room) _ (brackets c.args.room)).law refl (h))) c.in_err-expect.ensures

pub dot-returns-in_err-name : goal.dot-returns-in_err-name
unfolding dot
dot-returns-in_err-name t c =
    exit _ _ _ _ _ _ _ c.from_residual-in_err-name.ensures.1 (λ h. map_stuck (second_stuck (terminal_rule terminals.Dot).law (dot_rest (opened c.args.room) _ (brackets c.args.room)).law refl c.in_ok-expect.ensures (first_stuck (terminal_rule terminals.Name).law (call_braces (opened c.args.room) _ (brackets c.args.room)) refl (h)))) c.in_err-name.ensures

pub dot-returns-in_err-given : goal.dot-returns-in_err-given
unfolding dot
dot-returns-in_err-given t c =
    exit _ _ _ _ _ _ _ c.from_residual-in_err-given.ensures.1 (λ h. map_stuck (second_stuck (terminal_rule terminals.Dot).law (dot_rest (opened c.args.room) _ (brackets c.args.room)).law refl c.in_ok-expect.ensures (second_stuck (terminal_rule terminals.Name).law (call_braces (opened c.args.room) _ (brackets c.args.room)) refl c.in_ok-name.ensures (first_stuck (call_maybe (opened c.args.room) _ (brackets c.args.room)) (braces_maybe (opened c.args.room) _ (brackets c.args.room)) refl (h))))) c.in_err-given.ensures

pub dot-returns-in_err-block : goal.dot-returns-in_err-block
unfolding dot
dot-returns-in_err-block t c =
    exit _ _ _ _ _ _ _ c.from_residual-in_err-block.ensures.1 (λ h. map_stuck (second_stuck (terminal_rule terminals.Dot).law (dot_rest (opened c.args.room) _ (brackets c.args.room)).law refl c.in_ok-expect.ensures (second_stuck (terminal_rule terminals.Name).law (call_braces (opened c.args.room) _ (brackets c.args.room)) refl c.in_ok-name.ensures (second_stuck (call_maybe (opened c.args.room) _ (brackets c.args.room)) (braces_maybe (opened c.args.room) _ (brackets c.args.room)) refl c.in_ok-given.ensures (h))))) c.in_err-block.ensures

pub dot-returns : goal.dot-returns
unfolding dot
dot-returns t c =
    made _ _ _ _ _ (map_read (both_read (terminal_rule terminals.Dot).law (dot_rest (opened c.args.room) _ (brackets c.args.room)).law refl c.in_ok-expect.ensures (both_read (terminal_rule terminals.Name).law (call_braces (opened c.args.room) _ (brackets c.args.room)) refl (valued c.name.view_is c.in_ok-name.ensures) (both_read (call_maybe (opened c.args.room) _ (brackets c.args.room)) (braces_maybe (opened c.args.room) _ (brackets c.args.room)) refl c.in_ok-given.ensures (c.in_ok-block.ensures))))) c.make_dot.ensures

pub part-returns-in_err-at : goal.part-returns-in_err-at
unfolding part
part-returns-in_err-at t c =
    exit _ _ _ _ _ _ _ c.from_residual.ensures.1 (λ h. left_err (just terminals.IndexOpen) (map_rule (brackets c.args.room).index) (map_rule (dot_rule (opened c.args.room) _ (brackets c.args.room))) refl (sym c.at.ensures ∙ c.if-at.true) (map_stuck h)) c.in_err-at.ensures

pub part-returns-then-at : goal.part-returns-then-at
unfolding part
part-returns-then-at t c =
    left_ok (just terminals.IndexOpen) (map_rule (brackets c.args.room).index) (map_rule (dot_rule (opened c.args.room) _ (brackets c.args.room))) refl (sym c.at.ensures ∙ c.if-at.true) (map_read c.in_ok-at.ensures)

pub part-returns-in_err-call : goal.part-returns-in_err-call
unfolding part
part-returns-in_err-call t c =
    exit _ _ _ _ _ _ _ c.from_residual-in_err-call.ensures.1 (λ h. right_err (just terminals.IndexOpen) (map_rule (brackets c.args.room).index) (map_rule (dot_rule (opened c.args.room) _ (brackets c.args.room))) (by_room (λ b. includes (IndexStarts b) (just terminals.IndexOpen) ≡ true) refl refl (has_room c.args.room)) (sym c.at.ensures ∙ c.if-at.false) (map_stuck h)) c.in_err-call.ensures

pub part-returns : goal.part-returns
unfolding part
part-returns t c =
    right_ok (just terminals.IndexOpen) (map_rule (brackets c.args.room).index) (map_rule (dot_rule (opened c.args.room) _ (brackets c.args.room))) (by_room (λ b. includes (IndexStarts b) (just terminals.IndexOpen) ≡ true) refl refl (has_room c.args.room)) (sym c.at.ensures ∙ c.if-at.false) (map_read c.in_ok-call.ensures)

pub parts-returns-in_err-part : goal.parts-returns-in_err-part
parts-returns-in_err-part t c =
    exit _ _ _ _ _ _ _ c.from_residual.ensures.1 (λ h. rw (sym c.is_bare_get-fresh.ensures) (from_err after_part (part (opened c.args.room)) (part_rule (opened c.args.room) _ (brackets c.args.room)) refl c.parts.invariant (part_moved c.args.room c.parts.left c.parts.fresh _ _ (sym c.takes_part.ensures ∙ c.parts-test.true) h) (part_err c.args.room c.parts.left c.parts.fresh _ (sym c.takes_part.ensures ∙ c.parts-test.true) h))) c.in_err-part.ensures

pub parts-parts-smaller : goal.parts-parts-smaller
parts-parts-smaller t c =
    shorter ((part_rule (opened c.args.room) _ (brackets c.args.room)) (1, false)).solid c.in_ok-part.ensures

pub parts-parts-preserved : goal.parts-parts-preserved
parts-parts-preserved t c =
    part_one c.args.room _ _ _ _ _ _ _ _ _ _ _ (sym c.takes_part.ensures ∙ c.parts-test.true) c.parts.invariant c.in_ok-part.ensures c.left_after-left.ensures c.in_ok-whole.ensures

pub parts-returns : goal.parts-returns
parts-returns t c =
    rw (sym c.is_bare_get-fresh.ensures) (from_ok after_part (part (opened c.args.room)) (part_rule (opened c.args.room) _ (brackets c.args.room)) refl c.parts.invariant (part_cold c.args.room c.parts.left c.parts.fresh _ (sym c.takes_part.ensures ∙ c.parts-test.false)))

pub postfix-returns-in_err-first : goal.postfix-returns-in_err-first
unfolding postfix
postfix-returns-in_err-first t c =
    exit _ _ _ _ _ _ _ c.from_residual.ensures.1 (λ h. map_stuck (by_first (parts_after (opened c.args.room)) (primary_rule (opened c.args.room) _ (brackets c.args.room)).law (parts_maybe (opened c.args.room) _ (brackets c.args.room)) refl h)) c.in_err-first.ensures

pub postfix-returns : goal.postfix-returns
unfolding postfix
postfix-returns t c =
    tail _ _ _ _ _ _ (λ v h. let g = unmap_read h in valued g.2 (map_read (by_read (parts_after (opened c.args.room)) (primary_rule (opened c.args.room) _ (brackets c.args.room)).law (parts_maybe (opened c.args.room) _ (brackets c.args.room)) refl c.in_ok-first.ensures g.1))) (λ h. map_stuck (by_stuck (parts_after (opened c.args.room)) (primary_rule (opened c.args.room) _ (brackets c.args.room)).law (parts_maybe (opened c.args.room) _ (brackets c.args.room)) refl c.in_ok-first.ensures (unmap_stuck h))) c.parts.ensures

pub signed-returns-in_err-sign : goal.signed-returns-in_err-sign
unfolding signed
signed-returns-in_err-sign t c =
    exit _ _ _ _ _ _ _ c.from_residual.ensures.1 (λ h. map_stuck (first_stuck (among_rule is_sign).law (postfix_rule (opened c.args.room) _ (brackets c.args.room)).law refl (h))) c.in_err-sign.ensures.token

pub signed-returns-in_err-of : goal.signed-returns-in_err-of
unfolding signed
signed-returns-in_err-of t c =
    exit _ _ _ _ _ _ _ c.from_residual-in_err-of.ensures.1 (λ h. map_stuck (second_stuck (among_rule is_sign).law (postfix_rule (opened c.args.room) _ (brackets c.args.room)).law refl c.in_ok-sign.ensures.token (h))) c.in_err-of.ensures

pub signed-returns : goal.signed-returns
unfolding signed
signed-returns t c =
    made _ _ _ _ _ (map_read (both_read (among_rule is_sign).law (postfix_rule (opened c.args.room) _ (brackets c.args.room)).law refl (valued c.sign.view_is c.in_ok-sign.ensures.token) (c.in_ok-of.ensures))) c.make_unary.ensures

pub unary-returns-then-at_class : goal.unary-returns-then-at_class
unfolding unary
unary-returns-then-at_class t c =
    tail _ _ _ _ _ _ (λ v h. left_ok is_sign (signed_rule (opened c.args.room) _ (brackets c.args.room)) (postfix_rule (opened c.args.room) _ (brackets c.args.room)) (by_room (λ b. disjoint is_sign (PrimaryStarts b) ≡ true) refl refl (has_room c.args.room)) (sym c.at_class.ensures ∙ c.if-at_class.true) h) (λ h. left_err is_sign (signed_rule (opened c.args.room) _ (brackets c.args.room)) (postfix_rule (opened c.args.room) _ (brackets c.args.room)) (by_room (λ b. disjoint is_sign (PrimaryStarts b) ≡ true) refl refl (has_room c.args.room)) (sym c.at_class.ensures ∙ c.if-at_class.true) h) c.signed.ensures

pub unary-returns : goal.unary-returns
unfolding unary
unary-returns t c =
    tail _ _ _ _ _ _ (λ v h. right_ok is_sign (signed_rule (opened c.args.room) _ (brackets c.args.room)) (postfix_rule (opened c.args.room) _ (brackets c.args.room)) refl (sym c.at_class.ensures ∙ c.if-at_class.false) h) (λ h. right_err is_sign (signed_rule (opened c.args.room) _ (brackets c.args.room)) (postfix_rule (opened c.args.room) _ (brackets c.args.room)) refl (sym c.at_class.ensures ∙ c.if-at_class.false) h) c.postfix.ensures

pub link-returns-in_err-op : goal.link-returns-in_err-op
unfolding link
link-returns-in_err-op t c =
    exit _ _ _ _ _ _ _ c.from_residual.ensures.1 (λ h. map_stuck (first_stuck (among_rule (ops_of c.args.kind)).law ((below_rule (opened c.args.room) _ (brackets c.args.room)) c.args.kind).law refl (class_stuck c.class_of.ensures h))) c.in_err-op.ensures.token

pub link-returns-in_err-part : goal.link-returns-in_err-part
unfolding link
link-returns-in_err-part t c =
    exit _ _ _ _ _ _ _ c.from_residual-in_err-part.ensures.1 (λ h. map_stuck (second_stuck (among_rule (ops_of c.args.kind)).law ((below_rule (opened c.args.room) _ (brackets c.args.room)) c.args.kind).law refl (class_read c.class_of.ensures c.in_ok-op.ensures.token) h)) c.in_err-part.ensures

pub link-returns : goal.link-returns
unfolding link
link-returns t c =
    valued c.make_link.ensures (map_read (both_read (among_rule (ops_of c.args.kind)).law ((below_rule (opened c.args.room) _ (brackets c.args.room)) c.args.kind).law refl (valued c.op.view_is (class_read c.class_of.ensures c.in_ok-op.ensures.token)) c.in_ok-part.ensures))

pub links-returns-in_err-next : goal.links-returns-in_err-next
links-returns-in_err-next t c =
    exit _ _ _ _ _ _ _ c.from_residual.ensures.1 (λ h. loop_err ((level_link (opened c.args.room) _ (brackets c.args.room)) c.args.kind) (level_apart c.args.kind) (link_exact (ops_of c.args.kind) (below c.args.kind (opened c.args.room))) c.links.invariant (class_peeked _ c.class_of.ensures (sym c.at_class.ensures ∙ c.links-test.true)) h) c.in_err-next.ensures

pub links-links-smaller : goal.links-links-smaller
links-links-smaller t c =
    shorter ((level_link (opened c.args.room) _ (brackets c.args.room)) c.args.kind).solid c.in_ok-next.ensures

pub links-links-preserved : goal.links-links-preserved
links-links-preserved t c =
    let grown : c.push.new.self ≡ c.links.found ++ c.in_ok-next.next ∷ [] = c.in_ok-push.ensures.ok in
    rw grown (loop_one ((level_link (opened c.args.room) _ (brackets c.args.room)) c.args.kind) (level_apart c.args.kind) c.links.invariant c.in_ok-next.ensures)

pub links-returns : goal.links-returns
links-returns t c =
    loop_ok ((level_link (opened c.args.room) _ (brackets c.args.room)) c.args.kind) (level_apart c.args.kind) c.links.invariant (class_peeked _ c.class_of.ensures (sym c.at_class.ensures ∙ c.links-test.false))

pub chain-returns-in_err-first : goal.chain-returns-in_err-first
unfolding chain
chain-returns-in_err-first t c =
    exit _ _ _ _ _ _ _ c.from_residual.ensures.1 (λ h. map_stuck (first_stuck ((below_rule (opened c.args.room) _ (brackets c.args.room)) c.args.kind).law ((links_maybe (opened c.args.room) _ (brackets c.args.room)) c.args.kind) (level_apart c.args.kind) h)) c.in_err-first.ensures

pub chain-returns-in_err-rest : goal.chain-returns-in_err-rest
unfolding chain
chain-returns-in_err-rest t c =
    exit _ _ _ _ _ _ _ c.from_residual-in_err-rest.ensures.1 (λ h. map_stuck (second_stuck ((below_rule (opened c.args.room) _ (brackets c.args.room)) c.args.kind).law ((links_maybe (opened c.args.room) _ (brackets c.args.room)) c.args.kind) (level_apart c.args.kind) c.in_ok-first.ensures h)) c.in_err-rest.ensures

pub chain-returns : goal.chain-returns
unfolding chain
chain-returns t c =
    made _ _ _ _ _ (map_read (both_read ((below_rule (opened c.args.room) _ (brackets c.args.room)) c.args.kind).law ((links_maybe (opened c.args.room) _ (brackets c.args.room)) c.args.kind) (level_apart c.args.kind) c.in_ok-first.ensures c.in_ok-rest.ensures)) c.make_chain.ensures

pub comp-returns-in_err-first : goal.comp-returns-in_err-first
unfolding comp sum
comp-returns-in_err-first t c =
    exit _ _ _ _ _ _ _ c.from_residual.ensures.1 (λ h. map_stuck (first_stuck (sum_rule (opened c.args.room) _ (brackets c.args.room)).law (comparison_maybe (opened c.args.room) _ (brackets c.args.room)) refl (h))) c.in_err-first.ensures

pub comp-returns-in_err-link : goal.comp-returns-in_err-link
unfolding comp sum
comp-returns-in_err-link t c =
    exit _ _ _ _ _ _ _ c.from_residual-in_err-link.ensures.1 (λ h. map_stuck (second_stuck (sum_rule (opened c.args.room) _ (brackets c.args.room)).law (comparison_maybe (opened c.args.room) _ (brackets c.args.room)) refl c.in_ok-first.ensures (h))) c.in_err-link.ensures

pub comp-returns : goal.comp-returns
unfolding comp sum
comp-returns t c =
    made _ _ _ _ _ (map_read (both_read (sum_rule (opened c.args.room) _ (brackets c.args.room)).law (comparison_maybe (opened c.args.room) _ (brackets c.args.room)) refl c.in_ok-first.ensures (c.in_ok-link.ensures))) c.make_comparison.ensures

pub negated-returns-in_err-sign : goal.negated-returns-in_err-sign
unfolding negated disj
negated-returns-in_err-sign t c =
    exit _ _ _ _ _ _ _ c.from_residual.ensures.1 (λ h. map_stuck (first_stuck (terminal_rule terminals.Not).law (disj_rule (opened c.args.room) _ (brackets c.args.room)).law refl (h))) c.in_err-sign.ensures

pub negated-returns-in_err-of : goal.negated-returns-in_err-of
unfolding negated disj
negated-returns-in_err-of t c =
    exit _ _ _ _ _ _ _ c.from_residual-in_err-of.ensures.1 (λ h. map_stuck (second_stuck (terminal_rule terminals.Not).law (disj_rule (opened c.args.room) _ (brackets c.args.room)).law refl c.in_ok-sign.ensures (h))) c.in_err-of.ensures

pub negated-returns : goal.negated-returns
unfolding negated disj
negated-returns t c =
    made _ _ _ _ _ (map_read (both_read (terminal_rule terminals.Not).law (disj_rule (opened c.args.room) _ (brackets c.args.room)).law refl (valued c.sign.view_is c.in_ok-sign.ensures) (c.in_ok-of.ensures))) c.make_unary.ensures

pub negation-returns-then-at : goal.negation-returns-then-at
unfolding negation
negation-returns-then-at t c =
    tail _ _ _ _ _ _ (λ v h. left_ok (just terminals.Not) (negated_rule (opened c.args.room) _ (brackets c.args.room)) (disj_rule (opened c.args.room) _ (brackets c.args.room)) (by_room (λ b. disjoint (just terminals.Not) (UnaryStarts b) ≡ true) refl refl (has_room c.args.room)) (sym c.at.ensures ∙ c.if-at.true) h) (λ h. left_err (just terminals.Not) (negated_rule (opened c.args.room) _ (brackets c.args.room)) (disj_rule (opened c.args.room) _ (brackets c.args.room)) (by_room (λ b. disjoint (just terminals.Not) (UnaryStarts b) ≡ true) refl refl (has_room c.args.room)) (sym c.at.ensures ∙ c.if-at.true) h) c.negated.ensures

pub negation-returns : goal.negation-returns
unfolding negation disj
negation-returns t c =
    tail _ _ _ _ _ _ (λ v h. right_ok (just terminals.Not) (negated_rule (opened c.args.room) _ (brackets c.args.room)) (disj_rule (opened c.args.room) _ (brackets c.args.room)) refl (sym c.at.ensures ∙ c.if-at.false) h) (λ h. right_err (just terminals.Not) (negated_rule (opened c.args.room) _ (brackets c.args.room)) (disj_rule (opened c.args.room) _ (brackets c.args.room)) refl (sym c.at.ensures ∙ c.if-at.false) h) c.chain.ensures

pub below-returns-in-Term : goal.below-returns-in-Term
below-returns-in-Term t c =
    below_is chains.Term (opened c.args.room) _ _ _ c.in-Term.is c.unary.ensures

pub below-returns-in-Sum : goal.below-returns-in-Sum
unfolding term
below-returns-in-Sum t c =
    below_is chains.Sum (opened c.args.room) _ _ _ c.in-Sum.is c.chain.ensures

pub below-returns-in-Comp : goal.below-returns-in-Comp
unfolding sum
below-returns-in-Comp t c =
    below_is chains.Comp (opened c.args.room) _ _ _ c.in-Comp.is c.chain-in-Comp.ensures

pub below-returns-in-Conj : goal.below-returns-in-Conj
below-returns-in-Conj t c =
    below_is chains.Conj (opened c.args.room) _ _ _ c.in-Conj.is c.comp.ensures

pub below-returns-in-Disj : goal.below-returns-in-Disj
unfolding conj
below-returns-in-Disj t c =
    below_is chains.Disj (opened c.args.room) _ _ _ c.in-Disj.is c.chain-in-Disj.ensures

pub below-returns-in-Expr : goal.below-returns-in-Expr
below-returns-in-Expr t c =
    below_is chains.Expr (opened c.args.room) _ _ _ c.in-Expr.is c.negation.ensures

pub expr-returns : goal.expr-returns
unfolding expr
expr-returns t c =
    c.chain.ensures

pub maybe_call-returns-in_err-given : goal.maybe_call-returns-in_err-given
maybe_call-returns-in_err-given t c =
    exit _ _ _ _ _ _ _ c.from_residual.ensures.1 (λ h. some_err (brackets c.args.room).call (moved_on (exacts c.args.room).call (sym c.opens.ensures ∙ c.if-opens.true) h) h) c.in_err-given.ensures

pub maybe_call-returns-then-opens : goal.maybe_call-returns-then-opens
maybe_call-returns-then-opens t c =
    some_ok (brackets c.args.room).call c.in_ok-given.ensures

pub maybe_call-returns : goal.maybe_call-returns
maybe_call-returns t c =
    none_ok (brackets c.args.room).call (CallStarts (has_room c.args.room)) (included (CallStarts (has_room c.args.room))) (sym c.opens.ensures ∙ c.if-opens.false)

pub maybe_braces-returns-in_err-block : goal.maybe_braces-returns-in_err-block
maybe_braces-returns-in_err-block t c =
    exit _ _ _ _ _ _ _ c.from_residual.ensures.1 (λ h. some_err (brackets c.args.room).braces (moved_on (exacts c.args.room).braces (sym c.opens.ensures ∙ c.if-opens.true) h) h) c.in_err-block.ensures

pub maybe_braces-returns-then-opens : goal.maybe_braces-returns-then-opens
maybe_braces-returns-then-opens t c =
    some_ok (brackets c.args.room).braces c.in_ok-block.ensures

pub maybe_braces-returns : goal.maybe_braces-returns
maybe_braces-returns t c =
    none_ok (brackets c.args.room).braces (BraceStarts (has_room c.args.room)) (included (BraceStarts (has_room c.args.room))) (sym c.opens.ensures ∙ c.if-opens.false)

pub maybe_args-returns-in_err-given : goal.maybe_args-returns-in_err-given
maybe_args-returns-in_err-given t c =
    exit _ _ _ _ _ _ _ c.from_residual.ensures.1 (λ h. some_err (args_rule (opened c.args.room) _ (brackets c.args.room)) (moved_on (args_exact (opened c.args.room) _ (exacts c.args.room)) (sym c.at_arg.ensures ∙ c.if-at_arg.true) h) h) c.in_err-given.ensures

pub maybe_args-returns-then-at_arg : goal.maybe_args-returns-then-at_arg
maybe_args-returns-then-at_arg t c =
    some_ok (args_rule (opened c.args.room) _ (brackets c.args.room)) c.in_ok-given.ensures

pub maybe_args-returns : goal.maybe_args-returns
maybe_args-returns t c =
    none_ok (args_rule (opened c.args.room) _ (brackets c.args.room)) (ArgStarts (has_room c.args.room)) (included (ArgStarts (has_room c.args.room))) (sym c.at_arg.ensures ∙ c.if-at_arg.false)

pub maybe_items-returns-in_err-items : goal.maybe_items-returns-in_err-items
maybe_items-returns-in_err-items t c =
    exit _ _ _ _ _ _ _ c.from_residual.ensures.1 (λ h. some_err (items_rule (opened c.args.room) _ (brackets c.args.room)) (moved_on (items_exact (opened c.args.room) _ (exacts c.args.room)) (sym c.at_expr.ensures ∙ c.if-at_expr.true) h) h) c.in_err-items.ensures

pub maybe_items-returns-then-at_expr : goal.maybe_items-returns-then-at_expr
maybe_items-returns-then-at_expr t c =
    some_ok (items_rule (opened c.args.room) _ (brackets c.args.room)) c.in_ok-items.ensures

pub maybe_items-returns : goal.maybe_items-returns
maybe_items-returns t c =
    none_ok (items_rule (opened c.args.room) _ (brackets c.args.room)) (ExprStarts (has_room c.args.room)) (included (ExprStarts (has_room c.args.room))) (sym c.at_expr.ensures ∙ c.if-at_expr.false)

pub maybe_modifier-returns-in_err-modifier : goal.maybe_modifier-returns-in_err-modifier
maybe_modifier-returns-in_err-modifier t c =
    exit _ _ _ _ _ _ _ c.from_residual.ensures.1 (λ h. some_err (modifier_rule (opened c.args.room) _ (brackets c.args.room)) (moved_on (modifier_exact (opened c.args.room) _ (exacts c.args.room)) (sym c.at_class.ensures ∙ c.if-at_class.true) h) h) c.in_err-modifier.ensures

pub maybe_modifier-returns-then-at_class : goal.maybe_modifier-returns-then-at_class
maybe_modifier-returns-then-at_class t c =
    some_ok (modifier_rule (opened c.args.room) _ (brackets c.args.room)) c.in_ok-modifier.ensures

pub maybe_modifier-returns : goal.maybe_modifier-returns
maybe_modifier-returns t c =
    none_ok (modifier_rule (opened c.args.room) _ (brackets c.args.room)) is_condition (included is_condition) (sym c.at_class.ensures ∙ c.if-at_class.false)

pub maybe_stmt-returns-in_err-stmt : goal.maybe_stmt-returns-in_err-stmt
maybe_stmt-returns-in_err-stmt t c =
    exit _ _ _ _ _ _ _ c.from_residual.ensures.1 (λ h. some_err (stmt_rule (opened c.args.room) _ (brackets c.args.room)) (moved_on (stmt_exact (opened c.args.room) _ (exacts c.args.room)) (sym c.at_stmt.ensures ∙ c.if-at_stmt.true) h) h) c.in_err-stmt.ensures

pub maybe_stmt-returns-then-at_stmt : goal.maybe_stmt-returns-then-at_stmt
maybe_stmt-returns-then-at_stmt t c =
    some_ok (stmt_rule (opened c.args.room) _ (brackets c.args.room)) c.in_ok-stmt.ensures

pub maybe_stmt-returns : goal.maybe_stmt-returns
maybe_stmt-returns t c =
    none_ok (stmt_rule (opened c.args.room) _ (brackets c.args.room)) (StmtStarts (has_room c.args.room)) (included (StmtStarts (has_room c.args.room))) (sym c.at_stmt.ensures ∙ c.if-at_stmt.false)

pub maybe_otherwise-returns-in_err-stmts : goal.maybe_otherwise-returns-in_err-stmts
maybe_otherwise-returns-in_err-stmts t c =
    exit _ _ _ _ _ _ _ c.from_residual.ensures.1 (λ h. some_err (otherwise_rule (opened c.args.room) _ (brackets c.args.room)) (moved_on (otherwise_exact (opened c.args.room) _ (exacts c.args.room)) (sym c.at.ensures ∙ c.if-at.true) h) h) c.in_err-stmts.ensures

pub maybe_otherwise-returns-then-at : goal.maybe_otherwise-returns-then-at
maybe_otherwise-returns-then-at t c =
    some_ok (otherwise_rule (opened c.args.room) _ (brackets c.args.room)) c.in_ok-stmts.ensures

pub maybe_otherwise-returns : goal.maybe_otherwise-returns
maybe_otherwise-returns t c =
    none_ok (otherwise_rule (opened c.args.room) _ (brackets c.args.room)) (just terminals.Else) (included (just terminals.Else)) (sym c.at.ensures ∙ c.if-at.false)

pub maybe_comparison-returns-in_err-link : goal.maybe_comparison-returns-in_err-link
maybe_comparison-returns-in_err-link t c =
    exit _ _ _ _ _ _ _ c.from_residual.ensures.1 (λ h. some_err ((level_link (opened c.args.room) _ (brackets c.args.room)) chains.Comp) (moved_on (link_exact is_comp_op (below chains.Comp (opened c.args.room))) (sym c.at_class.ensures ∙ c.if-at_class.true) h) h) c.in_err-link.ensures

pub maybe_comparison-returns-then-at_class : goal.maybe_comparison-returns-then-at_class
maybe_comparison-returns-then-at_class t c =
    some_ok ((level_link (opened c.args.room) _ (brackets c.args.room)) chains.Comp) c.in_ok-link.ensures

pub maybe_comparison-returns : goal.maybe_comparison-returns
maybe_comparison-returns t c =
    none_ok ((level_link (opened c.args.room) _ (brackets c.args.room)) chains.Comp) is_comp_op (included is_comp_op) (sym c.at_class.ensures ∙ c.if-at_class.false)

pub labelled_arg-returns-in_err-label : goal.labelled_arg-returns-in_err-label
unfolding labelled_arg
labelled_arg-returns-in_err-label t c =
    exit _ _ _ _ _ _ _ c.from_residual.ensures.1 (λ h. map_stuck (first_stuck (terminal_rule terminals.Label).law (expr_rule (opened c.args.room) _ (brackets c.args.room)).law refl (h))) c.in_err-label.ensures

pub labelled_arg-returns-in_err-value : goal.labelled_arg-returns-in_err-value
unfolding labelled_arg
labelled_arg-returns-in_err-value t c =
    exit _ _ _ _ _ _ _ c.from_residual-in_err-value.ensures.1 (λ h. map_stuck (second_stuck (terminal_rule terminals.Label).law (expr_rule (opened c.args.room) _ (brackets c.args.room)).law refl c.in_ok-label.ensures (h))) c.in_err-value.ensures

pub labelled_arg-returns : goal.labelled_arg-returns
unfolding labelled_arg
labelled_arg-returns t c =
    made _ _ _ _ _ (map_read (both_read (terminal_rule terminals.Label).law (expr_rule (opened c.args.room) _ (brackets c.args.room)).law refl (valued c.label.view_is c.in_ok-label.ensures) (c.in_ok-value.ensures))) c.make_argument.ensures

pub arg-returns-then-labels : goal.arg-returns-then-labels
arg-returns-then-labels t c =
    tail _ _ _ _ _ _ (λ v h. labels_ok (opened c.args.room) c.args.labels c.if-labels.true h) (λ h. labels_err (opened c.args.room) c.args.labels c.if-labels.true h) c.labelled_arg.ensures

pub arg-returns-then-at : goal.arg-returns-then-at
unfolding arg
arg-returns-then-at t c =
    tail _ _ _ _ _ _ (λ v h. no_labels_ok (opened c.args.room) c.args.labels c.if-labels.false (left_ok (just terminals.Label) (labelled_rule (opened c.args.room) _ (brackets c.args.room)) (plain_rule (opened c.args.room) _ (brackets c.args.room)) (by_room (λ b. disjoint (just terminals.Label) (ExprStarts b) ≡ true) refl refl (has_room c.args.room)) (sym c.at.ensures ∙ c.if-at.true) h)) (λ h. no_labels_err (opened c.args.room) c.args.labels c.if-labels.false (left_err (just terminals.Label) (labelled_rule (opened c.args.room) _ (brackets c.args.room)) (plain_rule (opened c.args.room) _ (brackets c.args.room)) (by_room (λ b. disjoint (just terminals.Label) (ExprStarts b) ≡ true) refl refl (has_room c.args.room)) (sym c.at.ensures ∙ c.if-at.true) h)) c.labelled_arg-then-at.ensures

pub arg-returns-in_err-value : goal.arg-returns-in_err-value
unfolding arg plain_arg
arg-returns-in_err-value t c =
    exit _ _ _ _ _ _ _ c.from_residual.ensures.1 (λ h. no_labels_err (opened c.args.room) c.args.labels c.if-labels.false (right_err (just terminals.Label) (labelled_rule (opened c.args.room) _ (brackets c.args.room)) (plain_rule (opened c.args.room) _ (brackets c.args.room)) refl (sym c.at.ensures ∙ c.if-at.false) (map_stuck h))) c.in_err-value.ensures

pub arg-returns : goal.arg-returns
unfolding arg plain_arg
arg-returns t c =
    no_labels_ok (opened c.args.room) c.args.labels c.if-labels.false (right_ok (just terminals.Label) (labelled_rule (opened c.args.room) _ (brackets c.args.room)) (plain_rule (opened c.args.room) _ (brackets c.args.room)) refl (sym c.at.ensures ∙ c.if-at.false) (map_read c.in_ok-value.ensures))

pub next_arg-returns-in_err-expect : goal.next_arg-returns-in_err-expect
unfolding next_arg
next_arg-returns-in_err-expect t c =
    exit _ _ _ _ _ _ _ c.from_residual.ensures.1 (λ h. map_stuck (first_stuck (terminal_rule terminals.Comma).law ((arg_rule (opened c.args.room) _ (brackets c.args.room)) c.args.labels).law refl (h))) c.in_err-expect.ensures

pub next_arg-returns : goal.next_arg-returns
unfolding next_arg
next_arg-returns t c =
    tail _ _ _ _ _ _ (λ v h. map_read (both_read (terminal_rule terminals.Comma).law ((arg_rule (opened c.args.room) _ (brackets c.args.room)) c.args.labels).law refl c.in_ok-expect.ensures (h))) (λ h. map_stuck (second_stuck (terminal_rule terminals.Comma).law ((arg_rule (opened c.args.room) _ (brackets c.args.room)) c.args.labels).law refl c.in_ok-expect.ensures (h))) c.arg.ensures

pub more_args-returns-in_err-argument : goal.more_args-returns-in_err-argument
more_args-returns-in_err-argument t c =
    exit _ _ _ _ _ _ _ c.from_residual.ensures.1 (λ h. from_err labels_begun (next_arg (opened c.args.room)) (next_arg_rule (opened c.args.room) _ (brackets c.args.room)) refl c.more.invariant (moved_on ((next_arg_exact (opened c.args.room) _ (exacts c.args.room)) _) (sym c.at.ensures ∙ c.more-test.true) h) h) c.in_err-argument.ensures

pub more_args-more-smaller : goal.more_args-more-smaller
more_args-more-smaller t c =
    shorter ((next_arg_rule (opened c.args.room) _ (brackets c.args.room)) _).solid c.in_ok-argument.ensures

pub more_args-more-preserved : goal.more_args-more-preserved
more_args-more-preserved t c =
    rw c.labels_begun-begun.ensures (from_one labels_begun (next_arg (opened c.args.room)) (next_arg_rule (opened c.args.room) _ (brackets c.args.room)) refl _ (λ vs e. more_args_step _ vs _ _ _ c.in_ok-add_argument.ensures.added e) c.more.invariant c.in_ok-argument.ensures)

pub more_args-returns : goal.more_args-returns
more_args-returns t c =
    from_ok labels_begun (next_arg (opened c.args.room)) (next_arg_rule (opened c.args.room) _ (brackets c.args.room)) refl c.more.invariant (λ t rest e h. comma_cold _ t rest (sym c.at.ensures ∙ c.more-test.false) e (((next_arg_rule (opened c.args.room) _ (brackets c.args.room)) _).law.opens.first t [] h))

pub args-returns-in_err-first : goal.args-returns-in_err-first
unfolding args
args-returns-in_err-first t c =
    exit _ _ _ _ _ _ _ c.from_residual.ensures.1 (λ h. map_stuck (by_first (λ a. many_from labels_begun (next_arg (opened c.args.room)) (has_label a)) ((arg_rule (opened c.args.room) _ (brackets c.args.room)) false).law (λ a. (more_args_maybe (opened c.args.room) _ (brackets c.args.room)) (has_label a)) refl h)) c.in_err-first.ensures

pub args-returns : goal.args-returns
unfolding args
args-returns t c =
    tail _ _ _ _ _ _ (λ v h. let g = unmap_read (labels_are (opened c.args.room) _ (sym c.has_label-labels.ensures) h) in valued (g.2 ∙ ap (λ z. gathered z g.0) c.in_ok-found.ensures ∙ gathered_step no_arguments (_ ∷ []) g.0) (map_read (by_read (λ a. many_from labels_begun (next_arg (opened c.args.room)) (has_label a)) ((arg_rule (opened c.args.room) _ (brackets c.args.room)) false).law (λ a. (more_args_maybe (opened c.args.room) _ (brackets c.args.room)) (has_label a)) refl c.in_ok-first.ensures g.1))) (λ h. map_stuck (by_stuck (λ a. many_from labels_begun (next_arg (opened c.args.room)) (has_label a)) ((arg_rule (opened c.args.room) _ (brackets c.args.room)) false).law (λ a. (more_args_maybe (opened c.args.room) _ (brackets c.args.room)) (has_label a)) refl c.in_ok-first.ensures (unmap_stuck (labels_are_stuck (opened c.args.room) _ (sym c.has_label-labels.ensures) h)))) c.more_args.ensures

pub next_item-returns-in_err-expect : goal.next_item-returns-in_err-expect
unfolding next_item
next_item-returns-in_err-expect t c =
    exit _ _ _ _ _ _ _ c.from_residual.ensures.1 (λ h. map_stuck (first_stuck (terminal_rule terminals.Comma).law (expr_rule (opened c.args.room) _ (brackets c.args.room)).law refl (h))) c.in_err-expect.ensures

pub next_item-returns : goal.next_item-returns
unfolding next_item
next_item-returns t c =
    tail _ _ _ _ _ _ (λ v h. map_read (both_read (terminal_rule terminals.Comma).law (expr_rule (opened c.args.room) _ (brackets c.args.room)).law refl c.in_ok-expect.ensures (h))) (λ h. map_stuck (second_stuck (terminal_rule terminals.Comma).law (expr_rule (opened c.args.room) _ (brackets c.args.room)).law refl c.in_ok-expect.ensures (h))) c.expr.ensures

pub more_items-returns-in_err-item : goal.more_items-returns-in_err-item
more_items-returns-in_err-item t c =
    exit _ _ _ _ _ _ _ c.from_residual.ensures.1 (λ h. gathers_err (next_item_rule (opened c.args.room) _ (brackets c.args.room)) refl (next_item_exact (opened c.args.room) _ (exacts c.args.room)) c.more.invariant (sym c.at.ensures ∙ c.more-test.true) h) c.in_err-item.ensures

pub more_items-more-smaller : goal.more_items-more-smaller
more_items-more-smaller t c =
    shorter (next_item_rule (opened c.args.room) _ (brackets c.args.room)).solid c.in_ok-item.ensures

pub more_items-more-preserved : goal.more_items-more-preserved
more_items-more-preserved t c =
    let grown : c.add_item.new.found ≡ c.more.all ++ c.in_ok-item.item ∷ [] = c.in_ok-add_item.ensures.added in
    rw grown (gathers_one (next_item_rule (opened c.args.room) _ (brackets c.args.room)) refl _ (λ vs e. more_items_step _ vs _ _ e) c.more.invariant c.in_ok-item.ensures)

pub more_items-returns : goal.more_items-returns
more_items-returns t c =
    gathers_ok (next_item_rule (opened c.args.room) _ (brackets c.args.room)) refl c.more.invariant (sym c.at.ensures ∙ c.more-test.false)

pub items-returns-in_err-first : goal.items-returns-in_err-first
unfolding items
items-returns-in_err-first t c =
    exit _ _ _ _ _ _ _ c.from_residual.ensures.1 (λ h. map_stuck (first_stuck (expr_rule (opened c.args.room) _ (brackets c.args.room)).law (more_items_maybe (opened c.args.room) _ (brackets c.args.room)) refl h)) c.in_err-first.ensures

pub items-returns : goal.items-returns
unfolding items
items-returns t c =
    tail _ _ _ _ _ _ (λ v h. let g = unmap_read h in valued (g.2 ∙ ap (λ z. z ++ g.0) c.in_ok-found.ensures) (map_read (both_read (expr_rule (opened c.args.room) _ (brackets c.args.room)).law (more_items_maybe (opened c.args.room) _ (brackets c.args.room)) refl c.in_ok-first.ensures g.1))) (λ h. map_stuck (second_stuck (expr_rule (opened c.args.room) _ (brackets c.args.room)).law (more_items_maybe (opened c.args.room) _ (brackets c.args.room)) refl c.in_ok-first.ensures (unmap_stuck h))) c.more_items.ensures

pub command-returns-in_err-name : goal.command-returns-in_err-name
unfolding command
command-returns-in_err-name t c =
    exit _ _ _ _ _ _ _ c.from_residual.ensures.1 (λ h. map_stuck (first_stuck (terminal_rule terminals.Name).law (led_rule (opened c.args.room) _ (brackets c.args.room)).law refl h)) c.in_err-name.ensures

pub command-returns-in_err-given : goal.command-returns-in_err-given
unfolding command
command-returns-in_err-given t c =
    exit _ _ _ _ _ _ _ c.from_residual-in_err-given.ensures.1 (λ h. map_stuck (second_stuck (terminal_rule terminals.Name).law (led_rule (opened c.args.room) _ (brackets c.args.room)).law refl c.in_ok-name.ensures (led_err (opened c.args.room) _ (brackets c.args.room) (exacts c.args.room) c.requires c.in_ok-name.ensures h))) c.in_err-given.ensures

pub command-returns : goal.command-returns
unfolding command
command-returns t c =
    made _ _ _ _ _ (map_read (both_read (terminal_rule terminals.Name).law (led_rule (opened c.args.room) _ (brackets c.args.room)).law refl (valued c.name.view_is c.in_ok-name.ensures) (led_ok (opened c.args.room) _ (brackets c.args.room) (exacts c.args.room) c.requires c.in_ok-name.ensures c.in_ok-given.ensures))) c.make_command.ensures

pub cond-returns-then-is_command : goal.cond-returns-then-is_command
cond-returns-then-is_command t c =
    tail _ _ _ _ _ _ (λ v h. cond_command_ok (opened c.args.room) _ (brackets c.args.room) (exacts c.args.room) h) (λ h. cond_command_err (opened c.args.room) _ (brackets c.args.room) (exacts c.args.room) (sym c.is_command.ensures ∙ c.if-is_command.true) h) c.command.ensures

pub cond-returns : goal.cond-returns
cond-returns t c =
    tail _ _ _ _ _ _ (λ v h. cond_expr_ok (opened c.args.room) _ (brackets c.args.room) (exacts c.args.room) (sym c.is_command.ensures ∙ c.if-is_command.false) h) (λ h. cond_expr_err (opened c.args.room) _ (brackets c.args.room) (exacts c.args.room) (sym c.is_command.ensures ∙ c.if-is_command.false) h) c.expr.ensures

pub block_where-returns-then-not-takes : goal.block_where-returns-then-not-takes
block_where-returns-then-not-takes t c =
    not_taken (opened c.args.room) _ _ c.if-not-takes.true

pub block_where-returns-in_err-block : goal.block_where-returns-in_err-block
block_where-returns-in_err-block t c =
    exit _ _ _ _ _ _ _ c.from_residual.ensures.1 (λ h. taken_err (opened c.args.room) _ c.if-not-takes.false (some_err (brackets c.args.room).doblock (moved_on (exacts c.args.room).doblock (sym c.opens.ensures ∙ c.if-opens.true) h) h)) c.in_err-block.ensures

pub block_where-returns-then-opens : goal.block_where-returns-then-opens
block_where-returns-then-opens t c =
    taken_ok (opened c.args.room) _ c.if-not-takes.false (some_ok (brackets c.args.room).doblock c.in_ok-block.ensures)

pub block_where-returns : goal.block_where-returns
block_where-returns t c =
    taken_ok (opened c.args.room) _ c.if-not-takes.false (none_ok (brackets c.args.room).doblock (DoStarts (has_room c.args.room)) (included (DoStarts (has_room c.args.room))) (sym c.opens.ensures ∙ c.if-opens.false))

pub rhs-returns-in_err-value : goal.rhs-returns-in_err-value
unfolding rhs
rhs-returns-in_err-value t c =
    exit _ _ _ _ _ _ _ c.from_residual.ensures.1 (λ h. map_stuck (by_first (λ e. block_where (opened c.args.room) (takes_block e)) (cond_rule (opened c.args.room) _ (brackets c.args.room)).law (λ e. (block_where_maybe (opened c.args.room) _ (brackets c.args.room)) (takes_block e)) refl h)) c.in_err-value.ensures

pub rhs-returns-in_err-block : goal.rhs-returns-in_err-block
unfolding rhs
rhs-returns-in_err-block t c =
    exit _ _ _ _ _ _ _ c.from_residual-in_err-block.ensures.1 (λ h. map_stuck (by_stuck (λ e. block_where (opened c.args.room) (takes_block e)) (cond_rule (opened c.args.room) _ (brackets c.args.room)).law (λ e. (block_where_maybe (opened c.args.room) _ (brackets c.args.room)) (takes_block e)) refl c.in_ok-value.ensures (takes_are_stuck (opened c.args.room) (sym c.takes_block-takes.ensures) h))) c.in_err-block.ensures

pub rhs-returns : goal.rhs-returns
unfolding rhs
rhs-returns t c =
    made _ _ _ _ _ (map_read (by_read (λ e. block_where (opened c.args.room) (takes_block e)) (cond_rule (opened c.args.room) _ (brackets c.args.room)).law (λ e. (block_where_maybe (opened c.args.room) _ (brackets c.args.room)) (takes_block e)) refl c.in_ok-value.ensures (takes_are (opened c.args.room) (sym c.takes_block-takes.ensures) c.in_ok-block.ensures))) c.make_with_block.ensures

pub assign-returns-in_err-name : goal.assign-returns-in_err-name
unfolding assign
assign-returns-in_err-name t c =
    exit _ _ _ _ _ _ _ c.from_residual.ensures.1 (λ h. map_stuck (first_stuck (terminal_rule terminals.Name).law (set_rule (opened c.args.room) _ (brackets c.args.room)).law refl (h))) c.in_err-name.ensures

pub assign-returns-in_err-op : goal.assign-returns-in_err-op
unfolding assign
assign-returns-in_err-op t c =
    exit _ _ _ _ _ _ _ c.from_residual-in_err-op.ensures.1 (λ h. map_stuck (second_stuck (terminal_rule terminals.Name).law (set_rule (opened c.args.room) _ (brackets c.args.room)).law refl c.in_ok-name.ensures (first_stuck (among_rule is_set).law (rhs_rule (opened c.args.room) _ (brackets c.args.room)).law refl (h)))) c.in_err-op.ensures.token

pub assign-returns-in_err-value : goal.assign-returns-in_err-value
unfolding assign
assign-returns-in_err-value t c =
    exit _ _ _ _ _ _ _ c.from_residual-in_err-value.ensures.1 (λ h. map_stuck (second_stuck (terminal_rule terminals.Name).law (set_rule (opened c.args.room) _ (brackets c.args.room)).law refl c.in_ok-name.ensures (second_stuck (among_rule is_set).law (rhs_rule (opened c.args.room) _ (brackets c.args.room)).law refl c.in_ok-op.ensures.token (h)))) c.in_err-value.ensures

pub assign-returns : goal.assign-returns
unfolding assign
assign-returns t c =
    made _ _ _ _ _ (map_read (both_read (terminal_rule terminals.Name).law (set_rule (opened c.args.room) _ (brackets c.args.room)).law refl (valued c.name.view_is c.in_ok-name.ensures) (both_read (among_rule is_set).law (rhs_rule (opened c.args.room) _ (brackets c.args.room)).law refl (valued c.op.view_is c.in_ok-op.ensures.token) (c.in_ok-value.ensures)))) c.make_assign.ensures

pub plain_simple-returns-then-is_assign : goal.plain_simple-returns-then-is_assign
plain_simple-returns-then-is_assign t c =
    tail _ _ _ _ _ _ (λ v h. assign_ok (opened c.args.room) _ (brackets c.args.room) (exacts c.args.room) h) (λ h. assign_err (opened c.args.room) _ (brackets c.args.room) (exacts c.args.room) (sym c.is_assign.ensures ∙ c.if-is_assign.true) h) c.assign.ensures

pub plain_simple-returns-in_err-value : goal.plain_simple-returns-in_err-value
plain_simple-returns-in_err-value t c =
    exit _ _ _ _ _ _ _ c.from_residual.ensures.1 (λ h. value_err (opened c.args.room) _ (brackets c.args.room) (exacts c.args.room) (sym c.is_assign.ensures ∙ c.if-is_assign.false) h) c.in_err-value.ensures

pub plain_simple-returns : goal.plain_simple-returns
plain_simple-returns t c =
    made _ _ _ _ _ (value_ok (opened c.args.room) _ (brackets c.args.room) (exacts c.args.room) (sym c.is_assign.ensures ∙ c.if-is_assign.false) c.in_ok-value.ensures) c.make_value.ensures

pub simple-returns-then-at_class : goal.simple-returns-then-at_class
unfolding simple
simple-returns-then-at_class t c =
    tail _ _ _ _ _ _ (λ v h. left_ok is_condition (brackets c.args.room).iff (plain_simple_rule (opened c.args.room) _ (brackets c.args.room)) (by_room (λ b. disjoint is_condition (ExprStarts b) ≡ true) refl refl (has_room c.args.room)) (sym c.at_class.ensures ∙ c.if-at_class.true) h) (λ h. left_err is_condition (brackets c.args.room).iff (plain_simple_rule (opened c.args.room) _ (brackets c.args.room)) (by_room (λ b. disjoint is_condition (ExprStarts b) ≡ true) refl refl (has_room c.args.room)) (sym c.at_class.ensures ∙ c.if-at_class.true) h) c.iff.ensures

pub simple-returns : goal.simple-returns
unfolding simple
simple-returns t c =
    tail _ _ _ _ _ _ (λ v h. right_ok is_condition (brackets c.args.room).iff (plain_simple_rule (opened c.args.room) _ (brackets c.args.room)) (by_room (λ b. includes (IffStarts b) is_condition ≡ true) refl refl (has_room c.args.room)) (sym c.at_class.ensures ∙ c.if-at_class.false) h) (λ h. right_err is_condition (brackets c.args.room).iff (plain_simple_rule (opened c.args.room) _ (brackets c.args.room)) (by_room (λ b. includes (IffStarts b) is_condition ≡ true) refl refl (has_room c.args.room)) (sym c.at_class.ensures ∙ c.if-at_class.false) h) c.plain_simple.ensures

pub modifier-returns-in_err-token : goal.modifier-returns-in_err-token
unfolding modifier
modifier-returns-in_err-token t c =
    exit _ _ _ _ _ _ _ c.from_residual.ensures.1 (λ h. map_stuck (first_stuck (among_rule is_condition).law (cond_rule (opened c.args.room) _ (brackets c.args.room)).law refl (h))) c.in_err-token.ensures.token

pub modifier-returns-in_err-cond : goal.modifier-returns-in_err-cond
unfolding modifier
modifier-returns-in_err-cond t c =
    exit _ _ _ _ _ _ _ c.from_residual-in_err-cond.ensures.1 (λ h. map_stuck (second_stuck (among_rule is_condition).law (cond_rule (opened c.args.room) _ (brackets c.args.room)).law refl c.in_ok-token.ensures.token (h))) c.in_err-cond.ensures

pub modifier-returns : goal.modifier-returns
unfolding modifier
modifier-returns t c =
    valued (ap (λ (u : Bool). (u, c.in_ok-cond.cond)) c.is_unless.ensures) (map_read (both_read (among_rule is_condition).law (cond_rule (opened c.args.room) _ (brackets c.args.room)).law refl (valued c.token.view_is c.in_ok-token.ensures.token) (c.in_ok-cond.ensures)))

pub stmt-returns-in_err-simple : goal.stmt-returns-in_err-simple
unfolding stmt
stmt-returns-in_err-simple t c =
    exit _ _ _ _ _ _ _ c.from_residual.ensures.1 (λ h. map_stuck (line_err (map_stuck (first_stuck (simple_rule (opened c.args.room) _ (brackets c.args.room)).law (modified_maybe (opened c.args.room) _ (brackets c.args.room)) refl h)))) c.in_err-simple.ensures

pub stmt-returns : goal.stmt-returns
unfolding stmt
stmt-returns t c =
    maps_tail _ _ _ _ _ _ _ _ (λ v h. valued (ap (λ z. stmt_tree (z, form_tree c.in_ok-simple.simple v)) c.line-line.ensures) (map_read (line_ok (formed_rule (opened c.args.room) _ (brackets c.args.room)).solid (map_read (both_read (simple_rule (opened c.args.room) _ (brackets c.args.room)).law (modified_maybe (opened c.args.room) _ (brackets c.args.room)) refl c.in_ok-simple.ensures h))))) (λ h. map_stuck (line_err (map_stuck (second_stuck (simple_rule (opened c.args.room) _ (brackets c.args.room)).law (modified_maybe (opened c.args.room) _ (brackets c.args.room)) refl c.in_ok-simple.ensures h)))) c.make_stmt.ensures c.maybe_modifier-modifier.ensures

pub next_line-returns-in_err-expect : goal.next_line-returns-in_err-expect
unfolding line
next_line-returns-in_err-expect t c =
    exit _ _ _ _ _ _ _ c.from_residual.ensures.1 (λ h. map_stuck (first_stuck (terminal_rule terminals.Newline).law (maybe_stmt (opened c.args.room) _ (brackets c.args.room)) refl (h))) c.in_err-expect.ensures

pub next_line-returns : goal.next_line-returns
unfolding line
next_line-returns t c =
    tail _ _ _ _ _ _ (λ v h. map_read (both_read (terminal_rule terminals.Newline).law (maybe_stmt (opened c.args.room) _ (brackets c.args.room)) refl c.in_ok-expect.ensures (h))) (λ h. map_stuck (second_stuck (terminal_rule terminals.Newline).law (maybe_stmt (opened c.args.room) _ (brackets c.args.room)) refl c.in_ok-expect.ensures (h))) c.maybe_stmt.ensures

pub lines-returns-in_err-next : goal.lines-returns-in_err-next
lines-returns-in_err-next t c =
    exit _ _ _ _ _ _ _ c.from_residual.ensures.1 (λ h. gathers_err (line_rule (opened c.args.room) _ (brackets c.args.room)) refl (line_exact (opened c.args.room) _ (exacts c.args.room)) c.lines.invariant (sym c.at.ensures ∙ c.lines-test.true) h) c.in_err-next.ensures

pub lines-lines-smaller : goal.lines-lines-smaller
lines-lines-smaller t c =
    shorter (line_rule (opened c.args.room) _ (brackets c.args.room)).solid c.in_ok-next.ensures

pub lines-lines-preserved : goal.lines-lines-preserved
lines-lines-preserved t c =
    gathers_one (line_rule (opened c.args.room) _ (brackets c.args.room)) refl _ (λ vs e. more_lines_step _ vs _ _ _ c.in_ok-add_present.ensures.added e) c.lines.invariant c.in_ok-next.ensures

pub lines-returns : goal.lines-returns
lines-returns t c =
    gathers_ok (line_rule (opened c.args.room) _ (brackets c.args.room)) refl c.lines.invariant (sym c.at.ensures ∙ c.lines-test.false)

pub block-returns-in_err-first : goal.block-returns-in_err-first
unfolding block
block-returns-in_err-first t c =
    exit _ _ _ _ _ _ _ c.from_residual.ensures.1 (λ h. map_stuck (first_stuck (maybe_stmt (opened c.args.room) _ (brackets c.args.room)) (lines_maybe (opened c.args.room) _ (brackets c.args.room)) refl h)) c.in_err-first.ensures

pub block-returns : goal.block-returns
unfolding block
block-returns t c =
    tail _ _ _ _ _ _ (λ v h. let g = unmap_read h in valued (g.2 ∙ ap (λ z. z ++ present g.0) c.in_ok-found.ensures ∙ sym (present_append (_ ∷ []) g.0)) (map_read (both_read (maybe_stmt (opened c.args.room) _ (brackets c.args.room)) (lines_maybe (opened c.args.room) _ (brackets c.args.room)) refl c.in_ok-first.ensures g.1))) (λ h. map_stuck (second_stuck (maybe_stmt (opened c.args.room) _ (brackets c.args.room)) (lines_maybe (opened c.args.room) _ (brackets c.args.room)) refl c.in_ok-first.ensures (unmap_stuck h))) c.lines.ensures

pub elsif-returns-in_err-expect : goal.elsif-returns-in_err-expect
unfolding elsif
elsif-returns-in_err-expect t c =
    exit _ _ _ _ _ _ _ c.from_residual.ensures.1 (λ h. map_stuck (first_stuck (terminal_rule terminals.Elsif).law (elsif_rest (opened c.args.room) _ (brackets c.args.room)).law refl (h))) c.in_err-expect.ensures

pub elsif-returns-in_err-cond : goal.elsif-returns-in_err-cond
unfolding elsif
elsif-returns-in_err-cond t c =
    exit _ _ _ _ _ _ _ c.from_residual-in_err-cond.ensures.1 (λ h. map_stuck (second_stuck (terminal_rule terminals.Elsif).law (elsif_rest (opened c.args.room) _ (brackets c.args.room)).law refl c.in_ok-expect.ensures (first_stuck (cond_rule (opened c.args.room) _ (brackets c.args.room)).law (elsif_block (opened c.args.room) _ (brackets c.args.room)).law refl (h)))) c.in_err-cond.ensures

pub elsif-returns-in_err-cond-2 : goal.elsif-returns-in_err-cond-2
unfolding elsif
elsif-returns-in_err-cond-2 t c =
    exit _ _ _ _ _ _ _ c.from_residual-in_err-cond-2.ensures.1 (λ h. map_stuck (second_stuck (terminal_rule terminals.Elsif).law (elsif_rest (opened c.args.room) _ (brackets c.args.room)).law refl c.in_ok-expect.ensures (second_stuck (cond_rule (opened c.args.room) _ (brackets c.args.room)).law (elsif_block (opened c.args.room) _ (brackets c.args.room)).law refl c.in_ok-cond.ensures (first_stuck (terminal_rule terminals.Newline).law (block_maybe (opened c.args.room) _ (brackets c.args.room)) refl (unmap_stuck h))))) c.in_err-cond-2.ensures

pub elsif-returns : goal.elsif-returns
unfolding elsif
elsif-returns t c =
    let ended = unmap_read c.in_ok-cond-2.ensures in
    maps_tail _ _ _ _ _ _ _ _ (λ v h. valued (ap (λ z. arm_tree false z v) ended.2) (map_read (both_read (terminal_rule terminals.Elsif).law (elsif_rest (opened c.args.room) _ (brackets c.args.room)).law refl c.in_ok-expect.ensures (both_read (cond_rule (opened c.args.room) _ (brackets c.args.room)).law (elsif_block (opened c.args.room) _ (brackets c.args.room)).law refl c.in_ok-cond.ensures (both_read (terminal_rule terminals.Newline).law (block_maybe (opened c.args.room) _ (brackets c.args.room)) refl ended.1 h))))) (λ h. map_stuck (second_stuck (terminal_rule terminals.Elsif).law (elsif_rest (opened c.args.room) _ (brackets c.args.room)).law refl c.in_ok-expect.ensures (second_stuck (cond_rule (opened c.args.room) _ (brackets c.args.room)).law (elsif_block (opened c.args.room) _ (brackets c.args.room)).law refl c.in_ok-cond.ensures (second_stuck (terminal_rule terminals.Newline).law (block_maybe (opened c.args.room) _ (brackets c.args.room)) refl ended.1 h)))) c.make_arm.ensures c.block-stmts.ensures

pub elsifs-returns-in_err-arm : goal.elsifs-returns-in_err-arm
elsifs-returns-in_err-arm t c =
    exit _ _ _ _ _ _ _ c.from_residual.ensures.1 (λ h. gathers_err (elsif_rule (opened c.args.room) _ (brackets c.args.room)) refl (elsif_exact (opened c.args.room) _ (exacts c.args.room)) c.arms.invariant (sym c.at.ensures ∙ c.arms-test.true) h) c.in_err-arm.ensures

pub elsifs-arms-smaller : goal.elsifs-arms-smaller
elsifs-arms-smaller t c =
    shorter (elsif_rule (opened c.args.room) _ (brackets c.args.room)).solid c.in_ok-arm.ensures

pub elsifs-arms-preserved : goal.elsifs-arms-preserved
elsifs-arms-preserved t c =
    let grown : c.push.new.self ≡ c.arms.all ++ c.in_ok-arm.arm ∷ [] = c.in_ok-push.ensures.ok in
    rw grown (gathers_one (elsif_rule (opened c.args.room) _ (brackets c.args.room)) refl _ (λ vs e. more_items_step _ vs _ _ e) c.arms.invariant c.in_ok-arm.ensures)

pub elsifs-returns : goal.elsifs-returns
elsifs-returns t c =
    gathers_ok (elsif_rule (opened c.args.room) _ (brackets c.args.room)) refl c.arms.invariant (sym c.at.ensures ∙ c.arms-test.false)

pub otherwise-returns-in_err-expect : goal.otherwise-returns-in_err-expect
unfolding otherwise
otherwise-returns-in_err-expect t c =
    exit _ _ _ _ _ _ _ c.from_residual.ensures.1 (λ h. map_stuck (first_stuck (terminal_rule terminals.Else).law (block_maybe (opened c.args.room) _ (brackets c.args.room)) refl (h))) c.in_err-expect.ensures

pub otherwise-returns : goal.otherwise-returns
unfolding otherwise
otherwise-returns t c =
    tail _ _ _ _ _ _ (λ v h. map_read (both_read (terminal_rule terminals.Else).law (block_maybe (opened c.args.room) _ (brackets c.args.room)) refl c.in_ok-expect.ensures (h))) (λ h. map_stuck (second_stuck (terminal_rule terminals.Else).law (block_maybe (opened c.args.room) _ (brackets c.args.room)) refl c.in_ok-expect.ensures (h))) c.block.ensures
