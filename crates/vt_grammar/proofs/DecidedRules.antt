-- Each rule of the grammar is decided.
use Rattle.std.specs.Prelude.{◌≡◌, ℕ, zero, suc, Bool, true, false, List, [], ◌∷◌}
use Rattle.vt_tree.specs.declared.expression.Expr.{Expr}
use Rattle.vt_tree.specs.declared.expression.ChainKind.{ChainKind}
use Rattle.vt_grammar.specs.declared.terminals.Terminal.{Terminal}
use Rattle.vt_grammar.specs.declared.terminals.Terminal.TheVariants as terminals
use Rattle.vt_grammar.specs.Form.{Form}
use Rattle.vt_grammar.specs.Marks.{Mark}
use Rattle.vt_grammar.specs.Grammar.{Opened, terminal, among, is_literal, is_paren_open, is_list_open, is_sign, is_term_op, is_sum_op, is_comp_op, is_conj_op, is_disj_op, is_expr_op, is_set, is_condition, literal, named, primary, dot, part, after_part, parts_after, postfix, signed, unary, link, chain, term, sum, comp, conj, disj, negated, negation, expr, labelled_arg, plain_arg, arg, next_arg, labels_begun, has_label, args, next_item, items, leads, Leads, IsLed, IsPlain, command, cond_form, block_where, rhs, assign, simple, modifier, stmt, line, block, next_param, params, elsif, otherwise, parens_of, list_of, call_of_args, index_of, braces_of, doblock_of, iff_of, opened}
use Rattle.vt_grammar.specs.Trees.{takes_block}
use Rattle.vt_frac.proofs.Decision.{Decision, holds, both, implied, denied, is_true}
use Rattle.vt_grammar.proofs.Decided.{Decided, Filled, one_decided, one_filled, empty_decided, nothing_decided, nothing_filled, next_decided, prefix_filled, either_decided, either_filled, mapped_decided, mapped_filled, optional_decided, only_decided, with_its_decided, many_decided, many_from_decided}
use Rattle.vt_grammar.proofs.SameTerminals.{is_terminal}

terminal_decided : (w : Terminal) → Decided (terminal w)
terminal_decided w = one_decided (λ t. t.terminal ≡ w) (λ t. is_terminal w t.terminal)

among_decided : (F : Terminal → Bool) → Decided (among F)
among_decided F = one_decided (λ t. F t.terminal ≡ true) (λ t. is_true (F t.terminal))

terminal_filled : (w : Terminal) → Filled (terminal w)
terminal_filled w = one_filled (λ t. t.terminal ≡ w)

among_filled : (F : Terminal → Bool) → Filled (among F)
among_filled F = one_filled (λ t. F t.terminal ≡ true)

-- the forms that begin with an opening
pub record Brackets (o : Opened) : Type 1 where
  pub parens : Decided o.parens
  pub list : Decided o.list
  pub call : Decided o.call
  pub index : Decided o.index
  pub index_filled : Filled o.index
  pub braces : Decided o.braces
  pub doblock : Decided o.doblock
  pub iff : Decided o.iff

link_decided : (ops : Terminal → Bool) {a : Form Mark Expr} → Decided a → Decided (link ops a)
unfolding link
link_decided ops da = mapped_decided (next_decided (among_decided ops) (λ _. da))

link_filled : (ops : Terminal → Bool) (a : Form Mark Expr) → Filled (link ops a)
unfolding link
link_filled ops a = record { filled = λ v h. prefix_filled (among_filled ops) h.0.0 h.1 }

chain_decided : (kind : ChainKind) (ops : Terminal → Bool) {a : Form Mark Expr} → Decided a → Decided (chain kind ops a)
unfolding chain
chain_decided kind ops {a = a} da = mapped_decided (next_decided da (λ _. many_decided (link ops a) (link_decided ops da) (link_filled ops a)))

next_param_decided : Decided next_param
unfolding next_param
next_param_decided = mapped_decided (next_decided (terminal_decided terminals.Comma) (λ _. terminal_decided terminals.Name))

next_param_filled : Filled next_param
unfolding next_param
next_param_filled = record { filled = λ v h. prefix_filled (terminal_filled terminals.Comma) h.0.0 h.1 }

params_decided : Decided params
unfolding params
params_decided = mapped_decided (next_decided (terminal_decided terminals.Bar) (λ _. next_decided (terminal_decided terminals.Name) (λ _.
    next_decided (many_decided next_param next_param_decided next_param_filled) (λ _. terminal_decided terminals.Bar))))

leads_told : (t : Mark) → Decision (Leads t)
leads_told t = both (is_true t.gap) (is_true (leads t.terminal))

led_told : (ts : List Mark) → Decision (IsLed ts)
led_told [] = holds tt
led_told (t ∷ ts) = leads_told t

plain_told : (ts : List Mark) → Decision (IsPlain ts)
plain_told [] = holds tt
plain_told (t ∷ []) = holds tt
plain_told (t ∷ u ∷ ts) = implied (is_terminal terminals.Name t.terminal) (denied (leads_told u))

module _ (o : Opened) (bs : Brackets o) where
  literal_decided : Decided literal
  unfolding literal
  literal_decided = mapped_decided (among_decided is_literal)

  named_decided : Decided (named o)
  unfolding named
  named_decided = mapped_decided (next_decided (terminal_decided terminals.Name) (λ _. optional_decided bs.call))

  primary_decided : Decided (primary o)
  unfolding primary
  primary_decided = either_decided literal_decided (either_decided named_decided (either_decided bs.parens bs.list))

  dot_decided : Decided (dot o)
  unfolding dot
  dot_decided = mapped_decided (next_decided (terminal_decided terminals.Dot) (λ _. next_decided (terminal_decided terminals.Name) (λ _.
      next_decided (optional_decided bs.call) (λ _. optional_decided bs.braces))))

  dot_filled : Filled (dot o)
  unfolding dot
  dot_filled = record { filled = λ v h. prefix_filled (terminal_filled terminals.Dot) h.0.0 h.1 }

  part_decided : (left : ℕ × Bool) → Decided (part o left)
  unfolding part
  part_decided (zero, fresh) = nothing_decided
  part_decided (suc n, fresh) = either_decided (mapped_decided bs.index) (mapped_decided dot_decided)

  part_filled : (left : ℕ × Bool) → Filled (part o left)
  unfolding part
  part_filled (zero, fresh) = nothing_filled
  part_filled (suc n, fresh) = either_filled (mapped_filled bs.index_filled) (mapped_filled dot_filled)

  parts_decided : (e : Expr) → Decided (parts_after o e)
  parts_decided e = many_from_decided after_part (part o) part_decided part_filled _

  postfix_decided : Decided (postfix o)
  unfolding postfix
  postfix_decided = mapped_decided (next_decided primary_decided parts_decided)

  signed_decided : Decided (signed o)
  unfolding signed
  signed_decided = mapped_decided (next_decided (among_decided is_sign) (λ _. postfix_decided))

  unary_decided : Decided (unary o)
  unfolding unary
  unary_decided = either_decided signed_decided postfix_decided

  term_decided : Decided (term o)
  unfolding term
  term_decided = chain_decided _ is_term_op unary_decided

  sum_decided : Decided (sum o)
  unfolding sum
  sum_decided = chain_decided _ is_sum_op term_decided

  comp_decided : Decided (comp o)
  unfolding comp
  comp_decided = mapped_decided (next_decided sum_decided (λ _. optional_decided (link_decided is_comp_op sum_decided)))

  conj_decided : Decided (conj o)
  unfolding conj
  conj_decided = chain_decided _ is_conj_op comp_decided

  disj_decided : Decided (disj o)
  unfolding disj
  disj_decided = chain_decided _ is_disj_op conj_decided

  negated_decided : Decided (negated o)
  unfolding negated
  negated_decided = mapped_decided (next_decided (terminal_decided terminals.Not) (λ _. disj_decided))

  negation_decided : Decided (negation o)
  unfolding negation
  negation_decided = either_decided negated_decided disj_decided

  expr_decided : Decided (expr o)
  unfolding expr
  expr_decided = chain_decided _ is_expr_op negation_decided

  labelled_arg_decided : Decided (labelled_arg o)
  unfolding labelled_arg
  labelled_arg_decided = mapped_decided (next_decided (terminal_decided terminals.Label) (λ _. expr_decided))

  plain_arg_decided : Decided (plain_arg o)
  unfolding plain_arg
  plain_arg_decided = mapped_decided expr_decided

  arg_decided : (labels : Bool) → Decided (arg o labels)
  unfolding arg
  arg_decided true = labelled_arg_decided
  arg_decided false = either_decided labelled_arg_decided plain_arg_decided

  next_arg_decided : (labels : Bool) → Decided (next_arg o labels)
  unfolding next_arg
  next_arg_decided labels = mapped_decided (next_decided (terminal_decided terminals.Comma) (λ _. arg_decided labels))

  next_arg_filled : (labels : Bool) → Filled (next_arg o labels)
  unfolding next_arg
  next_arg_filled labels = record { filled = λ v h. prefix_filled (terminal_filled terminals.Comma) h.0.0 h.1 }

  args_decided : Decided (args o)
  unfolding args
  args_decided = mapped_decided (next_decided (arg_decided false) (λ a. many_from_decided labels_begun (next_arg o) next_arg_decided next_arg_filled (has_label a)))

  next_item_decided : Decided (next_item o)
  unfolding next_item
  next_item_decided = mapped_decided (next_decided (terminal_decided terminals.Comma) (λ _. expr_decided))

  next_item_filled : Filled (next_item o)
  unfolding next_item
  next_item_filled = record { filled = λ v h. prefix_filled (terminal_filled terminals.Comma) h.0.0 h.1 }

  items_decided : Decided (items o)
  unfolding items
  items_decided = mapped_decided (next_decided expr_decided (λ _. many_decided (next_item o) next_item_decided next_item_filled))

  command_decided : Decided (command o)
  unfolding command
  command_decided = mapped_decided (next_decided (terminal_decided terminals.Name) (λ _. only_decided led_told args_decided))

  cond_form_decided : Decided (cond_form o)
  unfolding cond_form
  cond_form_decided = either_decided command_decided (only_decided plain_told expr_decided)

  block_where_decided : (takes : Bool) → Decided (block_where o takes)
  block_where_decided true = optional_decided bs.doblock
  block_where_decided false = empty_decided _

  rhs_decided : Decided (rhs o)
  unfolding rhs
  rhs_decided = mapped_decided (next_decided cond_form_decided (λ e. block_where_decided (takes_block e)))

  assign_decided : Decided (assign o)
  unfolding assign
  assign_decided = mapped_decided (next_decided (terminal_decided terminals.Name) (λ _. next_decided (among_decided is_set) (λ _. rhs_decided)))

  simple_decided : Decided (simple o)
  unfolding simple
  simple_decided = either_decided bs.iff (either_decided assign_decided (mapped_decided rhs_decided))

  modifier_decided : Decided (modifier o)
  unfolding modifier
  modifier_decided = mapped_decided (next_decided (among_decided is_condition) (λ _. cond_form_decided))

  stmt_decided : Decided (stmt o)
  unfolding stmt
  stmt_decided = mapped_decided (with_its_decided (mapped_decided (next_decided simple_decided (λ _. optional_decided modifier_decided))))

  line_decided : Decided (line o)
  unfolding line
  line_decided = mapped_decided (next_decided (terminal_decided terminals.Newline) (λ _. optional_decided stmt_decided))

  line_filled : Filled (line o)
  unfolding line
  line_filled = record { filled = λ v h. prefix_filled (terminal_filled terminals.Newline) h.0.0 h.1 }

  pub block_decided : Decided (block o)
  unfolding block
  block_decided = mapped_decided (next_decided (optional_decided stmt_decided) (λ _. many_decided (line o) line_decided line_filled))

  elsif_decided : Decided (elsif o)
  unfolding elsif
  elsif_decided = mapped_decided (next_decided (terminal_decided terminals.Elsif) (λ _. next_decided cond_form_decided (λ _.
      next_decided (terminal_decided terminals.Newline) (λ _. block_decided))))

  elsif_filled : Filled (elsif o)
  unfolding elsif
  elsif_filled = record { filled = λ v h. prefix_filled (terminal_filled terminals.Elsif) h.0.0 h.1 }

  otherwise_decided : Decided (otherwise o)
  unfolding otherwise
  otherwise_decided = mapped_decided (next_decided (terminal_decided terminals.Else) (λ _. block_decided))

  parens_of_decided : Decided (parens_of o)
  unfolding parens_of
  parens_of_decided = mapped_decided (next_decided (among_decided is_paren_open) (λ _. next_decided cond_form_decided (λ _. terminal_decided terminals.ParenClose)))

  list_of_decided : Decided (list_of o)
  unfolding list_of
  list_of_decided = mapped_decided (next_decided (among_decided is_list_open) (λ _. next_decided (optional_decided items_decided) (λ _. terminal_decided terminals.ListClose)))

  call_of_args_decided : Decided (call_of_args o)
  unfolding call_of_args
  call_of_args_decided = mapped_decided (next_decided (terminal_decided terminals.CallOpen) (λ _. next_decided (optional_decided args_decided) (λ _. terminal_decided terminals.ParenClose)))

  index_of_decided : Decided (index_of o)
  unfolding index_of
  index_of_decided = mapped_decided (next_decided (terminal_decided terminals.IndexOpen) (λ _. next_decided expr_decided (λ _. terminal_decided terminals.ListClose)))

  index_of_filled : Filled (index_of o)
  unfolding index_of
  index_of_filled = record { filled = λ v h. prefix_filled (terminal_filled terminals.IndexOpen) h.0.0 h.1 }

  braces_of_decided : Decided (braces_of o)
  unfolding braces_of
  braces_of_decided = mapped_decided (next_decided (terminal_decided terminals.BraceOpen) (λ _. next_decided (optional_decided params_decided) (λ _.
      next_decided block_decided (λ _. terminal_decided terminals.BraceClose))))

  doblock_of_decided : Decided (doblock_of o)
  unfolding doblock_of
  doblock_of_decided = mapped_decided (next_decided (terminal_decided terminals.Do) (λ _. next_decided (optional_decided params_decided) (λ _.
      next_decided (terminal_decided terminals.Newline) (λ _. next_decided block_decided (λ _. terminal_decided terminals.End)))))

  iff_of_decided : Decided (iff_of o)
  unfolding iff_of
  iff_of_decided = mapped_decided (next_decided (among_decided is_condition) (λ _. next_decided cond_form_decided (λ _.
      next_decided (terminal_decided terminals.Newline) (λ _. next_decided block_decided (λ _.
      next_decided (many_decided (elsif o) elsif_decided elsif_filled) (λ _.
      next_decided (optional_decided otherwise_decided) (λ _. terminal_decided terminals.End)))))))

-- The forms that begin with an opening are decided, however many more may be opened.
pub brackets : (n : ℕ) → Brackets (opened n)
unfolding opened
brackets zero = record {
  parens = nothing_decided;
  list = nothing_decided;
  call = nothing_decided;
  index = nothing_decided;
  index_filled = nothing_filled;
  braces = nothing_decided;
  doblock = nothing_decided;
  iff = nothing_decided;
}
brackets (suc n) = record {
  parens = parens_of_decided (opened n) (brackets n);
  list = list_of_decided (opened n) (brackets n);
  call = call_of_args_decided (opened n) (brackets n);
  index = index_of_decided (opened n) (brackets n);
  index_filled = index_of_filled (opened n) (brackets n);
  braces = braces_of_decided (opened n) (brackets n);
  doblock = doblock_of_decided (opened n) (brackets n);
  iff = iff_of_decided (opened n) (brackets n);
}
