-- The laws of each rule of the grammar.
use Rattle.std.proofs.Common.{◌≡◌, inl, inr, ℕ, zero, suc, Bool, true, false, not, ◌||◌, nat_lt, lt-ltb, arith, List, [], ◌∷◌, ◌++◌, Option, None, refl, sym, subst, append-nil}
use Rattle.vt_tree.specs.declared.expression.Expr.{Expr}
use Rattle.vt_tree.specs.declared.expression.ChainKind.{ChainKind}
use Rattle.vt_tree.specs.declared.statement.Simple.{Simple}
use Rattle.vt_tree.specs.declared.statement.Simple.TheVariants as simples
use Rattle.vt_grammar.specs.declared.terminals.Terminal.{Terminal}
use Rattle.vt_grammar.specs.declared.terminals.Terminal.TheVariants as terminals
use Rattle.vt_grammar.specs.Form.{Form, next, either, mapped, optional, only, with_its, many, many_from}
use Rattle.vt_grammar.specs.Marks.{Mark}
use Rattle.vt_grammar.specs.Trees.{form_tree, takes_block}
use Rattle.vt_grammar.specs.Grammar.{Opened, terminal, among, is_literal, is_paren_open, is_list_open, is_sign, is_term_op, is_sum_op, is_comp_op, is_conj_op, is_disj_op, is_expr_op, is_set, is_condition, literal, named, primary, dot, part, after_part, parts_after, postfix, signed, unary, link, chain, term, sum, comp, conj, disj, negated, negation, expr, labelled_arg, plain_arg, arg, next_arg, labels_begun, has_label, args, next_item, items, leads, Leads, IsLed, IsPlain, command, cond_form, block_where, rhs, assign, simple, modifier, first_line, stmt, line, block, next_param, params, elsif, otherwise, parens_of, list_of, call_of_args, index_of, braces_of, doblock_of, iff_of, opened}
use Rattle.vt_grammar.proofs.Choices.{empty_lawful, either_lawful_by}
use Rattle.vt_grammar.proofs.Builders.{weaker, map_lawful, with_its_lawful, with_its_solid}
use Rattle.vt_grammar.proofs.TerminalSets.{In, includes, disjoint, sub, apart, by_room, included, passes_all, all_terminals}
use Rattle.vt_grammar.proofs.MarkLaws.{Rule, Maybe, terminal_rule, among_rule, nothing_rule, map_rule, wider, only_rule, then_rule, then_maybe, maybe_then, maybe_maybe, then_by, or_rule, maybe, repeat, repeat_from}
use Rattle.vt_grammar.specs.private.Sets.{just, also, none, ParenStarts, ListStarts, CallStarts, IndexStarts, BraceStarts, DoStarts, IffStarts, GroupStarts, NameStarts, PrimaryStarts, PartStarts, UnaryStarts, ExprStarts, ArgStarts, StmtStarts, BlockStarts, NameGoes, PartGoes, PostfixGoes, TermGoes, SumGoes, CompGoes, ConjGoes, DisjGoes, ExprGoes, ArgsGoes, CondGoes, RhsGoes, SimpleGoes, StmtGoes, LineGoes, BlockGoes, ParamGoes, ArmsGoes, ElseGoes, ArmsStart}

-- the laws of the forms that begin with an opening
pub record Brackets (s : Opened) (b : Bool) : Type 0 where
  pub parens : Rule s.parens (ParenStarts b) none
  pub list : Rule s.list (ListStarts b) none
  pub call : Rule s.call (CallStarts b) none
  pub index : Rule s.index (IndexStarts b) none
  pub braces : Rule s.braces (BraceStarts b) none
  pub doblock : Rule s.doblock (DoStarts b) none
  pub iff : Rule s.iff (IffStarts b) none

-- an operator and a part, and a chain of them
pub link_rule : {ops : Terminal → Bool} {a : Form Mark Expr} {F M : Terminal → Bool} → Rule a F M → Rule (link ops a) ops M
unfolding link
link_rule {ops = ops} p = map_rule (then_rule (among_rule ops) p refl)

pub chain_rule : (kind : ChainKind) (ops : Terminal → Bool) {a : Form Mark Expr} {F M : Terminal → Bool} (N : Terminal → Bool) → Rule a F M → disjoint M ops ≡ true
    → includes ops N ≡ true → includes M N ≡ true → Rule (chain kind ops a) F N
unfolding chain
chain_rule kind ops N p d o m = map_rule (then_maybe N p (repeat N (link_rule p) d o m) d m (included N))

-- the parts of two sets together
first : (F G : Terminal → Bool) → includes F (also F G) ≡ true
first F G = passes_all (λ w. also F G w || not (F w)) (λ w. go (F w) (G w)) all_terminals
  where
    go : (a c : Bool) → (a || c) || not a ≡ true
    go true c = refl
    go false true = refl
    go false false = refl

second : (F G : Terminal → Bool) → includes G (also F G) ≡ true
second F G = passes_all (λ w. also F G w || not (G w)) (λ w. go (F w) (G w)) all_terminals
  where
    go : (a c : Bool) → (a || c) || not c ≡ true
    go true c = refl
    go false true = refl
    go false false = refl

pub next_param_rule : Rule next_param (just terminals.Comma) none
unfolding next_param
next_param_rule = map_rule (then_rule (terminal_rule terminals.Comma) (terminal_rule terminals.Name) refl)

pub next_params_maybe : Maybe (many next_param) (just terminals.Comma) ParamGoes
next_params_maybe = repeat ParamGoes next_param_rule refl refl refl

pub params_end : Rule (next (many next_param) (λ _. terminal terminals.Bar)) (also (just terminals.Comma) (just terminals.Bar)) none
params_end = maybe_then (also (just terminals.Comma) (just terminals.Bar)) next_params_maybe (terminal_rule terminals.Bar) refl refl refl

pub params_rest : Rule (next (terminal terminals.Name) (λ _. next (many next_param) (λ _. terminal terminals.Bar))) (just terminals.Name) none
params_rest = then_rule (terminal_rule terminals.Name) params_end refl

pub params_rule : Rule params (just terminals.Bar) none
unfolding params
params_rule = map_rule (then_rule (terminal_rule terminals.Bar) params_rest refl)

pub params_maybe : Maybe (optional params) (just terminals.Bar) (just terminals.Bar)
params_maybe = maybe (just terminals.Bar) params_rule refl refl

module _ (s : Opened) (b : Bool) (bs : Brackets s b) where
  pub literal_rule : Rule literal is_literal none
  unfolding literal
  literal_rule = map_rule (among_rule is_literal)

  pub call_maybe : Maybe (optional s.call) (CallStarts b) NameGoes
  call_maybe = maybe NameGoes bs.call (by_room (λ b. includes (CallStarts b) NameGoes ≡ true) refl refl b) refl

  pub braces_maybe : Maybe (optional s.braces) (BraceStarts b) PartGoes
  braces_maybe = maybe PartGoes bs.braces (by_room (λ b. includes (BraceStarts b) PartGoes ≡ true) refl refl b) refl

  pub named_rule : Rule (named s) (just terminals.Name) NameGoes
  unfolding named
  named_rule = map_rule (then_maybe NameGoes (terminal_rule terminals.Name) call_maybe refl refl refl)

  pub group_rule : Rule (either s.parens s.list) (GroupStarts b) none
  group_rule = or_rule (GroupStarts b) none bs.parens bs.list
      (by_room (λ b. disjoint (ParenStarts b) (ListStarts b) ≡ true) refl refl b)
      (by_room (λ b. includes (ParenStarts b) (GroupStarts b) ≡ true) refl refl b)
      (by_room (λ b. includes (ListStarts b) (GroupStarts b) ≡ true) refl refl b) refl refl

  pub value_rule : Rule (either (named s) (either s.parens s.list)) (NameStarts b) NameGoes
  value_rule = or_rule (NameStarts b) NameGoes named_rule group_rule
      (by_room (λ b. disjoint (just terminals.Name) (GroupStarts b) ≡ true) refl refl b)
      (by_room (λ b. includes (just terminals.Name) (NameStarts b) ≡ true) refl refl b)
      (by_room (λ b. includes (GroupStarts b) (NameStarts b) ≡ true) refl refl b) refl refl

  pub primary_rule : Rule (primary s) (PrimaryStarts b) NameGoes
  unfolding primary
  primary_rule = or_rule (PrimaryStarts b) NameGoes literal_rule value_rule
      (by_room (λ b. disjoint is_literal (NameStarts b) ≡ true) refl refl b)
      (by_room (λ b. includes is_literal (PrimaryStarts b) ≡ true) refl refl b)
      (by_room (λ b. includes (NameStarts b) (PrimaryStarts b) ≡ true) refl refl b) refl refl

  pub call_braces : Maybe (next (optional s.call) (λ _. optional s.braces)) PartGoes PartGoes
  call_braces = maybe_maybe PartGoes PartGoes call_maybe braces_maybe refl
      (by_room (λ b. includes (CallStarts b) PartGoes ≡ true) refl refl b) (by_room (λ b. includes (BraceStarts b) PartGoes ≡ true) refl refl b) refl refl

  pub dot_rest : Rule (next (terminal terminals.Name) (λ _. next (optional s.call) (λ _. optional s.braces))) (just terminals.Name) PartGoes
  dot_rest = then_maybe PartGoes (terminal_rule terminals.Name) call_braces refl refl refl

  pub dot_rule : Rule (dot s) (just terminals.Dot) PartGoes
  unfolding dot
  dot_rule = map_rule (then_rule (terminal_rule terminals.Dot) dot_rest refl)

  pub part_rule : (left : ℕ × Bool) → Rule (part s left) (PartStarts b) PartGoes
  unfolding part
  part_rule (zero, fresh) = wider (PartStarts b) PartGoes (included (PartStarts b)) refl (nothing_rule (PartStarts b))
  part_rule (suc n, fresh) = or_rule (PartStarts b) PartGoes (map_rule bs.index) (map_rule dot_rule)
      (by_room (λ b. disjoint (IndexStarts b) (just terminals.Dot) ≡ true) refl refl b)
      (by_room (λ b. includes (IndexStarts b) (PartStarts b) ≡ true) refl refl b)
      (by_room (λ b. includes (just terminals.Dot) (PartStarts b) ≡ true) refl refl b) refl refl

  pub parts_maybe : (e : Expr) → Maybe (parts_after s e) (PartStarts b) PostfixGoes
  parts_maybe e = repeat_from after_part (part s) PostfixGoes part_rule refl (by_room (λ b. includes (PartStarts b) PostfixGoes ≡ true) refl refl b) refl _

  pub postfix_rule : Rule (postfix s) (PrimaryStarts b) PostfixGoes
  unfolding postfix
  postfix_rule = map_rule (then_by PostfixGoes primary_rule parts_maybe refl refl refl)

  pub signed_rule : Rule (signed s) is_sign PostfixGoes
  unfolding signed
  signed_rule = map_rule (then_rule (among_rule is_sign) postfix_rule refl)

  pub unary_rule : Rule (unary s) (UnaryStarts b) PostfixGoes
  unfolding unary
  unary_rule = or_rule (UnaryStarts b) PostfixGoes signed_rule postfix_rule
      (by_room (λ b. disjoint is_sign (PrimaryStarts b) ≡ true) refl refl b)
      (by_room (λ b. includes is_sign (UnaryStarts b) ≡ true) refl refl b)
      (by_room (λ b. includes (PrimaryStarts b) (UnaryStarts b) ≡ true) refl refl b) refl refl

  pub term_rule : Rule (term s) (UnaryStarts b) TermGoes
  unfolding term
  term_rule = chain_rule _ is_term_op TermGoes unary_rule refl refl refl

  pub sum_rule : Rule (sum s) (UnaryStarts b) SumGoes
  unfolding sum
  sum_rule = chain_rule _ is_sum_op SumGoes term_rule refl refl refl

  pub comparison_maybe : Maybe (optional (link is_comp_op (sum s))) is_comp_op CompGoes
  comparison_maybe = maybe CompGoes (link_rule sum_rule) refl refl

  pub comp_rule : Rule (comp s) (UnaryStarts b) CompGoes
  unfolding comp
  comp_rule = map_rule (then_maybe CompGoes sum_rule comparison_maybe refl refl refl)

  pub conj_rule : Rule (conj s) (UnaryStarts b) ConjGoes
  unfolding conj
  conj_rule = chain_rule _ is_conj_op ConjGoes comp_rule refl refl refl

  pub disj_rule : Rule (disj s) (UnaryStarts b) DisjGoes
  unfolding disj
  disj_rule = chain_rule _ is_disj_op DisjGoes conj_rule refl refl refl

  pub negated_rule : Rule (negated s) (just terminals.Not) DisjGoes
  unfolding negated
  negated_rule = map_rule (then_rule (terminal_rule terminals.Not) disj_rule refl)

  pub negation_rule : Rule (negation s) (ExprStarts b) DisjGoes
  unfolding negation
  negation_rule = or_rule (ExprStarts b) DisjGoes negated_rule disj_rule
      (by_room (λ b. disjoint (just terminals.Not) (UnaryStarts b) ≡ true) refl refl b)
      (by_room (λ b. includes (just terminals.Not) (ExprStarts b) ≡ true) refl refl b)
      (by_room (λ b. includes (UnaryStarts b) (ExprStarts b) ≡ true) refl refl b) refl refl

  pub expr_rule : Rule (expr s) (ExprStarts b) ExprGoes
  unfolding expr
  expr_rule = chain_rule _ is_expr_op ExprGoes negation_rule refl refl refl

  pub labelled_rule : Rule (labelled_arg s) (just terminals.Label) ExprGoes
  unfolding labelled_arg
  labelled_rule = map_rule (then_rule (terminal_rule terminals.Label) expr_rule refl)

  pub plain_rule : Rule (plain_arg s) (ExprStarts b) ExprGoes
  unfolding plain_arg
  plain_rule = map_rule expr_rule

  pub arg_rule : (labels : Bool) → Rule (arg s labels) (ArgStarts b) ExprGoes
  unfolding arg
  arg_rule true = wider (ArgStarts b) ExprGoes (by_room (λ b. includes (just terminals.Label) (ArgStarts b) ≡ true) refl refl b) refl labelled_rule
  arg_rule false = or_rule (ArgStarts b) ExprGoes labelled_rule plain_rule
      (by_room (λ b. disjoint (just terminals.Label) (ExprStarts b) ≡ true) refl refl b)
      (by_room (λ b. includes (just terminals.Label) (ArgStarts b) ≡ true) refl refl b)
      (by_room (λ b. includes (ExprStarts b) (ArgStarts b) ≡ true) refl refl b) refl refl

  pub next_arg_rule : (labels : Bool) → Rule (next_arg s labels) (just terminals.Comma) ExprGoes
  unfolding next_arg
  next_arg_rule labels = map_rule (then_rule (terminal_rule terminals.Comma) (arg_rule labels) refl)

  pub more_args_maybe : (labels : Bool) → Maybe (many_from labels_begun (next_arg s) labels) (just terminals.Comma) ArgsGoes
  more_args_maybe labels = repeat_from labels_begun (next_arg s) ArgsGoes next_arg_rule refl refl refl labels

  pub args_rule : Rule (args s) (ArgStarts b) ArgsGoes
  unfolding args
  args_rule = map_rule (then_by ArgsGoes (arg_rule false) (λ a. more_args_maybe (has_label a)) refl refl refl)

  pub next_item_rule : Rule (next_item s) (just terminals.Comma) ExprGoes
  unfolding next_item
  next_item_rule = map_rule (then_rule (terminal_rule terminals.Comma) expr_rule refl)

  pub more_items_maybe : Maybe (many (next_item s)) (just terminals.Comma) ArgsGoes
  more_items_maybe = repeat ArgsGoes next_item_rule refl refl refl

  pub items_rule : Rule (items s) (ExprStarts b) ArgsGoes
  unfolding items
  items_rule = map_rule (then_maybe ArgsGoes expr_rule more_items_maybe refl refl refl)

  pub led_closed : (x y : List Mark) → IsLed (x ++ y) → IsLed x
  led_closed [] y h = tt
  led_closed (t ∷ x) y h = h

  pub led_rule : Rule (only IsLed (args s)) (ArgStarts b) ArgsGoes
  led_rule = only_rule tt led_closed args_rule

  pub command_rule : Rule (command s) (just terminals.Name) ArgsGoes
  unfolding command
  command_rule = map_rule (then_rule (terminal_rule terminals.Name) led_rule refl)

  -- the first two tokens of a command
  pub command_begun : (c d : Mark) (z : List Mark) → (command s).begins (c ∷ d ∷ z) → (c.terminal ≡ terminals.Name) × Leads d
  unfolding command
  command_begun c d z (inl (inl e)) = absurd (cc)
  command_begun c d z (inl (inr h)) = absurd h
  command_begun c d z (inr (v, p)) = go p.prefix p.rest p.whole p.first p.second
    where
      go : (f t : List Mark) → c ∷ d ∷ z ≡ f ++ t → (terminal terminals.Name).reads f v → (only IsLed (args s)).begins t → (c.terminal ≡ terminals.Name) × Leads d
      go [] t e h g = absurd h
      go (u ∷ []) t e h g =
          let same : u ≡ c = cc in
          (subst (λ (x : Mark). x.terminal ≡ terminals.Name) same h.0, (subst IsLed (let back : t ≡ d ∷ z = cc in back) g.0))
      go (u ∷ w ∷ f) t e h g = absurd h

  pub command_one : (c : Mark) (v : Expr) → (command s).reads (c ∷ []) v → ⊥
  unfolding command
  command_one c v (w, p, e) = go p.prefix p.rest p.whole p.first p.second
    where
      go : (f t : List Mark) → c ∷ [] ≡ f ++ t → (terminal terminals.Name).reads f w.0 → (only IsLed (args s)).reads t w.1 → ⊥
      go [] t e h g = h
      go (u ∷ []) [] e h g = args_rule.solid.solid w.1 g.1
      go (u ∷ []) (x ∷ t) e h g = cc
      go (u ∷ x ∷ f) t e h g = h

  leads_in : (t : Mark) → Leads t → In CondGoes t
  leads_in t h = sub {F = leads} refl t (record { is = h.1 })

  plain_closed : (x y : List Mark) → IsPlain (x ++ y) → IsPlain x
  plain_closed [] y h = tt
  plain_closed (c ∷ []) y h = tt
  plain_closed (c ∷ d ∷ x) y h = h

  pub plain_expr_rule : Rule (only IsPlain (expr s)) (ExprStarts b) ExprGoes
  plain_expr_rule = only_rule tt plain_closed expr_rule

  pub command_expr : (x : List Mark) (v : Expr) (y : List Mark) → (command s).reads x v → (only IsPlain (expr s)).begins (x ++ y) → ⊥
  command_expr [] v y h g = command_rule.solid.solid v h
  command_expr (c ∷ []) v y h g = command_one c v h
  command_expr (c ∷ d ∷ x) v y h g = let two = command_begun c d x (command_rule.law.opens.whole (c ∷ d ∷ x) v h) in g.0 two.0 two.1

  expr_command : (x : List Mark) (v : Expr) (t : Mark) (y : List Mark) → (only IsPlain (expr s)).reads x v → (command s).begins (x ++ t ∷ y) → In CondGoes t
  expr_command [] v t y h g = absurd (expr_rule.solid.solid v h.1)
  expr_command (c ∷ []) v t y h g = leads_in t (command_begun c t y g).1
  expr_command (c ∷ d ∷ x) v t y h g = let two = command_begun c d (x ++ t ∷ y) g in absurd (h.0 two.0 two.1)

  -- a command or an expression
  pub cond_rule : Rule (cond_form s) (ExprStarts b) CondGoes
  unfolding cond_form
  cond_rule = record {
    law = either_lawful_by (command s) (only IsPlain (expr s)) (In (just terminals.Name)) (In ArgsGoes) (In (ExprStarts b)) (In ExprGoes) (In (ExprStarts b)) (In CondGoes)
        command_rule.law plain_expr_rule.law (sub (by_room (λ b. includes (just terminals.Name) (ExprStarts b) ≡ true) refl refl b)) (λ t h. h) (sub refl) (sub refl)
        (λ x v t y h g. absurd (command_expr x v (t ∷ y) h g)) expr_command
        (λ x v w h g. absurd (command_expr x v [] h (subst (only IsPlain (expr s)).begins (sym (append-nil x)) (plain_expr_rule.law.opens.whole x w g))));
    solid = record { solid = λ v h. elim h [ inl p ↦ command_rule.solid.solid v p | inr p ↦ expr_rule.solid.solid v p.1 ] };
  }

  pub block_where_maybe : (takes : Bool) → Maybe (block_where s takes) (DoStarts b) (just terminals.Do)
  block_where_maybe true = maybe (just terminals.Do) bs.doblock (by_room (λ b. includes (DoStarts b) (just terminals.Do) ≡ true) refl refl b) refl
  block_where_maybe false = weaker (empty_lawful None) (λ t h. absurd h) (λ t h. absurd h)

  pub rhs_rule : Rule (rhs s) (ExprStarts b) RhsGoes
  unfolding rhs
  rhs_rule = map_rule (then_by RhsGoes cond_rule (λ e. block_where_maybe (takes_block e)) refl refl refl)

  -- A name alone is whole as each rule from a value up to a right side.
  chain_whole : (kind : ChainKind) (ops : Terminal → Bool) (a : Form Mark Expr) (x : List Mark) (e : Expr) → a.reads x e → (chain kind ops a).reads x e
  unfolding chain
  chain_whole kind ops a x e h = ((e, []), record { prefix = x; rest = []; whole = sym (append-nil x); first = h; second = refl }, refl)

  name_primary : (c : Mark) → c.terminal ≡ terminals.Name → (e : Expr) × (primary s).reads (c ∷ []) e
  unfolding primary named
  name_primary c h = (_, inr (inl ((c, None), record { prefix = c ∷ []; rest = []; whole = refl; first = (h, refl); second = inr (refl, refl) }, refl)))

  name_unary : (c : Mark) → c.terminal ≡ terminals.Name → (e : Expr) × (unary s).reads (c ∷ []) e
  unfolding unary postfix
  name_unary c h =
      let p = name_primary c h in
      (_, inr ((p.0, []), record { prefix = c ∷ []; rest = []; whole = refl; first = p.1; second = refl }, refl))

  name_comp : (c : Mark) → c.terminal ≡ terminals.Name → (e : Expr) × (comp s).reads (c ∷ []) e
  unfolding comp sum term
  name_comp c h =
      let p = name_unary c h in
      let below = chain_whole _ is_sum_op (term s) (c ∷ []) p.0 (chain_whole _ is_term_op (unary s) (c ∷ []) p.0 p.1) in
      (_, ((p.0, None), record { prefix = c ∷ []; rest = []; whole = refl; first = below; second = inr (refl, refl) }, refl))

  pub name_expr : (c : Mark) → c.terminal ≡ terminals.Name → (e : Expr) × (expr s).reads (c ∷ []) e
  unfolding expr negation disj conj
  name_expr c h =
      let p = name_comp c h in (
        p.0,
        chain_whole _ is_expr_op (negation s) (c ∷ []) p.0
            (inr (chain_whole _ is_disj_op (conj s) (c ∷ []) p.0 (chain_whole _ is_conj_op (comp s) (c ∷ []) p.0 p.1))),
      )

  block_left_out : (takes : Bool) → (block_where s takes).reads [] None
  block_left_out true = inr (refl, refl)
  block_left_out false = (refl, refl)

  pub name_rhs : (c : Mark) → c.terminal ≡ terminals.Name → (e : Expr) × (rhs s).reads (c ∷ []) e
  unfolding rhs cond_form
  name_rhs c h =
      let p = name_expr c h in
      (_, ((p.0, None), record { prefix = c ∷ []; rest = []; whole = refl; first = inr (tt, p.1); second = block_left_out (takes_block p.0) }, refl))

  pub rhs_second : (c d : Mark) (z : List Mark) → c.terminal ≡ terminals.Name → (rhs s).begins (c ∷ d ∷ z) → In RhsGoes d
  rhs_second c d z e h = let p = name_rhs c e in rhs_rule.law.more (c ∷ []) p.0 d z p.1 h

  pub set_rule : Rule (next (among is_set) (λ _. rhs s)) is_set RhsGoes
  set_rule = then_rule (among_rule is_set) rhs_rule refl

  pub assign_rule : Rule (assign s) (just terminals.Name) RhsGoes
  unfolding assign
  assign_rule = map_rule (then_rule (terminal_rule terminals.Name) set_rule refl)

  -- the first two tokens of an assignment
  pub assign_begun : (c d : Mark) (z : List Mark) → (assign s).begins (c ∷ d ∷ z) → (c.terminal ≡ terminals.Name) × In is_set d
  unfolding assign
  assign_begun c d z (inl (inl e)) = absurd (cc)
  assign_begun c d z (inl (inr h)) = absurd h
  assign_begun c d z (inr (v, p)) = go p.prefix p.rest p.whole p.first p.second
    where
      go : (f t : List Mark) → c ∷ d ∷ z ≡ f ++ t → (terminal terminals.Name).reads f v → (next (among is_set) (λ _. rhs s)).begins t
          → (c.terminal ≡ terminals.Name) × In is_set d
      go [] t e h g = absurd h
      go (u ∷ []) t e h g =
          let same : u ≡ c = cc in (
            subst (λ (x : Mark). x.terminal ≡ terminals.Name) same h.0,
            set_rule.law.opens.first d z (subst (next (among is_set) (λ _. rhs s)).begins (let back : t ≡ d ∷ z = cc in back) g),
          )
      go (u ∷ w ∷ f) t e h g = absurd h

  pub assign_one : (c : Mark) (v : Simple) → (assign s).reads (c ∷ []) v → ⊥
  unfolding assign
  assign_one c v (w, p, e) = go p.prefix p.rest p.whole p.first p.second
    where
      go : (f t : List Mark) → c ∷ [] ≡ f ++ t → (terminal terminals.Name).reads f w.0 → (next (among is_set) (λ _. rhs s)).reads t w.1 → ⊥
      go [] t e h g = h
      go (u ∷ []) [] e h g = set_rule.solid.solid w.1 g
      go (u ∷ []) (x ∷ t) e h g = cc
      go (u ∷ x ∷ f) t e h g = h

  set_not_rhs : (d : Mark) → In is_set d → In RhsGoes d → ⊥
  set_not_rhs d h g = apart refl d h g

  pub assign_rhs : (x : List Mark) (v : Simple) (y : List Mark) → (assign s).reads x v → (rhs s).begins (x ++ y) → ⊥
  assign_rhs [] v y h g = assign_rule.solid.solid v h
  assign_rhs (c ∷ []) v y h g = assign_one c v h
  assign_rhs (c ∷ d ∷ x) v y h g =
      let two = assign_begun c d x (assign_rule.law.opens.whole (c ∷ d ∷ x) v h) in
      set_not_rhs d two.1 (rhs_second c d (x ++ y) two.0 g)

  rhs_assign : (x : List Mark) (v : Expr) (t : Mark) (y : List Mark) → (rhs s).reads x v → (assign s).begins (x ++ t ∷ y) → In SimpleGoes t
  rhs_assign [] v t y h g = absurd (rhs_rule.solid.solid v h)
  rhs_assign (c ∷ []) v t y h g = sub {F = is_set} refl t (assign_begun c t y g).1
  rhs_assign (c ∷ d ∷ x) v t y h g =
      let two = assign_begun c d (x ++ t ∷ y) g in
      absurd (set_not_rhs d two.1 (rhs_second c d x two.0 (rhs_rule.law.opens.whole (c ∷ d ∷ x) v h)))

  -- an assignment or a value
  pub plain_simple_rule : Rule (either (assign s) (mapped (λ (e : Expr). simples.Value e) (rhs s))) (ExprStarts b) SimpleGoes
  plain_simple_rule = record {
    law = either_lawful_by (assign s) (mapped (λ (e : Expr). simples.Value e) (rhs s)) (In (just terminals.Name)) (In RhsGoes) (In (ExprStarts b)) (In RhsGoes)
        (In (ExprStarts b)) (In SimpleGoes)
        assign_rule.law (map_rule rhs_rule).law (sub (by_room (λ b. includes (just terminals.Name) (ExprStarts b) ≡ true) refl refl b)) (λ t h. h) (sub refl) (sub refl)
        (λ x v t y h g. absurd (assign_rhs x v (t ∷ y) h g)) (λ x v t y h g. rhs_assign x h.0 t y h.1 g)
        (λ x v w h g. absurd (assign_rhs x v [] h (subst (rhs s).begins (sym (append-nil x)) (rhs_rule.law.opens.whole x g.0 g.1))));
    solid = record { solid = λ v h. elim h [ inl p ↦ assign_rule.solid.solid v p | inr p ↦ rhs_rule.solid.solid p.0 p.1 ] };
  }

  pub simple_rule : Rule (simple s) (StmtStarts b) SimpleGoes
  unfolding simple
  simple_rule = or_rule (StmtStarts b) SimpleGoes bs.iff plain_simple_rule
      (by_room (λ b. disjoint (IffStarts b) (ExprStarts b) ≡ true) refl refl b)
      (by_room (λ b. includes (IffStarts b) (StmtStarts b) ≡ true) refl refl b)
      (by_room (λ b. includes (ExprStarts b) (StmtStarts b) ≡ true) refl refl b) refl refl

  pub modifier_rule : Rule (modifier s) is_condition CondGoes
  unfolding modifier
  modifier_rule = map_rule (then_rule (among_rule is_condition) cond_rule refl)

  pub modified_maybe : Maybe (optional (modifier s)) is_condition StmtGoes
  modified_maybe = maybe StmtGoes modifier_rule refl refl

  pub formed_rule : Rule (mapped (λ (p : Simple × Option (Bool × Expr)). form_tree p.0 p.1) (next (simple s) (λ _. optional (modifier s)))) (StmtStarts b) StmtGoes
  formed_rule = map_rule (then_maybe StmtGoes simple_rule modified_maybe refl refl refl)

  pub stmt_rule : Rule (stmt s) (StmtStarts b) StmtGoes
  unfolding stmt
  stmt_rule = map_rule (its formed_rule)
    where
      its : {V : Type 0} {a : Form Mark V} {F M : Terminal → Bool} → Rule a F M → Rule (with_its first_line a) F M
      its p = record { law = with_its_lawful p.law; solid = with_its_solid p.solid }

  pub maybe_stmt : Maybe (optional (stmt s)) (StmtStarts b) LineGoes
  maybe_stmt = maybe LineGoes stmt_rule (by_room (λ b. includes (StmtStarts b) LineGoes ≡ true) refl refl b) refl

  pub line_rule : Rule (line s) (just terminals.Newline) LineGoes
  unfolding line
  line_rule = map_rule (then_maybe LineGoes (terminal_rule terminals.Newline) maybe_stmt refl refl refl)

  pub lines_maybe : Maybe (many (line s)) (just terminals.Newline) BlockGoes
  lines_maybe = repeat BlockGoes line_rule refl refl refl

  pub block_maybe : Maybe (block s) (BlockStarts b) BlockGoes
  unfolding block
  block_maybe = map_lawful (maybe_maybe (BlockStarts b) BlockGoes maybe_stmt lines_maybe refl
      (by_room (λ b. includes (StmtStarts b) (BlockStarts b) ≡ true) refl refl b)
      (by_room (λ b. includes (just terminals.Newline) (BlockStarts b) ≡ true) refl refl b) refl refl)

  pub elsif_block : Rule (next (terminal terminals.Newline) (λ _. block s)) (just terminals.Newline) BlockGoes
  elsif_block = then_maybe BlockGoes (terminal_rule terminals.Newline) block_maybe refl refl refl

  pub elsif_rest : Rule (next (cond_form s) (λ _. next (terminal terminals.Newline) (λ _. block s))) (ExprStarts b) BlockGoes
  elsif_rest = then_rule cond_rule elsif_block refl

  pub elsif_rule : Rule (elsif s) (just terminals.Elsif) BlockGoes
  unfolding elsif
  elsif_rule = map_rule (then_rule (terminal_rule terminals.Elsif) elsif_rest refl)

  pub elsifs_maybe : Maybe (many (elsif s)) (just terminals.Elsif) ArmsGoes
  elsifs_maybe = repeat ArmsGoes elsif_rule refl refl refl

  pub otherwise_rule : Rule (otherwise s) (just terminals.Else) BlockGoes
  unfolding otherwise
  otherwise_rule = map_rule (then_maybe BlockGoes (terminal_rule terminals.Else) block_maybe refl refl refl)

  pub otherwise_maybe : Maybe (optional (otherwise s)) (just terminals.Else) ElseGoes
  otherwise_maybe = maybe ElseGoes otherwise_rule refl refl

  -- What follows an opening

  pub closed_parens : Rule (next (cond_form s) (λ _. terminal terminals.ParenClose)) (ExprStarts b) none
  closed_parens = then_rule cond_rule (terminal_rule terminals.ParenClose) refl

  pub items_maybe : Maybe (optional (items s)) (ExprStarts b) (also (ExprStarts true) ArgsGoes)
  items_maybe = maybe (also (ExprStarts true) ArgsGoes) items_rule (by_room (λ b. includes (ExprStarts b) (also (ExprStarts true) ArgsGoes) ≡ true) refl refl b) refl

  pub args_maybe : Maybe (optional (args s)) (ArgStarts b) (also (ArgStarts true) ArgsGoes)
  args_maybe = maybe (also (ArgStarts true) ArgsGoes) args_rule (by_room (λ b. includes (ArgStarts b) (also (ArgStarts true) ArgsGoes) ≡ true) refl refl b) refl

  pub closed_list : Rule (next (optional (items s)) (λ _. terminal terminals.ListClose)) (also (just terminals.ListClose) (ExprStarts b)) none
  closed_list = maybe_then (also (just terminals.ListClose) (ExprStarts b)) items_maybe (terminal_rule terminals.ListClose) refl
      (by_room (λ b. includes (ExprStarts b) (also (just terminals.ListClose) (ExprStarts b)) ≡ true) refl refl b)
      (by_room (λ b. includes (just terminals.ListClose) (also (just terminals.ListClose) (ExprStarts b)) ≡ true) refl refl b)

  pub closed_args : Rule (next (optional (args s)) (λ _. terminal terminals.ParenClose)) (also (just terminals.ParenClose) (ArgStarts b)) none
  closed_args = maybe_then (also (just terminals.ParenClose) (ArgStarts b)) args_maybe (terminal_rule terminals.ParenClose) refl
      (by_room (λ b. includes (ArgStarts b) (also (just terminals.ParenClose) (ArgStarts b)) ≡ true) refl refl b)
      (by_room (λ b. includes (just terminals.ParenClose) (also (just terminals.ParenClose) (ArgStarts b)) ≡ true) refl refl b)

  pub closed_index : Rule (next (expr s) (λ _. terminal terminals.ListClose)) (ExprStarts b) none
  closed_index = then_rule expr_rule (terminal_rule terminals.ListClose) refl

  pub closed_block : (w : Terminal) → disjoint BlockGoes (just w) ≡ true → Rule (next (block s) (λ _. terminal w)) (also (just w) (BlockStarts b)) none
  closed_block w d = maybe_then (also (just w) (BlockStarts b)) block_maybe (terminal_rule w) d (second (just w) (BlockStarts b)) (first (just w) (BlockStarts b))

  pub newline_block : Rule (next (terminal terminals.Newline) (λ _. next (block s) (λ _. terminal terminals.End))) (just terminals.Newline) none
  newline_block = then_rule (terminal_rule terminals.Newline) (closed_block terminals.End refl) refl

  pub braces_rest : Rule (next (optional params) (λ _. next (block s) (λ _. terminal terminals.BraceClose)))
      (also (just terminals.Bar) (also (just terminals.BraceClose) (BlockStarts b))) none
  braces_rest = maybe_then (also (just terminals.Bar) (also (just terminals.BraceClose) (BlockStarts b))) params_maybe (closed_block terminals.BraceClose refl)
      (by_room (λ b. disjoint (just terminals.Bar) (also (just terminals.BraceClose) (BlockStarts b)) ≡ true) refl refl b)
      (first (just terminals.Bar) (also (just terminals.BraceClose) (BlockStarts b))) (second (just terminals.Bar) (also (just terminals.BraceClose) (BlockStarts b)))

  pub doblock_rest : Rule (next (optional params) (λ _. next (terminal terminals.Newline) (λ _. next (block s) (λ _. terminal terminals.End))))
      (also (just terminals.Bar) (just terminals.Newline)) none
  doblock_rest = maybe_then (also (just terminals.Bar) (just terminals.Newline)) params_maybe newline_block refl refl refl

  pub iff_end : Rule (next (optional (otherwise s)) (λ _. terminal terminals.End)) (also (just terminals.Else) (just terminals.End)) none
  iff_end = maybe_then (also (just terminals.Else) (just terminals.End)) otherwise_maybe (terminal_rule terminals.End) refl refl refl

  pub iff_arms : Rule (next (many (elsif s)) (λ _. next (optional (otherwise s)) (λ _. terminal terminals.End))) ArmsStart none
  iff_arms = maybe_then ArmsStart elsifs_maybe iff_end refl refl refl

  pub iff_block : Rule (next (block s) (λ _. next (many (elsif s)) (λ _. next (optional (otherwise s)) (λ _. terminal terminals.End)))) (also ArmsStart (BlockStarts b)) none
  iff_block = maybe_then (also ArmsStart (BlockStarts b)) block_maybe iff_arms refl (second ArmsStart (BlockStarts b)) (first ArmsStart (BlockStarts b))

  pub iff_newline : Rule (next (terminal terminals.Newline) (λ _. next (block s) (λ _. next (many (elsif s)) (λ _. next (optional (otherwise s)) (λ _. terminal terminals.End)))))
      (just terminals.Newline) none
  iff_newline = then_rule (terminal_rule terminals.Newline) iff_block refl

  pub iff_rest : Rule (next (cond_form s) (λ _. next (terminal terminals.Newline) (λ _. next (block s) (λ _. next (many (elsif s)) (λ _.
      next (optional (otherwise s)) (λ _. terminal terminals.End)))))) (ExprStarts b) none
  iff_rest = then_rule cond_rule iff_newline refl

  pub parens_rule : Rule (parens_of s) (ParenStarts true) none
  unfolding parens_of
  parens_rule = wider (ParenStarts true) none refl refl (map_rule (then_rule (among_rule is_paren_open) closed_parens refl))

  pub list_rule : Rule (list_of s) (ListStarts true) none
  unfolding list_of
  list_rule = wider (ListStarts true) none refl refl (map_rule (then_rule (among_rule is_list_open) closed_list refl))

  pub call_rule : Rule (call_of_args s) (CallStarts true) none
  unfolding call_of_args
  call_rule = wider (CallStarts true) none refl refl (map_rule (then_rule (terminal_rule terminals.CallOpen) closed_args refl))

  pub index_rule : Rule (index_of s) (IndexStarts true) none
  unfolding index_of
  index_rule = wider (IndexStarts true) none refl refl (map_rule (then_rule (terminal_rule terminals.IndexOpen) closed_index refl))

  pub braces_rule : Rule (braces_of s) (BraceStarts true) none
  unfolding braces_of
  braces_rule = wider (BraceStarts true) none refl refl (map_rule (then_rule (terminal_rule terminals.BraceOpen) braces_rest refl))

  pub doblock_rule : Rule (doblock_of s) (DoStarts true) none
  unfolding doblock_of
  doblock_rule = wider (DoStarts true) none refl refl (map_rule (then_rule (terminal_rule terminals.Do) doblock_rest refl))

  pub iff_rule : Rule (iff_of s) (IffStarts true) none
  unfolding iff_of
  iff_rule = wider (IffStarts true) none refl refl (map_rule (then_rule (among_rule is_condition) iff_rest refl))

-- whether something more may be opened
abbrev pub has_room : ℕ → Bool
has_room n = nat_lt 0 n

some_room : (n : ℕ) → has_room (suc n) ≡ true
some_room n = lt-ltb 0 (suc n) (omega arith)

pub brackets : (n : ℕ) → Brackets (opened n) (has_room n)
unfolding opened
brackets zero = record {
  parens = nothing_rule (ParenStarts false);
  list = nothing_rule (ListStarts false);
  call = nothing_rule (CallStarts false);
  index = nothing_rule (IndexStarts false);
  braces = nothing_rule (BraceStarts false);
  doblock = nothing_rule (DoStarts false);
  iff = nothing_rule (IffStarts false);
}
brackets (suc n) = subst (λ b. Brackets (opened (suc n)) b) (sym (some_room n)) (record {
  parens = parens_rule (opened n) (has_room n) (brackets n);
  list = list_rule (opened n) (has_room n) (brackets n);
  call = call_rule (opened n) (has_room n) (brackets n);
  index = index_rule (opened n) (has_room n) (brackets n);
  braces = braces_rule (opened n) (has_room n) (brackets n);
  doblock = doblock_rule (opened n) (has_room n) (brackets n);
  iff = iff_rule (opened n) (has_room n) (brackets n);
})
