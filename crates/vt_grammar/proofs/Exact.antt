-- A token with which a rule begins begins it.
use Rattle.std.proofs.Common.{◌≡◌, inl, inr, ℕ, zero, suc, Bool, true, false, ◌&&◌, ◌||◌, List, [], ◌∷◌, refl, sym, subst}
use Rattle.vt_tree.specs.declared.expression.ChainKind.{ChainKind}
use Rattle.vt_tree.specs.declared.expression.Expr.{Expr}
use Rattle.vt_grammar.specs.declared.terminals.Terminal.{Terminal}
use Rattle.vt_grammar.specs.declared.terminals.Terminal.TheVariants as terminals
use Rattle.vt_grammar.specs.Form.{Form, nothing, next, either, mapped, with_its}
use Rattle.vt_grammar.specs.Marks.{Mark}
use Rattle.vt_grammar.specs.Grammar.{Opened, terminal, among, is_literal, is_paren_open, is_list_open, is_sign, is_condition, literal, named, primary, dot, part, postfix, signed, unary, link, chain, term, sum, comp, conj, disj, negated, negation, expr, labelled_arg, plain_arg, arg, next_arg, args, next_item, items, cond_form, rhs, simple, modifier, stmt, line, next_param, params, elsif, otherwise, parens_of, list_of, call_of_args, index_of, braces_of, doblock_of, iff_of, opened}
use Rattle.vt_grammar.specs.private.Sets.{just, also, with_room, ParenStarts, ListStarts, CallStarts, IndexStarts, BraceStarts, DoStarts, IffStarts, GroupStarts, NameStarts, PrimaryStarts, PartStarts, UnaryStarts, ExprStarts, ArgStarts, StmtStarts}
use Rattle.vt_grammar.proofs.TerminalSets.{includes, sub, by_room, just_is}
use Rattle.vt_grammar.proofs.Rules.{has_room}

-- A token with which the form begins begins it.
pub record Exact {V : Type 0} (a : Form Mark V) (F : Terminal → Bool) : Type 0 where
  pub exact : (t : Mark) → F t.terminal ≡ true → a.begins (t ∷ [])

exact_among : {F : Terminal → Bool} → Exact (among F) F
exact_among = record { exact = λ t h. inr h }

exact_terminal : (w : Terminal) → Exact (terminal w) (just w)
exact_terminal w = record { exact = λ t h. inr (sym (just_is w t.terminal h)) }

exact_next : {A B : Type 0} {a : Form Mark A} (k : A → Form Mark B) {F : Terminal → Bool} → Exact a F → Exact (next a k) F
exact_next k x = record { exact = λ t h. inl (x.exact t h) }

exact_map : {A B : Type 0} {f : A → B} {a : Form Mark A} {F : Terminal → Bool} → Exact a F → Exact (mapped f a) F
exact_map x = record { exact = x.exact }

exact_its : {N V : Type 0} {f : List Mark → N} {a : Form Mark V} {F : Terminal → Bool} → Exact a F → Exact (with_its f a) F
exact_its x = record { exact = x.exact }

exact_or : {V : Type 0} {a b : Form Mark V} {FA FB : Terminal → Bool} (F : Terminal → Bool) → Exact a FA → Exact b FB → includes F (also FA FB) ≡ true → Exact (either a b) F
exact_or {a = a} {b = b} {FA = FA} {FB = FB} F x y i = record { exact = λ t h. go t (FA t.terminal) refl (sub {F = F} {G = also FA FB} i t (record { is = h })).is }
  where
    go : (t : Mark) (p : Bool) → FA t.terminal ≡ p → FA t.terminal || FB t.terminal ≡ true → (either a b).begins (t ∷ [])
    go t true e h = inl (x.exact t e)
    go t false e h = inr (y.exact t (subst (λ z. z || FB t.terminal ≡ true) e h))

exact_right : {V : Type 0} {a b : Form Mark V} {F : Terminal → Bool} → Exact b F → Exact (either a b) F
exact_right y = record { exact = λ t h. inr (y.exact t h) }

left_of : (a b : Bool) → a && b ≡ true → a ≡ true
left_of true b e = refl
left_of false b e = absurd (cc)

exact_room : {V : Type 0} {a : Form Mark V} {F : Terminal → Bool} (b : Bool) → Exact a F → Exact a (with_room b F)
exact_room {F = F} b x = record { exact = λ t h. x.exact t (left_of (F t.terminal) b h) }

exact_never : {V : Type 0} (F : Terminal → Bool) → Exact {V = V} nothing (with_room false F)
exact_never F = record { exact = λ t h. absurd (go (F t.terminal) h) }
  where
    go : (a : Bool) → a && false ≡ true → ⊥
    go true e = cc
    go false e = cc

-- the same of the forms that begin with an opening
pub record Exacts (s : Opened) (b : Bool) : Type 0 where
  pub parens : Exact s.parens (ParenStarts b)
  pub list : Exact s.list (ListStarts b)
  pub call : Exact s.call (CallStarts b)
  pub index : Exact s.index (IndexStarts b)
  pub braces : Exact s.braces (BraceStarts b)
  pub doblock : Exact s.doblock (DoStarts b)
  pub iff : Exact s.iff (IffStarts b)

pub link_exact : (ops : Terminal → Bool) (a : Form Mark Expr) → Exact (link ops a) ops
unfolding link
link_exact ops a = exact_map (exact_next _ exact_among)

chain_exact : (kind : ChainKind) (ops : Terminal → Bool) {a : Form Mark Expr} {F : Terminal → Bool} → Exact a F → Exact (chain kind ops a) F
unfolding chain
chain_exact kind ops x = exact_map (exact_next _ x)

pub params_exact : Exact params (just terminals.Bar)
unfolding params
params_exact = exact_map (exact_next _ (exact_terminal terminals.Bar))

pub next_param_exact : Exact next_param (just terminals.Comma)
unfolding next_param
next_param_exact = exact_map (exact_next _ (exact_terminal terminals.Comma))

module _ (s : Opened) (b : Bool) (xs : Exacts s b) where
  primary_exact : Exact (primary s) (PrimaryStarts b)
  unfolding primary literal named
  primary_exact =
      exact_or (PrimaryStarts b) (exact_map exact_among)
      (exact_or (NameStarts b) (exact_map (exact_next _ (exact_terminal terminals.Name)))
      (exact_or (GroupStarts b) xs.parens xs.list (by_room (λ b. includes (GroupStarts b) (also (ParenStarts b) (ListStarts b)) ≡ true) refl refl b))
      (by_room (λ b. includes (NameStarts b) (also (just terminals.Name) (GroupStarts b)) ≡ true) refl refl b))
      (by_room (λ b. includes (PrimaryStarts b) (also is_literal (NameStarts b)) ≡ true) refl refl b)

  pub part_exact : (n : ℕ) (fresh : Bool) → Exact (part s (suc n, fresh)) (PartStarts b)
  unfolding part dot
  part_exact n fresh = exact_or (PartStarts b) (exact_map xs.index) (exact_map (exact_map (exact_next _ (exact_terminal terminals.Dot))))
      (by_room (λ b. includes (PartStarts b) (also (IndexStarts b) (just terminals.Dot)) ≡ true) refl refl b)

  unary_exact : Exact (unary s) (UnaryStarts b)
  unfolding unary signed postfix
  unary_exact = exact_or (UnaryStarts b) (exact_map (exact_next _ exact_among)) (exact_map (exact_next _ primary_exact))
      (by_room (λ b. includes (UnaryStarts b) (also is_sign (PrimaryStarts b)) ≡ true) refl refl b)

  comp_exact : Exact (comp s) (UnaryStarts b)
  unfolding comp sum term
  comp_exact = exact_map (exact_next _ (chain_exact _ _ (chain_exact _ _ unary_exact)))

  pub expr_exact : Exact (expr s) (ExprStarts b)
  unfolding expr negation negated disj conj
  expr_exact = chain_exact _ _ (exact_or (ExprStarts b) (exact_map (exact_next _ (exact_terminal terminals.Not))) (chain_exact _ _ (chain_exact _ _ comp_exact))
      (by_room (λ b. includes (ExprStarts b) (also (just terminals.Not) (UnaryStarts b)) ≡ true) refl refl b))

  pub args_exact : Exact (args s) (ArgStarts b)
  unfolding args arg labelled_arg plain_arg
  args_exact = exact_map (exact_next _ (exact_or (ArgStarts b) (exact_map (exact_next _ (exact_terminal terminals.Label))) (exact_map expr_exact)
      (by_room (λ b. includes (ArgStarts b) (also (just terminals.Label) (ExprStarts b)) ≡ true) refl refl b)))

  pub next_arg_exact : (labels : Bool) → Exact (next_arg s labels) (just terminals.Comma)
  unfolding next_arg
  next_arg_exact labels = exact_map (exact_next _ (exact_terminal terminals.Comma))

  pub next_item_exact : Exact (next_item s) (just terminals.Comma)
  unfolding next_item
  next_item_exact = exact_map (exact_next _ (exact_terminal terminals.Comma))

  pub items_exact : Exact (items s) (ExprStarts b)
  unfolding items
  items_exact = exact_map (exact_next _ expr_exact)

  pub modifier_exact : Exact (modifier s) is_condition
  unfolding modifier
  modifier_exact = exact_map (exact_next _ exact_among)

  rhs_exact : Exact (rhs s) (ExprStarts b)
  unfolding rhs cond_form
  rhs_exact = exact_map (exact_next _ (exact_right (record { exact = λ t h. (tt, expr_exact.exact t h) })))

  pub stmt_exact : Exact (stmt s) (StmtStarts b)
  unfolding stmt simple
  stmt_exact = exact_map (exact_its (exact_map (exact_next _ (exact_or (StmtStarts b) xs.iff (exact_right (exact_map rhs_exact))
      (by_room (λ b. includes (StmtStarts b) (also (IffStarts b) (ExprStarts b)) ≡ true) refl refl b)))))

  pub line_exact : Exact (line s) (just terminals.Newline)
  unfolding line
  line_exact = exact_map (exact_next _ (exact_terminal terminals.Newline))

  pub elsif_exact : Exact (elsif s) (just terminals.Elsif)
  unfolding elsif
  elsif_exact = exact_map (exact_next _ (exact_terminal terminals.Elsif))

  pub otherwise_exact : Exact (otherwise s) (just terminals.Else)
  unfolding otherwise
  otherwise_exact = exact_map (exact_next _ (exact_terminal terminals.Else))

pub exacts : (n : ℕ) → Exacts (opened n) (has_room n)
unfolding opened parens_of list_of call_of_args index_of braces_of doblock_of iff_of
exacts zero = record {
  parens = exact_never is_paren_open;
  list = exact_never is_list_open;
  call = exact_never (just terminals.CallOpen);
  index = exact_never (just terminals.IndexOpen);
  braces = exact_never (just terminals.BraceOpen);
  doblock = exact_never (just terminals.Do);
  iff = exact_never is_condition;
}
exacts (suc n) = record {
  parens = exact_room (has_room (suc n)) (exact_map (exact_next _ exact_among));
  list = exact_room (has_room (suc n)) (exact_map (exact_next _ exact_among));
  call = exact_room (has_room (suc n)) (exact_map (exact_next _ (exact_terminal terminals.CallOpen)));
  index = exact_room (has_room (suc n)) (exact_map (exact_next _ (exact_terminal terminals.IndexOpen)));
  braces = exact_room (has_room (suc n)) (exact_map (exact_next _ (exact_terminal terminals.BraceOpen)));
  doblock = exact_room (has_room (suc n)) (exact_map (exact_next _ (exact_terminal terminals.Do)));
  iff = exact_room (has_room (suc n)) (exact_map (exact_next _ exact_among));
}
