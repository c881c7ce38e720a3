-- No more pairs of parentheses stand round an expression than may be opened.
use Rattle.std.proofs.Common.{◌≡◌, ◌≤◌, inl, inr, ℕ, zero, suc, Bool, true, false, cond, List, [], ◌∷◌, Option, Some, None, refl, sym, subst, arith}
use Rattle.vt_tree.specs.declared.expression.ChainKind.{ChainKind}
use Rattle.vt_tree.specs.declared.expression.Expr.{Expr, out-Expr}
use Rattle.vt_tree.specs.declared.expression.Link.{Link}
use Rattle.vt_grammar.specs.declared.parts.Arguments.{Arguments}
use Rattle.vt_grammar.specs.declared.parts.Part.{Part}
use Rattle.vt_grammar.specs.declared.parts.Part.TheVariants as parts
use Rattle.vt_grammar.specs.declared.terminals.Terminal.{Terminal}
use Rattle.vt_grammar.specs.Form.{Form, either}
use Rattle.vt_grammar.specs.Marks.{Mark}
use Rattle.vt_grammar.specs.Trees.{named_tree, is_bare_get, with_part, with_parts, chain_tree, comparison}
use Rattle.vt_grammar.specs.Grammar.{Opened, literal, named, primary, postfix, signed, unary, chain, term, sum, comp, conj, disj, negated, negation, expr, command, cond_form, parens_of, list_of, opened}

-- each value of the form has at most n pairs round it
pub record Within (a : Form Mark Expr) (n : ℕ) : Type 0 where
  pub within : (x : List Mark) (v : Expr) → a.reads x v → (out-Expr v).wraps ≤ n

wraps : Expr → ℕ
wraps e = (out-Expr e).wraps

none_round : (a : Form Mark Expr) (n : ℕ) → ((x : List Mark) (v : Expr) → a.reads x v → (out-Expr v).wraps ≡ 0) → Within a n
none_round a n h = record { within = λ x v r. subst (λ z. z ≤ n) (sym (h x v r)) (omega arith) }

either_within : {a b : Form Mark Expr} {n : ℕ} → Within a n → Within b n → Within (either a b) n
either_within p q = record { within = λ x v h. elim h [ inl r ↦ p.within x v r | inr r ↦ q.within x v r ] }

either_round : (b : Bool) (v w : Expr) → (out-Expr v).wraps ≡ 0 → (out-Expr w).wraps ≡ 0 → (out-Expr (cond b v w)).wraps ≡ 0
either_round true v w p q = p
either_round false v w p q = q

part_round : (e : Expr) (p : Part) → (out-Expr (with_part e p)).wraps ≡ 0
unfolding with_part
part_round e (parts.Dot call) = refl
part_round e (parts.Index at) = either_round (is_bare_get e) _ _ refl refl

parts_round : (n : ℕ) (e : Expr) (ps : List Part) → (out-Expr e).wraps ≤ n → (out-Expr (with_parts e ps)).wraps ≤ n
parts_round n e [] h = h
parts_round n e (p ∷ ps) h = parts_round n (with_part e p) ps (subst (λ z. z ≤ n) (sym (part_round e p)) (omega arith))

chain_round : (n : ℕ) (kind : ChainKind) (e : Expr) (ls : List Link) → (out-Expr e).wraps ≤ n → (out-Expr (chain_tree kind e ls)).wraps ≤ n
chain_round n kind e [] h = h
chain_round n kind e (l ∷ ls) h = omega arith

comparison_round : (n : ℕ) (e : Expr) (l : Option Link) → (out-Expr e).wraps ≤ n → (out-Expr (comparison e l)).wraps ≤ n
comparison_round n e None h = h
comparison_round n e (Some l) h = omega arith

named_round : (name : List ℕ) (given : Option Arguments) → (out-Expr (named_tree name given)).wraps ≡ 0
named_round name None = refl
named_round name (Some given) = refl

is_within : (n : ℕ) (v w : Expr) → v ≡ w → (out-Expr w).wraps ≤ n → (out-Expr v).wraps ≤ n
is_within n v w e h = subst (λ (z : Expr). (out-Expr z).wraps ≤ n) (sym e) h

chain_within : (n : ℕ) (kind : ChainKind) (ops : Terminal → Bool) {a : Form Mark Expr} → Within a n → Within (chain kind ops a) n
unfolding chain
chain_within n kind ops p = record { within = λ x v h. is_within n v _ h.2 (chain_round n kind h.0.0 h.0.1 (p.within h.1.prefix h.0.0 h.1.first)) }

module _ (s : Opened) (n : ℕ) (parens : Within s.parens n) (list : Within s.list n) where
  primary_within : Within (primary s) n
  unfolding primary literal named
  primary_within = either_within (none_round _ n (λ x v h. subst (λ (z : Expr). (out-Expr z).wraps ≡ 0) (sym h.2) refl))
      (either_within (none_round _ n (λ x v h. subst (λ (z : Expr). (out-Expr z).wraps ≡ 0) (sym h.2) (named_round h.0.0.bytes h.0.1))) (either_within parens list))

  postfix_within : Within (postfix s) n
  unfolding postfix
  postfix_within = record { within = λ x v h. is_within n v _ h.2 (parts_round n h.0.0 h.0.1 (primary_within.within h.1.prefix h.0.0 h.1.first)) }

  unary_within : Within (unary s) n
  unfolding unary signed
  unary_within = either_within (none_round _ n (λ x v h. subst (λ (z : Expr). (out-Expr z).wraps ≡ 0) (sym h.2) refl)) postfix_within

  comp_within : Within (comp s) n
  unfolding comp sum term
  comp_within = record {
    within = λ x v h. is_within n v _ h.2 (comparison_round n h.0.0 h.0.1
        ((chain_within n _ _ (chain_within n _ _ unary_within)).within h.1.prefix h.0.0 h.1.first));
  }

  expr_within : Within (expr s) n
  unfolding expr negation negated disj conj
  expr_within = chain_within n _ _ (either_within (none_round _ n (λ x v h. subst (λ (z : Expr). (out-Expr z).wraps ≡ 0) (sym h.2) refl))
      (chain_within n _ _ (chain_within n _ _ comp_within)))

  cond_within : Within (cond_form s) n
  unfolding cond_form command
  cond_within = either_within (none_round _ n (λ x v h. subst (λ (z : Expr). (out-Expr z).wraps ≡ 0) (sym h.2) refl))
      (record { within = λ x v h. expr_within.within x v h.1 })

both_within : (n : ℕ) → Within (opened n).parens n × Within (opened n).list n
unfolding opened parens_of list_of
both_within zero = (record { within = λ x v h. absurd h }, record { within = λ x v h. absurd h })
both_within (suc n) = (
  record {
    within = λ x v h. is_within (suc n) v _ h.2
        (let inner = (cond_within (opened n) n (both_within n).0 (both_within n).1).within h.1.second.prefix h.0.1.0 h.1.second.first in omega (arith, inner));
  },
  none_round _ (suc n) (λ x v h. subst (λ (z : Expr). (out-Expr z).wraps ≡ 0) (sym h.2) refl),
)

pub wraps_within : (n : ℕ) (x : List Mark) (v : Expr) → (cond_form (opened n)).reads x v → (out-Expr v).wraps ≤ n
wraps_within n = (cond_within (opened n) n (both_within n).0 (both_within n).1).within
