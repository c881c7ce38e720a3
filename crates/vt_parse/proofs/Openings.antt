-- The forms that begin with an opening, where some may be opened and where none may.
use Rattle.std.proofs.Common.{◌≡◌, ℕ, zero, suc, List, sym, subst}
use Rattle.vt_tree.specs.declared.expression.Expr.{Expr}
use Rattle.vt_tree.specs.declared.statement.Block.{Block}
use Rattle.vt_tree.specs.declared.statement.Simple.{Simple}
use Rattle.vt_grammar.specs.declared.parts.Arguments.{Arguments}
use Rattle.vt_grammar.specs.private.Parsing.{Read, Stuck}
use Rattle.vt_grammar.specs.Marks.{Mark}
use Rattle.vt_grammar.specs.Grammar.{parens_of, list_of, call_of_args, index_of, braces_of, doblock_of, iff_of, opened}
use Rattle.vt_grammar.proofs.Choices.{nothing_stuck}

pub parens_none : (n : ℕ) (o : List Mark) → n ≡ 0 → Stuck (opened n).parens o o
unfolding opened
parens_none zero o e = nothing_stuck o
parens_none (suc n) o e = absurd (cc)

pub parens_ok : (n m : ℕ) → n ≡ suc m → {o k : List Mark} {v : Expr} → Read (parens_of (opened m)) o k v → Read (opened n).parens o k v
unfolding opened
parens_ok n m e {o = o} {k = k} {v = v} h = subst (λ z. Read (opened z).parens o k v) (sym e) h

pub parens_err : (n m : ℕ) → n ≡ suc m → {o k : List Mark} → Stuck (parens_of (opened m)) o k → Stuck (opened n).parens o k
unfolding opened
parens_err n m e {o = o} {k = k} h = subst (λ z. Stuck (opened z).parens o k) (sym e) h

pub list_none : (n : ℕ) (o : List Mark) → n ≡ 0 → Stuck (opened n).list o o
unfolding opened
list_none zero o e = nothing_stuck o
list_none (suc n) o e = absurd (cc)

pub list_ok : (n m : ℕ) → n ≡ suc m → {o k : List Mark} {v : Expr} → Read (list_of (opened m)) o k v → Read (opened n).list o k v
unfolding opened
list_ok n m e {o = o} {k = k} {v = v} h = subst (λ z. Read (opened z).list o k v) (sym e) h

pub list_err : (n m : ℕ) → n ≡ suc m → {o k : List Mark} → Stuck (list_of (opened m)) o k → Stuck (opened n).list o k
unfolding opened
list_err n m e {o = o} {k = k} h = subst (λ z. Stuck (opened z).list o k) (sym e) h

pub call_none : (n : ℕ) (o : List Mark) → n ≡ 0 → Stuck (opened n).call o o
unfolding opened
call_none zero o e = nothing_stuck o
call_none (suc n) o e = absurd (cc)

pub call_ok : (n m : ℕ) → n ≡ suc m → {o k : List Mark} {v : Arguments} → Read (call_of_args (opened m)) o k v → Read (opened n).call o k v
unfolding opened
call_ok n m e {o = o} {k = k} {v = v} h = subst (λ z. Read (opened z).call o k v) (sym e) h

pub call_err : (n m : ℕ) → n ≡ suc m → {o k : List Mark} → Stuck (call_of_args (opened m)) o k → Stuck (opened n).call o k
unfolding opened
call_err n m e {o = o} {k = k} h = subst (λ z. Stuck (opened z).call o k) (sym e) h

pub index_none : (n : ℕ) (o : List Mark) → n ≡ 0 → Stuck (opened n).index o o
unfolding opened
index_none zero o e = nothing_stuck o
index_none (suc n) o e = absurd (cc)

pub index_ok : (n m : ℕ) → n ≡ suc m → {o k : List Mark} {v : Expr} → Read (index_of (opened m)) o k v → Read (opened n).index o k v
unfolding opened
index_ok n m e {o = o} {k = k} {v = v} h = subst (λ z. Read (opened z).index o k v) (sym e) h

pub index_err : (n m : ℕ) → n ≡ suc m → {o k : List Mark} → Stuck (index_of (opened m)) o k → Stuck (opened n).index o k
unfolding opened
index_err n m e {o = o} {k = k} h = subst (λ z. Stuck (opened z).index o k) (sym e) h

pub braces_none : (n : ℕ) (o : List Mark) → n ≡ 0 → Stuck (opened n).braces o o
unfolding opened
braces_none zero o e = nothing_stuck o
braces_none (suc n) o e = absurd (cc)

pub braces_ok : (n m : ℕ) → n ≡ suc m → {o k : List Mark} {v : Block} → Read (braces_of (opened m)) o k v → Read (opened n).braces o k v
unfolding opened
braces_ok n m e {o = o} {k = k} {v = v} h = subst (λ z. Read (opened z).braces o k v) (sym e) h

pub braces_err : (n m : ℕ) → n ≡ suc m → {o k : List Mark} → Stuck (braces_of (opened m)) o k → Stuck (opened n).braces o k
unfolding opened
braces_err n m e {o = o} {k = k} h = subst (λ z. Stuck (opened z).braces o k) (sym e) h

pub doblock_none : (n : ℕ) (o : List Mark) → n ≡ 0 → Stuck (opened n).doblock o o
unfolding opened
doblock_none zero o e = nothing_stuck o
doblock_none (suc n) o e = absurd (cc)

pub doblock_ok : (n m : ℕ) → n ≡ suc m → {o k : List Mark} {v : Block} → Read (doblock_of (opened m)) o k v → Read (opened n).doblock o k v
unfolding opened
doblock_ok n m e {o = o} {k = k} {v = v} h = subst (λ z. Read (opened z).doblock o k v) (sym e) h

pub doblock_err : (n m : ℕ) → n ≡ suc m → {o k : List Mark} → Stuck (doblock_of (opened m)) o k → Stuck (opened n).doblock o k
unfolding opened
doblock_err n m e {o = o} {k = k} h = subst (λ z. Stuck (opened z).doblock o k) (sym e) h

pub iff_none : (n : ℕ) (o : List Mark) → n ≡ 0 → Stuck (opened n).iff o o
unfolding opened
iff_none zero o e = nothing_stuck o
iff_none (suc n) o e = absurd (cc)

pub iff_ok : (n m : ℕ) → n ≡ suc m → {o k : List Mark} {v : Simple} → Read (iff_of (opened m)) o k v → Read (opened n).iff o k v
unfolding opened
iff_ok n m e {o = o} {k = k} {v = v} h = subst (λ z. Read (opened z).iff o k v) (sym e) h

pub iff_err : (n m : ℕ) → n ≡ suc m → {o k : List Mark} → Stuck (iff_of (opened m)) o k → Stuck (opened n).iff o k
unfolding opened
iff_err n m e {o = o} {k = k} h = subst (λ z. Stuck (opened z).iff o k) (sym e) h
