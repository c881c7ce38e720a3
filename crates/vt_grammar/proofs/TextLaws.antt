-- The laws of texts.
use Rattle.std.proofs.Common.{◌≡◌, inl, inr, ℕ, List, [], ◌∷◌, ◌++◌, refl, sym, ap, ◌∙◌, subst, append_assoc}
use Rattle.vt_tree.specs.declared.statement.Block.{Block}
use Rattle.vt_grammar.specs.Grammar.{opened}
use Rattle.vt_grammar.specs.Marks.{Spelled, marked, mark_of, number_with}
use Rattle.vt_grammar.specs.Text.{text, Reads, Begins, SyntaxRefuses}
use Rattle.vt_grammar.proofs.Sequences.{Lawful}
use Rattle.vt_grammar.proofs.Builders.{map_lawful}
use Rattle.vt_grammar.proofs.TerminalSets.{In}
use Rattle.vt_grammar.specs.private.Sets.{BlockStarts, BlockGoes}
use Rattle.vt_grammar.proofs.Rules.{has_room, brackets, block_maybe}

pub text_lawful : Lawful text (In (BlockStarts (has_room 64))) (In BlockGoes)
unfolding text
text_lawful = map_lawful (block_maybe (opened 64) (has_room 64) (brackets 64))

-- how many blocks have begun after these tokens
abbrev pub number_after_all : ℕ → List Spelled → ℕ
number_after_all n [] = n
number_after_all n (s ∷ ss) = number_after_all (number_with n s) ss

-- the marks of a list are those of its prefix and of its rest
pub marked_append : (n : ℕ) (x y : List Spelled) → marked n (x ++ y) ≡ marked n x ++ marked (number_after_all n x) y
marked_append n [] y = refl
marked_append n (s ∷ x) y = ap (λ ms. mark_of n s ∷ ms) (marked_append (number_with n s) x y)

pub prefixes_begin : (x y : List Spelled) → Begins (x ++ y) → Begins x
unfolding Begins
prefixes_begin x y b = text_lawful.opens.prefix (marked 0 x) (marked (number_after_all 0 x) y) (subst text.begins (marked_append 0 x y) b)

pub read_begins : (x : List Spelled) (v : Block) → Reads x v → Begins x
unfolding Begins Reads
read_begins x v h = text_lawful.opens.whole (marked 0 x) v h

pub is_read_once : (x : List Spelled) (v w : Block) → Reads x v → Reads x w → v ≡ w
unfolding Reads
is_read_once x v w h g = text_lawful.single (marked 0 x) v w h g

pub read_or_refused : (x : List Spelled) (v : Block) (line : ℕ) → Reads x v → SyntaxRefuses x line → ⊥
read_or_refused x v line h (inr e) = e.unread v h
read_or_refused x v line h (inl a) =
    a.stops (prefixes_begin (a.prefix ++ a.token ∷ []) a.rest
    (subst Begins (a.whole ∙ sym (append_assoc a.prefix (a.token ∷ []) a.rest)) (read_begins x v h)))
