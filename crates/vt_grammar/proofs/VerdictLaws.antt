-- The verdict is the one tree or line that the relations allow.
use Rattle.std.proofs.Common.{◌≡◌, ◌↔◌, inl, inr, ℕ, List, sym, ap, subst}
use Rattle.vt_tree.specs.declared.statement.Block.{Block}
use Rattle.vt_grammar.specs.Marks.{Spelled}
use Rattle.vt_grammar.specs.Text.{Reads, SyntaxRefuses}
use Rattle.vt_grammar.specs.Verdict.{Tree, Refused, IsTreeWhereRead, IsLineWhereRefused}
use Rattle.vt_grammar.proofs.Judging.{always, parsed_of}
use Rattle.vt_grammar.proofs.Once.{is_refused_once}
use Rattle.vt_grammar.proofs.TextLaws.{is_read_once, read_or_refused}

same_tree : (v w : Block) → Tree v ≡ Tree w → v ≡ w
same_tree v w e = cc

same_line : (m n : ℕ) → Refused m ≡ Refused n → m ≡ n
same_line m n e = cc

not_both : (v : Block) (line : ℕ) → Tree v ≡ Refused line → ⊥
not_both v line e = cc

pub tree_by : IsTreeWhereRead
tree_by tokens (inl (v, h)) tree = (λ e. subst (λ z. Reads tokens z) (same_tree v tree e) h, λ g. ap Tree (is_read_once tokens v tree h g))
tree_by tokens (inr (line, h)) tree = (λ e. absurd (not_both tree line (sym e)), λ g. absurd (read_or_refused tokens tree line g h))

pub line_by : IsLineWhereRefused
line_by tokens (inl (v, h)) line = (λ e. absurd (not_both v line e), λ g. absurd (read_or_refused tokens v line h g))
line_by tokens (inr (m, h)) line = (λ e. subst (λ z. SyntaxRefuses tokens z) (same_line m line e) h, λ g. ap Refused (is_refused_once tokens m line h g))

pub is_tree : (tokens : List Spelled) (tree : Block) → (parsed_of tokens ≡ Tree tree) ↔ Reads tokens tree
unfolding parsed_of
is_tree tokens tree = tree_by tokens (always tokens) tree

pub is_line : (tokens : List Spelled) (line : ℕ) → (parsed_of tokens ≡ Refused line) ↔ SyntaxRefuses tokens line
unfolding parsed_of
is_line tokens line = line_by tokens (always tokens) line
