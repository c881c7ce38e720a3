-- The tree that tokens are read as is well formed where their bytes have the forms of their kinds, and those of a lexed text have.
use Rattle.std.proofs.Common.{◌≡◌, ℕ, zero, suc, ◌+◌, Bool, true, false, cond, List, [], ◌∷◌, ◌++◌, Some, refl, sym, ap, ◌∙◌, subst, arith}
use Rattle.std.specs.Prelude.{slice_get}
use Rattle.std.specs.List.{All}
use Rattle.std.proofs.lemmas.List.Elements.{All-nil, All-cons}
use Rattle.vt_lex.specs.declared.token.Token.{Token}
use Rattle.vt_lex.specs.Forms.{HasForm}
use Rattle.vt_lex.specs.Lexing.{Lexes}
use Rattle.vt_lex.proofs.Shapes.{tokens_have_forms}
use Rattle.vt_tree.specs.declared.statement.Block.{Block, out-Block}
use Rattle.vt_frac.specs.Names.{IsName}
use Rattle.vt_tree.specs.Parts.{Part as TreePart, called, opened as part_opened, blocks_of, in_stmt, in_text, whole_block, children}
use Rattle.vt_tree.specs.WellFormed.{IsFormedStmt, IsWellFormed}
use Rattle.vt_grammar.specs.Formed.{IsFormed, AreFormed}
use Rattle.vt_grammar.specs.Grammar.{block}
use Rattle.vt_grammar.specs.Marks.{Spelled, begins_block, mark_of, marked, number_with, terminal_of}
use Rattle.vt_grammar.specs.Tokens.{spelled, spelled_in}
use Rattle.vt_grammar.specs.Text.{text, Reads}
use Rattle.vt_grammar.proofs.FormedMarks.{marks_good}
use Rattle.vt_grammar.proofs.FactRules.{statements_told}
use Rattle.vt_grammar.proofs.FormedFacts.{numbers_begun, begun, formed_facts}
use Rattle.vt_grammar.proofs.FormedTrees.{IsWhole, block_is, each_is, numbers}
use Rattle.vt_grammar.proofs.Tells.{Tells, map_tells}

-- The numbers go up one by one from this one.
abbrev CountFrom : ℕ → List ℕ → Type 0
CountFrom n [] = Unit {0}
CountFrom n (m ∷ ms) = (m ≡ n) × CountFrom (suc n) ms

-- the blocks that marked tokens begin are counted
counted : (n : ℕ) (ss : List Spelled) → CountFrom (suc n) (begun (marked n ss))
unfolding mark_of number_with
counted n [] = tt
counted n (s ∷ ss) = go (begins_block (terminal_of s)) (λ m. counted m ss)
  where
    go : (b : Bool) → ((m : ℕ) → CountFrom (suc m) (begun (marked m ss)))
        → CountFrom (suc n) (cond b (cond b (suc n) n ∷ []) [] ++ begun (marked (cond b (suc n) n) ss))
    go true rest = (refl, rest (suc n))
    go false rest = rest n

numbers_are : (parts : List TreePart) (n k : ℕ) (b : Block) → CountFrom n (numbers parts) → slice_get (blocks_of parts) k ≡ Some b → (out-Block b).number ≡ n + k
numbers_are [] n k b h e = absurd (cc)
numbers_are (called site ∷ parts) n k b h e = numbers_are parts n k b h e
numbers_are (part_opened block ∷ parts) n zero b h e =
    let same : block ≡ b = cc in
    let here : (out-Block b).number ≡ n = ap (λ (z : Block). (out-Block z).number) (sym same) ∙ h.0 in
    omega (arith, here)
numbers_are (part_opened block ∷ parts) n (suc k) b h e =
    let later : (out-Block b).number ≡ suc n + k = numbers_are parts (suc n) k b h.1 e in
    omega (arith, later)

text_tells : Tells numbers_begun text (λ tree ns. IsWhole tree (0 ∷ ns))
unfolding text formed_facts
text_tells = map_tells (statements_told formed_facts 64) (λ stmts ns h. block_is 0 [] stmts ns (All-nil IsName) (each_is IsFormedStmt in_stmt stmts ns h))

pub formed_where_read : (tokens : List Spelled) (tree : Block) → AreFormed tokens → Reads tokens tree → IsWellFormed tree
unfolding Reads
formed_where_read tokens tree formed read =
    let is : IsWhole tree (0 ∷ begun (marked 0 tokens)) = text_tells.told (marked 0 tokens) tree read (marks_good 0 tokens formed) in
    record {
      numbered = λ k b e.
          let at : (out-Block b).number ≡ 0 + k = numbers_are (whole_block children tree in_text) 0 k b (subst (CountFrom 0) (sym (is.numbered in_text)) (refl, counted 0 tokens)) e in
          omega (arith, at);
      formed = is.formed;
    }

spelled_formed : (bytes : List ℕ) (ts : List Token) → All (HasForm bytes) ts → AreFormed (spelled bytes ts)
unfolding spelled_in
spelled_formed bytes [] h = All-nil IsFormed
spelled_formed bytes (t ∷ ts) h =
    All-cons IsFormed (spelled_in bytes t) (spelled bytes ts) (h 0 t (omega arith)).form (spelled_formed bytes ts (λ k d below. h (suc k) d (omega (arith, below))))

pub formed_where_lexed : (bytes : List ℕ) (first_line : ℕ) (ts : List Token) → Lexes bytes first_line ts → AreFormed (spelled bytes ts)
formed_where_lexed bytes first_line ts h = spelled_formed bytes ts (tokens_have_forms bytes first_line ts h)
