-- Where the blocks of texts stand among those of the reach, and what is reached by them.
use Rattle.std.proofs.Common.{◌≡◌, ◌+◌, ℕ, zero, suc, arith, List, [], ◌∷◌, ◌++◌, Option, Some, None, refl, sym, ap, ◌∙◌, subst, inl, inr}
use Rattle.std.specs.Prelude.{slice_get}
use Rattle.std.specs.List.{Contains}
use Rattle.std.proofs.lemmas.List.Elements.{Contains-append_cases, Contains-append_left, Contains-append_right}
use Rattle.vt_frac.specs.Fraction.{Fraction}
use Rattle.vt_tree.specs.declared.statement.Block.{Block}
use Rattle.vt_event.specs.declared.references.BlockRef.{BlockRef}
use Rattle.vt_reach.specs.declared.found.BlockUse.{BlockUse}
use Rattle.vt_reach.specs.declared.found.Row.{Row}
use Rattle.vt_reach.specs.declared.mention.Key.{Key}
use Rattle.vt_reach.specs.declared.mention.Mention.{Mention}
use Rattle.vt_reach.specs.declared.mention.Mention.TheVariants.{Runs}
use Rattle.vt_reach.specs.Reach.{Reaches, mentioned, by_body, row, rows_from, rows_of}
use Rattle.vt_reach.specs.TreeMentions.{uses_of}
use Rattle.vt_reach.proofs.Places.{at_contains, contains_at, none_some, one_some}
use Rattle.vt_reach.proofs.TreeUses.{row_at}
use Rattle.vt_run.specs.declared.texts.Texts.{Texts}
use Rattle.vt_run.specs.declared.texts.Verdict.{Verdict}
use Rattle.vt_run.specs.Threads.{text_at, tree_in, tree_of}
use Rattle.vt_reached.specs.Fit.{IsRow, rows_after, rows_in, rows_of_texts}

-- a block that was found in one of these texts, which are numbered from here on
pub record IsOfTexts (number : ℕ) (texts : List (Fraction × Verdict)) (found : Row) : Type 0 where
  pub place : ℕ
  pub tree : Block
  pub used : BlockUse
  pub text : found.text ≡ number + place
  pub there : tree_in (slice_get texts place) ≡ Some tree
  pub has : slice_get (uses_of tree) found.block ≡ Some used
  pub whole : found ≡ row found.text found.block used

rows_where : (text k : ℕ) (us : List BlockUse) (i : ℕ) (r : Row) → slice_get (rows_from text k us) i ≡ Some r → (u : BlockUse) × (slice_get us i ≡ Some u) × (r ≡ row text (k + i) u)
rows_where text k [] i r e = absurd (none_some e)
rows_where text k (u ∷ us) zero r e = let z : k ≡ k + 0 = omega arith in (u, refl, sym (one_some e) ∙ ap (λ n. row text n u) z)
rows_where text k (u ∷ us) (suc i) r e =
    let rest = rows_where text (suc k) us i r e in
    let z : suc k + i ≡ k + suc i = omega arith in
    (rest.0, rest.1, rest.2 ∙ ap (λ n. row text n rest.0) z)

none_there : {r : Row} → Contains [] r → ⊥
none_there {r} c = let at = contains_at [] r c in none_some at.1

pub text_where : (number : ℕ) (texts : List (Fraction × Verdict)) (r : Row) → Contains (rows_after number texts) r → IsOfTexts number texts r
text_where number [] r c = absurd (none_there c)
text_where number (text ∷ texts) r c =
    elim (Contains-append_cases (rows_in number (tree_of text.1)) (rows_after (suc number) texts) r c) [ inl here ↦ first (tree_of text.1) refl here | inr later ↦ further (text_where (suc number) texts r later) ]
  where
    first : (o : Option Block) → tree_of text.1 ≡ o → Contains (rows_in number o) r → IsOfTexts number (text ∷ texts) r
    first None is here = absurd (none_there here)
    first (Some tree) is here =
        let at = contains_at (rows_of number tree) r here in
        let found = rows_where number 0 (uses_of tree) at.0 r at.1 in
        let z : 0 + at.0 ≡ at.0 = omega arith in
        let same : r ≡ row number at.0 found.0 = found.2 ∙ ap (λ n. row number n found.0) z in
        let text_is : r.text ≡ number = ap (λ (x : Row). x.text) same in
        let block_is : r.block ≡ at.0 = ap (λ (x : Row). x.block) same in
        let w : number ≡ number + 0 = omega arith in
        record {
          place = 0;
          tree = tree;
          used = found.0;
          text = text_is ∙ w;
          there = is;
          has = ap (slice_get (uses_of tree)) block_is ∙ found.1;
          whole = same ∙ sym (λ i. row (text_is i) (block_is i) found.0);
        }

    further : IsOfTexts (suc number) texts r → IsOfTexts number (text ∷ texts) r
    further h =
        let k = h.place in
        let w : suc number + k ≡ number + suc k = omega arith in
        record { place = suc h.place; tree = h.tree; used = h.used; text = h.text ∙ w; there = h.there; has = h.has; whole = h.whole }

pub row_there : (number : ℕ) (texts : List (Fraction × Verdict)) (place : ℕ) (tree : Block) (block : ℕ) (used : BlockUse) → tree_in (slice_get texts place) ≡ Some tree → slice_get (uses_of tree) block ≡ Some used →
    Contains (rows_after number texts) (row (number + place) block used)
row_there number [] place tree block used there at = absurd (none_some there)
row_there number (text ∷ texts) zero tree block used there at =
    let z : 0 + block ≡ block = omega arith in
    let w : number ≡ number + 0 = omega arith in
    let here : Contains (rows_of number tree) (row number block used) = at_contains (rows_of number tree) block (row number block used) (row_at number 0 (uses_of tree) block used at ∙ ap (λ n. Some (row number n used)) z) in
    subst (λ n. Contains (rows_in number (tree_of text.1) ++ rows_after (suc number) texts) (row n block used)) w
    (Contains-append_left (rows_in number (tree_of text.1)) (rows_after (suc number) texts) (row number block used)
    (subst (λ o. Contains (rows_in number o) (row number block used)) (sym there) here))
row_there number (text ∷ texts) (suc place) tree block used there at =
    let w : suc number + place ≡ number + suc place = omega arith in
    subst (λ n. Contains (rows_in number (tree_of text.1) ++ rows_after (suc number) texts) (row n block used)) w
    (Contains-append_right (rows_in number (tree_of text.1)) (rows_after (suc number) texts) (row (suc number + place) block used) (row_there (suc number) texts place tree block used there at))

-- a block of a text, by its number
pub row_of_text : (texts : Texts) (text : ℕ) (tree : Block) (block : ℕ) (used : BlockUse) → tree_in (text_at texts text) ≡ Some tree → slice_get (uses_of tree) block ≡ Some used →
    IsRow texts (record { text = text; block = block }) (row text block used)
row_of_text texts zero tree block used there at = absurd (none_some there)
row_of_text texts (suc k) tree block used there at =
    let w : 1 + k ≡ suc k = omega arith in
    record { among = subst (λ n. Contains (rows_of_texts texts) (row n block used)) w (row_there 1 texts k tree block used there at); of_text = refl; of_block = refl }

same_place : (a b number : ℕ) → number + a ≡ number + b → a ≡ b
same_place a b number e = omega (arith, e)

-- there is one block of each number
pub one_row : (texts : Texts) (ref : BlockRef) (r s : Row) → IsRow texts ref r → IsRow texts ref s → r ≡ s
one_row texts ref r s h g =
    let a = text_where 1 texts r h.among in
    let b = text_where 1 texts s g.among in
    let text_is : r.text ≡ s.text = h.of_text ∙ sym g.of_text in
    let block_is : r.block ≡ s.block = h.of_block ∙ sym g.of_block in
    let place_is : a.place ≡ b.place = same_place a.place b.place 1 (sym a.text ∙ text_is ∙ b.text) in
    let tree_is : a.tree ≡ b.tree = one_some (sym a.there ∙ ap (λ n. tree_in (slice_get texts n)) place_is ∙ b.there) in
    let used_is : a.used ≡ b.used = one_some (sym a.has ∙ (λ i. slice_get (uses_of (tree_is i)) (block_is i)) ∙ b.has) in
    a.whole ∙ (λ i. row (text_is i) (block_is i) (used_is i)) ∙ sym b.whole

-- what a body that is run reaches is reached
pub reached_through : {rows : List Row} {key : Key} {body : Row} (block : Row) (mention : Mention) → Reaches rows block mention → mention ≡ Runs key → Contains rows body → body.body_of ≡ Some key → (other : Mention) → Reaches rows body other → Reaches rows block other
reached_through {key = key} {body = body} _ _ (mentioned block mention c) is among of other r = by_body block key body other (subst (Contains block.mentions) is c) among of r
reached_through _ _ (by_body block k b mention c among_b of_b r) is among of other s = by_body block k b other c among_b of_b (reached_through b mention r is among of other s)

-- what a block reaches whose mentions are all reached is reached
pub reached_by : {rows : List Row} {from : Row} (block : Row) (mention : Mention) → ((m : Mention) → Contains block.mentions m → Reaches rows from m) → Reaches rows block mention → Reaches rows from mention
reached_by _ _ all (mentioned block mention c) = all mention c
reached_by {from = from} _ _ all (by_body block key body mention c among of r) = reached_through from (Runs key) (all (Runs key) c) refl among of mention r
