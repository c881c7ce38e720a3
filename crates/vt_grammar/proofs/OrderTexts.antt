-- The calls and blocks of the tree that tokens are read as stand in the order of the tokens.
use Rattle.std.proofs.Common.{◌≡◌, Bool, true, false, cond, List, [], ◌∷◌, ◌++◌, None, refl, sym, subst}
use Rattle.std.specs.List.{AllByRecursion}
use Rattle.vt_tree.specs.declared.statement.Block.{Block}
use Rattle.vt_tree.specs.Parts.{Part, in_block, in_stmt, in_text}
use Rattle.vt_tree.proofs.PartsLemmas.{in_block-is}
use Rattle.vt_grammar.specs.Marks.{Mark, Spelled, marked}
use Rattle.vt_grammar.specs.Order.{StandsAt, AreAmong}
use Rattle.vt_grammar.specs.Text.{text, Reads}
use Rattle.vt_grammar.specs.Trees.{block_tree}
use Rattle.vt_grammar.proofs.Among.{later}
use Rattle.vt_grammar.proofs.FactRules.{statements_told}
use Rattle.vt_grammar.proofs.OrderFacts.{heads, each_stand, order_facts}
use Rattle.vt_grammar.proofs.Tells.{Tells, is_head, map_tells, shown}

text_stands : Tells heads text (λ tree ms. AreAmong StandsAt (in_block tree in_text) ms)
unfolding text order_facts
text_stands =
    map_tells (statements_told order_facts 64)
    (λ stmts ms h. subst (λ z. AreAmong StandsAt z ms) (sym (in_block-is (block_tree 0 None stmts) (record { number = 0; params = []; stmts = stmts }) in_text refl))
    (each_stand in_stmt stmts ms h in_text))

-- what stands among some marks after a first one stands among all of which they are some
with_first : (t : Mark) (heads_after marks_after : List Mark) (x : Part) (xs : List Part) (before : List Mark) (here : Mark) (after : List Mark)
    → t ∷ heads_after ≡ before ++ here ∷ after → StandsAt x here → AreAmong StandsAt xs after
    → ((ys : List Part) → AreAmong StandsAt ys heads_after → AreAmong StandsAt ys marks_after) → AreAmong StandsAt (x ∷ xs) (t ∷ marks_after)
with_first t heads_after marks_after x xs [] here after e h g wider =
    let same : here ≡ t = cc in
    let same_after : after ≡ heads_after = cc in
    record { before = []; here = t; after = marks_after; whole = refl; holds = subst (StandsAt x) same h; rest = wider xs (subst (AreAmong StandsAt xs) same_after g) }
with_first t heads_after marks_after x xs (b ∷ bs) here after e h g wider =
    let same_after : heads_after ≡ bs ++ here ∷ after = cc in
    later StandsAt (t ∷ []) (x ∷ xs) marks_after (wider (x ∷ xs) (record { before = bs; here = here; after = after; whole = same_after; holds = h; rest = g }))

-- what stands among the marks at which a part may stand stands among all
among_all : (ms : List Mark) (xs : List Part) → AreAmong StandsAt xs (shown heads ms) → AreAmong StandsAt xs ms
among_all [] xs h = h
among_all (t ∷ ts) xs h = go (is_head t.terminal) xs h (among_all ts)
  where
    go : (b : Bool) (xs : List Part) → AreAmong StandsAt xs (cond b (t ∷ []) [] ++ shown heads ts) → ((ys : List Part) → AreAmong StandsAt ys (shown heads ts) → AreAmong StandsAt ys ts)
        → AreAmong StandsAt xs (t ∷ ts)
    go false xs h wider = later StandsAt (t ∷ []) xs ts (wider xs h)
    go true [] h wider = tt
    go true (x ∷ xs) h wider = with_first t (shown heads ts) ts x xs h.before h.here h.after h.whole h.holds h.rest wider

all_good : (ms : List Mark) → AllByRecursion heads.IsGood ms
all_good [] = tt
all_good (t ∷ ts) = (tt, all_good ts)

pub in_order : (tokens : List Spelled) (tree : Block) → Reads tokens tree → AreAmong StandsAt (in_block tree in_text) (marked 0 tokens)
unfolding Reads
in_order tokens tree h =
    among_all (marked 0 tokens) (in_block tree in_text) (text_stands.told (marked 0 tokens) tree h (all_good (marked 0 tokens)))
