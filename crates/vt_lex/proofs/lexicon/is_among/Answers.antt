use Rattle.std.proofs.Common.{◌≡◌, ℕ, ◌+◌, ◌<◌, length, Bool, true, false, List, ◌||◌, Bor, get_or, drop, ap, sym, ◌∙◌}
use Rattle.std.specs.Str.{bytes_eq}
use Rattle.std.proofs.lemmas.List.{at_drop_more}
use Rattle.vt_frac.specs.Names.{is_among}
use Rattle.vt_lex.specs.private.Spelled.{spelled}
use Rattle.vt_lex.proofs.lexicon.is_among.Goals as goal

-- what the answer is, by the test at index i
step : (words : List (Bor (List ℕ))) (i : ℕ) (d : Bor (List ℕ)) (word : List ℕ) (r s : Bool) → i < length words → is_among (spelled (drop i words)) word ≡ is_among (spelled words) word → r ≡ bytes_eq (get_or words i d).now word → r ≡ s → (s || is_among (spelled (drop (i + 1) words)) word) ≡ is_among (spelled words) word
step words i d word r s h kept e t =
    sym (ap (λ b. b || is_among (spelled (drop (i + 1) words)) word) (sym e ∙ t)) ∙ (sym (at_drop_more (λ xs. is_among (spelled xs) word) words i d h) ∙ kept)

pub returns-then-eq : goal.returns-then-eq
returns-then-eq c = step _ _ _ _ _ true c.loop-other-test.true c.loop-other.invariant c.eq.ensures c.if-eq.true

pub loop-other-preserved : goal.loop-other-preserved
loop-other-preserved c = step _ _ _ _ _ false c.loop-other-test.true c.loop-other.invariant c.eq.ensures c.if-eq.false
