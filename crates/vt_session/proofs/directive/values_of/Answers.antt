use Rattle.std.proofs.Common.{Bor, List, ℕ, [], arith}
use Rattle.vt_session.proofs.WordLemmas.{word_short}
use Rattle.vt_session.proofs.directive.values_of.Goals as goal

pub given_of-requires : goal.given_of-requires
given_of-requires c =
    let none : Bor (List ℕ) = record { ref_ptr = (0, 0); now = [] } in
    omega (arith, word_short c.args.words.now c.loop-word.word-index none c.loop-word-test.true, c.requires)
