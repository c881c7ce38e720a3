use Rattle.std.proofs.Common.{◌≡◌, ◌∙◌, ℕ, List, [], ◌∷◌, ◌++◌, map, ap}
use Rattle.vt_rand.specs.Draw.{RandomStream}
use Rattle.vt_ring.specs.Items.{indices}
use Rattle.vt_ring.specs.Streams.{moved_on, words_from}
use Rattle.vt_prim.proofs.WordLists.{next_word, moved_more, words_more}
use Rattle.vt_prim.proofs.shuffling.next_words.Goals as goal

pub loop-k-preserved : goal.loop-k-preserved
loop-k-preserved c =
    let words = words_from c.args.words.now in
    let w : c.next_word.result ≡ words c.loop-k._k =
    c.next_word.ensures.value ∙ ap (λ (s : RandomStream). words_from s 0) c.loop-k.invariant.1 ∙ next_word c.loop-k._k c.args.words.now in (
      c.in_ok-push.ensures.items ∙ ap (λ (xs : List ℕ). xs ++ c.next_word.result ∷ []) c.loop-k.invariant.0 ∙ words_more words c.loop-k._k c.next_word.result w,
      c.next_word.ensures.drawn ∙ ap (moved_on 1) c.loop-k.invariant.1 ∙ moved_more c.loop-k._k c.args.words.now,
    )
