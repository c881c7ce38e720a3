use Rattle.std.proofs.Common.{◌≡◌, ◌∙◌, List, [], ◌∷◌, ◌++◌, ap}
use Rattle.vt_rand.specs.Draw.{RandomStream}
use Rattle.vt_value.specs.declared.value.Value.{Value}
use Rattle.vt_ring.specs.RandomCalls.{chosen, choices}
use Rattle.vt_ring.specs.Streams.{moved_on, words_from}
use Rattle.vt_prim.proofs.WordLists.{next_word, moved_more, choices_more}
use Rattle.vt_prim.proofs.picking.copies_of_choices.Goals as goal

pub loop-k-preserved : goal.loop-k-preserved
loop-k-preserved c =
    let items = c.args.items.now in
    let words = words_from c.args.words.now in
    let w : c.next_word-word.result ≡ words c.loop-k._k =
    c.next_word-word.ensures.value ∙ ap (λ (s : RandomStream). words_from s 0) c.loop-k.invariant.1 ∙ next_word c.loop-k._k c.args.words.now in
    let item : c.in_ok-copy.field-0 ≡ chosen items c.next_word-word.result = c.in_ok-copy.ensures ∙ c.chosen.ensures in (
      c.in_ok-push.ensures.ok ∙ ap (λ (xs : List Value). xs ++ c.in_ok-copy.field-0 ∷ []) c.loop-k.invariant.0
          ∙ ap (λ (v : Value). choices items words c.loop-k._k ++ v ∷ []) item ∙ choices_more items words c.loop-k._k c.next_word-word.result w,
      c.next_word-word.ensures.drawn ∙ ap (moved_on 1) c.loop-k.invariant.1 ∙ moved_more c.loop-k._k c.args.words.now,
    )
