use Rattle.std.proofs.Common.{◌≡◌, ◌∙◌, ◌+◌, ◌-◌, ◌^◌, min, ap}
use Rattle.vt_rand.specs.Draw.{RandomStream}
use Rattle.vt_value.specs.declared.value.Value.{Value}
use Rattle.vt_value.specs.Sizes.{size_of, sizes_of}
use Rattle.vt_ring.specs.RandomCalls.{chosen, choices}
use Rattle.vt_ring.specs.Streams.{moved_on, words_from}
use Rattle.vt_prim.proofs.WordLists.{next_word, moved_more, sizes_more, sizes_capped}
use Rattle.vt_prim.proofs.picking.size_of_choices.Goals as goal

pub loop-k-preserved : goal.loop-k-preserved
loop-k-preserved c =
    let items = c.args.items.now in
    let words = words_from c.args.stream.now in
    let w : c.next_word-word.result ≡ words c.loop-k._k =
    c.next_word-word.ensures.value ∙ ap (λ (s : RandomStream). words_from s 0) c.loop-k.invariant.1 ∙ next_word c.loop-k._k c.args.stream.now in
    let size = c.size.ensures ∙ ap (λ (v : Value). min (2 ^ 64 - 1) (size_of v)) c.chosen.ensures in (
      sizes_capped c.loop-k.total c.saturating_add-total.result (sizes_of (choices items words c.loop-k._k)) (size_of (chosen items c.next_word-word.result)) c.size.result (sizes_of (choices items words (c.loop-k._k + 1)))
          c.loop-k.invariant.0 size c.saturating_add-total.ensures (sizes_more items words c.loop-k._k c.next_word-word.result w),
      c.next_word-word.ensures.drawn ∙ ap (moved_on 1) c.loop-k.invariant.1 ∙ moved_more c.loop-k._k c.args.stream.now,
    )
