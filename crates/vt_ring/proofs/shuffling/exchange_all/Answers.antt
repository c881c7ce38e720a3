use Rattle.std.proofs.Common.{◌+◌, ◌-◌, ℕ, List, get_or, refl, sym, ap, ◌∙◌, inl, inr, arith}
use Rattle.std.specs.Prelude.{swap}
use Rattle.vt_rand.specs.Draw.{below_of}
use Rattle.vt_value.specs.declared.value.Value.{Value}
use Rattle.vt_ring.proofs.ShuffleLemmas.{exchange_more, exchange_all_made}
use Rattle.vt_ring.proofs.shuffling.exchange_all.Goals as goal

pub loop-word-preserved : goal.loop-word-preserved
loop-word-preserved c =
    let items = c.args.items.now in
    let words = c.args.words.now in
    let i = c.loop-word.word-index in
    let last = c.loop-word.last in
    let word = get_or words i 0 in
    record {
      place = omega (arith, c.loop-word.invariant.place, c.if-last-le1.false);
      same_length = c.swap.ensures.len ∙ c.loop-word.invariant.same_length;
      so_far =
          c.swap.ensures.after
          ∙ ap (λ (k : ℕ). swap c.loop-word.items (last - 1) k) c.below.ensures.value
          ∙ ap (λ (xs : List Value). swap xs (last - 1) (below_of word (last - 1 + 1))) c.loop-word.invariant.so_far
          ∙ sym (exchange_more items words i last word c.loop-word.invariant.place (omega (arith, c.if-last-le1.false)) c.loop-word-test.true refl);
    }

pub returns-after-loop-word : goal.returns-after-loop-word
returns-after-loop-word c = c.loop-word.invariant.so_far ∙ exchange_all_made c.args.items.now c.args.words.now c.loop-word.word-index (inr (omega (arith, c.loop-word-test.false)))

pub returns-then-last-le1 : goal.returns-then-last-le1
returns-then-last-le1 c = c.loop-word.invariant.so_far ∙ exchange_all_made c.args.items.now c.args.words.now c.loop-word.word-index (inl (omega (arith, c.loop-word.invariant.place, c.if-last-le1.true)))
