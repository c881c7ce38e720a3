use Rattle.std.proofs.Common.{◌≡◌, ◌∙◌, ℕ, ◌+◌, ◌%◌, ◌^◌, List, [], ◌∷◌, ◌++◌, ap, arith}
use Rattle.vt_rand.specs.Draw.{RandomStream}
use Rattle.vt_rand.specs.Word.{word}
use Rattle.vt_gen.proofs.LineLemmas.{choices_more, choices_none}
use Rattle.vt_gen.proofs.choices.choices_of.Goals as goal

pub loop-k-preserved : goal.loop-k-preserved
loop-k-preserved c =
    let w : c.word.result ≡ word c.args.seed c.loop-k._k =
    c.word.ensures.value ∙ ap (λ (s : ℕ). word s c.loop-k.stream.drawn) c.loop-k.invariant.seed ∙ ap (word c.args.seed) c.loop-k.invariant.drawn in
    let drawn : c.word.new.self.drawn ≡ (c.loop-k.stream.drawn + 1) % 2 ^ 64 = ap (λ (s : RandomStream). s.drawn) c.word.ensures.drawn in
    record {
      so_far = c.in_ok-push.ensures.items ∙ ap (λ (xs : List ℕ). xs ++ (c.word.result % c.args.workers) ∷ []) c.loop-k.invariant.so_far
          ∙ choices_more c.args.seed c.loop-k._k c.args.workers c.word.result w;
      seed = ap (λ (s : RandomStream). s.seed) c.word.ensures.drawn ∙ c.loop-k.invariant.seed;
      drawn = omega (arith, c.loop-k.invariant.drawn);
    }

pub loop-k-init : goal.loop-k-init
loop-k-init c = record {
  so_far = c.new-choices.ensures.items ∙ choices_none c.args.seed c.args.workers;
  seed = ap (λ (s : RandomStream). s.seed) c.from_seed-stream.ensures;
  drawn = ap (λ (s : RandomStream). s.drawn) c.from_seed-stream.ensures;
}
