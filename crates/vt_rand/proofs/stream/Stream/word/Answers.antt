use Rattle.std.proofs.Common.{ℕ, ap, ◌∙◌}
use Rattle.rand_pcg.specs.Lcg.{Lcg}
use Rattle.vt_rand.specs.Draw.{RandomStream}
use Rattle.vt_rand.specs.Word.{word}
use Rattle.vt_rand.proofs.WordLemmas.{generator_drawn, word_drawn}
use Rattle.vt_rand.proofs.stream.Stream.word.Goals as goal

pub invariant_of-self : goal.invariant_of-self
invariant_of-self c =
    generator_drawn c.self.inside.seed c.self.inside.drawn c.self.inside.generator c.next_word.new.self c.self.invariant (ap (λ (p : ℕ × Lcg). p.1) c.next_word.ensures)

pub returns-clause-value : goal.returns-clause-value
returns-clause-value c =
    word_drawn c.self.inside.seed c.self.inside.drawn c.next_word.result c.self.inside.generator c.self.invariant (ap (λ (p : ℕ × Lcg). p.0) c.next_word.ensures)
    ∙ ap (λ (s : RandomStream). word s.seed s.drawn) c.self.view_is
