use Rattle.std.proofs.Common.{◌+◌, ◌∙◌}
use Rattle.vt_rand.proofs.DrawLemmas.{joined_is, second_word}
use Rattle.vt_rand.proofs.stream.Stream.child_seed.Goals as goal

pub returns-clause-value : goal.returns-clause-value
returns-clause-value c =
    let start = c.args.self.now in
    joined_is start.seed start.drawn (start.drawn + 1) c.from.result c.from-2.result
    (c.from.ensures ∙ c.word-first.ensures.value)
    (c.from-2.ensures ∙ second_word start c.word-first.new.self c.word-second.result c.word-first.ensures.drawn c.word-second.ensures.value)
