use Rattle.std.proofs.Common.{◌∙◌}
use Rattle.vt_rand.specs.Word.{generator_of}
use Rattle.vt_rand.proofs.WordLemmas.{generator_first}
use Rattle.vt_rand.proofs.stream.Stream.from_seed.Goals as goal

pub invariant_of-result : goal.invariant_of-result
unfolding generator_of
invariant_of-result c = c.seed_from_u64.ensures ∙ generator_first c.args.seed
