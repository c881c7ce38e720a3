use Rattle.std.proofs.Common.{◌≡◌}
use Rattle.vt_gen.specs.Choices.{choices_of}
use Rattle.vt_gen.proofs.choices.choices_of.Given as goal

abbrev pub invariant-loop-k : goal.invariant-loop-k
invariant-loop-k l = record {
  so_far : l.choices.items ≡ choices_of l.seed l._k l.workers;
  seed : l.stream.seed ≡ l.seed;
  drawn : l.stream.drawn ≡ l._k;
}
