use Rattle.std.proofs.Common.{◌/◌, pos, ap, ◌∙◌}
use Rattle.vt_frac.specs.Fraction.{over}
use Rattle.vt_rand.specs.Draw.{unit_of}
use Rattle.vt_rand.proofs.stream.Stream.unit.Goals as goal

pub returns-clause-value : goal.returns-clause-value
unfolding unit_of
returns-clause-value c = c.parts_of_65536.ensures ∙ ap (λ w. over (pos (w / 65536)) 65536) c.word-upper.ensures.value
