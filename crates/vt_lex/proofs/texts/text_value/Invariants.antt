use Rattle.std.proofs.Common.{length, ◌-◌}
use Rattle.vt_lex.proofs.Bodies.{Values}
use Rattle.vt_lex.proofs.texts.text_value.Given as goal

abbrev pub invariant-units : goal.invariant-units
invariant-units l = Values l.form l.quote l.at l.values.items

abbrev pub decreases-units : goal.decreases-units
decreases-units l = length l.form - l.at
