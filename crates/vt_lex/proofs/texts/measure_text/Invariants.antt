use Rattle.std.proofs.Common.{length, ◌-◌, ◌≤◌}
use Rattle.vt_lex.proofs.Bodies.{Measures}
use Rattle.vt_lex.proofs.texts.measure_text.Given as goal

abbrev pub invariant-units : goal.invariant-units
invariant-units l = record {
  within : l.at ≤ length l.bytes;
  few : l.count ≤ l.at;
  so_far : Measures l.quote l.bytes l.at l.count;
}

abbrev pub decreases-units : goal.decreases-units
decreases-units l = length l.bytes - l.at
