use Rattle.std.proofs.Common.{length, sym, ap, ◌∙◌}
use Rattle.std.proofs.lemmas.Bool.{eqb-true}
use Rattle.std.proofs.lemmas.List.{nil_from_length}
use Rattle.vt_ring.specs.Repeating.{repeated}
use Rattle.vt_ring.proofs.LimitLemmas.{repeated_none}
use Rattle.vt_ring.proofs.repeating.whole_times.Goals as goal

pub returns-then-is_empty : goal.returns-then-is_empty
returns-then-is_empty c = c.new-list.ensures ∙ sym (ap (repeated c.args.times) (nil_from_length c.args.items.now (eqb-true (length c.args.items.now) 0 (sym c.is_empty.ensures ∙ c.if-is_empty.true))) ∙ repeated_none c.args.times)
