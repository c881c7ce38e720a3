use Rattle.std.proofs.Common.{[], length, drop, arith}
use Rattle.std.proofs.lemmas.List.{drop_all}
use Rattle.vt_path.proofs.MarkLemmas.{marks_end, marked_along, parts_after}
use Rattle.vt_path.proofs.part_match.parts_match.Goals as goal

pub loop-k-init : goal.loop-k-init
loop-k-init c = record {
  within = omega arith;
  marked = marked_along [] (drop (length c.args.parts.now) c.args.parts.now) c.args.bytes.now c.mark_end.new.marks (drop_all _ c.args.parts.now (omega arith))
      (marks_end c.args.bytes.now c.mark_end.new.marks c.mark_end.ensures.last c.mark_end.ensures.before);
}

pub mark_part-requires-clause-marked : goal.mark_part-requires-clause-marked
mark_part-requires-clause-marked c =
    marked_along (drop c.loop-k.k c.args.parts.now) _ c.args.bytes.now c.loop-k.marks (parts_after c.args.parts.now c.loop-k.k c.loop-k-test.true) c.loop-k.invariant.marked
