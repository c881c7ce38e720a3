use Rattle.std.proofs.Common.{[], length, drop, arith}
use Rattle.std.proofs.lemmas.List.{drop_all}
use Rattle.vt_path.proofs.MarkLemmas.{segment_marks_end, segments_along, segments_after}
use Rattle.vt_path.proofs.path_match.segments_match.Goals as goal

pub loop-k-init : goal.loop-k-init
loop-k-init c = record {
  within = omega arith;
  marked = segments_along [] (drop (length c.args.pattern.now) c.args.pattern.now) c.args.path.now c.mark_end.new.marks (drop_all _ c.args.pattern.now (omega arith))
      (segment_marks_end c.args.path.now c.mark_end.new.marks c.mark_end.ensures.last c.mark_end.ensures.before);
}

pub mark_segment-requires-clause-marked : goal.mark_segment-requires-clause-marked
mark_segment-requires-clause-marked c =
    segments_along (drop c.loop-k.k c.args.pattern.now) _ c.args.path.now c.loop-k.marks (segments_after c.args.pattern.now c.loop-k.k c.loop-k-test.true) c.loop-k.invariant.marked
