use Rattle.std.proofs.Common.{◌≡◌, ◌<◌, ◌≤◌, List, length, take, arith, subst, ap}
use Rattle.std.proofs.lemmas.List.{take_all}
use Rattle.vt_path.specs.declared.pattern.Segment.{Segment}
use Rattle.vt_path.specs.private.LiteralWriting.{IsPathSoFar}
use Rattle.vt_path.proofs.LiteralTextLemmas.{all_written, no_literal, segment_step, too_many_segments}
use Rattle.vt_path.proofs.literal_text.write_segments.Goals as goal

pub returns-then-segments-gt-MOST_SEGMENTS-clause-text :
    goal.returns-then-segments-gt-MOST_SEGMENTS-clause-text
returns-then-segments-gt-MOST_SEGMENTS-clause-text c = too_many_segments c.args.segments.now c.requires.kept c.if-segments-gt-MOST_SEGMENTS.true

pub returns-in-None-clause-text : goal.returns-in-None-clause-text
returns-in-None-clause-text c =
    no_literal c.args.segments.now c.loop-segment.segment-index c.segment-item.result c.requires.kept c.loop-segment-test.true c.segment-item.is c.in-None.ensures.text

pub loop-segment-preserved : goal.loop-segment-preserved
loop-segment-preserved c = record {
  so_far = segment_step c.args.segments.now (take c.loop-segment.count c.loop-segment.buffer) (take c.in-Some.after c.write_segment.new.buffer) c.loop-segment.segment-index
      c.segment-item.result c.loop-segment-test.true c.segment-item.is c.loop-segment.invariant.so_far c.in-Some.ensures.text;
  within = omega (arith, c.in-Some.ensures.within, c.loop-segment.invariant.within);
  length = cc;
}

pub returns-clause-text : goal.returns-clause-text
returns-clause-text c =
    all_written c.args.segments.now (take c.loop-segment.count c.loop-segment.buffer) c.requires.kept
    (subst (λ (seen : List Segment). IsPathSoFar seen (take c.loop-segment.count c.loop-segment.buffer)) (take_all c.loop-segment.segment-index c.args.segments.now c.loop-segment-test.false)
    c.loop-segment.invariant.so_far)
