use Rattle.std.proofs.Common.{◌≡◌, [], arith}
use Rattle.std.proofs.lemmas.List.{nil_from_length}
use Rattle.vt_path.specs.private.PatternReading.{reading, IsSegmentOf}
use Rattle.vt_path.proofs.PatternReadsOn.{slash_reads_on, no_slash_empty, no_slash_full}
use Rattle.vt_path.proofs.pattern_reader.PatternReader.closes_segment.Goals as goal
use Rattle.vt_path.proofs.pattern_reader.PatternReader.closes_segment.Goals.{then-is_empty-via-then-is_empty, then-is_empty-via-else-is_empty+then-len-eq-MOST_SEGMENTS}

pub returns-then-is_empty : goal.returns-then-is_empty
returns-then-is_empty c = elim c.then-is_empty.branch [
  | then-is_empty-via-then-is_empty w ↦
      (let e : c.args.self.now.parts.items ≡ [] = nil_from_length _ (grind arith) in no_slash_empty (reading c.args.self.now) c.requires.position e)
  | then-is_empty-via-else-is_empty+then-len-eq-MOST_SEGMENTS w ↦ no_slash_full (reading c.args.self.now) c.requires.position (grind arith)
]

pub returns : goal.returns
returns c =
    let h = c.segment_of.ensures in
    let is : IsSegmentOf c.args.self.now.parts.items c.segment_of.result = rw c.replace-parts.ensures.value at h in
    rw (c.in_ok-push.ensures.items, c.replace-parts.ensures.after, c.new.ensures.items)
    (slash_reads_on (reading c.args.self.now) c.segment_of.result c.requires.position c.requires.sound is (grind arith) (let few = c.requires.sound.few in grind arith))
