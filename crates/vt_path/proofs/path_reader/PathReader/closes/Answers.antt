use Rattle.std.proofs.Common.{◌≡◌, [], arith}
use Rattle.std.proofs.lemmas.List.{nil_from_length}
use Rattle.vt_path.proofs.PathReadsOn.{no_slash_empty, no_slash_full, slash_reads_on}
use Rattle.vt_path.proofs.path_reader.PathReader.closes.Goals as goal
use Rattle.vt_path.proofs.path_reader.PathReader.closes.Goals.{then-is_empty-via-then-is_empty, then-is_empty-via-else-is_empty+then-len-eq-MOST_SEGMENTS}

pub returns-then-is_empty : goal.returns-then-is_empty
returns-then-is_empty c = elim c.then-is_empty.branch [
  | then-is_empty-via-then-is_empty w ↦
      (let e : c.args.self.now.bytes.items ≡ [] = nil_from_length _ (grind arith) in rw e (no_slash_empty _))
  | then-is_empty-via-else-is_empty+then-len-eq-MOST_SEGMENTS w ↦ no_slash_full _ _ (grind arith)
]

pub returns : goal.returns
returns c = rw (c.in_ok-push.ensures.items, c.clear.ensures.items, c.in_ok-segment.ensures, c.as_slice.ensures.value) (slash_reads_on _ _ c.requires (grind arith) (grind arith))
