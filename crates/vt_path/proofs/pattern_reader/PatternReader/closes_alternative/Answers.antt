use Rattle.std.proofs.Common.{◌≡◌, [], arith}
use Rattle.std.proofs.lemmas.List.{nil_from_length}
use Rattle.vt_path.specs.private.PatternReading.{reading}
use Rattle.vt_path.proofs.PatternAlternatives.{comma_reads_on, no_comma_empty, no_comma_full}
use Rattle.vt_path.proofs.pattern_reader.PatternReader.closes_alternative.Goals as goal
use Rattle.vt_path.proofs.pattern_reader.PatternReader.closes_alternative.Goals.{then-is_empty-via-then-is_empty, then-is_empty-via-else-is_empty+then-self-gt-MOST_BYTES}

pub returns-then-is_empty : goal.returns-then-is_empty
returns-then-is_empty c = elim c.then-is_empty.branch [
  | then-is_empty-via-then-is_empty w ↦
      (let e : c.args.self.now.bytes.items ≡ [] = nil_from_length _ (grind arith) in no_comma_empty (reading c.args.self.now) c.requires.position e)
  | then-is_empty-via-else-is_empty+then-self-gt-MOST_BYTES w ↦ no_comma_full (reading c.args.self.now) c.requires.position c.requires.sound (omega arith)
]

pub returns : goal.returns
returns c =
    rw (c.in_ok-push.ensures.items, c.clear.ensures.items, c.in_ok-name.ensures, c.as_slice.ensures.value)
    (comma_reads_on (reading c.args.self.now) c.requires.position c.requires.sound (grind arith) (omega arith))
