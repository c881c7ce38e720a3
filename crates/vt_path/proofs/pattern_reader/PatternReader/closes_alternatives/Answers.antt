use Rattle.std.proofs.Common.{◌≡◌, [], arith}
use Rattle.std.proofs.lemmas.List.{nil_from_length}
use Rattle.vt_path.specs.private.PatternReading.{reading}
use Rattle.vt_path.proofs.PatternAlternatives.{brace_end_reads_on, no_brace_end}
use Rattle.vt_path.proofs.pattern_reader.PatternReader.closes_alternatives.Goals as goal

pub returns-then-is_empty : goal.returns-then-is_empty
returns-then-is_empty c = let e : c.args.self.now.bytes.items ≡ [] = nil_from_length _ (grind arith) in no_brace_end (reading c.args.self.now) c.requires.position e

pub returns : goal.returns
returns c =
    rw (
      c.in_ok-push-2.ensures.items,
      c.replace-names.ensures.value,
      c.in_ok-push.ensures.items,
      c.in_ok-name.ensures,
      c.as_slice.ensures.value,
      c.replace-names.ensures.after,
      c.new.ensures.items,
      c.clear.ensures.items,
    )
    (brace_end_reads_on (reading c.args.self.now) c.requires.position c.requires.sound (grind arith))
