use Rattle.std.proofs.Common.{◌≡◌, [], arith}
use Rattle.std.proofs.lemmas.List.{nil_from_length}
use Rattle.vt_path.specs.private.PatternReading.{reading}
use Rattle.vt_path.proofs.PatternEnds.{ends_some, ends_none_empty, ends_none_inside}
use Rattle.vt_path.specs.declared.pattern_reader.Position.TheVariants.{Between}
use Rattle.vt_path.proofs.LiteralLemmas.{kept_pattern}
use Rattle.vt_path.proofs.pattern_reader.PatternReader.pattern.Goals as goal
use Rattle.vt_path.proofs.pattern_reader.PatternReader.pattern.Goals.{then-not-is_between-via-then-not-is_between, then-not-is_between-via-else-not-is_between+then-is_empty}

pub returns-then-not-is_between : goal.returns-then-not-is_between
returns-then-not-is_between c = elim c.then-not-is_between.branch [
  | then-not-is_between-via-then-not-is_between w ↦ ends_none_inside (reading c.args.self) (λ e. absurd (grind (arith, c.is_between.ensures.1 e)))
  | then-not-is_between-via-else-not-is_between+then-is_empty w ↦
      (let e : c.args.self.parts.items ≡ [] = nil_from_length _ (grind arith) in
      let p : c.args.self.position ≡ Between = c.is_between.ensures.0 (grind arith) in ends_none_empty (reading c.args.self) p e)
]

pub returns : goal.returns
returns c =
    let p : c.args.self.position ≡ Between = c.is_between.ensures.0 (grind arith) in
    rw c.in_ok-push.ensures.items (ends_some (reading c.args.self) c.segment_of.result p c.requires (grind arith) c.segment_of.ensures)

pub invariant_of-result : goal.invariant_of-result
invariant_of-result c =
    let p : c.args.self.position ≡ Between = c.is_between.ensures.0 (grind arith) in
    rw c.in_ok-push.ensures.items (kept_pattern _ (ends_some (reading c.args.self) c.segment_of.result p c.requires (grind arith) c.segment_of.ensures).0)
