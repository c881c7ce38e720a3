use Rattle.std.proofs.Common.{◌≡◌, ℕ, ◌+◌, ◌<◌, List, [], ◌∷◌, length, drop, get_or, ◌∙◌, ap, subst, ◌↔◌, true}
use Rattle.vt_path.specs.Match.{MatchesSegments, MatchesBytes}
use Rattle.vt_path.specs.private.Marks.{mark}
use Rattle.vt_path.specs.declared.pattern.Segment.{Segment}
use Rattle.vt_path.specs.declared.pattern.Segment.TheVariants.{AnySegments, Parts}
use Rattle.vt_path.specs.declared.pattern.Part.{Part}
use Rattle.vt_path.proofs.MarkLemmas.{marks_skip, marks_parts, first_of, segments_along}
use Rattle.vt_path.proofs.path_match.mark_segment.Goals as goal

-- the first segment, as the arm knows it, and the others
pattern_is : (pattern : List Segment) (first s : Segment) → 0 < length pattern → first ≡ get_or pattern 0 first → first ≡ s → pattern ≡ s ∷ drop 1 pattern
pattern_is pattern first s some is e = first_of pattern first some is ∙ ap (λ (x : Segment). x ∷ drop 1 pattern) e

pub returns-in-AnySegments : goal.returns-in-AnySegments
returns-in-AnySegments c =
    segments_along (AnySegments ∷ drop 1 c.args.pattern.now) c.args.pattern.now c.args.path.now c.skip.new.marks
    (pattern_is c.args.pattern.now _ _ c.requires.some c.index-pattern-0.is c.in-AnySegments.is)
    (marks_skip [] (MatchesSegments (drop 1 c.args.pattern.now)) c.args.path.now c.args.marks.now c.skip.new.marks c.requires.marked c.skip.ensures.last c.skip.ensures.each)

pub returns-in-Parts : goal.returns-in-Parts
returns-in-Parts c =
    let same : c.as_slice.result.now ≡ c.in-Parts.parts = c.as_slice.ensures.value ∙ c.parts.view_is in
    let each = c.mark_parts.ensures.each in
    segments_along (Parts c.in-Parts.parts ∷ drop 1 c.args.pattern.now) c.args.pattern.now c.args.path.now c.mark_parts.new.marks
    (pattern_is c.args.pattern.now _ _ c.requires.some c.index-pattern-0.is c.in-Parts.is)
    (marks_parts c.in-Parts.parts (drop 1 c.args.pattern.now) c.args.path.now c.args.marks.now c.mark_parts.new.marks c.requires.marked c.mark_parts.ensures.end
    (let P : List Part → Type 0 = λ x. (i : ℕ) → i < length c.args.path.now → (mark c.mark_parts.new.marks i ≡ true) ↔ (MatchesBytes x (get_or c.args.path.now i []) × (mark c.args.marks.now (i + 1) ≡ true)) in
    subst P same each))
