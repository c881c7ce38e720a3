use Rattle.std.proofs.Common.{◌≡◌, ◌↔◌, List, subst, sym, ap, ◌∙◌}
use Rattle.vt_path.specs.Pattern.{IsPattern, pattern_text}
use Rattle.vt_path.specs.AnyOf.{IsNamed}
use Rattle.vt_path.specs.KeptPattern.{IsKeptPattern}
use Rattle.vt_path.specs.Match.{Matches}
use Rattle.vt_path.specs.declared.pattern.Segment.{Segment}
use Rattle.vt_path.proofs.AnyOfLemmas.{any_of_matches}
use Rattle.vt_path.proofs.LiteralLemmas.{any_of_good, any_of_written, kept_pattern}
use Rattle.vt_path.proofs.literal_pattern.any_of.Goals as goal

pub invariant_of-result : goal.invariant_of-result
invariant_of-result c = subst IsKeptPattern (sym c.in_ok-any_of_segments.ensures) (kept_pattern _ (any_of_good c.args.name.now c.requires))

pub returns-clause-pattern : goal.returns-clause-pattern
returns-clause-pattern c = subst IsPattern (sym c.in_ok-any_of_segments.ensures) (any_of_good c.args.name.now c.requires)

pub returns-clause-written : goal.returns-clause-written
returns-clause-written c = ap pattern_text c.in_ok-any_of_segments.ensures ∙ any_of_written c.args.name.now

pub returns-clause-matches : goal.returns-clause-matches
returns-clause-matches c path =
    let P : List Segment → Type 0 = λ x. Matches x path ↔ IsNamed c.args.name.now path in
    subst P (sym c.in_ok-any_of_segments.ensures) (any_of_matches c.args.name.now path)
