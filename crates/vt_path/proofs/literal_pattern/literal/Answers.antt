use Rattle.std.proofs.Common.{◌≡◌, ◌↔◌, List, subst, sym, ap, ◌∙◌}
use Rattle.vt_path.specs.Match.{Matches, literal_of}
use Rattle.vt_path.specs.KeptPattern.{IsKeptPattern}
use Rattle.vt_path.specs.declared.pattern.Segment.{Segment}
use Rattle.vt_path.proofs.LiteralLemmas.{kept_literal, literal_alone}
use Rattle.vt_path.proofs.literal_pattern.literal.Goals as goal

pub invariant_of-result : goal.invariant_of-result
invariant_of-result c =
    let e : c.in_ok-literal_segments.field-0.items ≡ literal_of c.path.inside.segments.items = c.in_ok-literal_segments.ensures ∙ ap literal_of c.as_slice.ensures.value in
    subst IsKeptPattern (sym e) (kept_literal _ c.path.invariant)

pub returns-clause-alone : goal.returns-clause-alone
returns-clause-alone c other =
    let e : c.in_ok-literal_segments.field-0.items ≡ literal_of c.args.path.now = c.in_ok-literal_segments.ensures ∙ ap literal_of (c.as_slice.ensures.value ∙ c.path.view_is) in
    let P : List Segment → Type 0 = λ x. Matches x other ↔ (other ≡ c.args.path.now) in
    subst P (sym e) (literal_alone c.args.path.now other)
