use Rattle.std.proofs.Common.{◌≡◌, subst, sym, ◌∙◌}
use Rattle.vt_path.specs.KeptPattern.{IsKeptPattern}
use Rattle.vt_path.proofs.pattern.Pattern.copy.Goals as goal

pub invariant_of-result : goal.invariant_of-result
invariant_of-result c =
    let e : c.in_ok-copy_segments.field-0.items ≡ c.self.inside.segments.items = c.in_ok-copy_segments.ensures ∙ c.as_slice.ensures.value in
    subst IsKeptPattern (sym e) c.self.invariant
