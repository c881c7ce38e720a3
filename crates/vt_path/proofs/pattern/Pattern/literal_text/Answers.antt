use Rattle.std.proofs.Common.{sym, subst, ◌∙◌}
use Rattle.vt_path.specs.KeptPattern.{IsKeptPattern}
use Rattle.vt_path.proofs.pattern.Pattern.literal_text.Goals as goal

pub write_segments-requires-clause-kept : goal.write_segments-requires-clause-kept
write_segments-requires-clause-kept c = subst IsKeptPattern (sym c.as_slice.ensures.value) c.self.invariant
