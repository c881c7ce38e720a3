use Rattle.std.proofs.Common.{ap, option_copied}
use Rattle.vt_path.specs.Pattern.{IsPatternText}
use Rattle.vt_check.proofs.PathLemmas.{at_text}
use Rattle.vt_check.proofs.paths.is_refused_pattern.Goals as goal

pub returns-in-Some : goal.returns-in-Some
returns-in-Some c = at_text IsPatternText _ _ c.is_no_pattern.result (ap option_copied c.in-Some.is) c.is_no_pattern.ensures
