use Rattle.std.proofs.Common.{◌≡◌, length, get_or, arith, ap}
use Rattle.vt_path.specs.Pattern.{IsPattern, pattern_text}
use Rattle.vt_path.specs.private.PatternReading.{GoesOnTo}
use Rattle.vt_path.proofs.Prefixes.{stops_at_start}
use Rattle.vt_path.proofs.PatternEnds.{pattern_opens, pattern_slash, begin, sound_begin, begins}
use Rattle.vt_path.proofs.pattern_reader.parse_pattern.Goals as goal

pub returns-in_default-clause-refused : goal.returns-in_default-clause-refused
returns-in_default-clause-refused c =
    stops_at_start IsPattern pattern_text (GoesOnTo begin) c.args.bytes.now (pattern_opens begin sound_begin) begins pattern_slash
    (λ t e. let n = ap length e in omega (arith, c.in_default.len_below))

pub returns-then-first-ne47-clause-refused : goal.returns-then-first-ne47-clause-refused
returns-then-first-ne47-clause-refused c =
    stops_at_start IsPattern pattern_text (GoesOnTo begin) c.args.bytes.now (pattern_opens begin sound_begin) begins pattern_slash
    (λ t e. let h = c.if-first-ne47.true in let n : get_or c.args.bytes.now 0 0 ≡ 47 = ap (λ x. get_or x 0 0) e in absurd (h n))
