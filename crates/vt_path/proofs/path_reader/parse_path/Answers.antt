use Rattle.std.proofs.Common.{◌≡◌, [], length, get_or, arith, ap}
use Rattle.vt_path.specs.Path.{IsPath, path_text}
use Rattle.vt_path.specs.private.PathReading.{GoesOnTo}
use Rattle.vt_path.proofs.Prefixes.{stops_at_start}
use Rattle.vt_path.proofs.PathReadsOn.{path_opens, path_begins, path_slash, sound_begin}
use Rattle.vt_path.proofs.path_reader.parse_path.Goals as goal

pub returns-in_default-clause-refused : goal.returns-in_default-clause-refused
returns-in_default-clause-refused c =
    stops_at_start IsPath path_text (GoesOnTo [] []) c.args.bytes.now (path_opens [] [] sound_begin) path_begins path_slash
    (λ t e. let n = ap length e in omega (arith, c.in_default.len_below))

pub returns-then-first-ne47-clause-refused : goal.returns-then-first-ne47-clause-refused
returns-then-first-ne47-clause-refused c =
    stops_at_start IsPath path_text (GoesOnTo [] []) c.args.bytes.now (path_opens [] [] sound_begin) path_begins path_slash
    (λ t e. let h = c.if-first-ne47.true in let n : get_or c.args.bytes.now 0 0 ≡ 47 = ap (λ x. get_or x 0 0) e in absurd (h n))
