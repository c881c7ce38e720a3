use Rattle.std.proofs.Common.{◌∷◌, take}
use Rattle.vt_path.specs.Pattern.{IsPattern, pattern_text}
use Rattle.vt_path.specs.private.PatternReading.{IsSound, GoesOnTo, reading}
use Rattle.vt_path.proofs.Prefixes.{Reads}
use Rattle.vt_path.proofs.pattern_reader.after_slash.Given as goal

abbrev pub invariant-loop-i : goal.invariant-loop-i
invariant-loop-i l = record {
  sound : IsSound (reading l.reader);
  reads : Reads IsPattern pattern_text (GoesOnTo (reading l.reader)) (47 ∷ take l.i l.rest);
}
