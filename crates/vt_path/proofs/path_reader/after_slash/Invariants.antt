use Rattle.std.proofs.Common.{◌∷◌, take}
use Rattle.vt_path.specs.Path.{IsPath, path_text}
use Rattle.vt_path.specs.private.PathReading.{IsSound, GoesOnTo}
use Rattle.vt_path.proofs.Prefixes.{Reads}
use Rattle.vt_path.proofs.path_reader.after_slash.Given as goal

abbrev pub invariant-loop-i : goal.invariant-loop-i
invariant-loop-i l = record {
  sound : IsSound l.reader.done.items l.reader.bytes.items;
  reads : Reads IsPath path_text (GoesOnTo l.reader.done.items l.reader.bytes.items) (47 ∷ take l.i l.rest);
}
