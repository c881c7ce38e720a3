use Rattle.std.proofs.Common.{◌≡◌, take}
use Rattle.vt_path.specs.Pattern.{names_text}
use Rattle.vt_path.proofs.names.names_bytes.Given as goal

abbrev pub invariant-loop-i : goal.invariant-loop-i
invariant-loop-i l = l.text.items ≡ names_text (take l.i l.names)
