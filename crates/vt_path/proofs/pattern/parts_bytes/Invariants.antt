use Rattle.std.proofs.Common.{◌≡◌, take}
use Rattle.vt_path.specs.Pattern.{parts_text}
use Rattle.vt_path.proofs.pattern.parts_bytes.Given as goal

abbrev pub invariant-loop-part : goal.invariant-loop-part
invariant-loop-part l = l.text.items ≡ parts_text (take l.part-index l.parts)
