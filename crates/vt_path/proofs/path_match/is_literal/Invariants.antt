use Rattle.std.proofs.Common.{◌≡◌, take}
use Rattle.vt_path.specs.Match.{literal_of}
use Rattle.vt_path.proofs.path_match.is_literal.Given as goal

abbrev pub invariant-loop-i : goal.invariant-loop-i
invariant-loop-i l = take l.i l.pattern ≡ literal_of (take l.i l.path)
