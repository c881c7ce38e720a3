-- Lines are a session or have a first bad one; and so what the bytes of an input come to is a function.
use Rattle.std.specs.Prelude.{ℕ, List}
use Rattle.vt_session.specs.Laws.{AlwaysOne}
use Rattle.vt_session.specs.Lines.{lines_of}
use Rattle.vt_session.specs.Verdict.{Judged, judged_by}
use Rattle.vt_session.proofs.Decided.{judged}

pub always_one : AlwaysOne
always_one lines = judged lines

-- the session that the bytes are, or else the number of their first bad line
unfoldable pub judged_of : List ℕ → Judged
judged_of bytes = judged_by (lines_of bytes) (always_one (lines_of bytes))
