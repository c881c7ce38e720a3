use Rattle.std.proofs.Common.{take}
use Rattle.vt_event.specs.Order.{place_of}
use Rattle.vt_index.specs.private.Nearest.{FitsRows, NearestOf}
use Rattle.vt_index.proofs.look_up.nearest_among.Given as goal

abbrev pub invariant-loop-row : goal.invariant-loop-row
invariant-loop-row l = NearestOf (FitsRows l.events (take l.row-index l.rows) l.pattern) l.side (place_of l.place) l.found
