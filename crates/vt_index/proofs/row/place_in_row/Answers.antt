use Rattle.vt_event.specs.Order.{place_of}
use Rattle.vt_index.proofs.CutLemmas.{cut_at_end}
use Rattle.vt_index.proofs.row.place_in_row.Goals as goal

pub returns-then-are_in_front : goal.returns-then-are_in_front
returns-then-are_in_front c = cut_at_end c.args.events.now c.args.at.now (place_of c.args.place.now) c.if-are_in_front.ensures
