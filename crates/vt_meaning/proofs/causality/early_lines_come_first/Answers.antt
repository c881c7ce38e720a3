use Rattle.vt_meaning.proofs.EarlyEvents.{score_begins}
use Rattle.vt_meaning.proofs.SessionParts.{streams}
use Rattle.vt_meaning.proofs.causality.early_lines_come_first.Goals as goal

pub returns : goal.returns
returns c = record { lines = score_begins; scores = streams }
