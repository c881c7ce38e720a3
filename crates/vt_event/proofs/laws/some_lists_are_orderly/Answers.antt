use Rattle.vt_event.proofs.OrderlyLists.{each, inputs_times, texts}
use Rattle.vt_event.proofs.laws.some_lists_are_orderly.Goals as goal

pub returns : goal.returns
returns c = record { texts = texts; inputs_times = inputs_times; each = each }
