use Rattle.vt_table.specs.Calls.{calls}
use Rattle.vt_table.proofs.CallLemmas.{entry_is}
use Rattle.vt_table.proofs.calls.entry_at.Goals as goal

pub returns : goal.returns
unfolding calls
returns c = search entry_is
