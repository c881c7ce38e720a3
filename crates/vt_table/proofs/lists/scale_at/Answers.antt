use Rattle.vt_table.specs.Lists.{scales}
use Rattle.vt_table.proofs.ListLemmas.{scale_is}
use Rattle.vt_table.proofs.lists.scale_at.Goals as goal

pub returns : goal.returns
unfolding scales
returns c = search scale_is
