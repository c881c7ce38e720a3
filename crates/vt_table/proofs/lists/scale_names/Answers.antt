use Rattle.vt_table.specs.Lists.{scales}
use Rattle.vt_table.proofs.lists.scale_names.Goals as goal

pub returns : goal.returns
unfolding scales
returns c = c.of.ensures
