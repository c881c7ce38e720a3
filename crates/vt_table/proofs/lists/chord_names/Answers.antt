use Rattle.vt_table.specs.Lists.{chords}
use Rattle.vt_table.proofs.lists.chord_names.Goals as goal

pub returns : goal.returns
unfolding chords
returns c = c.of.ensures
