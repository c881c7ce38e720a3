use Rattle.vt_table.specs.Lists.{chords}
use Rattle.vt_table.proofs.ListLemmas.{chord_is}
use Rattle.vt_table.proofs.lists.chord_at.Goals as goal

pub returns : goal.returns
unfolding chords
returns c = search chord_is
