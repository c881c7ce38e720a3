-- What stands in the lists of a tree, by its meaning. The project's own.
use Rattle.std.specs.Prelude.{List, map, Option}
use Rattle.std.specs.Option.{option_map}
use Rattle.vt_tree.specs.declared.statement.Block.{Block}
use Rattle.vt_run.specs.Scopes.{BlockMeaning}
use Rattle.vt_run.specs.TreeMeaning.{block_meaning}

-- the block of a call, if it has one
abbrev pub block_given : Option Block → Option BlockMeaning
block_given block = option_map block_meaning block
