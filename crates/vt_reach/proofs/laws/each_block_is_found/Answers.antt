use Rattle.vt_reach.proofs.TreeUses.{each_block}
use Rattle.vt_reach.proofs.laws.each_block_is_found.Goals as goal

pub returns : goal.returns
returns c = each_block
