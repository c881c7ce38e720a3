use Rattle.std.proofs.Common.{◌∙◌}
use Rattle.vt_reach.proofs.TreeFounds.{rows_last, rows_next}
use Rattle.vt_reach.proofs.reach.rows_from.Goals as goal

pub loop-block-preserved : goal.loop-block-preserved
loop-block-preserved c =
    rows_next c.args.text c.loop-block.block c.args.uses.now c.index-uses-block.result c.loop-block.rows.items c.push.new.self.items c.in_ok-copy_key.field-0 c.in_ok-copy_mentions.field-0 c.loop-block.invariant c.loop-block-test.true c.index-uses-block.is c.in_ok-push.ensures.items c.in_ok-copy_key.ensures (c.in_ok-copy_mentions.ensures ∙ c.as_slice.ensures)

pub returns : goal.returns
returns c =
    rows_last c.args.text c.loop-block.block c.args.uses.now c.loop-block.rows.items c.loop-block.invariant c.loop-block-test.false
