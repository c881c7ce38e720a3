use Rattle.std.proofs.Common.{◌+◌, sym, arith}
use Rattle.vt_reach.specs.private.Order.{IsBlockAt}
use Rattle.vt_reach.proofs.ReachLemmas.{block_row, meets_nothing, no_block_row, past_block}
use Rattle.vt_reach.proofs.reach.is_block.Goals as goal

pub returns-then-block-rows : goal.returns-then-block-rows
returns-then-block-rows c =
    let le = c.if-block-rows.true in let within = c.requires in meets_nothing (IsBlockAt c.args.rows.now c.args.text c.args.block (c.args.start + c.args.block)) (past_block c.args.rows.now c.args.text c.args.block c.args.start (omega (arith, le, within)))

pub returns-in-None : goal.returns-in-None
returns-in-None c =
    meets_nothing (IsBlockAt c.args.rows.now c.args.text c.args.block (c.args.start + c.args.block)) (no_block_row c.args.rows.now c.args.text c.args.block (c.args.start + c.args.block) (sym c.in-None.ensures))

pub returns-in-Some : goal.returns-in-Some
returns-in-Some c =
    block_row c.args.rows.now c.args.text c.args.block (c.args.start + c.args.block) c.in-Some.row.now c.is_numbered.result (sym c.in-Some.ensures) c.is_numbered.ensures
