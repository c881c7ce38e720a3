use Rattle.std.proofs.Common.{◌+◌, sym, subst, arith}
use Rattle.vt_reach.specs.private.Lists.{IsList}
use Rattle.vt_reach.proofs.Places.{Fills, fills_next, fills_none}
use Rattle.vt_reach.proofs.ReachLemmas.{lists_filled}
use Rattle.vt_reach.proofs.lists.lists_of.Goals as goal

pub loop-from-init : goal.loop-from-init
loop-from-init c =
    subst (Fills (IsList c.args.graph.now c.args.writings.now) 0) (sym c.new-lists.ensures) (fills_none (IsList c.args.graph.now c.args.writings.now))

pub loop-from-preserved : goal.loop-from-preserved
loop-from-preserved c =
    subst (Fills (IsList c.args.graph.now c.args.writings.now) (c.loop-from.from + 1)) (sym c.in_ok-push.ensures.ok) (fills_next (IsList c.args.graph.now c.args.writings.now) c.loop-from.from c.loop-from.lists c.in_ok-list_of.field-0 c.loop-from.invariant c.in_ok-list_of.ensures)

pub returns : goal.returns
returns c =
    let le = c.loop-from-test.false in let ge = c.loop-from.auto.from-end in lists_filled c.args.graph.now c.args.writings.now c.loop-from.lists c.loop-from.from c.loop-from.invariant (omega (arith, le, ge))
