use Rattle.std.proofs.Common.{◌+◌, sym, subst}
use Rattle.vt_reach.specs.private.Bodies.{RunsAt}
use Rattle.vt_reach.proofs.Places.{Picks, at_item, picks_next, picks_none}
use Rattle.vt_reach.proofs.ReachLemmas.{are_bodies, runs_at}
use Rattle.vt_reach.proofs.bodies.bodies_of.Goals as goal

pub loop-at-init : goal.loop-at-init
loop-at-init c =
    subst (Picks (RunsAt c.args.rows.now c.args.mentions.now) 0) (sym c.new-bodies.ensures) (picks_none (RunsAt c.args.rows.now c.args.mentions.now))

pub loop-at-preserved : goal.loop-at-preserved
loop-at-preserved c =
    subst (Picks (RunsAt c.args.rows.now c.args.mentions.now) (c.loop-at.at + 1)) (sym c.in_ok-push_if.ensures)
    (picks_next (RunsAt c.args.rows.now c.args.mentions.now) c.loop-at.at c.loop-at.bodies c.runs_body.result c.loop-at.invariant
    (runs_at c.args.rows.now c.args.mentions.now c.loop-at.at c.index-rows-at.result c.runs_body.result (at_item c.args.rows.now c.loop-at.at c.index-rows-at.result c.loop-at-test.true c.index-rows-at.is) c.runs_body.ensures))

pub returns : goal.returns
returns c =
    are_bodies c.args.rows.now c.args.mentions.now c.loop-at.at c.loop-at.bodies c.loop-at.invariant c.loop-at-test.false
