use Rattle.std.proofs.Common.{get_or, arith, subst, sym}
use Rattle.std.specs.Bool.{MatchBool}
use Rattle.std.proofs.lemmas.Option.{slice_get-get_or}
use Rattle.vt_reach.specs.private.Order.{StandsAt}
use Rattle.vt_reach.proofs.Places.{at_contains, none_last, none_next}
use Rattle.vt_reach.proofs.ReachLemmas.{begins_first, begins_nowhere, match_false, match_true}
use Rattle.vt_reach.proofs.reach.start_of.Goals as goal

pub loop-start-init : goal.loop-start-init
loop-start-init c =
    λ k x lt. absurd (omega (arith, lt))

pub returns-then-is_of_text : goal.returns-then-is_of_text
returns-then-is_of_text c =
    begins_first c.args.rows.now c.args.starts.now c.args.text (get_or c.args.starts.now c.loop-start.start-index 0) c.requires (at_contains c.args.starts.now c.loop-start.start-index (get_or c.args.starts.now c.loop-start.start-index 0) (slice_get-get_or c.args.starts.now c.loop-start.start-index 0 c.loop-start-test.true)) (match_true (StandsAt c.args.rows.now c.args.text (get_or c.args.starts.now c.loop-start.start-index 0)) c.is_of_text.result c.is_of_text.ensures c.if-is_of_text.true)

pub loop-start-preserved : goal.loop-start-preserved
loop-start-preserved c =
    none_next (StandsAt c.args.rows.now c.args.text) c.args.starts.now c.loop-start.start-index (get_or c.args.starts.now c.loop-start.start-index 0) c.loop-start.invariant (slice_get-get_or c.args.starts.now c.loop-start.start-index 0 c.loop-start-test.true) (match_false (StandsAt c.args.rows.now c.args.text (get_or c.args.starts.now c.loop-start.start-index 0)) c.is_of_text.result c.is_of_text.ensures c.if-is_of_text.false)

pub returns : goal.returns
returns c =
    begins_nowhere c.args.rows.now c.args.starts.now c.args.text c.requires (none_last (StandsAt c.args.rows.now c.args.text) c.args.starts.now c.loop-start.start-index c.loop-start.invariant c.loop-start-test.false)
