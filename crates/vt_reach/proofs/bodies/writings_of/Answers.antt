use Rattle.std.proofs.Common.{◌≡◌, ◌+◌, Some, sym, subst, arith}
use Rattle.std.specs.Prelude.{slice_get}
use Rattle.vt_reach.specs.declared.found.Row.{Row}
use Rattle.vt_reach.specs.private.Bodies.{AreWritings}
use Rattle.vt_reach.proofs.Places.{Fills, at_item, fills_next, fills_none}
use Rattle.vt_reach.proofs.ReachLemmas.{writings_here, writings_filled}
use Rattle.vt_reach.proofs.bodies.writings_of.Goals as goal

pub loop-row-init : goal.loop-row-init
loop-row-init c =
    subst (Fills (λ at list. (block : Row) → slice_get c.args.rows.now at ≡ Some block → AreWritings block.mentions list) 0) (sym c.new-all.ensures) (fills_none (λ at list. (block : Row) → slice_get c.args.rows.now at ≡ Some block → AreWritings block.mentions list))

pub loop-row-preserved : goal.loop-row-preserved
loop-row-preserved c =
    subst (Fills (λ at list. (block : Row) → slice_get c.args.rows.now at ≡ Some block → AreWritings block.mentions list) (c.loop-row.row-index + 1)) (sym c.in_ok-push.ensures.ok)
    (fills_next (λ at list. (block : Row) → slice_get c.args.rows.now at ≡ Some block → AreWritings block.mentions list) c.loop-row.row-index c.loop-row.all c.in_ok-writings_in.field-0 c.loop-row.invariant
    (writings_here c.args.rows.now c.loop-row.row-index c.row-item.result c.in_ok-writings_in.field-0 (at_item c.args.rows.now c.loop-row.row-index c.row-item.result c.loop-row-test.true c.row-item.is) (subst (λ ms. AreWritings ms c.in_ok-writings_in.field-0) c.as_slice.ensures c.in_ok-writings_in.ensures)))

pub returns : goal.returns
returns c =
    let le = c.loop-row-test.false in let ge = c.loop-row.auto.row-index-end in writings_filled c.args.rows.now c.loop-row.row-index c.loop-row.all c.loop-row.invariant (omega (arith, le, ge))
