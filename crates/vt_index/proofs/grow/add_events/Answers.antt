use Rattle.std.proofs.Common.{◌≡◌, ℕ, length, subst, arith}
use Rattle.vt_index.specs.private.Rows.{AreRows}
use Rattle.vt_index.proofs.grow.add_events.Goals as goal

pub returns-clause-ok : goal.returns-clause-ok
returns-clause-ok c =
    let all : c.loop-position.position ≡ length c.args.events.now = omega (arith, c.loop-position-test.false, c.loop-position.invariant.most) in
    subst (λ (n : ℕ). AreRows c.args.events.now n c.loop-position.rows.entries) all c.loop-position.invariant.rows
