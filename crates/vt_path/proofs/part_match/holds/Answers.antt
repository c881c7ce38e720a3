use Rattle.std.proofs.Common.{◌≡◌, arith, refl, true, false, sym}
use Rattle.vt_path.proofs.HoldsLemmas.{span_here, span_on, single_here, single_on, holds_end}
use Rattle.vt_path.proofs.part_match.holds.Goals as goal
use Rattle.vt_path.proofs.part_match.holds.Goals.{else-held-i-via-then-held-i+else-byte-held, else-held-i-via-else-held-i, else-i-held-via-then-i-held+else-held-i-eq45, else-i-held-via-else-i-held}

pub returns-then-byte-held : goal.returns-then-byte-held
returns-then-byte-held c =
    (λ _. span_here c.args.held.now c.loop-i.i c.args.byte c.loop-i.invariant c.if-i-held.true c.if-held-i-eq45.true c.if-held-i.true c.if-byte-held.true, λ _. refl)

pub loop-i-preserved-then-held-i-eq45 : goal.loop-i-preserved-then-held-i-eq45
loop-i-preserved-then-held-i-eq45 c =
    span_on c.args.held.now c.loop-i.i c.args.byte c.loop-i.invariant c.if-i-held.true c.if-held-i-eq45.true
    (λ low high. elim c.else-held-i.branch [
      | else-held-i-via-then-held-i+else-byte-held w ↦ omega arith
      | else-held-i-via-else-held-i w ↦ omega arith
    ])

pub returns-then-held-i-2 : goal.returns-then-held-i-2
returns-then-held-i-2 c = (
  λ _. single_here c.args.held.now c.loop-i.i c.args.byte c.loop-i.invariant c.loop-i-test.true
      (λ less dash. elim c.else-i-held.branch [
        | else-i-held-via-then-i-held+else-held-i-eq45 w ↦ w.if-held-i-eq45.false dash
        | else-i-held-via-else-i-held w ↦ omega arith
      ])
      (sym c.if-held-i-2.true),
  λ _. refl,
)

pub loop-i-preserved : goal.loop-i-preserved
loop-i-preserved c =
    single_on c.args.held.now c.loop-i.i c.args.byte c.loop-i.invariant c.loop-i-test.true
    (λ less dash. elim c.else-i-held.branch [
      | else-i-held-via-then-i-held+else-held-i-eq45 w ↦ w.if-held-i-eq45.false dash
      | else-i-held-via-else-i-held w ↦ omega arith
    ])
    (λ e. c.if-held-i-2.false (sym e))

pub returns : goal.returns
returns c = (λ e. absurd (let z : false ≡ true = e in cc), λ h. absurd (holds_end c.args.held.now c.loop-i.i c.args.byte c.loop-i.invariant c.loop-i-test.false h))
