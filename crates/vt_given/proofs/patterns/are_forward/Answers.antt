use Rattle.std.proofs.Common.{◌≡◌, Some, length, map, sym, ap, subst, true, ◌∙◌, arith}
use Rattle.std.specs.Prelude.{not}
use Rattle.std.specs.List.{list_all}
use Rattle.std.proofs.lemmas.Bool.{eqb-false, eqb-true}
use Rattle.vt_frac.specs.Fraction.{Fraction}
use Rattle.vt_ring.specs.Exact.{is_negative}
use Rattle.vt_ring.specs.Items.{indices}
use Rattle.vt_given.specs.private.Rounds.{beats_at, not_below}
use Rattle.vt_given.proofs.PatternLemmas.{empty_is, forward_all, forward_empty, forward_fails, forward_more, some_is}
use Rattle.vt_given.proofs.patterns.are_forward.Goals as goal

pub returns-then-is_empty : goal.returns-then-is_empty
returns-then-is_empty c =
    let times = c.args.times.now in
    forward_empty times c.args.n (empty_is times (eqb-true (length times) 0 (sym c.is_empty.ensures ∙ c.if-is_empty.true)))

pub returns-then-is_negative : goal.returns-then-is_negative
returns-then-is_negative c =
    let times = c.args.times.now in
    let below = ap (λ (f : Fraction). is_negative f) (sym c.beats_at.ensures) ∙ sym c.is_negative.ensures ∙ c.if-is_negative.true in
    sym (forward_all times c.args.n (some_is times (eqb-false (length times) 0 (sym c.is_empty.ensures ∙ c.if-is_empty.false)))
    ∙ forward_fails times c.loop-i.i c.args.n c.loop-i-test.true (ap not below))

pub loop-i-preserved : goal.loop-i-preserved
loop-i-preserved c =
    let above = ap (λ (f : Fraction). is_negative f) (sym c.beats_at.ensures) ∙ sym c.is_negative.ensures ∙ c.if-is_negative.false in
    forward_more c.args.times.now c.loop-i.i c.loop-i.invariant (ap not above)

pub returns : goal.returns
returns c =
    let times = c.args.times.now in
    sym (forward_all times c.args.n (some_is times (eqb-false (length times) 0 (sym c.is_empty.ensures ∙ c.if-is_empty.false)))
    ∙ subst (λ i. list_all not_below (map (beats_at (Some times)) (indices i)) ≡ true) (omega (arith, c.loop-i-test.false, c.loop-i.auto.i-end)) c.loop-i.invariant)
