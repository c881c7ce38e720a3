use Rattle.std.proofs.Common.{◌-◌, arith}
use Rattle.std.proofs.lemmas.Int.{ints}
use Rattle.vt_ring.proofs.TurnLemmas.{moved_fit, moved_over}
use Rattle.vt_ring.proofs.turning.first_fault.Goals as goal

pub returns-then-last-from : goal.returns-then-last-from
returns-then-last-from c = moved_over c.args.count c.args.n (c.args.count - 1) (omega (arith, c.if-count-eq0.false)) (omega (arith, ints, c.if-last-from.true, c.from.ensures, c.from-2.ensures, c.if-count-eq0.false))

pub returns : goal.returns
returns c = moved_fit c.args.count c.args.n (omega (arith, ints, c.if-n-eqminus9223372036854775808.false)) (λ i h. omega (arith, ints, c.if-last-from.false, c.from.ensures, c.from-2.ensures, c.if-n-eqminus9223372036854775808.false))
