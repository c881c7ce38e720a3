use Rattle.std.proofs.Common.{arith, ap, ◌∷◌, [], ◌<◌, length}
use Rattle.vt_value.specs.private.Weights.{weight_of, weights_of}
use Rattle.vt_value.proofs.Layers.{weight-Ring, weights-append, weights-first}
use Rattle.vt_value.proofs.value.exchange.Goals as goal

pub returns-then-is_empty-clause-no_more : goal.returns-then-is_empty-clause-no_more
returns-then-is_empty-clause-no_more c =
    let parts = rw c.unwrap.ensures at c.pop.ensures.items in
    omega (arith, ap weights_of parts, weights-append c.pop.new.self.items (c.unwrap.result ∷ []))

pub returns-then-is_empty-clause-part : goal.returns-then-is_empty-clause-part
returns-then-is_empty-clause-part c =
    let parts = rw c.unwrap.ensures at c.pop.ensures.items in
    omega (arith, ap weights_of parts, weights-append c.pop.new.self.items (c.unwrap.result ∷ []))

pub returns-clause-no_more : goal.returns-clause-no_more
returns-clause-no_more c =
    let some : 0 < length c.args.inner.now.items = omega (arith, c.requires, c.args.inner.now.ok.0) in
    omega (arith, weights-first c.args.inner.now.items c.replace.new.dest c.index_mut.result.now some c.index_mut.ensures.value, ap weight_of c.replace.ensures.value, ap weight_of c.replace.ensures.after, weight-Ring c.put_by.result, ap weights_of c.put_by.ensures)
