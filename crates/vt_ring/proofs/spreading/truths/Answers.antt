use Rattle.std.proofs.Common.{◌++◌, ◌∷◌, [], sym, ap, ◌∙◌, arith}
use Rattle.std.proofs.lemmas.List.FromFn.{map-range_with_len_more}
use Rattle.vt_ring.specs.Building.{spread_value}
use Rattle.vt_ring.proofs.spreading.truths.Goals as goal

pub loop-i-preserved : goal.loop-i-preserved
loop-i-preserved c =
    c.in_ok-push.ensures.ok
    ∙ ap (λ items. items ++ spread_value c.args.beats c.args.places c.loop-i.i ∷ []) c.loop-i.invariant
    ∙ sym (map-range_with_len_more (spread_value c.args.beats c.args.places) 0 c.loop-i.i c.loop-i.i (omega arith))
