use Rattle.vt_value.specs.private.Weights.{weights_of}
use Rattle.vt_value.proofs.value.drop_items.Given as goal

abbrev pub decreases-loop-value : goal.decreases-loop-value
decreases-loop-value l = weights_of l.items.items
