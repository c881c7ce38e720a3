use Rattle.std.proofs.Common.{◌≡◌, take}
use Rattle.vt_eval_steps.proofs.turns.ring_of.Given as goal

abbrev pub invariant-loop-item : goal.invariant-loop-item
invariant-loop-item l = l.copies ≡ take l.item-index l.items
