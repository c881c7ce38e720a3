use Rattle.std.proofs.Common.{length}
use Rattle.vt_cli.proofs.CheckLemmas.{Told}
use Rattle.vt_cli.proofs.check.check_texts.Given as goal

abbrev pub invariant-texts : goal.invariant-texts
invariant-texts l = Told l.parts l.initial.text.items l.text.items l.number l.all_good l.left

abbrev pub decreases-texts : goal.decreases-texts
decreases-texts l = length l.left
