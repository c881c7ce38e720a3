use Rattle.std.proofs.Common.{◌+◌, ◌/◌, ◌++◌, ◌∙◌, sym}
use Rattle.vt_lock.proofs.NumberLemmas.{half_fits, numbers_in_two}
use Rattle.tests_threads.proofs.Seats.{with_its_own_log}
use Rattle.tests_threads.proofs.lock.unite.Goals as goal

pub returns : goal.returns
returns c =
    let numbers = (λ i. c.requires.first i ++ c.requires.second i) ∙ sym (numbers_in_two c.args.first c.args.span ((c.args.span + 1) / 2) (half_fits c.args.span)) in
    with_its_own_log c.join.result c.args.a _ _ _ c.join.ensures.seat numbers
