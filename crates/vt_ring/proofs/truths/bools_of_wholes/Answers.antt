use Rattle.std.proofs.Common.{arith}
use Rattle.vt_ring.specs.Answers.{all_of}
use Rattle.vt_ring.specs.Arguments.{whole_argument}
use Rattle.vt_ring.specs.Building.{bool_of_number, bools_of, bools_without_limit}
use Rattle.std.proofs.Common.{map}
use Rattle.vt_ring.proofs.AnswerLemmas.{gives_all, gives_same, good_map}
use Rattle.vt_ring.proofs.TruthLemmas.{bools_few, bools_many}
use Rattle.vt_ring.proofs.truths.bools_of_wholes.Goals as goal

pub returns-then-args-gt-MAX_ITEMS : goal.returns-then-args-gt-MAX_ITEMS
returns-then-args-gt-MAX_ITEMS c = bools_many c.args.args.now c.requires (omega (arith, c.if-args-gt-MAX_ITEMS.true))

pub returns : goal.returns
returns c =
    let args = c.args.args.now in
    gives_same (bools_of args) (bools_without_limit args) c.truths.result (bools_few args c.requires (omega (arith, c.if-args-gt-MAX_ITEMS.false)))
    (gives_all (bools_without_limit args) c.truths.result (good_map (all_of (map whole_argument args)) (λ numbers. map bool_of_number numbers) c.requires) c.truths.ensures)
