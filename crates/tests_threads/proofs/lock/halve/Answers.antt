use Rattle.std.proofs.Common.{ap, ◌∙◌, length, take, drop, arith}
use Rattle.vt_lock.specs.Numbers.{half_of}
use Rattle.vt_lock.proofs.NumberLemmas.{halves, length_of_numbers}
use Rattle.tests_threads.proofs.lock.halve.Goals as goal

pub split-requires-clause-two : goal.split-requires-clause-two
split-requires-clause-two c κs = let long = ap length c.requires.numbers ∙ length_of_numbers c.args.first c.args.span in let two = c.requires.two in omega (arith, long, two)

pub returns-clause-first : goal.returns-clause-first
returns-clause-first c = c.in-Ok.ensures.first ∙ ap (λ ns. record c.args.seat { numbers = ns }) (ap (λ ns. take (half_of ns) ns) c.requires.numbers ∙ (halves c.args.first c.args.span).0)

pub returns-clause-second : goal.returns-clause-second
returns-clause-second c = c.in-Ok.ensures.second ∙ ap (λ ns. record c.args.seat { numbers = ns }) (ap (λ ns. drop (half_of ns) ns) c.requires.numbers ∙ (halves c.args.first c.args.span).1)
