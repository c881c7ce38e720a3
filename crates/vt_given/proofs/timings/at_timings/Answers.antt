use Rattle.std.proofs.Common.{◌≡◌, Err, sym, subst}
use Rattle.std.specs.Prelude.{IfErr}
use Rattle.std.specs.Option.{option_copied}
use Rattle.vt_given.proofs.RoundLemmas.{timings_are}
use Rattle.vt_given.proofs.timings.at_timings.Goals as goal

pub returns-clause-err : goal.returns-clause-err
returns-clause-err c =
    let is = timings_are c.args.given.now c.args.state.now c.all_args.result.now c.each_of.result.now c.in_ok-times.times.now (option_copied c.in_ok-times.ring) c.all_args.ensures c.in_ok-times.ensures.ok c.each_of.ensures in
    subst (λ answer. IfErr c.timings_by.result (λ kind. answer ≡ Err kind)) (sym is) c.timings_by.ensures.err
