use Rattle.std.proofs.Common.{◌≡◌, Ok, ◌∙◌}
use Rattle.vt_frac.specs.Arithmetic.{sum_of}
use Rattle.vt_run.proofs.facts.Fitting.{fitted_where_fits}
use Rattle.vt_eval_steps.proofs.resting.time_after.Goals as goal

pub unreachable-requires : goal.unreachable-requires
unreachable-requires c =
    let fit : c.add.result ≡ Ok (sum_of c.args.time c.args.seconds) = c.add.ensures ∙ fitted_where_fits (sum_of c.args.time c.args.seconds) c.requires in
    cc (c.in-Err.is, fit)

pub returns : goal.returns
returns c =
    let fit : c.add.result ≡ Ok (sum_of c.args.time c.args.seconds) = c.add.ensures ∙ fitted_where_fits (sum_of c.args.time c.args.seconds) c.requires in
    cc (c.in-Ok.is, fit)
