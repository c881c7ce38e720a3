use Rattle.std.proofs.Common.{◌≡◌, Ok, ap, ◌∙◌}
use Rattle.vt_frac.specs.Arithmetic.{sum_of}
use Rattle.vt_run.specs.Actions.{is_past}
use Rattle.vt_run.proofs.facts.Fitting.{fitted_where_fits}
use Rattle.vt_run.proofs.recorder.reaches.Goals as goal

pub unreachable-requires : goal.unreachable-requires
unreachable-requires c =
    let fit : c.add.result ≡ Ok (sum_of c.args.time c.args.seconds) = c.add.ensures ∙ fitted_where_fits (sum_of c.args.time c.args.seconds) c.requires in
    cc (c.in-Err.is, fit)

pub returns : goal.returns
returns c =
    let fit : c.add.result ≡ Ok (sum_of c.args.time c.args.seconds) = c.add.ensures ∙ fitted_where_fits (sum_of c.args.time c.args.seconds) c.requires in
    let same : c.in-Ok.time ≡ sum_of c.args.time c.args.seconds = cc (c.in-Ok.is, fit) in
    c.is_at_or_past.ensures ∙ ap (is_past c.args.until) same
