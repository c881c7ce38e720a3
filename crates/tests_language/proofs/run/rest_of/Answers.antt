use Rattle.std.proofs.Common.{sym, ◌∙◌}
use Rattle.vt_run.proofs.facts.Fitting.{fits_where_fitted}
use Rattle.tests_language.proofs.run.rest_of.Goals as goal

pub returns-in-Ok : goal.returns-in-Ok
returns-in-Ok c = fits_where_fitted _ _ (sym c.add.ensures ∙ c.in-Ok.is)
