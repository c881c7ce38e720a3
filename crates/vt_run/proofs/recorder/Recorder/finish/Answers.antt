use Rattle.std.proofs.Common.{ap}
use Rattle.vt_run.specs.Notes.{Notes, finished}
use Rattle.vt_run.proofs.notes.Leads.{leads_halt}
use Rattle.vt_run.proofs.recorder.Recorder.finish.Goals as goal

pub returns-clause-leads : goal.returns-clause-leads
returns-clause-leads c = leads_halt _ _ (ap (λ (notes : Notes). finished notes) c.self.view_is)
