use Rattle.std.proofs.Common.{◌≡◌, None, Some, cond, ◌∙◌, ap, sym}
use Rattle.std.specs.Prelude.{nat_le}
use Rattle.vt_run.specs.Evaluation.{Spot}
use Rattle.vt_eval_steps.specs.Scenes.{inside_of}
use Rattle.vt_eval_steps.proofs.Parts.{inside_some}
use Rattle.vt_eval_steps.proofs.spot.Spot.inside.Goals as goal

pub returns-in-Some : goal.returns-in-Some
returns-in-Some c =
    let at : Spot = record { depth = c.self.inside.depth; line = c.self.inside.line } in
    c.within.ensures ∙ ap (λ d. cond (nat_le d 256) (Some (record at { depth = d })) None) c.in-Some.ensures.1 ∙ inside_some c.args.pairs at c.if-pairs-eq0.false ∙ ap (λ s. inside_of c.args.pairs s) c.self.view_is
