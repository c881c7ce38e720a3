use Rattle.std.proofs.Common.{sym, ap, ◌∙◌}
use Rattle.vt_run.specs.calls.Arguments.{Given, all_args}
use Rattle.vt_given.proofs.GivenLemmas.{all_of_given}
use Rattle.vt_given.proofs.given.Given.all_args.Goals as goal

pub returns : goal.returns
returns c =
    let given = c.self.inside in
    c.as_slice.ensures ∙ sym (all_of_given given.dotted given.args given.options) ∙ ap (λ (given : Given). all_args given) c.self.view_is
