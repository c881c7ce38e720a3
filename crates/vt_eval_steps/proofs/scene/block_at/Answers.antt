use Rattle.std.proofs.Common.{ap, ◌∙◌}
use Rattle.vt_run.specs.Threads.{block_of}
use Rattle.vt_eval_steps.proofs.Blocks.{fits_where}
use Rattle.vt_eval_steps.proofs.scene.block_at.Goals as goal

pub returns-clause-fit : goal.returns-clause-fit
returns-clause-fit c =
    fits_where c.args.texts.now c.args.block c.block_among.result c.as_slice.ensures.checked (c.block_among.ensures ∙ ap (λ texts. block_of texts c.args.block) c.as_slice.ensures.value)
