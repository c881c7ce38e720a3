use Rattle.std.proofs.Common.{sym}
use Rattle.vt_eval_steps.proofs.Blocks.{no_block_found, none_found}
use Rattle.vt_eval_steps.proofs.scene.Scene.found.Goals as goal

pub returns-in_err-block_at-clause-found : goal.returns-in_err-block_at-clause-found
returns-in_err-block_at-clause-found c =
    none_found c.args.self.now c.args.answer.now c.from_residual-in_err-block_at.result c.from_residual-in_err-block_at.ensures (λ n.
    no_block_found c.args.self.now n c.args.answer.now c.in-Found.event c.in_ok-block.field-0.now.0 c.in_ok-block.field-0.now.1 c.in-Found.is (sym c.in_ok-block.ensures.value) (sym c.in_err-block_at.ensures.block))
