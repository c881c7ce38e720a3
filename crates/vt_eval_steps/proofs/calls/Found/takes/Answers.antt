use Rattle.std.proofs.Common.{◌∙◌}
use Rattle.vt_eval_steps.proofs.Blocks.{takes_as_many, takes_others}
use Rattle.vt_eval_steps.proofs.calls.Found.takes.Goals as goal

pub returns-then-all_args-len : goal.returns-then-all_args-len
returns-then-all_args-len c = λ scene n.
    takes_as_many scene c.args.self.now n c.args.given.now c.all_args.result.now c.len.result c.as_slice.result.now c.is_empty.result c.all_args.ensures c.len.ensures c.if-all_args-len.true (c.as_slice.ensures ∙ c.options.ensures) c.is_empty.ensures

pub returns-else-all_args-len : goal.returns-else-all_args-len
returns-else-all_args-len c = λ scene n.
    takes_others scene c.args.self.now n c.args.given.now c.all_args.result.now c.len.result c.all_args.ensures c.len.ensures c.if-all_args-len.false
