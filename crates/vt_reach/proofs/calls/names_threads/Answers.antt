use Rattle.vt_reach.proofs.TreeFounds.{threads_last, threads_next}
use Rattle.vt_reach.proofs.calls.names_threads.Goals as goal

pub loop-option-preserved : goal.loop-option-preserved
loop-option-preserved c =
    threads_next c.args.options.now c.loop-option.option-index c.option-item.result c.loop-option.mentions c.in_ok-names_by.field-0 c.append.new.self c.loop-option.invariant c.loop-option-test.true c.option-item.is c.in_ok-names_by.ensures c.in_ok-append.ensures

pub returns : goal.returns
returns c =
    threads_last c.args.options.now c.loop-option.option-index c.loop-option.mentions c.loop-option.invariant c.loop-option-test.false
