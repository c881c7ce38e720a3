use Rattle.vt_path.specs.Pattern.{IsPatternText}
use Rattle.vt_check.proofs.PathLemmas.{rest_all, rest_next, rest_found, rest_none}
use Rattle.vt_check.proofs.paths.has_refused_option.Goals as goal

pub loop-option-init : goal.loop-option-init
loop-option-init c = rest_all IsPatternText c.args.label.now c.args.options.now

pub loop-option-preserved : goal.loop-option-preserved
loop-option-preserved c =
    rest_next IsPatternText c.args.label.now c.args.options.now c.loop-option.option-index c.option-item.result c.in_ok-is_refused_option.field-0 c.loop-option.invariant c.loop-option-test.true c.option-item.is c.if-branch.false c.in_ok-is_refused_option.ensures

pub returns-then-branch : goal.returns-then-branch
returns-then-branch c =
    rest_found IsPatternText c.args.label.now c.args.options.now c.loop-option.option-index c.option-item.result c.in_ok-is_refused_option.field-0 c.loop-option.invariant c.loop-option-test.true c.option-item.is c.if-branch.true c.in_ok-is_refused_option.ensures

pub returns : goal.returns
returns c = rest_none IsPatternText c.args.label.now c.args.options.now c.loop-option.option-index c.loop-option.invariant c.loop-option-test.false
