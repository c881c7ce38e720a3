use Rattle.vt_path.specs.Pattern.{IsPatternText}
use Rattle.vt_check.proofs.PathLemmas.{Rest}
use Rattle.vt_check.proofs.paths.has_refused_option.Given as goal

abbrev pub invariant-loop-option : goal.invariant-loop-option
invariant-loop-option l = Rest IsPatternText l.label l.options l.option-index
