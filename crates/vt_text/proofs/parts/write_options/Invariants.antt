use Rattle.std.proofs.Common.{◌≡◌, ◌++◌, take}
use Rattle.vt_text.specs.ScoreText.{options_text}
use Rattle.vt_text.proofs.parts.write_options.Given as goal

abbrev pub invariant-loop-option : goal.invariant-loop-option
invariant-loop-option l = l.out.items ≡ l.initial.out.items ++ options_text (take l.option-index l.options)
