use Rattle.std.proofs.Common.{◌≡◌, drop}
use Rattle.std.specs.List.{list_all}
use Rattle.vt_cli.specs.Commands.{is_gen_option}
use Rattle.vt_cli.specs.private.Pairs.{written}
use Rattle.vt_cli.proofs.gen_words.are_gen_options.Given as goal

abbrev pub invariant-loop-option : goal.invariant-loop-option
invariant-loop-option l = list_all (λ option. is_gen_option option.0) (written (drop l.option-index l.options)) ≡ list_all (λ option. is_gen_option option.0) (written l.options)
