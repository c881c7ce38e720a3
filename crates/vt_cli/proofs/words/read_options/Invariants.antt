use Rattle.std.proofs.Common.{◌≡◌, length, map, string_bytes}
use Rattle.vt_cli.specs.Options.{options_of}
use Rattle.vt_cli.specs.private.Pairs.{written}
use Rattle.vt_cli.proofs.CommandLemmas.{behind}
use Rattle.vt_cli.proofs.words.read_options.Given as goal

abbrev pub invariant-options : goal.invariant-options
invariant-options l = options_of (map string_bytes l.words) ≡ behind (written l.options.items) (options_of (map string_bytes l.left))

abbrev pub decreases-options : goal.decreases-options
decreases-options l = length l.left
