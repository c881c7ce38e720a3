use Rattle.std.proofs.Common.{◌≡◌, map, take}
use Rattle.std.specs.List.{flat_map}
use Rattle.vt_reach.specs.Mentions.{names_by}
use Rattle.vt_reach.specs.private.Given.{labelled_argument}
use Rattle.vt_reach.proofs.calls.names_threads.Given as goal

abbrev pub invariant-loop-option : goal.invariant-loop-option
invariant-loop-option l = l.mentions ≡ flat_map names_by (map labelled_argument (take l.option-index l.options))
