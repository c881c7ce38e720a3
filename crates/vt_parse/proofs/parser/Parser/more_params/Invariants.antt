use Rattle.std.proofs.Common.{◌++◌, length}
use Rattle.vt_grammar.specs.Grammar.{names_of, next_param}
use Rattle.vt_parse.proofs.Gathering.{Gathers}
use Rattle.vt_parse.proofs.parser.Parser.more_params.Given as goal

abbrev pub invariant-more : goal.invariant-more
invariant-more l = Gathers (λ vs. l.initial.all ++ names_of vs) next_param l.initial.self l.self l.all

abbrev pub decreases-more : goal.decreases-more
decreases-more l = length l.self
