use Rattle.std.proofs.Common.{◌≡◌, drop}
use Rattle.vt_lex.specs.Lexicon.{first_start}
use Rattle.vt_lex.specs.private.Spelled.{spelled}
use Rattle.vt_lex.proofs.lexicon.first_start.Given as goal

abbrev pub invariant-loop-form : goal.invariant-loop-form
invariant-loop-form l = first_start (spelled (drop l.form-index l.forms)) l.bytes ≡ first_start (spelled l.forms) l.bytes
