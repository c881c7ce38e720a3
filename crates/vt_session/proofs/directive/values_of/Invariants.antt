use Rattle.std.proofs.Common.{◌≡◌, drop}
use Rattle.vt_session.specs.private.Reading.{bytes_of, values_of}
use Rattle.vt_session.proofs.FormLemmas.{behind_values}
use Rattle.vt_session.proofs.directive.values_of.Given as goal

abbrev pub invariant-loop-word : goal.invariant-loop-word
invariant-loop-word l = behind_values l.values (values_of (bytes_of (drop l.word-index l.words))) ≡ values_of (bytes_of l.words)
