use Rattle.std.proofs.Common.{◌∙◌, refl, sym}
use Rattle.vt_session.specs.Directives.{HasForm, PlainLine}
use Rattle.vt_session.specs.private.Reading.{line_of}
use Rattle.vt_session.proofs.StandingLemmas.{line_read}
use Rattle.vt_session.proofs.reader.Reader.read_line.Goals as goal

pub returns-then-not-begins_percent : goal.returns-then-not-begins_percent
returns-then-not-begins_percent c = λ before h.
    line_read before c.args.line.now (PlainLine c.args.line.now) c.take_plain.result _ (record { same = refl; plain = sym c.begins_percent.ensures ∙ c.if-not-begins_percent.true }) (c.take_plain.ensures before h)

pub returns-in-Some : goal.returns-in-Some
returns-in-Some c = λ before h.
    let form : HasForm (line_of c.in-Some.directive) c.args.line.now = rw c.in-Some.is at c.in_ok-directive.ensures in
    line_read before c.args.line.now (line_of c.in-Some.directive) c.take_directive.result _ form (c.take_directive.ensures before c.args.line.now h form)
