use Rattle.std.proofs.Common.{refl, subst}
use Rattle.vt_session.specs.declared.directive.Directive.{Directive}
use Rattle.vt_session.specs.Directives.{AtLine, HasForm}
use Rattle.vt_session.specs.private.Reading.{input_line, line_of}
use Rattle.vt_session.proofs.TimeLemmas.{form_time, input_time}
use Rattle.vt_session.proofs.reader.Reader.take_directive.Goals as goal

pub returns-in-At : goal.returns-in-At
returns-in-At c = λ before line h f.
    let form : HasForm (AtLine c.in-At.time) line = subst (λ (d : Directive). HasForm (line_of d) line) c.in-At.is f in
    rw c.in-At.is (c.take_at.ensures before h (form_time (AtLine c.in-At.time) line c.in-At.time form refl))

pub returns-in-Input : goal.returns-in-Input
returns-in-Input c = λ before line h f.
    let form : HasForm (input_line c.in-Input.time c.in-Input.deed) line = subst (λ (d : Directive). HasForm (line_of d) line) c.in-Input.is f in
    rw c.in-Input.is (c.take_input.ensures before h (form_time (input_line c.in-Input.time c.in-Input.deed) line c.in-Input.time form (input_time c.in-Input.time c.in-Input.deed)))
