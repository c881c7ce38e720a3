use Rattle.std.proofs.Common.{◌∙◌, ◌+◌, ◌++◌, [], Some, sym, ap, option_map}
use Rattle.vt_session.specs.Directives.{AtLine}
use Rattle.vt_session.specs.private.Standing.{OpenView, open_of, open_texts, standing_of}
use Rattle.vt_session.proofs.StandingLemmas.{at_refused, at_taken, taken_bad}
use Rattle.vt_session.proofs.reader.Reader.take_at.Goals as goal

pub returns : goal.returns
returns c = λ before h is.
    at_taken before (standing_of c.args.self.now) c.args.time c.push_text.new.texts.items (Some (open_of c.open_at.result)) h is (sym c.is_before.ensures ∙ c.if-is_before.false)
    (c.in_ok-push_text.ensures ∙ ap (λ o. c.args.self.now.texts.items ++ open_texts (option_map open_of o) []) c.take.ensures.value)
    (ap (λ (v : OpenView). Some v) c.open_at.ensures)

pub returns-then-is_before : goal.returns-then-is_before
returns-then-is_before c = λ before h is.
    taken_bad before (AtLine c.args.time) (c.args.self.now.number + 1) c.bad.result (standing_of c.args.self.now) c.bad.ensures (at_refused before (standing_of c.args.self.now) c.args.time h is (sym c.is_before.ensures ∙ c.if-is_before.true))
