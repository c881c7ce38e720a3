use Rattle.std.proofs.Common.{◌≡◌, ◌∙◌, ◌∷◌, ◌++◌, ◌+◌, [], ℕ, length, sym, ap, arith, option_map}
use Rattle.vt_event.specs.Event.{EventView}
use Rattle.vt_session.specs.private.Reading.{input_event, input_line}
use Rattle.vt_session.specs.private.Standing.{open_of, open_texts, standing_of}
use Rattle.vt_session.proofs.StandingLemmas.{input_late, input_refused, input_taken, taken_bad}
use Rattle.vt_session.proofs.reader.Reader.take_input.Goals as goal

pub returns-then-is_before : goal.returns-then-is_before
returns-then-is_before c = λ before h is.
    taken_bad before (input_line c.args.time c.args.deed) (c.args.self.now.number + 1) c.bad.result (standing_of c.args.self.now) c.bad.ensures
    (input_late before (standing_of c.args.self.now) c.args.time c.args.deed h is (sym c.is_before.ensures ∙ c.if-is_before.true))

pub returns-then-not-may_give : goal.returns-then-not-may_give
returns-then-not-may_give c = λ before h is.
    taken_bad before (input_line c.args.time c.args.deed) (c.args.self.now.number + 1) c.bad-then-not-may_give.result (standing_of c.args.self.now) c.bad-then-not-may_give.ensures
    (input_refused before (standing_of c.args.self.now) c.args.time c.args.deed h (sym c.may_give.ensures ∙ c.if-not-may_give.true))

pub returns : goal.returns
returns c = λ before h is.
    let count : c.len.result ≡ length c.args.self.now.inputs.items = omega (arith, c.len.ensures, c.args.self.now.inputs.ok.0) in
    input_taken before (standing_of c.args.self.now) c.args.time c.args.deed c.push_text.new.texts.items (option_map open_of c.take.new.self) c.push.new.self.items h is (sym c.is_before.ensures ∙ c.if-is_before.false)
    (sym c.may_give.ensures ∙ c.if-not-may_give.false)
    (c.in_ok-push_text.ensures ∙ ap (λ o. c.args.self.now.texts.items ++ open_texts (option_map open_of o) []) c.take.ensures.value)
    (ap (option_map open_of) c.take.ensures.after)
    (c.in_ok-push.ensures.items
    ∙ (ap (λ (e : EventView). c.args.self.now.inputs.items ++ e ∷ []) c.in_ok-input_event.ensures
    ∙ ap (λ (n : ℕ). c.args.self.now.inputs.items ++ input_event (n + 1) c.args.time c.args.deed ∷ []) count))
