use Rattle.std.proofs.Common.{length}
use Rattle.vt_lex.specs.Texts.{body_of}
use Rattle.vt_session.proofs.ValueLemmas.{fits_measured, none_measured, other_measured}
use Rattle.vt_session.proofs.given.is_text.Goals as goal

pub returns-then-text-form : goal.returns-then-text-form
returns-then-text-form c = fits_measured (length c.args.form.now) (body_of 34 c.args.form.now) c.in-Some.text c.in-Some.ensures.lengths c.if-text-form.true

pub returns-else-text-form : goal.returns-else-text-form
returns-else-text-form c = other_measured (length c.args.form.now) (body_of 34 c.args.form.now) c.in-Some.text c.in-Some.ensures.lengths c.if-text-form.false

pub returns-in-None : goal.returns-in-None
returns-in-None c = none_measured (length c.args.form.now) (body_of 34 c.args.form.now) c.in-None.ensures.lengths
