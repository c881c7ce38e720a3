use Rattle.vt_lex.specs.Texts.{body_of}
use Rattle.vt_session.proofs.WordLemmas.{quoted_measured, quoted_none}
use Rattle.vt_session.proofs.words.quoted_len.Goals as goal

pub returns-in-Some : goal.returns-in-Some
returns-in-Some c = quoted_measured (body_of 34 c.args.rest.now) c.in-Some.text c.in-Some.ensures.lengths

pub returns-in-None : goal.returns-in-None
returns-in-None c = quoted_none (body_of 34 c.args.rest.now) c.in-None.ensures.lengths
