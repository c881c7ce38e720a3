use Rattle.std.proofs.Common.{◌∙◌}
use Rattle.vt_session.specs.private.Standing.{standing_of}
use Rattle.vt_session.proofs.SoundLemmas.{whole_sound}
use Rattle.vt_session.proofs.StandingLemmas.{finished}
use Rattle.vt_session.proofs.reader.Reader.finish.Goals as goal

pub of-requires : goal.of-requires
of-requires c = whole_sound (standing_of c.args.self) c.requires c.from_vec.result c.from_vec-2.result (c.from_vec.ensures ∙ c.in_ok-push_text.ensures) c.from_vec-2.ensures

pub returns-clause-ok : goal.returns-clause-ok
returns-clause-ok c = λ what h. c.of.ensures ∙ finished what (standing_of c.args.self) c.from_vec.result c.from_vec-2.result h (c.from_vec.ensures ∙ c.in_ok-push_text.ensures) c.from_vec-2.ensures
