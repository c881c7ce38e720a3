use Rattle.std.proofs.Common.{◌∙◌, sym, option_map}
use Rattle.vt_session.specs.private.Standing.{open_of, standing_of}
use Rattle.vt_session.proofs.StandingLemmas.{plain_taken}
use Rattle.vt_session.proofs.reader.Reader.take_plain.Goals as goal

pub returns : goal.returns
returns c = λ before h. plain_taken before (standing_of c.args.self.now) c.args.line.now (option_map open_of c.add_line.new.open_text) h (sym c.may_add.ensures ∙ c.if-not-may_add.false) c.in_ok-add_line.ensures
