use Rattle.std.proofs.Common.{◌∙◌, ap, is_lt}
use Rattle.vt_session.proofs.reader.is_before.Goals as goal

pub returns : goal.returns
returns c = c.is_lt.ensures ∙ ap is_lt c.cmp.ensures.order
