use Rattle.std.proofs.Common.{refl}
use Rattle.vt_session.proofs.StandingLemmas.{opened, start_holds}
use Rattle.vt_session.proofs.TimeLemmas.{zero_time}
use Rattle.vt_session.proofs.reader.Reader.new.Goals as goal

pub returns : goal.returns
returns c = start_holds _ refl refl c.zero.ensures c.new.ensures.items (opened c.zero-2.result c.new-2.result.items c.zero-2.ensures c.new-2.ensures.items) c.new-3.ensures.items zero_time
