use Rattle.vt_meaning.proofs.FoundThere.{look_ups_find}
use Rattle.vt_meaning.proofs.real_threads.look_ups_find_what_is_there.Goals as goal

pub returns : goal.returns
returns c = look_ups_find
