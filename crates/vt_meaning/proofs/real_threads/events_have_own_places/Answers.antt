use Rattle.vt_meaning.proofs.FoundThere.{events_have_own_places}
use Rattle.vt_meaning.proofs.real_threads.events_have_own_places.Goals as goal

pub returns : goal.returns
returns c = events_have_own_places
