use Rattle.vt_meaning.proofs.RealReach.{all_is_within, rendered_is_session}
use Rattle.vt_meaning.proofs.real_threads.rendered_sessions_have_the_laws.Goals as goal

pub returns : goal.returns
returns c = record { session = rendered_is_session c.threads_of_texts_have_the_laws.ensures c.openings_are_orderly.ensures; all = all_is_within c.openings_are_orderly.ensures }
