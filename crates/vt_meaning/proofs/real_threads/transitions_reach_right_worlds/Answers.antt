use Rattle.vt_meaning.proofs.ReachedWorlds.{reached_worlds_are_right}
use Rattle.vt_meaning.proofs.real_threads.transitions_reach_right_worlds.Goals as goal

pub returns : goal.returns
returns c =
    reached_worlds_are_right c.rendered_sessions_have_the_laws.ensures.session c.openings_are_orderly.ensures c.openings_are_within.ensures c.events_have_own_places.ensures
    c.no_thread_stands_past_the_horizon.ensures c.look_ups_are_right.ensures
