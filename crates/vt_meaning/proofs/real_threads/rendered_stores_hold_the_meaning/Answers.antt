use Rattle.vt_meaning.proofs.RealStores.{above_is_spent, finished_is_meant}
use Rattle.vt_meaning.proofs.real_threads.rendered_stores_hold_the_meaning.Goals as goal

pub returns : goal.returns
returns c =
    record {
      finished = finished_is_meant c.rendered_sessions_have_the_laws.ensures.session c.finished_stores_hold_the_meaning.ensures;
      above = above_is_spent c.rendered_sessions_have_the_laws.ensures.session c.stores_stay_within_the_budget.ensures;
    }
