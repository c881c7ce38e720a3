use Rattle.vt_meaning.proofs.RealStores.{early_texts_fix}
use Rattle.vt_meaning.proofs.real_threads.early_texts_fix_early_events.Goals as goal

pub returns : goal.returns
returns c =
    early_texts_fix c.threads_of_texts_have_the_laws.ensures c.threads_of_texts_are_prompt.ensures c.rendered_sessions_have_the_laws.ensures.all c.rendered_sessions_have_the_laws.ensures.session c.early_events_are_fixed.ensures.part
