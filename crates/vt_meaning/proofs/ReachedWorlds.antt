-- Each world that the transitions of a session reach is consistent.
use Rattle.std.specs.Prelude.{slice_get}
use Rattle.vt_meaning.specs.Consistent.{IsConsistent}
use Rattle.vt_meaning.specs.Laws.{LookUpsAreRight}
use Rattle.vt_meaning.specs.RealLaws.{EventsHaveOwnPlaces, NoneStandsPast, OpeningsAreOrderly, OpeningsAreWithin, RenderedIsSession, threads_with}
use Rattle.vt_meaning.specs.Reached.{Reached, ReachedWorldsAreRight}
use Rattle.vt_meaning.specs.Reached.Reached.{AfterTransition, AtFirst}
use Rattle.vt_meaning.specs.Session.{opening_of}
use Rattle.vt_meaning.specs.ThreadLaws.{IsSession}
use Rattle.vt_meaning.specs.ThreadMeaning.{ThreadMeaning}
use Rattle.vt_meaning.specs.Transitions.{transition_of}
use Rattle.vt_meaning.specs.World.{Opening, World, events_of}
use Rattle.vt_meaning.proofs.FoundThere.{far_apart}
use Rattle.vt_meaning.proofs.FrontAndBounds.{soonest_some}
use Rattle.vt_meaning.proofs.FunctionTransitions.{transition_is}
use Rattle.vt_meaning.proofs.KeptByTransitions.{opening_consistent, transition_kept}
use Rattle.vt_meaning.proofs.StepLaws.{acts_lawful, acts_live}

reached_consistent : (m : ThreadMeaning) (opening : Opening) → IsSession m opening → (world : World) → Reached m opening world → IsConsistent m opening world
reached_consistent m opening session _ AtFirst = opening_consistent m (acts_live m session.acts.acts) opening session.texts
reached_consistent m opening session _ (AfterTransition world next reached soon) =
    let con = reached_consistent m opening session world reached in
    let live = acts_live m session.acts.acts in
    transition_kept m (acts_lawful m session.acts) live opening session.known session.orderly world (transition_of m opening world next.0 (slice_get world next.0)) con
    (transition_is m live opening world con (far_apart m opening session world con) next.0 next.1 (soonest_some m opening world next.0 next.1 soon))

pub reached_worlds_are_right : RenderedIsSession → OpeningsAreOrderly → OpeningsAreWithin → EventsHaveOwnPlaces → NoneStandsPast → LookUpsAreRight → ReachedWorldsAreRight
reached_worlds_are_right sessions orderly within own past looks key may fit known is world reached =
    let m = threads_with key.texts key.options.until may fit known in
    let opening = opening_of key in
    let session = sessions key may fit known is in
    let con = reached_consistent m opening session world reached in
    let places = own m opening session (orderly key is.rendered).places world con in
    record {
      consistent = con;
      places = places;
      last = λ place pattern. looks.last (events_of m opening world) place pattern places;
      first = λ place wants. looks.first (events_of m opening world) place wants places;
      early = past m opening session (within key may fit known is.rendered) world con;
    }
