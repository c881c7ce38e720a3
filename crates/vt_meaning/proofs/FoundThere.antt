-- Among the events of a consistent set of threads the look-ups find what a read and a wait find, and each event has a place of its own.
use Rattle.std.proofs.Common.{List, Option, Some, None}
use Rattle.vt_event.specs.declared.place.Place.{Place}
use Rattle.vt_event.specs.Event.{EventView}
use Rattle.vt_meaning.specs.Consistent.{IsConsistent}
use Rattle.vt_meaning.specs.Happenings.{FirstOr}
use Rattle.vt_meaning.specs.LookUps.{first_above, last_below}
use Rattle.vt_meaning.specs.RealLaws.{EventsHaveOwnPlaces, LookUpsFind}
use Rattle.vt_meaning.specs.ThreadLaws.{IsSession}
use Rattle.vt_meaning.specs.ThreadMeaning.{patterns_of, ThreadMeaning, Wants}
use Rattle.vt_meaning.specs.Traces.{Thread}
use Rattle.vt_meaning.specs.World.{Opening, events_of}
use Rattle.vt_meaning.proofs.StepLaws.{acts_lawful, acts_live}
use Rattle.vt_meaning.proofs.EventPlaces.{apart, later, list_of, not_given}
use Rattle.vt_meaning.proofs.FrontAndBounds.{first_found, first_is, FirstIs, IsApart, listed}
use Rattle.vt_meaning.proofs.OwnPlaces.{events_own}
use Rattle.vt_meaning.proofs.FunctionTransitions.{last_found, last_is}

first_there : (m : ThreadMeaning) (opening : Opening) (threads : List Thread) (place : Place) (wants : Wants) → IsApart m opening threads → (found : Option EventView) → FirstIs m place wants (events_of m opening threads) found →
    FirstOr m opening threads place wants found
first_there m opening threads place wants far None none = λ event above. none event (listed m opening threads event above.happened) above.matches above.above
first_there m opening threads place wants far (Some event) is = first_found m opening threads place wants event far is

pub far_apart : (m : ThreadMeaning) (opening : Opening) → IsSession m opening → (threads : List Thread) → IsConsistent m opening threads → IsApart m opening threads
far_apart m opening session threads con = apart m (acts_lawful m session.acts) (acts_live m session.acts.acts) opening session.known session.orderly session.given threads con

pub look_ups_find : LookUpsFind
look_ups_find m opening session threads con = (
  λ place pattern. last_found m opening threads place pattern (far_apart m opening session threads con) (last_below (events_of m opening threads) place pattern) (last_is place pattern (events_of m opening threads)),
  λ place wants.
      first_there m opening threads place wants (far_apart m opening session threads con) (first_above (events_of m opening threads) place (patterns_of wants)) (first_is m place wants (events_of m opening threads)),
)

pub events_have_own_places : EventsHaveOwnPlaces
events_have_own_places m opening session own threads con =
    let law = acts_lawful m session.acts in
    let live = acts_live m session.acts.acts in
    events_own m opening threads own
    (list_of m law live opening session.known session.orderly session.given threads con)
    con.apart
    (not_given m law live opening session.known session.orderly session.given threads con)
    (later m law live opening session.known session.orderly session.given threads con)
