-- The score of a consistent store has each event that happened, in order of place.
use Rattle.std.proofs.Common.{◌≡◌, List, [], ◌∷◌, refl, sym, subst}
use Rattle.std.specs.Prelude.{Contains}
use Rattle.vt_event.specs.Event.{EventView}
use Rattle.vt_meaning.specs.Meaning.{in_order, is_event_before, score_of}
use Rattle.vt_meaning.specs.Theorems.{AreRising, ScoresHaveAll}
use Rattle.vt_meaning.specs.ThreadMeaning.{ThreadMeaning}
use Rattle.vt_meaning.specs.Traces.{Thread}
use Rattle.vt_meaning.specs.World.{Opening, events_of}
use Rattle.vt_meaning.proofs.FoundThere.{far_apart}
use Rattle.vt_meaning.proofs.FrontAndBounds.{listed, unlisted}
use Rattle.vt_meaning.proofs.Order.{true-is_before}
use Rattle.vt_meaning.proofs.ScoresInOrder.{events_never, events_onward, same_place, Rises, ordered_rises, ordered_from, ordered_has}

rising_by : (events : List EventView) → Rises is_event_before events_onward events_never events → AreRising events
rising_by [] h = tt
rising_by (event ∷ events) h = (λ other there. true-is_before event.place other.place (h.0 other there), rising_by events h.1)

score_events : (m : ThreadMeaning) (opening : Opening) (threads : List Thread) → (score_of m opening threads).events ≡ in_order is_event_before (events_of m opening threads)
unfolding score_of
score_events m opening threads = refl

pub scores_have_all : ScoresHaveAll
scores_have_all m opening session threads con =
    let same = score_events m opening threads in (
      subst AreRising (sym same) (rising_by (in_order is_event_before (events_of m opening threads)) (ordered_rises is_event_before events_onward events_never (events_of m opening threads))),
      λ event. (
        λ h. unlisted m opening threads event (ordered_from is_event_before events_onward events_never (events_of m opening threads) event (subst (λ (events : List EventView). Contains events event) same h)),
        λ h.
            subst (λ (events : List EventView). Contains events event) (sym same)
            (ordered_has is_event_before events_onward events_never (events_of m opening threads)
            (λ e f a b s t. far_apart m opening session threads con e f (unlisted m opening threads e a) (unlisted m opening threads f b) (same_place e f s t)) event (listed m opening threads event h)),
      ),
    )
