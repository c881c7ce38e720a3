-- What a world comes to by transitions, said without a number of transitions: own.
use Rattle.std.specs.Prelude.{◌≡◌, ◌<◌, ◌≤◌, ℕ, Some, None}
use Rattle.vt_event.specs.declared.place.Place.{Place}
use Rattle.vt_event.specs.declared.score.Outcome.{Outcome}
use Rattle.vt_event.specs.declared.score.Outcome.TheVariants.{Scored, Spent}
use Rattle.vt_meaning.specs.Meaning.{score_of}
use Rattle.vt_meaning.specs.NextPlaces.{next_of}
use Rattle.vt_meaning.specs.ThreadMeaning.{ThreadMeaning}
use Rattle.vt_meaning.specs.Transitions.{after_transition}
use Rattle.vt_meaning.specs.World.{Opening, World, total_of}

-- A world comes to an outcome: it is spent where its total is above the budget; it is scored where no thread goes on; else it comes to what the world after a transition of the thread with the least place comes to.
pub data ComesTo (m : ThreadMeaning) (opening : Opening) : World → Outcome → Type 0 where
  AboveBudget : (world : World) → opening.budget < total_of m world → ComesTo m opening world Spent
  AtEnd : (world : World) → total_of m world ≤ opening.budget → next_of m opening world ≡ None → ComesTo m opening world (Scored (score_of m opening world))
  AfterTransition : (world : World) (next : ℕ × Place) (outcome : Outcome) → total_of m world ≤ opening.budget → next_of m opening world ≡ Some next →
      ComesTo m opening (after_transition m opening world next) outcome → ComesTo m opening world outcome
