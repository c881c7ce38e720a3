-- Scores in order: own.
use Rattle.std.specs.Prelude.{map}
use Rattle.std.specs.List.Sorted.{IsStrictlySortedBy}
use Rattle.vt_event.specs.declared.score.Score.{Score}
use Rattle.vt_event.specs.Order.{place_order, thread_order}

-- the events are in order of place, and the living threads in order of their lists; no place and no thread stands twice
pub record IsInOrder (score : Score) : Type 0 where
  pub events : IsStrictlySortedBy place_order (map (λ event. event.place) score.events)
  pub living : IsStrictlySortedBy thread_order (map (λ living. living.thread) score.living)
