-- What the threads of a session mean, as the meaning of the session takes it, and what a thread waits for: own.
use Rattle.std.specs.Prelude.{ℕ, List, [], ◌∷◌, Bool, Option, Some, None}
use Rattle.std.specs.List.{list_any}
use Rattle.vt_frac.specs.Fraction.{Fraction}
use Rattle.vt_path.specs.declared.pattern.Segment.{Segment}
use Rattle.vt_event.specs.Event.{EventView}
use Rattle.vt_run.specs.declared.action.Answer.{Answer}
use Rattle.vt_run.specs.declared.start.Start.{Start}
use Rattle.vt_run.specs.Evaluation.{Step}
use Rattle.vt_meaning.specs.LookUps.{meets_wants}

-- What the texts of a session make of a thread. The meaning of the session takes the horizon and the steps. The rest is for stores alone: which threads may write what.
pub record ThreadMeaning : Type 0 where
  -- a thread that rests to this time, or past it, goes on no more
  pub until : Fraction
  -- the first n steps of a thread that starts so, whose reads and waits get these answers in order
  pub acts : Start → List Answer → ℕ → List Step
  -- whether a thread that starts so, or one that it leads to, may publish an event that the pattern matches
  pub may : Start → List Segment → Bool
  -- whether the texts can lead to a thread that starts so
  pub fit : Start → Bool
  -- whether the texts can lead to the event
  pub known : EventView → Bool

-- what a Wait wants: an event that its pattern matches, or, in the thread of a live loop, one that its stop matches
pub record Wants : Type 0 where
  pub pattern : List Segment
  pub stop : Option (List Segment)

-- the patterns that are wanted
abbrev pub with_stop : List Segment → Option (List Segment) → List (List Segment)
with_stop pattern None = pattern ∷ []
with_stop pattern (Some stop) = pattern ∷ stop ∷ []

abbrev pub patterns_of : Wants → List (List Segment)
patterns_of wants = with_stop wants.pattern wants.stop

-- the event is one that is wanted
unfoldable pub meets : Wants → EventView → Bool
meets wants event = meets_wants (patterns_of wants) event

-- one that starts so may write what meets these wants
unfoldable pub may_meet : ThreadMeaning → Start → Wants → Bool
may_meet m start wants = list_any (λ pattern. m.may start pattern) (patterns_of wants)
