-- What the stage of a seat's view says, and how a view is cut in two and two views are made one. All of this is the project's own.
use Rattle.std.specs.Prelude.{◌≡◌, ℕ, List, [], ◌++◌, take, drop, Option, None, Some}
use mathlib.Core.Option.{some, none}
use mathlib.Core.Option as maybe
use Rattle.vt_lock.specs.declared.view.View.{View}
use Rattle.vt_lock.specs.declared.view.Stage.{Stage}
use Rattle.vt_lock.specs.declared.view.JoinedPart.{JoinedPart}
use Rattle.vt_lock.specs.declared.view.Stage.TheVariants.{Resting, Opening, Waiting, Holding, Joining}
use Rattle.vt_lock.specs.Numbers.{half_of, one_if_equal}
use Rattle.vt_lock.specs.Logs.{ContinuesWithout, ShorterBegins, longer}

module _ {E : Type 0} where
  -- how many tickets the stage has: 1 or none
  abbrev pub tickets_of : Stage E → ℕ
  tickets_of Resting = 0
  tickets_of Opening = 1
  tickets_of (Waiting t) = 1
  tickets_of (Holding t) = 1
  tickets_of (Joining p q) = 0

  -- which ticket the stage has, where it has one
  abbrev pub ticket_in : Stage E → ℕ
  ticket_in Resting = 0
  ticket_in Opening = 0
  ticket_in (Waiting t) = t
  ticket_in (Holding t) = t
  ticket_in (Joining p q) = 0

  -- 1 where the stage has the ticket t, else 0
  abbrev pub holds_ticket : ℕ → Stage E → ℕ
  holds_ticket t Resting = 0
  holds_ticket t Opening = one_if_equal t 0
  holds_ticket t (Waiting u) = one_if_equal t u
  holds_ticket t (Holding u) = one_if_equal t u
  holds_ticket t (Joining p q) = 0

  -- 1 where the turn has come, else 0
  abbrev pub turns_of : Stage E → ℕ
  turns_of Resting = 0
  turns_of Opening = 1
  turns_of (Waiting t) = 0
  turns_of (Holding t) = 1
  turns_of (Joining p q) = 0

  -- where the turn has come, its ticket is the one that is served
  abbrev pub IsServed : ℕ → Stage E → Type 0
  IsServed serving Resting = Unit {0}
  IsServed serving Opening = serving ≡ 0
  IsServed serving (Waiting t) = Unit {0}
  IsServed serving (Holding t) = t ≡ serving
  IsServed serving (Joining p q) = Unit {0}

module _ {E : Type 0} (worker : E → ℕ) where
  -- in the moment after a join: the numbers are those of both parts, and the log continues what each had seen without entries of its numbers
  abbrev pub PartsContinue : List ℕ → List E → Stage E → Type 0
  PartsContinue numbers log Resting = Unit {0}
  PartsContinue numbers log Opening = Unit {0}
  PartsContinue numbers log (Waiting t) = Unit {0}
  PartsContinue numbers log (Holding t) = Unit {0}
  PartsContinue numbers log (Joining p q) = (numbers ≡ p.numbers ++ q.numbers) × ContinuesWithout worker p.numbers p.seen log × ContinuesWithout worker q.numbers q.seen log

  -- what the two parts of a join had seen of each other
  abbrev pub PartsAgree : Stage E → Type 0
  PartsAgree Resting = Unit {0}
  PartsAgree Opening = Unit {0}
  PartsAgree (Waiting t) = Unit {0}
  PartsAgree (Holding t) = Unit {0}
  PartsAgree (Joining p q) = ShorterBegins worker p.numbers p.seen q.numbers q.seen

module _ {T : Type 0} where
  -- what the slot has at home while a view has the turn: an opening lock has no value there yet, and later the slot is out with the view
  abbrev pub left_at_home : {E : Type 0} → Stage E → maybe.Option (Option T)
  left_at_home Resting = none
  left_at_home Opening = some None
  left_at_home (Waiting t) = none
  left_at_home (Holding t) = none
  left_at_home (Joining p q) = none

module _ {X E : Type 0} where
  -- the view for the first half of the numbers
  abbrev pub lower_half : View X E → View X E
  lower_half v = record v { numbers = take (half_of v.numbers) v.numbers }

  -- the view for the rest of the numbers
  abbrev pub upper_half : View X E → View X E
  upper_half v = record v { numbers = drop (half_of v.numbers) v.numbers }

  -- what a view brings into a join
  abbrev pub part_of : View X E → JoinedPart E
  part_of v = record { numbers = v.numbers; seen = v.seen }

  -- the view for the numbers of both, with the longer log, in the moment after the join
  abbrev pub united : View X E → View X E → View X E
  united v w = record v { seen = longer v.seen w.seen; numbers = v.numbers ++ w.numbers; stage = Joining (part_of v) (part_of w) }

  -- what a join leaves of the second view: it speaks for no number
  abbrev pub spent_view : View X E
  spent_view = record { key = None; seen = []; numbers = []; stage = Resting }

  -- what the first seat of a lock knows, before the value lies in its slot
  abbrev pub first_view : X → List E → List ℕ → View X E
  first_view key log numbers = record { key = Some key; seen = log; numbers = numbers; stage = Opening }
