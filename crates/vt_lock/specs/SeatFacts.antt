-- What a contract sees of a seat. All of this is the project's own.
use Rattle.std.specs.Prelude.{ℕ, Bool, true, false, List, Option}
use Rattle.atomic_table.specs.Seated.{TableId}
use Rattle.vt_lock.specs.declared.view.View.{View}
use Rattle.vt_lock.specs.declared.view.Stage.{Stage}
use Rattle.vt_lock.specs.declared.view.Stage.TheVariants.{Resting, Opening, Waiting, Holding, Joining}

-- the lock that it is a seat of, the key of what is kept, the log that was seen, the numbers that the seat speaks for, and whether it has the turn
pub record SeatFacts (X E : Type 0) : Type 0 where
  pub lock : TableId
  pub key : Option X
  pub seen : List E
  pub numbers : List ℕ
  pub has_turn : Bool

-- whether a seat at this stage has the turn, as it stands between two calls
abbrev pub has_turn_at : {E : Type 0} → Stage E → Bool
has_turn_at Resting = false
has_turn_at Opening = false
has_turn_at (Waiting t) = false
has_turn_at (Holding t) = true
has_turn_at (Joining p q) = false

-- of a lock, and the view of a seat at it
abbrev pub seat_facts : {X E : Type 0} → TableId → View X E → SeatFacts X E
seat_facts lock v = record { lock = lock; key = v.key; seen = v.seen; numbers = v.numbers; has_turn = has_turn_at v.stage }
