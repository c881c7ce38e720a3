-- What each step of the lock tells its seat: of the step, the seat before, the number found, and the seat after.
use Rattle.std.specs.Prelude.{◌≡◌, ℕ, ◌%◌, ◌^◌, ◌≢◌, List, [], ◌∷◌, Option, Some, None}
use Rattle.atomic_table.specs.Table.{Me, Step}
use Rattle.vt_lock.specs.declared.view.View.{View}
use Rattle.vt_lock.specs.declared.view.Stage.{Stage}
use Rattle.vt_lock.specs.declared.view.Stage.TheVariants.{Resting, Opening, Waiting, Holding, Joining}
use Rattle.vt_lock.specs.Logs.{ContinuesWithout}
use Rattle.vt_lock.specs.Views.{PartsAgree, ticket_in}

-- between two calls a seat has no ticket, or it has the turn and the slot, which is empty
abbrev pub IsBetweenCalls : {T E : Type 0} → Stage E → List (ℕ × Option T) → Type 0
IsBetweenCalls Resting slots = slots ≡ []
IsBetweenCalls Opening slots = ⊥
IsBetweenCalls (Waiting t) slots = ⊥
IsBetweenCalls (Holding t) slots = slots ≡ (0, None) ∷ []
IsBetweenCalls (Joining p q) slots = ⊥

-- the seat waits with a ticket that the word shows as n
abbrev pub IsWaiting : {T X E : Type 0} → ℕ → Me (Option T) (View X E) → Type 0
IsWaiting n m = (t : ℕ) × (m.0.stage ≡ Waiting t) × (t % 2 ^ 64 ≡ n) × (m.1 ≡ [])

module _ {T X E : Type 0} (key : T → X) (log : T → List E) (worker : E → ℕ) where
  -- the first seat has the turn with ticket 0, and the empty slot
  abbrev pub open_tells : Step (Option T) → Me (Option T) (View X E) → ℕ → Me (Option T) (View X E) → Type 0
  open_tells st m r n = (n.0 ≡ record m.0 { stage = Holding 0 }) × (n.1 ≡ (0, None) ∷ [])

  -- the seat waits with the ticket that was found
  abbrev pub draw_tells : Step (Option T) → Me (Option T) (View X E) → ℕ → Me (Option T) (View X E) → Type 0
  draw_tells st m r n = (t : ℕ) × (n.0 ≡ record m.0 { stage = Waiting t }) × (t % 2 ^ 64 ≡ r) × (n.1 ≡ [])

  -- the turn has come: the seat has the slot with the value in it, which has the seat's key, and whose log continues what the seat had seen
  abbrev pub HasCome : Me (Option T) (View X E) → Me (Option T) (View X E) → Type 0
  HasCome m n = (x : T) × (n.1 ≡ (0, Some x) ∷ []) × (m.0.key ≡ Some (key x)) × ContinuesWithout worker m.0.numbers m.0.seen (log x)
      × (n.0 ≡ record m.0 { seen = log x; stage = Holding (ticket_in m.0.stage) })

  -- the turn has come, and the value is out of the slot
  abbrev pub HasTaken : Me (Option T) (View X E) → T → Me (Option T) (View X E) → Type 0
  HasTaken m x n = (m.0.key ≡ Some (key x)) × ContinuesWithout worker m.0.numbers m.0.seen (log x)
      × (n ≡ (record m.0 { seen = log x; stage = Holding (ticket_in m.0.stage) }, (0, None) ∷ []))

  -- the turn has come where the seat's own ticket was found; else nothing has changed
  abbrev pub look_tells : Step (Option T) → Me (Option T) (View X E) → ℕ → Me (Option T) (View X E) → Type 0
  look_tells st m r n = (r ≡ ticket_in m.0.stage % 2 ^ 64 → HasCome m n) × (r ≢ ticket_in m.0.stage % 2 ^ 64 → n ≡ m)

  -- the log of the value in the slot that the seat took last
  abbrev pub log_in_hand : List (ℕ × Option T) → List E
  log_in_hand [] = []
  log_in_hand ((k, Some x) ∷ xs) = log x
  log_in_hand ((k, None) ∷ xs) = []

  -- the turn is given up, the slot is home, and the log of the value in it is what the seat has seen
  abbrev pub raise_tells : Step (Option T) → Me (Option T) (View X E) → ℕ → Me (Option T) (View X E) → Type 0
  raise_tells st m r n = (n.0 ≡ record m.0 { seen = log_in_hand m.1; stage = Resting }) × (n.1 ≡ [])

  -- the join is over, and the seat knows what its two parts had seen of each other
  abbrev pub settle_tells : Step (Option T) → Me (Option T) (View X E) → ℕ → Me (Option T) (View X E) → Type 0
  settle_tells st m r n = (n.0 ≡ record m.0 { stage = Resting }) × (n.1 ≡ []) × PartsAgree worker m.0.stage
