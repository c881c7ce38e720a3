-- The turn rule: what holds between any two steps of the lock, over its two words, its slot and the views of all its seats. All of this is the project's own.
use Rattle.std.specs.Prelude.{◌≡◌, ℕ, ◌+◌, ◌%◌, ◌^◌, ◌<◌, ◌≤◌, ◌⊎◌, List, [], ◌∷◌, length, Option, Some}
use mathlib.Core.Option.{some}
use mathlib.Core.Option as maybe
use lib.ListN.{get_elem?}
use Rattle.atomic_table.specs.Table.{State}
use Rattle.vt_lock.specs.declared.view.View.{View}
use Rattle.vt_lock.specs.Numbers.{occurrences, one_if_below}
use Rattle.vt_lock.specs.Logs.{AreOfWorkers, ContinuesWithout}
use Rattle.vt_lock.specs.Views.{IsServed, PartsContinue, holds_ticket, left_at_home, tickets_of, turns_of}

-- what f gives for each element, added up
abbrev pub total : {A : Type 0} → (A → ℕ) → List A → ℕ
total f [] = 0
total f (x ∷ xs) = f x + total f xs

-- A value has a key and a log; an entry of a log has a worker.
module _ {T X E : Type 0} (key : T → X) (log : T → List E) (worker : E → ℕ) where
  -- What one view says is so: a view that speaks for a number has the key; the log continues what it has seen without entries of its numbers; only a view that speaks for a number has a ticket; a turn that has come is the one that is served.
  pub record IsSoundView (kept_key : X) (current : List E) (serving : ℕ) (v : View X E) : Type 0 where
    pub keyed : 0 < length v.numbers → v.key ≡ Some kept_key
    pub seen : ContinuesWithout worker v.numbers v.seen current
    pub speaks : tickets_of v.stage ≤ length v.numbers
    pub served : IsServed serving v.stage
    pub parts : PartsContinue worker v.numbers current v.stage

  -- no view's turn has come; the slot has a value, with the key, and its log is the current one
  abbrev pub IsAtHome : X → List E → maybe.Option (Option T) → List (View X E) → Type 0
  IsAtHome kept_key current home views = (total (λ (v : View X E). turns_of v.stage) views ≡ 0) × ((x : T) × (home ≡ some (Some x)) × (key x ≡ kept_key) × (log x ≡ current))

  -- one view's turn has come, and no other's; the log that it has seen is the current one
  abbrev pub IsAway : List E → maybe.Option (Option T) → List (View X E) → Type 0
  IsAway current home views = (total (λ (v : View X E). turns_of v.stage) views ≡ 1)
      × ((i : ℕ) × (v : View X E) × (get_elem? views i ≡ some v) × (turns_of v.stage ≡ 1) × (v.seen ≡ current) × (home ≡ left_at_home v.stage))

  -- The rule. `first` is the value that the lock was made with. Tickets are counted without end, and the words have the counts modulo 2^64.
  pub record KeepsTurns (first : T) (s : State (Option T) (View X E)) : Type 0 where
    -- how many tickets were drawn, and how many turns were given up
    pub drawn : ℕ
    pub served : ℕ
    -- the current log, and what the slot has at home
    pub current : List E
    pub home : maybe.Option (Option T)
    pub words : s.words ≡ (drawn % 2 ^ 64) ∷ (served % 2 ^ 64) ∷ []
    pub homes : s.homes ≡ home ∷ []
    pub known_workers : AreOfWorkers worker current
    -- the tickets in hand are exactly those from `served` up to but not including `drawn`, each in one view
    pub tickets_out : (t : ℕ) → total (λ (v : View X E). holds_ticket t v.stage) s.views + one_if_below t served ≡ one_if_below t drawn
    pub ticket_count : total (λ (v : View X E). tickets_of v.stage) s.views + served ≡ drawn
    -- each number from 0 to 63 stands in one view, once, and no other number in any
    pub each_once : (n : ℕ) → total (λ (v : View X E). occurrences n v.numbers) s.views ≡ one_if_below n 64
    pub all_spoken_for : total (λ (v : View X E). length v.numbers) s.views ≡ 64
    pub each_view : (i : ℕ) (v : View X E) → get_elem? s.views i ≡ some v → IsSoundView (key first) current served v
    pub whereabouts : IsAtHome (key first) current home s.views ⊎ IsAway current home s.views
