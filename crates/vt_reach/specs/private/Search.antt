-- A search through a graph: for each place, the places that it leads to in one step.
use Rattle.std.specs.Prelude.{◌≡◌, ◌<◌, ◌≤◌, ◌+◌, ℕ, List, [], ◌++◌, Bool, true, false, not, length, Some, count_by, slice_get, slice_index_or}
use Rattle.std.specs.List.{Contains}
use Rattle.vt_reach.specs.private.Bodies.{list_at}

-- one place leads to another, in any number of steps
pub data Leads (graph : List (List ℕ)) : ℕ → ℕ → Type 0 where
  itself : (from : ℕ) → Leads graph from from
  further : (from at next : ℕ) → Leads graph from at → Contains (list_at graph at) next → Leads graph from next

-- these are all places that one leads to
pub record IsReached (graph : List (List ℕ)) (from : ℕ) (found : List ℕ) : Type 0 where
  pub each : (at : ℕ) → Contains found at → Leads graph from at
  pub all : (at : ℕ) → Leads graph from at → Contains found at

abbrev pub IsWithin : List ℕ → ℕ → Type 0
IsWithin places count = (at : ℕ) → Contains places at → at < count

-- each step leads to a place of the graph
abbrev pub AreWithin : List (List ℕ) → Type 0
AreWithin graph = (from : ℕ) → IsWithin (list_at graph from) (length graph)

abbrev pub mark : List Bool → ℕ → Bool
mark marks at = slice_index_or marks at false

-- exactly the places that were found are marked
pub record IsMarked (found : List ℕ) (marks : List Bool) : Type 0 where
  pub each : (at : ℕ) → mark marks at ≡ true → Contains found at
  pub all : (at : ℕ) → Contains found at → mark marks at ≡ true

-- those of these places that were not marked were found and marked
pub record Adds (more : List ℕ) (marks marks' : List Bool) (found found' : List ℕ) : Type 0 where
  pub rest : List ℕ
  pub whole : found' ≡ found ++ rest
  pub new : (at : ℕ) → Contains rest at → Contains more at
  pub all : (at : ℕ) → Contains more at → Contains found' at
  pub marked : IsMarked found' marks'
  pub same : length marks' ≡ length marks
  pub count : count_by not marks' + length found' ≡ count_by not marks + length found

-- What a search has found, and of the first so many of them all that they lead to in one step.
pub record Searches (graph : List (List ℕ)) (from : ℕ) (found : List ℕ) (marks : List Bool) (next : ℕ) : Type 0 where
  pub each : (at : ℕ) → Contains found at → Leads graph from at
  pub start : Contains found from
  pub marked : IsMarked found marks
  pub same : length marks ≡ length graph
  pub within : next ≤ length found
  pub done : (i at other : ℕ) → i < next → slice_get found i ≡ Some at → Contains (list_at graph at) other → Contains found other
