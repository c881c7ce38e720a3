-- Rows: for each path the positions of its events in the list of all, in order of place.
use Rattle.std.specs.Prelude.{◌≡◌, ◌≢◌, ℕ, ◌+◌, ◌<◌, ◌≤◌, List, [], ◌∷◌, ◌++◌, length, Some, Vec, filter, nat_lt, slice_get}
use Rattle.std.specs.List.{Contains}
use Rattle.std.specs.declared.alloc.Global.{Global}
use Rattle.vt_path.specs.Kept.{IsKeptPath}
use Rattle.vt_path.specs.Path.{path_text}
use Rattle.vt_event.specs.declared.kind.Kind.TheVariants.{Took}
use Rattle.vt_event.specs.Event.{EventView}
use Rattle.vt_event.specs.Order.{IsBefore}
use Rattle.vt_state.specs.LookUps.{HaveOwnPlaces}
use Rattle.vt_index.specs.declared.row.Row.{Row}

-- the rows of a map, each with its key: the path as it is written
abbrev pub Entries : Type 0
Entries = List (Vec ℕ Global × Row)

-- the event is found under this path: it has it, and is no Took
pub record GoesTo (path : List (List ℕ)) (event : EventView) : Type 0 where
  pub not_took : event.kind ≢ Took
  pub has : event.path ≡ Some path

-- at the position stands an event of this path
pub record StandsAt (events : List EventView) (path : List (List ℕ)) (position : ℕ) : Type 0 where
  pub event : EventView
  pub stands : slice_get events position ≡ Some event
  pub goes : GoesTo path event

-- such an event among the first n
pub record LeadsTo (events : List EventView) (n : ℕ) (path : List (List ℕ)) (position : ℕ) : Type 0 where
  pub below : position < n
  pub stands : StandsAt events path position

-- the event at the one position stands before that at the other
abbrev pub AreInOrder : List EventView → ℕ → ℕ → Type 0
AreInOrder events position other = (event later : EventView) → slice_get events position ≡ Some event → slice_get events other ≡ Some later → IsBefore event.place later.place

-- the places rise along the positions
abbrev pub IsRising : List EventView → List ℕ → Type 0
IsRising events [] = Unit {0}
IsRising events (position ∷ at) = ((other : ℕ) → Contains at other → AreInOrder events position other) × IsRising events at

-- all positions are below n
abbrev pub AreWithin : ℕ → List ℕ → Type 0
AreWithin n at = (position : ℕ) → Contains at position → position < n

-- positions of events of the row's path among the first n, in order of place
pub record IsRow (events : List EventView) (n : ℕ) (row : Row) : Type 0 where
  pub each : (position : ℕ) → Contains row.at.items position → LeadsTo events n row.path position
  pub rising : IsRising events row.at.items

-- each key is its row's path as it is written, and that is a path of a program
abbrev pub AreNamed : Entries → Type 0
AreNamed entries = (key : Vec ℕ Global) (row : Row) → Contains entries (key, row) → (key.items ≡ path_text row.path) × IsKeptPath row.path

-- the position stands in the row of the path
pub record HasPosition (entries : Entries) (path : List (List ℕ)) (position : ℕ) : Type 0 where
  pub key : Vec ℕ Global
  pub row : Row
  pub listed : Contains entries (key, row)
  pub same : row.path ≡ path
  pub stands : Contains row.at.items position

-- the rows of the first n events: each row is one, and each event that is found under a path stands in the row of that path
pub record AreRows (events : List EventView) (n : ℕ) (entries : Entries) : Type 0 where
  pub rows : (key : Vec ℕ Global) (row : Row) → Contains entries (key, row) → IsRow events n row
  pub named : AreNamed entries
  pub all : (position : ℕ) (path : List (List ℕ)) → position < n → StandsAt events path position → HasPosition entries path position

-- the rows of the first events, as many as these at least
pub record ArePartlyAdded (events : List EventView) (from : ℕ) (entries : Entries) : Type 0 where
  pub count : ℕ
  pub enough : from ≤ count
  pub rows : AreRows events count entries

-- what an indexed time state keeps: events at places of their own, and their rows
pub record IsIndexed (events : List EventView) (entries : Entries) : Type 0 where
  pub apart : HaveOwnPlaces events
  pub rows : AreRows events (length events) entries

-- the row of this path is there
pub record IsRowAt (entries : Entries) (index : ℕ) (path : List (List ℕ)) : Type 0 where
  pub key : Vec ℕ Global
  pub row : Row
  pub stands : slice_get entries index ≡ Some (key, row)
  pub same : row.path ≡ path

-- one row is there whose key is this text
pub record IsRowNamed (entries : Entries) (index : ℕ) (text : List ℕ) : Type 0 where
  pub key : Vec ℕ Global
  pub row : Row
  pub stands : slice_get entries index ≡ Some (key, row)
  pub named : key.items ≡ text
  pub one : (other : Vec ℕ Global) (another : Row) → Contains entries (other, another) → other.items ≡ text → another ≡ row

-- no row has this text for its key
abbrev pub NoneNamed : Entries → List ℕ → Type 0
NoneNamed entries text = (key : Vec ℕ Global) (row : Row) → Contains entries (key, row) → key.items ≡ text → ⊥

-- an empty row of this path came behind the others
pub record IsRowAdded (before after : Entries) (index : ℕ) (key : Vec ℕ Global) (path : List (List ℕ)) : Type 0 where
  pub row : Row
  pub same : row.path ≡ path
  pub empty : row.at.items ≡ []
  pub last : index ≡ length before
  pub grown : after ≡ before ++ (key, row) ∷ []

-- the row with the position added, which is the first that was not looked at yet
pub record IsAdded (events : List EventView) (position : ℕ) (before after : Row) : Type 0 where
  pub same : after.path ≡ before.path
  pub row : IsRow events (position + 1) after
  pub keeps : (other : ℕ) → Contains before.at.items other → Contains after.at.items other
  pub has : Contains after.at.items position

-- the row is as it was
pub record IsSameRow (before after : Row) : Type 0 where
  pub same : after.path ≡ before.path
  pub positions : after.at.items ≡ before.at.items

-- the row without the positions from this one on
pub record IsCutTo (from : ℕ) (before after : Row) : Type 0 where
  pub same : after.path ≡ before.path
  pub positions : after.at.items ≡ filter (λ position. nat_lt position from) before.at.items

-- the rows of the first n events, of which the first rows are cut to the positions below `from`
pub record AreCutTo (events : List EventView) (from n count : ℕ) (entries : Entries) : Type 0 where
  pub rows : (key : Vec ℕ Global) (row : Row) → Contains entries (key, row) → IsRow events n row
  pub cut : (index : ℕ) (key : Vec ℕ Global) (row : Row) → index < count → slice_get entries index ≡ Some (key, row) → IsRow events from row
  pub named : AreNamed entries
  pub all : (position : ℕ) (path : List (List ℕ)) → position < from → StandsAt events path position → HasPosition entries path position
