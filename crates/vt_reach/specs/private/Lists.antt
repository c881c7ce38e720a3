-- For each block the places of the blocks that it leads to and that write something.
use Rattle.std.specs.Prelude.{◌≡◌, ◌<◌, ℕ, List, length, Some, slice_get}
use Rattle.std.specs.List.{Contains}
use Rattle.vt_path.specs.declared.pattern.Segment.{Segment}
use Rattle.vt_reach.specs.declared.found.Row.{Row}
use Rattle.vt_reach.specs.declared.mention.Mention.{Mention}
use Rattle.vt_reach.specs.Reach.{IsMet}
use Rattle.vt_reach.specs.private.Bodies.{list_at}
use Rattle.vt_reach.specs.private.Search.{Leads}

-- there is something in the list
abbrev pub HasSome : List ℕ → Type 0
HasSome list = (at : ℕ) × Contains list at

-- those of these places at which something is written
pub record AreWriters (writings : List (List ℕ)) (places writers : List ℕ) : Type 0 where
  pub each : (at : ℕ) → Contains writers at → Contains places at
  pub all : (at other : ℕ) → Contains places at → Contains (list_at writings at) other → Contains writers at

-- places that one leads to, and among them all at which something is written
pub record IsList (graph writings : List (List ℕ)) (from : ℕ) (list : List ℕ) : Type 0 where
  pub each : (at : ℕ) → Contains list at → Leads graph from at
  pub all : (at other : ℕ) → Leads graph from at → Contains (list_at writings at) other → Contains list at

pub record AreLists (graph writings lists : List (List ℕ)) : Type 0 where
  pub count : length lists ≡ length graph
  pub each : (from : ℕ) → from < length graph → IsList graph writings from (list_at lists from)

-- the pattern meets one of these mentions
pub record MeetsRow (mentions : List Mention) (pattern : List Segment) : Type 0 where
  pub mention : Mention
  pub among : Contains mentions mention
  pub met : IsMet pattern mention

-- the mention at this place is met
pub record MeetsMention (mentions : List Mention) (at : ℕ) (pattern : List Segment) : Type 0 where
  pub mention : Mention
  pub there : slice_get mentions at ≡ Some mention
  pub met : IsMet pattern mention

-- the pattern meets what is mentioned in the block at this place
pub record MeetsAt (rows : List Row) (at : ℕ) (pattern : List Segment) : Type 0 where
  pub block : Row
  pub there : slice_get rows at ≡ Some block
  pub meets : MeetsRow block.mentions pattern

-- the pattern meets what is mentioned in a block at one of these places
pub record MeetsList (rows : List Row) (list : List ℕ) (pattern : List Segment) : Type 0 where
  pub at : ℕ
  pub among : Contains list at
  pub meets : MeetsAt rows at pattern
