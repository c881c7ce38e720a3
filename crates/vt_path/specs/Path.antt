-- Paths of events: after the paths of cues, sets and live loops in the tutorial, chapter 10; the limits are own.
use Rattle.std.specs.Prelude.{◌≡◌, ℕ, ◌<◌, ◌≤◌, List, ◌∷◌, length}
use Rattle.std.specs.List.{All, flat_map}
use Rattle.vt_path.specs.Byte.{IsPathByte}

-- a segment that a user writes: 1 to 64 path bytes
pub record IsSegment (segment : List ℕ) : Type 0 where
  pub nonempty : 0 < length segment
  pub short : length segment ≤ 64
  pub bytes : All IsPathByte segment

-- a path that a user writes: 1 to 16 segments
pub record IsPath (path : List (List ℕ)) : Type 0 where
  pub nonempty : 0 < length path
  pub few : length path ≤ 16
  pub segments : All IsSegment path

-- how a path is written: before each segment a slash (47)
abbrev pub path_text : List (List ℕ) → List ℕ
path_text path = flat_map (λ segment. 47 ∷ segment) path

-- no two paths are written alike
abbrev pub IsOnePath : Type 0
IsOnePath = (path other : List (List ℕ)) → IsPath path → IsPath other → path_text path ≡ path_text other → path ≡ other

-- the bytes are a path
abbrev pub IsPathText : List ℕ → Type 0
IsPathText bytes = (path : List (List ℕ)) × IsPath path × (bytes ≡ path_text path)
