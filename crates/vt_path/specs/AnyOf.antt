-- What a bare name stands for in `get` and `sync`: after the tutorial, chapter 10.
use Rattle.std.specs.Prelude.{◌≡◌, ℕ, ◌⊎◌, List, [], ◌∷◌, codes}
use Rattle.vt_path.specs.Match.{literal_segment}
use Rattle.vt_path.specs.declared.pattern.Segment.{Segment}
use Rattle.vt_path.specs.declared.pattern.Segment.TheVariants.{Parts}
use Rattle.vt_path.specs.declared.pattern.Part.TheVariants.{Alternatives}

-- what stands before the name
abbrev pub any_of_text : List ℕ
any_of_text = codes "/{cue,set,live_loop}/"

-- the pattern `/{cue,set,live_loop}/NAME`
abbrev pub any_of_name : List ℕ → List Segment
any_of_name name = Parts (Alternatives (codes "cue" ∷ codes "set" ∷ codes "live_loop" ∷ []) ∷ []) ∷ literal_segment name ∷ []

-- the paths that a name stands for: `/cue/NAME`, `/set/NAME` and `/live_loop/NAME`
abbrev pub IsNamed : List ℕ → List (List ℕ) → Type 0
IsNamed name path =
    (path ≡ codes "cue" ∷ name ∷ []) ⊎ (path ≡ codes "set" ∷ name ∷ []) ⊎ (path ≡ codes "live_loop" ∷ name ∷ [])
