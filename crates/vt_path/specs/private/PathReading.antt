-- What the reader of a path knows between two bytes: own.
use Rattle.std.specs.Prelude.{◌≡◌, ℕ, ◌<◌, ◌≤◌, List, [], ◌∷◌, ◌++◌, length, Option, Some, None, Bool, true, false}
use Rattle.std.specs.List.{All}
use Rattle.vt_path.specs.Byte.{IsPathByte}
use Rattle.vt_path.specs.Path.{IsPath, IsSegment, path_text}

-- Where the segments `done` and the bytes `begun` of the next one were read, these further bytes make this path.
pub record GoesOnTo (done : List (List ℕ)) (begun : List ℕ) (rest : List ℕ) (path : List (List ℕ)) : Type 0 where
  pub more : List ℕ
  pub tail : List (List ℕ)
  pub whole : path ≡ done ++ (begun ++ more) ∷ tail
  pub text : rest ≡ more ++ path_text tail

-- what was read is within the limits
pub record IsSound (done : List (List ℕ)) (begun : List ℕ) : Type 0 where
  pub few : length done < 16
  pub segments : All IsSegment done
  pub short : length begun ≤ 64
  pub bytes : All IsPathByte begun

-- the byte was read: what goes on with it before goes on without it now
pub record ReadsOn (done : List (List ℕ)) (begun : List ℕ) (byte : ℕ) (done' : List (List ℕ)) (begun' : List ℕ) : Type 0 where
  pub sound : IsSound done' begun'
  pub on : (rest : List ℕ) (path : List (List ℕ)) → IsPath path → GoesOnTo done begun (byte ∷ rest) path → GoesOnTo done' begun' rest path
  pub back : (rest : List ℕ) (path : List (List ℕ)) → GoesOnTo done' begun' rest path → GoesOnTo done begun (byte ∷ rest) path

-- no path goes on with the byte
abbrev pub ReadsNoFurther : List (List ℕ) → List ℕ → ℕ → Type 0
ReadsNoFurther done begun byte = (rest : List ℕ) (path : List (List ℕ)) → IsPath path → GoesOnTo done begun (byte ∷ rest) path → ⊥

abbrev pub Takes : List (List ℕ) → List ℕ → ℕ → List (List ℕ) → List ℕ → Bool → Type 0
Takes done begun byte done' begun' true = ReadsOn done begun byte done' begun'
Takes done begun byte done' begun' false = ReadsNoFurther done begun byte

-- the path that was read, or none goes on with no byte
abbrev pub Ends : List (List ℕ) → List ℕ → Option (List (List ℕ)) → Type 0
Ends done begun (Some path) = IsPath path × GoesOnTo done begun [] path
Ends done begun None = (path : List (List ℕ)) → IsPath path → GoesOnTo done begun [] path → ⊥
