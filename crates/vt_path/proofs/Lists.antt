use Rattle.std.proofs.Common.{List, [], ◌∷◌, ◌++◌}
use Rattle.std.specs.List.{All}
use Rattle.std.proofs.lemmas.List.Elements.{All-head, All-tail, All-nil, All-cons}

pub All-prefix : {X : Type 0} (P : X → Type 0) (xs ys : List X) → All P (xs ++ ys) → All P xs
All-prefix P [] ys h = All-nil P
All-prefix P (x ∷ xs) ys h = All-cons P x xs (All-head P x (xs ++ ys) h) (All-prefix P xs ys (All-tail P x (xs ++ ys) h))

pub All-back : {X : Type 0} (P : X → Type 0) (xs ys : List X) → All P (xs ++ ys) → All P ys
All-back P [] ys h = h
All-back P (x ∷ xs) ys h = All-back P xs ys (All-tail P x (xs ++ ys) h)

-- what stands between two lists
pub All-middle : {X : Type 0} (P : X → Type 0) (xs : List X) (y : X) (ys : List X) → All P (xs ++ y ∷ ys) → P y
All-middle P xs y ys h = All-head P y ys (All-back P xs (y ∷ ys) h)
