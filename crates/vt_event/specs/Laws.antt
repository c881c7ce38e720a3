-- What the order of places gives.
use Rattle.std.specs.Prelude.{◌≡◌, ◌⊎◌, ◌↔◌, ℕ, List}
use Rattle.std.specs.declared.cmp.Ordering.TheVariants.{Less, Equal}
use Rattle.vt_event.specs.declared.place.Place.{Place}
use Rattle.vt_event.specs.Order.{place_order, thread_order, IsBefore, IsThreadBefore, IsLexicographicallyBefore}

-- of two places one is before the other, or they are the same
abbrev pub OrderIsTotal : Type 0
OrderIsTotal = (p q : Place) → IsBefore p q ⊎ (p ≡ q) ⊎ IsBefore q p

-- the order answers 'equal' exactly where the places are the same
abbrev pub OrderIsExact : Type 0
OrderIsExact = (p q : Place) → (place_order p q ≡ Equal) ↔ (p ≡ q)

-- what is before a place is before all that comes after it
abbrev pub OrderIsTransitive : Type 0
OrderIsTransitive = (p q r : Place) → IsBefore p q → IsBefore q r → IsBefore p r

-- of two places not each is before the other
abbrev pub OrderIsAntisymmetric : Type 0
OrderIsAntisymmetric = (p q : Place) → IsBefore p q → ¬ (IsBefore q p)

-- the order is the lexicographic one
abbrev pub OrderIsLexicographic : Type 0
OrderIsLexicographic = (p q : Place) → IsBefore p q ↔ IsLexicographicallyBefore p q

-- a list is before another exactly where it is a proper prefix, or has the lesser number at the first difference
abbrev pub ThreadOrderIsLexicographic : Type 0
ThreadOrderIsLexicographic = (xs ys : List ℕ) → (thread_order xs ys ≡ Less) ↔ IsThreadBefore xs ys
