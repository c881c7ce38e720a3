-- The order in which all that happens in a session stands: after FARM 2014 for the time, the rest own.
use Rattle.std.specs.Prelude.{◌≡◌, ◌⊎◌, ℕ, ◌<◌, List, ◌∷◌, ◌++◌}
use Rattle.std.specs.declared.cmp.Ordering.{Ordering}
use Rattle.std.specs.declared.cmp.Ordering.TheVariants.{Less}
use Rattle.std.specs.Ordering.{nat_cmp, on, then_cmp}
use Rattle.std.specs.Cmp.Lexicographic.{slice_cmp}
use Rattle.vt_frac.specs.Order.{order_of}
use Rattle.vt_event.specs.declared.place.Place.{Place}
use Rattle.vt_event.specs.declared.place.PlaceRef.{PlaceRef}

-- threads are ordered by their lists, number by number; a list comes after its own prefixes
abbrev pub thread_order : List ℕ → List ℕ → Ordering
thread_order = slice_cmp nat_cmp

-- places are ordered by time, then by micro step, then by thread, then by step
abbrev pub place_order : Place → Place → Ordering
place_order =
    then_cmp (on (λ p. p.time) order_of)
    (then_cmp (on (λ p. p.micro) nat_cmp)
    (then_cmp (on (λ p. p.thread) thread_order) (on (λ p. p.step) nat_cmp)))

-- the place that is pointed to
abbrev pub place_of : PlaceRef → Place
place_of p = record { time = p.time; micro = p.micro; thread = p.thread.now; step = p.step }

-- p stands before q
abbrev pub IsBefore : Place → Place → Type 0
IsBefore p q = place_order p q ≡ Less

-- xs is a prefix of ys, and not ys itself
pub record IsProperPrefix (xs ys : List ℕ) : Type 0 where
  pub next : ℕ
  pub rest : List ℕ
  pub whole : ys ≡ xs ++ next ∷ rest

-- xs and ys begin alike, and then xs has the lesser number
pub record IsLowerAt (xs ys : List ℕ) : Type 0 where
  pub prefix : List ℕ
  pub lesser : ℕ
  pub greater : ℕ
  pub rest_of_lesser : List ℕ
  pub rest_of_greater : List ℕ
  pub lower : lesser < greater
  pub first : xs ≡ prefix ++ lesser ∷ rest_of_lesser
  pub second : ys ≡ prefix ++ greater ∷ rest_of_greater

-- one thread's list comes before another's
abbrev pub IsThreadBefore : List ℕ → List ℕ → Type 0
IsThreadBefore xs ys = IsProperPrefix xs ys ⊎ IsLowerAt xs ys

-- the first of time, micro step, thread and step in which two places differ tells which is before
abbrev pub IsLexicographicallyBefore : Place → Place → Type 0
IsLexicographicallyBefore p q =
    (order_of p.time q.time ≡ Less)
    ⊎ ((p.time ≡ q.time) × ((p.micro < q.micro)
    ⊎ ((p.micro ≡ q.micro) × (IsThreadBefore p.thread q.thread
    ⊎ ((p.thread ≡ q.thread) × (p.step < q.step))))))
