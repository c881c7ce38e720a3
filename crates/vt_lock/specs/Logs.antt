-- Logs whose entries each have a worker. `worker` gives an entry's worker. All of this is the project's own.
use Rattle.std.specs.Prelude.{◌≡◌, ℕ, zero, suc, ◌-◌, ◌<◌, ◌≤◌, List, [], ◌∷◌, ◌++◌, length}
use Rattle.vt_lock.specs.Numbers.{occurrences}

module _ {E : Type 0} (worker : E → ℕ) where
  -- none of the entries is of a worker with one of these numbers
  abbrev pub HasNoneOf : List ℕ → List E → Type 0
  HasNoneOf numbers [] = Unit {0}
  HasNoneOf numbers (e ∷ es) = (occurrences (worker e) numbers ≡ 0) × HasNoneOf numbers es

  -- each of the entries is of a worker with one of these numbers
  abbrev pub AreAllOf : List ℕ → List E → Type 0
  AreAllOf numbers [] = Unit {0}
  AreAllOf numbers (e ∷ es) = (0 < occurrences (worker e) numbers) × AreAllOf numbers es

  -- each of the entries is of a worker with a number below 64
  abbrev pub AreOfWorkers : List E → Type 0
  AreOfWorkers [] = Unit {0}
  AreOfWorkers (e ∷ es) = (worker e < 64) × AreOfWorkers es

  -- what was seen is a prefix of the log, and no entry behind it is of a worker with one of these numbers
  abbrev pub ContinuesWithout : List ℕ → List E → List E → Type 0
  ContinuesWithout numbers seen log = (rest : List E) × (log ≡ seen ++ rest) × HasNoneOf numbers rest

  -- what was seen is a prefix of the log, and each entry behind it is of a worker with one of these numbers
  abbrev pub ContinuesBy : List ℕ → List E → List E → Type 0
  ContinuesBy numbers seen log = (rest : List E) × (log ≡ seen ++ rest) × AreAllOf numbers rest

  -- Two logs that were seen, each for some numbers: the shorter one is a prefix of the longer one, and no entry behind it is of a worker with one of its numbers.
  abbrev pub ShorterBegins : List ℕ → List E → List ℕ → List E → Type 0
  ShorterBegins ns xs ms ys = (length xs ≤ length ys → ContinuesWithout ns xs ys) × (length ys ≤ length xs → ContinuesWithout ms ys xs)

module _ {E : Type 0} where
  -- the first list where the number is above 0, else the second
  abbrev pub first_if_positive : ℕ → List E → List E → List E
  first_if_positive zero xs ys = ys
  first_if_positive (suc n) xs ys = xs

  -- the longer of two lists
  abbrev pub longer : List E → List E → List E
  longer xs ys = first_if_positive (length xs - length ys) xs ys
