-- Counts of faults, and the calls that answer a fault.
use Rattle.std.specs.Prelude.{ℕ, ◌≡◌, ◌+◌, ◌-◌, ◌^◌, ◌<◌, ◌≤◌, ◌⊎◌, List, min, OnErr, Option, Result}

-- One more on a counter of 64 bits, which stays at its last value. Source: own.
abbrev pub next_count : ℕ → ℕ
next_count count = min (count + 1) (2 ^ 64 - 1)

-- A count of faults rose in a call: it is higher at the call's end than at its start, or stands at a counter's last
-- value. Source: own.
abbrev pub Rose : ℕ → ℕ → Type 0
Rose before now = (before < now) ⊎ (now ≡ 2 ^ 64 - 1)

-- Each failure has its cause: the count of faults never falls, and where the call fails it rose in the call.
-- Source: own.
pub record HasCause {T E : Type 0} (before now : ℕ) (result : Result T E) : Type 0 where
  pub later : before ≤ now
  pub failed : OnErr result (Rose before now)

-- A source over a reader: the bytes that it has left, where it tells, and its count of faults. Source: own.
pub record CountedSource : Type 0 where
  pub left : Option (List ℕ)
  pub faults : ℕ

-- A sink over a writer: the bytes that it has taken, where it tells, and its count of faults. Source: own.
pub record CountedSink : Type 0 where
  pub taken : Option (List ℕ)
  pub faults : ℕ
