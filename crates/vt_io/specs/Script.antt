-- What a source or a sink by script does in its calls.
use Rattle.std.specs.Prelude.{ℕ, List, Contains}
use Rattle.vt_io.specs.Faults.{next_count}

-- The most bytes that a call moves, the numbers of the calls that are to fail (from 1), how many calls there were, and
-- how many of them failed. Both counts stay at the last value of 64 bits. A listed number has 32 bits, so from there
-- on no call is listed. Source: own.
pub record Script : Type 0 where
  pub piece : ℕ
  pub fail_at : List ℕ
  pub calls : ℕ
  pub faults : ℕ

-- The script before the first call. Source: own.
abbrev pub new_script : ℕ → List ℕ → Script
new_script piece fail_at = record { piece = piece; fail_at = fail_at; calls = 0; faults = 0 }

-- The next call is listed to fail. Source: own.
abbrev pub IsListed : Script → Type 0
IsListed s = Contains s.fail_at (next_count s.calls)

-- The script after a call that does not fail. Source: own.
abbrev pub after_success : Script → Script
after_success s = record s { calls = next_count s.calls }

-- The script after a call that fails. Source: own.
abbrev pub after_failure : Script → Script
after_failure s = record s { calls = next_count s.calls; faults = next_count s.faults }

-- A source by script: the bytes that it has left, and its script. Source: own.
pub record ScriptedSource : Type 0 where
  pub left : List ℕ
  pub script : Script

-- A sink by script: the bytes that it has taken, the space that is left, and its script. Source: own.
pub record ScriptedSink : Type 0 where
  pub taken : List ℕ
  pub room : ℕ
  pub script : Script
