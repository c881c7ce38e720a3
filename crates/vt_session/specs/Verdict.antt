-- What lines come to: the session that they are, or their first bad line. Own, as is all of this folder.
use Rattle.std.specs.Prelude.{◌≡◌, ◌⊎◌, ◌↔◌, ℕ, List}
use Rattle.std.proofs.Common.{inl, inr}
use Rattle.vt_session.specs.Rules.{FirstBadLine}
use Rattle.vt_session.specs.Sessions.{IsSession, SessionView}

-- the lines are a session, or one of them is the first that breaks a rule
abbrev pub IsJudged : List (List ℕ) → Type 0
IsJudged lines = ((session : SessionView) × IsSession lines session) ⊎ ((number : ℕ) × FirstBadLine lines number)

-- what lines come to
pub data Judged : Type 0 where
  Read : SessionView → Judged
  Refused : ℕ → Judged

-- the verdict: the session that the lines are, or else the number of their first bad line
abbrev pub judged_by : (lines : List (List ℕ)) → IsJudged lines → Judged
judged_by lines (inl (session, h)) = Read session
judged_by lines (inr (number, h)) = Refused number

-- however they were judged, the verdict is a session exactly where the lines are it
abbrev pub IsSessionWhereRead : Type 0
IsSessionWhereRead =
    (lines : List (List ℕ)) (judged : IsJudged lines) (session : SessionView) → (judged_by lines judged ≡ Read session) ↔ IsSession lines session

-- however they were judged, the verdict is a number exactly where the line of this number is their first bad one
abbrev pub IsLineWhereBad : Type 0
IsLineWhereBad =
    (lines : List (List ℕ)) (judged : IsJudged lines) (number : ℕ) → (judged_by lines judged ≡ Refused number) ↔ FirstBadLine lines number
