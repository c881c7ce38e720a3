-- Laws of sessions.
use Rattle.std.specs.Prelude.{◌≡◌, ℕ, ◌+◌, ⊤, false, true, pos, List, [], ◌∷◌, ◌++◌, length, All}
use Rattle.std.specs.List.{concat}
use Rattle.vt_frac.specs.Fraction.{whole}
use Rattle.vt_frac.specs.Names.{begins}
use Rattle.vt_session.specs.declared.text_part.TextPart.{TextPart}
use Rattle.vt_session.specs.Directives.{VersionLine, HasForm, is_percent}
use Rattle.vt_session.specs.Lines.{lines_of}
use Rattle.vt_session.specs.Rules.{FirstBadLine}
use Rattle.vt_session.specs.Sessions.{SessionView, IsSession}
use Rattle.vt_session.specs.Verdict.{IsJudged}

-- Nothing is lost: the lines, one after another, are the bytes.
abbrev pub NothingIsLost : Type 0
NothingIsLost = (bytes : List ℕ) → concat (lines_of bytes) ≡ bytes

-- No lines are two sessions.
abbrev pub OneSession : Type 0
OneSession = (lines : List (List ℕ)) (a b : SessionView) → IsSession lines a → IsSession lines b → a ≡ b

-- No lines are a session and refused.
abbrev pub NotBoth : Type 0
NotBoth = (lines : List (List ℕ)) (session : SessionView) (number : ℕ) → IsSession lines session → FirstBadLine lines number → ⊥

-- No lines are refused for two lines.
abbrev pub OneBadLine : Type 0
OneBadLine = (lines : List (List ℕ)) (m n : ℕ) → FirstBadLine lines m → FirstBadLine lines n → m ≡ n

-- Lines are a session, or one of them is the first that breaks a rule.
abbrev pub AlwaysOne : Type 0
AlwaysOne = (lines : List (List ℕ)) → IsJudged lines

-- at the head of a session: nothing, or the line that makes it one of version 2
abbrev pub IsHead : List (List ℕ) → Type 0
IsHead [] = ⊤
IsHead (line ∷ []) = HasForm VersionLine line
IsHead (line ∷ other ∷ lines) = ⊥

-- the end, or a directive other than that one
pub record IsOtherDirective (line : List ℕ) : Type 0 where
  pub percent : begins is_percent line ≡ true
  pub other : HasForm VersionLine line → ⊥

abbrev pub EndsText : List (List ℕ) → Type 0
EndsText [] = ⊤
EndsText (line ∷ lines) = IsOtherDirective line

-- the text begins at time 0, and its bytes are the lines before the first other directive than `%session 2`, in version 2 behind line 1, also where there are none
pub record IsTextOne (lines : List (List ℕ)) (part : TextPart) : Type 0 where
  pub head : List (List ℕ)
  pub own : List (List ℕ)
  pub rest : List (List ℕ)
  pub all_lines : lines ≡ head ++ (own ++ rest)
  pub head_form : IsHead head
  pub plain : All (λ line. begins is_percent line ≡ false) own
  pub ends : EndsText rest
  pub time : part.time ≡ whole (pos 0)
  pub first_line : part.first_line ≡ length head + 1
  pub text : part.text ≡ concat own

-- what stands first in a list
pub record IsFirst (lines : List (List ℕ)) (texts : List TextPart) : Type 0 where
  pub part : TextPart
  pub others : List TextPart
  pub all_texts : texts ≡ part ∷ others
  pub text_one : IsTextOne lines part

-- Each session has a text 1.
abbrev pub TextOneIsFirst : Type 0
TextOneIsFirst = (lines : List (List ℕ)) (session : SessionView) → IsSession lines session → IsFirst lines session.texts
