-- The verdict on lines is what the rules of sessions say.
use Rattle.std.proofs.Common.{◌≡◌, ◌↔◌, ℕ, List, inl, inr, refl, ap, subst}
use Rattle.vt_session.specs.Lines.{lines_of}
use Rattle.vt_session.specs.Rules.{FirstBadLine}
use Rattle.vt_session.specs.Sessions.{IsSession, SessionView}
use Rattle.vt_session.specs.Verdict.{IsLineWhereBad, IsSessionWhereRead, Read, Refused}
use Rattle.vt_session.proofs.Judging.{always_one, judged_of}
use Rattle.vt_session.proofs.LawLemmas.{not_both, one_bad_line, one_session}

same_session : {a b : SessionView} → Read a ≡ Read b → a ≡ b
same_session e = cc

same_line : {m n : ℕ} → Refused m ≡ Refused n → m ≡ n
same_line e = cc

not_refused : {a : SessionView} {n : ℕ} → Read a ≡ Refused n → ⊥
not_refused e = cc

not_read : {n : ℕ} {a : SessionView} → Refused n ≡ Read a → ⊥
not_read e = cc

pub session_where : IsSessionWhereRead
session_where lines (inl (read, h)) session =
    (λ e. subst (IsSession lines) (same_session {a = read} {b = session} e) h, λ h'. ap Read (one_session lines read session h h'))
session_where lines (inr (number, h)) session =
    (λ e. absurd (not_read {n = number} {a = session} e), λ h'. absurd (not_both lines session number h' h))

pub line_where : IsLineWhereBad
line_where lines (inl (read, h)) number =
    (λ e. absurd (not_refused {a = read} {n = number} e), λ h'. absurd (not_both lines read number h h'))
line_where lines (inr (bad, h)) number =
    (λ e. subst (FirstBadLine lines) (same_line {m = bad} {n = number} e) h, λ h'. ap Refused (one_bad_line lines bad number h h'))

-- of the bytes of an input
pub session_where_read : (bytes : List ℕ) (session : SessionView) → (judged_of bytes ≡ Read session) ↔ IsSession (lines_of bytes) session
unfolding judged_of
session_where_read bytes session = session_where (lines_of bytes) (always_one (lines_of bytes)) session

pub refused_where_bad : (bytes : List ℕ) (number : ℕ) → (judged_of bytes ≡ Refused number) ↔ FirstBadLine (lines_of bytes) number
unfolding judged_of
refused_where_bad bytes number = line_where (lines_of bytes) (always_one (lines_of bytes)) number
