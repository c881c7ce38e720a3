-- The lines of texts, told one by one.
use Rattle.std.proofs.Common.{◌≡◌, ℕ, ◌+◌, ◌≤◌, ◌&&◌, Bool, true, false, List, [], ◌∷◌, ◌++◌, All, length, map, refl, sym, ap, ◌∙◌, subst, arith, append_assoc, append-nil}
use Rattle.std.specs.List.{list_all}
use Rattle.std.proofs.lemmas.List.Elements.{All-head, All-tail}
use Rattle.vt_session.specs.declared.text_part.TextPart.{TextPart}
use Rattle.vt_session.specs.Lines.{lines_of}
use Rattle.vt_session.specs.Rules.{FirstBadLine}
use Rattle.vt_session.specs.Sessions.{IsSession, IsTextPart, SessionView}
use Rattle.vt_session.proofs.JudgedLemmas.{refused_where_bad, session_where_read}
use Rattle.vt_serial.specs.Verdict.{verdict_of_part}
use Rattle.vt_cli.specs.Check.{is_good, verdict_line, verdict_lines, verdicts_of}
use Rattle.vt_cli.specs.declared.command.Command.TheVariants.{Check}
use Rattle.vt_cli.specs.Outcome.{answer_to, bad_session, checked, checked_session}

-- the lines before a text are written, and all texts before it are good or not
pub record Told (parts : List TextPart) (before now : List ℕ) (number : ℕ) (all_good : Bool) (left : List TextPart) : Type 0 where
  pub lines : now ++ verdict_lines number (map verdict_of_part left) ≡ before ++ verdict_lines 1 (map verdict_of_part parts)
  pub good : list_all is_good (map verdict_of_part parts) ≡ (all_good && list_all is_good (map verdict_of_part left))
  pub within : All IsTextPart left
  pub few : number + length left ≤ 1048577

pub told-none : (parts : List TextPart) (before : List ℕ) → All IsTextPart parts → length parts ≤ 1048576 → Told parts before before 1 true parts
told-none parts before h few = record { lines = refl; good = refl; within = h; few = omega (arith, few) }

and-true : (b : Bool) → (b && true) ≡ b
and-true true = refl
and-true false = refl

and-assoc : (a b c : Bool) → (a && (b && c)) ≡ ((a && b) && c)
and-assoc true b c = refl
and-assoc false b c = refl

one-more : (parts : List TextPart) (before now after : List ℕ) (number : ℕ) (all_good good : Bool) (part : TextPart) (rest : List TextPart)
    → Told parts before now number all_good (part ∷ rest) → after ≡ now ++ verdict_line number (verdict_of_part part) → good ≡ is_good (verdict_of_part part)
    → Told parts before after (number + 1) (all_good && good) rest
one-more parts before now after number all_good good part rest t line same = record {
  lines = ap (λ (bs : List ℕ). bs ++ verdict_lines (number + 1) (map verdict_of_part rest)) line
      ∙ (append_assoc now (verdict_line number (verdict_of_part part)) (verdict_lines (number + 1) (map verdict_of_part rest)) ∙ t.lines);
  good = t.good
      ∙ (and-assoc all_good (is_good (verdict_of_part part)) (list_all is_good (map verdict_of_part rest))
      ∙ ap (λ (b : Bool). (all_good && b) && list_all is_good (map verdict_of_part rest)) (sym same));
  within = All-tail IsTextPart part rest t.within;
  few = omega (arith, t.few);
}

module _ (parts : List TextPart) (before now : List ℕ) (number : ℕ) (all_good : Bool) (part : TextPart) (left rest : List TextPart) (t : Told parts before now number all_good left) (cut : left ≡ part ∷ rest) where
  pub told-first : Told parts before now number all_good (part ∷ rest)
  told-first = subst (Told parts before now number all_good) cut t

  pub told-part : IsTextPart part
  told-part = All-head IsTextPart part rest told-first.within

  pub told-few : number + 1 ≤ 1048577
  told-few = omega (arith, told-first.few)

  pub told-more : (after : List ℕ) (good both : Bool) → after ≡ now ++ verdict_line number (verdict_of_part part) → good ≡ is_good (verdict_of_part part)
      → both ≡ (all_good && good) → Told parts before after (number + 1) both rest
  told-more after good both line same and =
      subst (λ (b : Bool). Told parts before after (number + 1) b rest) (sym and)
      (one-more parts before now after number all_good good part rest told-first line same)

-- at the end all lines are written
module _ (parts : List TextPart) (before now : List ℕ) (number : ℕ) (all_good : Bool) (left : List TextPart) (t : Told parts before now number all_good left) (none : left ≡ []) where
  told-all : Told parts before now number all_good []
  told-all = subst (Told parts before now number all_good) none t

  pub told-lines : now ≡ before ++ verdict_lines 1 (map verdict_of_part parts)
  told-lines = sym (append-nil now) ∙ told-all.lines

  pub told-good : all_good ≡ list_all is_good (map verdict_of_part parts)
  told-good = sym (and-true all_good) ∙ sym told-all.good

-- what `check` answers to bytes that are read, and to bytes that are not
pub check-read : (input : List ℕ) (session : SessionView) → IsSession (lines_of input) session → checked (verdicts_of session) ≡ answer_to Check input
check-read input session h = ap checked_session (sym ((session_where_read input session).1 h))

pub check-refused : (input : List ℕ) (line : ℕ) → FirstBadLine (lines_of input) line → bad_session line ≡ answer_to Check input
check-refused input line h = ap checked_session (sym ((refused_where_bad input line).1 h))
