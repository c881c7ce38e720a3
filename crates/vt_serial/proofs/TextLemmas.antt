-- Texts that are made ready one by one.
use Rattle.std.proofs.Common.{◌≡◌, List, [], ◌∷◌, ◌++◌, All, sym, ap, ◌∙◌, subst, append_assoc}
use Rattle.std.proofs.lemmas.List.Elements.{All-tail}
use Rattle.vt_frac.specs.Fraction.{Fraction}
use Rattle.vt_run.specs.declared.texts.Verdict.{Verdict}
use Rattle.vt_session.specs.declared.text_part.TextPart.{TextPart}
use Rattle.vt_session.specs.Sessions.{IsTextPart}
use Rattle.vt_serial.specs.Prepared.{all_prepared, prepared}

pub one-more : (before after whole : List (Fraction × Verdict)) (part : TextPart) (left rest : List TextPart) → left ≡ part ∷ rest
    → after ≡ before ++ prepared part ∷ [] → before ++ all_prepared left ≡ whole → after ++ all_prepared rest ≡ whole
one-more before after whole part left rest cut more e =
    ap (λ (ts : List (Fraction × Verdict)). ts ++ all_prepared rest) more
    ∙ (append_assoc before (prepared part ∷ []) (all_prepared rest)
    ∙ (ap (λ (ps : List TextPart). before ++ all_prepared ps) (sym cut) ∙ e))

pub rest-within : (part : TextPart) (left rest : List TextPart) → left ≡ part ∷ rest → All IsTextPart left → All IsTextPart rest
rest-within part left rest cut all = All-tail IsTextPart part rest (subst (All IsTextPart) cut all)
