-- The texts of a session as a rendering takes them. Own.
use Rattle.std.specs.Prelude.{List, map}
use Rattle.vt_frac.specs.Fraction.{Fraction}
use Rattle.vt_value.specs.declared.fault.FaultKind.TheVariants as fault
use Rattle.vt_run.specs.declared.texts.Verdict.{Verdict}
use Rattle.vt_run.specs.declared.texts.Verdict.TheVariants as told
use Rattle.vt_session.specs.declared.text_part.TextPart.{TextPart}
use Rattle.vt_serial.specs.declared.verdict.TextVerdict.{TextVerdict}
use Rattle.vt_serial.specs.declared.verdict.TextVerdict.TheVariants.{Good, Lex, Syntax, Check}
use Rattle.vt_serial.specs.Verdict.{verdict_of_part}

-- the verdict as what is rendered tells it: the tree, or which of the three refuses it, and the line
abbrev pub told_verdict : TextVerdict → Verdict
told_verdict (Good tree) = told.Good tree
told_verdict (Lex line kind) = told.Bad fault.Lex line
told_verdict (Syntax line) = told.Bad fault.Syntax line
told_verdict (Check line kind) = told.Bad fault.Check line

-- a text of a session, ready to be rendered: its time and its verdict
abbrev pub prepared : TextPart → Fraction × Verdict
prepared part = (part.time, told_verdict (verdict_of_part part))

-- the texts of a session, ready to be rendered, in their order
abbrev pub all_prepared : List TextPart → List (Fraction × Verdict)
all_prepared parts = map prepared parts
