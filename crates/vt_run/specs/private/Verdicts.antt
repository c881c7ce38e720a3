-- What is known of a verdict by its type.
use Rattle.vt_check.specs.Checked.{IsChecked}
use Rattle.vt_run.specs.declared.texts.Verdict.{Verdict}
use Rattle.vt_run.specs.declared.texts.Verdict.TheVariants.{Good, Bad}

-- a tree that the checks allow, if the text is not refused
abbrev pub IsVerdictChecked : Verdict → Type 0
IsVerdictChecked (Good tree) = IsChecked tree
IsVerdictChecked (Bad kind line) = Unit {0}
