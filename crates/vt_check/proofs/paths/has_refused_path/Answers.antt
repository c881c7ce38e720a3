use Rattle.std.proofs.Common.{◌∙◌, sym}
use Rattle.vt_path.specs.Path.{IsPathText}
use Rattle.vt_path.specs.Pattern.{IsPatternText}
use Rattle.vt_check.specs.Conditions.{HasRefusedPath, IsRefused}
use Rattle.vt_check.proofs.PathLemmas.{first_text_is, same_text, where_true, where_false}
use Rattle.vt_check.proofs.paths.has_refused_path.Goals as goal

pub returns-then-sends : goal.returns-then-sends
unfolding HasRefusedPath
returns-then-sends c =
    where_true _ _ _ c.is_refused_path.result (sym c.sends.ensures ∙ c.if-sends.true)
    (same_text (IsRefused IsPathText) _ _ c.is_refused_path.result (c.first_text.ensures ∙ first_text_is _ _ c.get.ensures.value) c.is_refused_path.ensures)

pub returns-then-receives : goal.returns-then-receives
unfolding HasRefusedPath
returns-then-receives c =
    where_false _ _ _ c.is_refused_pattern.result (sym c.sends.ensures ∙ c.if-sends.false)
    (where_true _ _ _ c.is_refused_pattern.result (sym c.receives.ensures ∙ c.if-receives.true)
    (same_text (IsRefused IsPatternText) _ _ c.is_refused_pattern.result (c.first_text-then-receives.ensures ∙ first_text_is _ _ c.get-then-receives.ensures.value) c.is_refused_pattern.ensures))
