use Rattle.std.proofs.Common.{◌∙◌, ap, bytes_eq, sym}
use Rattle.vt_path.specs.Pattern.{IsPatternText}
use Rattle.vt_check.specs.Conditions.{IsRefused}
use Rattle.vt_check.proofs.PathLemmas.{under_label}
use Rattle.vt_check.proofs.paths.is_refused_option.Goals as goal

pub returns-then-eq : goal.returns-then-eq
returns-then-eq c =
    under_label (IsRefused IsPatternText) _ _ _ c.is_refused_pattern.result
    (sym (c.eq.ensures ∙ ap (λ name. bytes_eq c.args.label.now name) c.as_bytes.ensures) ∙ c.if-eq.true) c.text_of.ensures c.is_refused_pattern.ensures
