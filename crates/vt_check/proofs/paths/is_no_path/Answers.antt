use Rattle.std.proofs.Common.{sym, ◌∙◌}
use Rattle.vt_path.specs.Path.{IsPathText}
use Rattle.vt_check.proofs.PathLemmas.{slash_iff, name_iff}
use Rattle.vt_check.proofs.paths.is_no_path.Goals as goal

pub returns-then-not-begins_with_slash : goal.returns-then-not-begins_with_slash
returns-then-not-begins_with_slash c =
    name_iff IsPathText c.args.text.now c.is_symbol_name.result (sym c.begins_with_slash.ensures ∙ c.if-not-begins_with_slash.true) c.is_symbol_name.ensures

pub returns : goal.returns
returns c = slash_iff IsPathText c.args.text.now c.in_ok-good.good (sym c.begins_with_slash.ensures ∙ c.if-not-begins_with_slash.false) c.in_ok-good.ensures
