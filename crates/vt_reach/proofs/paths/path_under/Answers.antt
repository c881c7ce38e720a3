use Rattle.std.proofs.Common.{◌∙◌}
use Rattle.vt_reach.proofs.PathLemmas.{named_is, named_is_path}
use Rattle.vt_reach.proofs.paths.path_under.Goals as goal

pub returns-in-Ok : goal.returns-in-Ok
returns-in-Ok c =
    named_is c.args.word.now c.args.name.now c.as_slice.result.now c.in-Ok.path c.requires.word c.requires.name
    (c.as_slice.ensures.value ∙ c.in_ok-text.ensures) c.in-Ok.ensures.path c.in-Ok.ensures.written

pub unreachable-requires : goal.unreachable-requires
unreachable-requires c =
    let cause = rw c.in-Err-BadPath.field-0-is at c.in-Err-BadPath.ensures in
    cause.refused.no_text (named_is_path c.args.word.now c.args.name.now c.as_slice.result.now c.requires.word c.requires.name (c.as_slice.ensures.value ∙ c.in_ok-text.ensures))
