use Rattle.vt_cli.proofs.CheckLemmas.{told-more}
use Rattle.vt_cli.proofs.check.check_texts.Goals as goal

pub texts-preserved : goal.texts-preserved
texts-preserved c =
    told-more c.args.parts.now c.args.text.now.items c.texts.text.items c.texts.number c.texts.all_good c.in-Some.part.now c.texts.left.now c.in-Some.rest.now c.texts.invariant
    c.in-Some.ensures.cases.0 c.check_text.new.text.items c.in_ok-good.good c.are_both-all_good.result c.in_ok-good.ensures.line c.in_ok-good.ensures.good c.are_both-all_good.ensures
