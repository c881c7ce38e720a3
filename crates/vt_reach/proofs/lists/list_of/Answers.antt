use Rattle.std.proofs.Common.{◌∙◌, sym, subst}
use Rattle.vt_reach.specs.private.Search.{IsReached}
use Rattle.vt_reach.proofs.ReachLemmas.{list_ok}
use Rattle.vt_reach.proofs.lists.list_of.Goals as goal

pub returns : goal.returns
returns c =
    list_ok c.args.graph.now c.args.writings.now c.args.from c.as_slice.result.now c.writers.result (subst (IsReached c.args.graph.now c.args.from) (sym c.as_slice.ensures.value) c.in_ok-found.ensures) c.writers.ensures
