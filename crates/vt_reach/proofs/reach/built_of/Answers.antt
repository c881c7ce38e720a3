use Rattle.std.proofs.Common.{sym, subst}
use Rattle.vt_reach.specs.private.Search.{AreWithin}
use Rattle.vt_reach.proofs.ReachLemmas.{graph_within}
use Rattle.vt_reach.proofs.reach.built_of.Goals as goal

pub lists_of-requires-clause-closed : goal.lists_of-requires-clause-closed
lists_of-requires-clause-closed c =
    subst AreWithin (sym c.as_slice.ensures) (graph_within c.args.rows.now c.in_ok-graph.graph c.in_ok-graph.ensures)
