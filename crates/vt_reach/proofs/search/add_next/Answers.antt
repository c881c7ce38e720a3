use Rattle.std.proofs.Common.{◌≡◌, List, ℕ, sym, ◌∙◌, subst}
use Rattle.std.specs.Prelude.{OnOk}
use Rattle.vt_reach.specs.private.Bodies.{list_at}
use Rattle.vt_reach.specs.private.Search.{Adds, IsWithin}
use Rattle.vt_reach.proofs.ReachLemmas.{list_is, list_past}
use Rattle.vt_reach.proofs.SearchLemmas.{adds_nothing, within_more}
use Rattle.vt_reach.proofs.search.add_next.Goals as goal

pub add_all-requires-clause-within : goal.add_all-requires-clause-within
add_all-requires-clause-within c =
    within_more c.args.graph.now c.args.place c.as_slice.result.now c.args.marks.now.items c.requires.closed c.requires.same (list_is c.args.graph.now c.args.place c.in-Some.more.now (sym c.in-Some.ensures) ∙ sym c.as_slice.ensures)

pub returns-in-None : goal.returns-in-None
returns-in-None c =
    subst (λ more. Adds more c.args.marks.now.items c.args.marks.now.items c.args.found.now.items c.args.found.now.items) (sym (list_past c.args.graph.now c.args.place (sym c.in-None.ensures))) (adds_nothing c.args.marks.now.items c.args.found.now.items c.requires.marked)

pub returns-in-Some : goal.returns-in-Some
returns-in-Some c =
    subst (λ more. OnOk c.add_all.result (Adds more c.args.marks.now.items c.add_all.new.marks.items c.args.found.now.items c.add_all.new.found.items)) (c.as_slice.ensures ∙ sym (list_is c.args.graph.now c.args.place c.in-Some.more.now (sym c.in-Some.ensures))) c.add_all.ensures
