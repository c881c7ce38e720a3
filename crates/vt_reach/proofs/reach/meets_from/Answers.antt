use Rattle.std.proofs.Common.{◌≡◌, ◌↔◌, ◌+◌, None, Some, true, sym, ◌∙◌, subst}
use Rattle.std.specs.Prelude.{slice_get}
use Rattle.vt_reach.specs.private.Bodies.{list_at}
use Rattle.vt_reach.specs.private.Lists.{MeetsList}
use Rattle.vt_reach.proofs.ReachLemmas.{list_is, meets_nothing, no_list}
use Rattle.vt_reach.proofs.reach.meets_from.Goals as goal

pub returns-in-None : goal.returns-in-None
returns-in-None c =
    meets_nothing (MeetsList c.args.rows.now (list_at c.args.built.now.lists (c.args.start + c.args.block)) c.args.pattern.now) (no_list c.args.rows.now c.args.built.now.lists (c.args.start + c.args.block) c.args.pattern.now (subst (λ ls. slice_get ls (c.args.start + c.args.block) ≡ None) c.as_slice.ensures (sym c.in-None.ensures)))

pub returns-in-Some : goal.returns-in-Some
returns-in-Some c =
    subst (λ l. (c.meets_list.result ≡ true) ↔ MeetsList c.args.rows.now l c.args.pattern.now) (c.as_slice-in-Some-2.ensures ∙ sym (list_is c.args.built.now.lists (c.args.start + c.args.block) c.in-Some.list.now (subst (λ ls. slice_get ls (c.args.start + c.args.block) ≡ Some c.in-Some.list.now) c.as_slice.ensures (sym c.in-Some.ensures)))) c.meets_list.ensures
