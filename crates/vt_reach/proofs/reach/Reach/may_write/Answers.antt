use Rattle.std.proofs.Common.{◌≡◌, ◌↔◌, ◌+◌, ◌<◌, ◌≤◌, false, true, length, refl, sym, ◌∙◌, subst}
use Rattle.vt_reach.specs.Reach.{HasBlock, HasNoText, MayWrite}
use Rattle.vt_reach.specs.private.Bodies.{IsWritingGraph, list_at}
use Rattle.vt_reach.specs.private.Lists.{MeetsList}
use Rattle.vt_reach.specs.private.Order.{BeginsAt, BeginsNowhere, IsBlockAt}
use Rattle.vt_reach.proofs.ReachLemmas.{begins_somewhere, may_write_is, place_within}
use Rattle.vt_reach.proofs.reach.Reach.may_write.Goals as goal

pub meets_from-requires-clause-writings : goal.meets_from-requires-clause-writings
meets_from-requires-clause-writings c =
    subst (λ rs. IsWritingGraph rs c.self.inside.built.writings) (sym c.as_slice-in-Some.ensures.value) c.self.invariant.1.writings

pub meets_from-requires-clause-within : goal.meets_from-requires-clause-within
meets_from-requires-clause-within c =
    subst (λ rs. c.in-Some.start + c.args.block < length rs) (sym c.as_slice-in-Some.ensures.value) (place_within c.self.inside.rows.items c.args.text c.args.block c.in-Some.start (c.in-Some.start + c.args.block) c.self.invariant.0 (subst (λ rs. HasBlock rs c.args.text c.args.block) (sym c.self.view_is) c.requires) (subst (λ rs. BeginsAt rs c.args.text c.in-Some.start) c.as_slice.ensures.value c.in-Some.ensures) refl)

pub returns-in-None : goal.returns-in-None
returns-in-None c =
    absurd (begins_somewhere c.self.inside.rows.items c.args.text c.args.block c.self.invariant.0 (subst (λ rs. HasBlock rs c.args.text c.args.block) (sym c.self.view_is) c.requires) (subst (λ rs. BeginsNowhere rs c.args.text) c.as_slice.ensures.value c.in-None.ensures))

pub returns-in-Some : goal.returns-in-Some
returns-in-Some c =
    subst (λ rs. (c.meets_from.result ≡ true) ↔ MayWrite rs c.args.text c.args.block c.args.pattern.now) c.self.view_is (may_write_is c.self.inside.rows.items c.self.inside.built (list_at c.self.inside.built.lists (c.in-Some.start + c.args.block)) c.args.text c.args.block c.in-Some.start (c.in-Some.start + c.args.block) c.args.pattern.now c.meets_from.result c.self.invariant.0 c.self.invariant.1 (subst (λ rs. HasBlock rs c.args.text c.args.block) (sym c.self.view_is) c.requires) (subst (λ rs. BeginsAt rs c.args.text c.in-Some.start) c.as_slice.ensures.value c.in-Some.ensures) refl refl (subst (λ rs. (c.meets_from.result ≡ true) ↔ MeetsList rs (list_at c.self.inside.built.lists (c.in-Some.start + c.args.block)) c.args.pattern.now) c.as_slice-in-Some.ensures.value c.meets_from.ensures))
