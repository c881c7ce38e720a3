use Rattle.std.proofs.Common.{◌≡◌, ◌++◌, sym, ap, ◌∙◌, subst}
use Rattle.vt_reach.specs.Reach.{HasNoText, rows_of}
use Rattle.vt_reach.specs.TreeMentions.{uses_of}
use Rattle.vt_reach.specs.private.Order.{AreInOrder, IsBuilt}
use Rattle.vt_reach.proofs.ReachLemmas.{order_more}
use Rattle.vt_reach.proofs.reach.Reach.add_text.Goals as goal

pub invariant_of-self-in-Ok : goal.invariant_of-self-in-Ok
invariant_of-self-in-Ok c = (
  subst AreInOrder (sym (c.in_ok-append.ensures.items ∙ ap (λ rows. c.self.inside.rows.items ++ rows) c.in_ok-added.ensures)) (order_more c.self.inside.rows.items c.args.text (uses_of c.tree_of.result.now) c.self.invariant.0 (subst (λ rows. HasNoText rows c.args.text) (sym c.self.view_is) c.requires)),
  subst (λ rows. IsBuilt rows c.in-Ok.built) c.as_slice.ensures.value c.in-Ok.ensures,
)
