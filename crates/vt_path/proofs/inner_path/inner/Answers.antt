use Rattle.vt_path.proofs.KeptLemmas.{kept_inner}
use Rattle.vt_path.proofs.inner_path.inner.Goals as goal

pub invariant_of-result : goal.invariant_of-result
invariant_of-result c =
    rw (c.in_ok-push-2.ensures.items, c.in_ok-push.ensures.items, c.new-segments.ensures.items, c.in_ok-of.ensures, c.in_ok-of-2.ensures, c.word.ensures)
    (kept_inner c.args.kind c.args.name.now c.requires)
