use Rattle.std.proofs.Common.{◌++◌, inl, inr, arith, ap, ◌∙◌}
use Rattle.vt_path.proofs.LiteralLemmas.{names_step}
use Rattle.vt_path.proofs.names.names_bytes.Goals as goal
use Rattle.vt_path.proofs.names.names_bytes.Goals.{then-i-gt0+in_ok-push, else-i-gt0}

pub loop-i-preserved : goal.loop-i-preserved
loop-i-preserved c =
    names_step c.args.names.now c.loop-i.i c.index-names-i.result c.loop-i.text.items c.if-i-gt0.text.items c.extend_from_slice.new.self.items c.loop-i-test.true c.index-names-i.is
    c.loop-i.invariant
    (elim c.if-i-gt0.branch [
      | then-i-gt0+in_ok-push w ↦ inl (w.if-i-gt0.true, ap (λ (x : _). x.items) w.text-is ∙ w.in_ok-push.ensures.items)
      | else-i-gt0 w ↦ inr (omega arith, ap (λ (x : _). x.items) w.text-is)
    ])
    (c.in_ok-extend_from_slice.ensures.items ∙ ap (λ x. c.if-i-gt0.text.items ++ x) c.as_bytes.ensures)
