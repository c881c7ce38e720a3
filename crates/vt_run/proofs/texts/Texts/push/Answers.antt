use Rattle.std.proofs.Common.{sym, subst}
use Rattle.vt_run.specs.Limits.{AreChecked}
use Rattle.vt_run.proofs.facts.TextsKept.{checked_more}
use Rattle.vt_run.proofs.texts.Texts.push.Goals as goal

-- the push failed
pub invariant_of-self : goal.invariant_of-self
invariant_of-self c = subst AreChecked (sym (c.in_err-push.ensures.items)) c.self.invariant

-- the text stands at the end
pub invariant_of-self-2 : goal.invariant_of-self-2
invariant_of-self-2 c = subst AreChecked (sym (c.in_ok-push.ensures.items)) (checked_more _ c.args.time c.args.verdict c.self.invariant c.keep_checked.ensures)
