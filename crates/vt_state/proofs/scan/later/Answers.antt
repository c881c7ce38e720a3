use Rattle.std.proofs.Common.{sym, true≢false, ◌∙◌}
use Rattle.vt_event.specs.Order.{place_of}
use Rattle.vt_state.proofs.ScanLemmas.{last_kept, last_taken}
use Rattle.vt_state.proofs.scan.later.Goals as goal

pub returns-then-is_later : goal.returns-then-is_later
returns-then-is_later c = λ seen own so_far. last_taken seen (place_of c.args.before.now) c.args.pattern.now c.args.found c.args.event.now (c.is_later.ensures.0 c.if-is_later.true) so_far

pub returns : goal.returns
returns c = λ seen own so_far.
    last_kept seen (place_of c.args.before.now) c.args.pattern.now c.args.found c.args.event.now own (λ goes. true≢false (sym (c.is_later.ensures.1 goes) ∙ c.if-is_later.false)) so_far
