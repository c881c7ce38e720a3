use Rattle.std.proofs.Common.{sym, true≢false, ◌∙◌}
use Rattle.vt_event.specs.Order.{place_of}
use Rattle.vt_state.proofs.ScanLemmas.{first_kept, first_taken}
use Rattle.vt_state.proofs.scan.earlier.Goals as goal

pub returns-then-is_earlier : goal.returns-then-is_earlier
returns-then-is_earlier c = λ seen own so_far. first_taken seen (place_of c.args.after.now) c.args.pattern.now c.args.found c.args.event.now (c.is_earlier.ensures.0 c.if-is_earlier.true) so_far

pub returns : goal.returns
returns c = λ seen own so_far.
    first_kept seen (place_of c.args.after.now) c.args.pattern.now c.args.found c.args.event.now own (λ goes. true≢false (sym (c.is_earlier.ensures.1 goes) ∙ c.if-is_earlier.false)) so_far
