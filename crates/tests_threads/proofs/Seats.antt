-- What is known of a seat after a call that changes what it has seen.
use Rattle.std.proofs.Common.{◌≡◌, ℕ, List, sym, ap, ◌∙◌}
use Rattle.vt_lock.specs.SeatFacts.{SeatFacts}

-- all but what it has seen is that of another seat, with other numbers
pub with_its_own_log : {X E : Type 0} (r a : SeatFacts X E) (seen : List E) (ns ms : List ℕ) → r ≡ record a { seen = seen; numbers = ns } → ns ≡ ms → r ≡ record a { seen = r.seen; numbers = ms }
with_its_own_log {X} {E} r a seen ns ms is same = is ∙ (λ i. record a { seen = sym (ap (λ (k : SeatFacts X E). k.seen) is) i; numbers = same i })
