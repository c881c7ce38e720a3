use Rattle.std.proofs.Common.{refl}
use Rattle.vt_table.proofs.CallLemmas.{call_at_number, number_bound}
use Rattle.vt_table.proofs.calls.CallName.number.Goals as goal

pub returns : goal.returns
returns c = record { value = refl; bound = number_bound c.args.self; row = call_at_number c.args.self }
