use Rattle.std.proofs.Common.{ap}
use Rattle.std.specs.Option.{option_map}
use Rattle.vt_table.specs.Calls.{Row}
use Rattle.vt_table.proofs.CallLemmas.{number_at}
use Rattle.vt_table.proofs.calls.CallName.of_number.Goals as goal

pub returns : goal.returns
returns c = record { value = number_at c.args.number _ c.entry_at.ensures; row = ap (option_map (λ (row : Row). row.call)) c.entry_at.ensures }
