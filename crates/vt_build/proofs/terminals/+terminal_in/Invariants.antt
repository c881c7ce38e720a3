use Rattle.std.proofs.Common.{length}
use Rattle.vt_build.proofs.terminals.+terminal_in.Given as goal

abbrev pub decreases-terminal_in : goal.decreases-terminal_in
decreases-terminal_in l = length l.rows.now
