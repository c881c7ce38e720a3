use Rattle.std.proofs.Common.{◌≡◌, ◌≤◌, ◌+◌, ◌++◌, length, map}
use Rattle.vt_cli.specs.Line.{line_of, lines_of}
use Rattle.vt_cli.proofs.FirstParts.{lines_left, bytes_left}
use Rattle.vt_cli.proofs.line.read_lines.Given as goal

abbrev pub invariant-cut : goal.invariant-cut
invariant-cut l = record {
  lines : l.lines.items ++ map line_of (lines_left l.rest) ≡ map line_of (lines_of l.text);
  few : length l.lines.items + bytes_left l.rest ≤ length l.text + 1;
}

abbrev pub decreases-cut : goal.decreases-cut
decreases-cut l = bytes_left l.rest
