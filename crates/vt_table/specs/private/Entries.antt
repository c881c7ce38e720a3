-- The code's tables, as rows of the definitions.
use Rattle.vt_table.specs.declared.calls.Entry.{Entry}
use Rattle.vt_table.specs.Calls.{Row}

-- the row that an entry of the code's table of calls states
abbrev pub row_of_entry : Entry → Row
row_of_entry entry = record { name = entry.name.now; call = entry.call; least = entry.least; most = entry.most; block = entry.block; dot = entry.dot; effect = entry.effect }
