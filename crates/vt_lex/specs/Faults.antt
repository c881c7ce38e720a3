-- The words of the faults of a text. The project's own.
use Rattle.std.specs.Prelude.{ℕ, List, codes}
use Rattle.vt_lex.specs.declared.fault.LexKind.{LexKind}
use Rattle.vt_lex.specs.declared.fault.LexKind.TheVariants.{Byte, Text, Number, Long}

-- one word a kind
abbrev pub lex_word : LexKind → List ℕ
lex_word Byte = codes "byte"
lex_word Text = codes "text"
lex_word Number = codes "number"
lex_word Long = codes "long"
