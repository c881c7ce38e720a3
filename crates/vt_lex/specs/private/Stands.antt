-- Where a lexer stands.
use Rattle.vt_lex.specs.declared.lexer.Lexer.{Lexer}
use Rattle.vt_lex.specs.Lexing.{Standing}

abbrev pub standing_of : Lexer → Standing
standing_of lexer = record {
  at = lexer.at;
  line = lexer.line;
  before = lexer.before;
  open_brackets = lexer.open_brackets.items;
  goes_on = lexer.goes_on;
}
