use Rattle.std.proofs.Common.{length, ◌-◌, ◌+◌, ◌≤◌, drop}
use Rattle.vt_lex.specs.private.Stands.{standing_of}
use Rattle.vt_lex.proofs.Steps.{Continues}
use Rattle.vt_lex.proofs.lexer.lex.Given as goal

abbrev pub invariant-lexemes : goal.invariant-lexemes
invariant-lexemes l = record {
  within : l.lexer.at ≤ length l.text;
  few_lines : l.lexer.line ≤ l.first_line + l.lexer.at;
  continues : Continues l.text l.first_line (standing_of l.lexer) (drop l.lexer.at l.text) l.lexer.tokens.items;
}

abbrev pub decreases-lexemes : goal.decreases-lexemes
decreases-lexemes l = length l.text - l.lexer.at
