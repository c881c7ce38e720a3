use Rattle.std.proofs.Common.{◌≡◌, ◌+◌, ◌<◌, length, drop, arith, ap, sym, ◌∙◌, length-drop}
use Rattle.std.proofs.lemmas.List.{take_rest, drop_all}
use Rattle.vt_lex.specs.Lexing.{Standing}
use Rattle.vt_lex.specs.private.Stands.{standing_of}
use Rattle.vt_lex.specs.Lexemes.{lexeme_of}
use Rattle.vt_lex.proofs.Steps.{step_bounds, line_after_most, continues_new, continues_passed, continues_end, continues_fault}
use Rattle.vt_lex.proofs.lexer.lex.Goals as goal

pub returns-in-Err-clause-fault : goal.returns-in-Err-clause-fault
returns-in-Err-clause-fault c =
    let left = take_rest c.args.text.now c.lexemes.lexer.at in
    let more : 0 < length (drop c.lexemes.lexer.at c.args.text.now) = omega (arith, length-drop c.lexemes.lexer.at c.args.text.now) in
    continues_fault _ _ (standing_of c.lexemes.lexer) _ _ c.in-Err.kind c.lexemes.invariant.continues more (ap lexeme_of (sym left) ∙ sym c.in-Err.ensures)

pub pass-requires-clause-some : goal.pass-requires-clause-some
pass-requires-clause-some c =
    (step_bounds c.args.text.now c.lexemes.lexer.at _ c.in-Ok.lexeme (take_rest c.args.text.now c.lexemes.lexer.at) c.lexemes-test.true c.in-Ok.ensures).0

pub pass-requires-clause-within : goal.pass-requires-clause-within
pass-requires-clause-within c =
    (step_bounds c.args.text.now c.lexemes.lexer.at _ c.in-Ok.lexeme (take_rest c.args.text.now c.lexemes.lexer.at) c.lexemes-test.true c.in-Ok.ensures).1

pub pass-requires-clause-at_fits : goal.pass-requires-clause-at_fits
pass-requires-clause-at_fits c =
    let bounds = step_bounds c.args.text.now c.lexemes.lexer.at _ c.in-Ok.lexeme (take_rest c.args.text.now c.lexemes.lexer.at) c.lexemes-test.true c.in-Ok.ensures in
    let within = bounds.2 in omega arith

pub lexemes-init : goal.lexemes-init
lexemes-init c =
    let at : c.new-lexer.result.at ≡ 0 = ap (λ (s : Standing). s.at) c.new-lexer.ensures.stands in
    let line : c.new-lexer.result.line ≡ c.args.first_line = ap (λ (s : Standing). s.line) c.new-lexer.ensures.stands in
    record {
      within = omega arith;
      few_lines = omega arith;
      continues = continues_new _ _ _ _ _ c.new-lexer.ensures.stands at c.new-lexer.ensures.none;
    }

pub lexemes-smaller : goal.lexemes-smaller
lexemes-smaller c =
    let bounds = step_bounds c.args.text.now c.lexemes.lexer.at _ c.in-Ok.lexeme (take_rest c.args.text.now c.lexemes.lexer.at) c.lexemes-test.true c.in-Ok.ensures in
    let some = bounds.0 in
    let passed = ap (λ (s : Standing). s.at) c.in_ok-pass-in-Ok.ensures.stands in
    omega arith

pub lexemes-preserved : goal.lexemes-preserved
lexemes-preserved c =
    let left = take_rest c.args.text.now c.lexemes.lexer.at in
    let bounds = step_bounds c.args.text.now c.lexemes.lexer.at _ c.in-Ok.lexeme left c.lexemes-test.true c.in-Ok.ensures in
    let some = bounds.0 in
    let within = bounds.2 in
    let passed : c.pass.new.self.at ≡ c.lexemes.lexer.at + c.in-Ok.lexeme.len = ap (λ (s : Standing). s.at) c.in_ok-pass-in-Ok.ensures.stands in
    let line = ap (λ (s : Standing). s.line) c.in_ok-pass-in-Ok.ensures.stands in
    let most = line_after_most c.lexemes.lexer.line c.in-Ok.lexeme.sort in
    record {
      within = omega arith;
      few_lines = omega arith;
      continues =
          continues_passed _ _ _ _ _ _ c.in-Ok.lexeme _ _ _ c.lexemes.invariant.continues left c.in-Ok.ensures c.in_ok-pass-in-Ok.ensures.stands passed c.in_ok-pass-in-Ok.ensures.tokens;
    }

pub returns-clause-tokens : goal.returns-clause-tokens
returns-clause-tokens c =
    continues_end _ _ _ _ _ c.lexemes.invariant.continues (drop_all c.lexemes.lexer.at c.args.text.now c.lexemes-test.false)
